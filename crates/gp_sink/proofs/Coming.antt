-- What a verdict leaves a sink standing for.
use Rattle.std.proofs.Common.{◌≡◌, Bool, false, List, [], Option, Some, None, Ok, Err, refl, sym, ◌∙◌, ap, subst}
use Rattle.gp_disk.specs.declared.device.Disk.{Ghosts}
use Rattle.gp_ideal.specs.declared.ledger.Change.{Change}
use Rattle.gp_ideal.specs.Ledger.{with_change}
use Rattle.gp_ideal.specs.Verdict.{Ruling}
use Rattle.gp_store.specs.State.{State}
use Rattle.gp_sink.specs.declared.verdict.Verdict.{Verdict}
use Rattle.gp_sink.specs.declared.verdict.SinkFault.TheVariants.{Halted}
use Rattle.gp_sink.specs.Fits.{Fits}
use Rattle.gp_sink.specs.Verdict.{verdict_of}
use Rattle.gp_sink.specs.Sink.{SinkState, Answers, IfHalted, Comes}

-- no rows fit the ledger without a change
pub fits-none : Fits [] []
unfolding Rattle.gp_ideal.specs.Ledger.rows Rattle.gp_ideal.specs.Ledger.floor
fits-none = record { pairs = refl; each = λ at row h. absurd cc; order = λ i j a b p q s less. absurd cc; behind = λ at past. refl }

-- A sink that gives a verdict gives that of the ideal one, stands for the ledger with the verdict's change, is set up as it
-- was, and isn't halted.
pub record Stays {D : Type 0} (ledger : List Change) (ruling : Ruling) (old new : SinkState D) (v : Verdict) : Type 0 where
  pub verdict : verdict_of v ≡ ruling.verdict
  pub fits : Fits new.store.rows (with_change ruling.change ledger)
  pub config : new.config ≡ old.config
  pub rules : new.rules ≡ old.rules
  pub running : new.store.halted ≡ false

pub comes-stays : {D : Type 0} (disk : Ghosts D) (ledger : List Change) (ruling : Ruling) (old new : SinkState D) (v : Verdict) → Fits old.store.rows ledger → old.store.halted ≡ false
    → Comes disk ledger ruling old new (Ok v) → Stays ledger ruling old new v
comes-stays {D} disk ledger ruling old new v f running comes =
    by ruling.change refl (subst (λ (b : Bool). IfHalted b ((Ok v ≡ Err Halted) × (new ≡ old)) (Answers disk ledger ruling.verdict ruling.change old new (Ok v))) running comes)
  where
    by : (change : Option Change) → ruling.change ≡ change → Answers disk ledger ruling.verdict ruling.change old new (Ok v) → Stays ledger ruling old new v
    by None is a =
        let a : (Ok (verdict_of v) ≡ Ok ruling.verdict) × (new ≡ old) = subst (λ (x : Option Change). Answers disk ledger ruling.verdict x old new (Ok v)) is a in
        let same = a.0 in
        record {
          verdict = cc;
          fits = subst (λ (x : Option Change). Fits new.store.rows (with_change x ledger)) (sym is) (subst (λ (s : SinkState D). Fits s.store.rows ledger) (sym a.1) f);
          config = ap (λ (s : SinkState D). s.config) a.1;
          rules = ap (λ (s : SinkState D). s.rules) a.1;
          running = ap (λ (s : SinkState D). s.store.halted) a.1 ∙ running;
        }
    by (Some change) is a =
        let m = subst (λ (x : Option Change). Answers disk ledger ruling.verdict x old new (Ok v)) is a in
        record {
          verdict = m.answer;
          fits = subst (λ (x : Option Change). Fits new.store.rows (with_change x ledger)) (sym is) m.rows;
          config = ap (λ (s : SinkState D). s.config) m.same;
          rules = ap (λ (s : SinkState D). s.rules) m.same;
          running = ap (λ (s : State D). s.halted) m.commits.store ∙ running;
        }
