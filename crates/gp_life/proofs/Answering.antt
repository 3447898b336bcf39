-- What a sink answers is what the ideal one rules.
use Rattle.std.proofs.Common.{◌≡◌, ◌⊎◌, inl, inr, ℕ, ◌+◌, true, false, List, [], ◌∷◌, ◌++◌, length, Option, Some, None, Result, Ok, Err, IfOk, IfErr, OnOk, refl, sym, ◌∙◌, ap, subst, arith}
use Rattle.gp_base.specs.declared.identity.Src.{Src}
use Rattle.gp_cluster.specs.declared.message.Sent.{Sent}
use Rattle.gp_disk.specs.declared.device.Disk.{Ghosts}
use Rattle.gp_translate.specs.declared.rule.Rule.{Rule}
use Rattle.gp_ideal.specs.declared.ledger.Change.{Change}
use Rattle.gp_ideal.specs.Ledger.{with_change}
use Rattle.gp_ideal.specs.Verdict as ideal_verdict
use Rattle.gp_ideal.specs.Verdict.{Ruling}
use Rattle.gp_store.specs.State.{State}
use Rattle.gp_world.specs.World as ideal
use Rattle.gp_sink.specs.declared.verdict.SinkFault.{SinkFault}
use Rattle.gp_sink.specs.declared.verdict.SinkFault.TheVariants.{Halted, Worn, DiskFault}
use Rattle.gp_sink.specs.declared.verdict.Verdict.{Verdict}
use Rattle.gp_sink.specs.Fits.{Fits}
use Rattle.gp_sink.specs.Sink as sink
use Rattle.gp_sink.specs.Sink.{SinkState, Comes, HasCause, Goes, IsKept, Makes, IfHalted}
use Rattle.gp_sink.specs.Verdict.{verdict_of}
use Rattle.gp_life.specs.Inside.{Answers, IsSinkOf, IsNextSink}

abbrev okay : Verdict → Result Verdict SinkFault
okay verdict = Ok verdict

abbrev is_ok_of : ideal_verdict.Verdict → Result ideal_verdict.Verdict SinkFault
is_ok_of verdict = Ok verdict

ok_is : (one other : ideal_verdict.Verdict) → is_ok_of one ≡ is_ok_of other → one ≡ other
ok_is one other e = cc

module _ {D : Type 0} (of : Ghosts D) (now : (disk : D) (c : List ℕ) → of.may_leave disk c → of.left disk c) where
  -- a sink that isn't halted answers as the rows bid it
  running : (model : ideal.Sink) (ruling : Ruling) (old new : SinkState D) (result : Result Verdict SinkFault) → IsSinkOf of old model → Comes of model.ledger ruling old new result
      → sink.Answers of model.ledger ruling.verdict ruling.change old new result
  running model ruling old new result h k =
      subst (λ (b : _). IfHalted b ((result ≡ Err Halted) × (new ≡ old)) (sink.Answers of model.ledger ruling.verdict ruling.change old new result)) h.runs k

  quiet : (model : ideal.Sink) (verdict : ideal_verdict.Verdict) (old new : SinkState D) (result : Result Verdict SinkFault) → IsSinkOf of old model → (sink.answer_of result ≡ Ok verdict) × (new ≡ old)
      → Answers of model (record { verdict = verdict; change = None }) old new result
  quiet model verdict old new (Ok v) h k = (
    ok_is (verdict_of v) verdict k.0,
    record {
      is_sink = subst (λ (s : SinkState D). IsSinkOf of s model) (sym k.1) h;
      generation = ap (λ (s : SinkState D). s.store.last + length model.ledger) k.1;
      longer = omega arith;
      few = (let same : new.store.last ≡ old.store.last = ap (λ (s : SinkState D). s.store.last) k.1 in omega (arith, same));
      good = ap (λ (s : SinkState D). of.faults s.store.disk) k.1;
    },
  )
  quiet model verdict old new (Err fault) h k = absurd (let none : Err fault ≡ Ok verdict = k.0 in cc)

  -- the generation behind a commit
  made : (model : ideal.Sink) (verdict : ideal_verdict.Verdict) (change : Change) (old new : SinkState D) (v : Verdict) → IsSinkOf of old model → Makes of model.ledger change verdict old new (Ok v)
      → HasCause of old new (okay v) → Goes of old new (okay v) → IsKept of new v
      → Answers of model (record { verdict = verdict; change = Some change }) old new (Ok v)
  made model verdict change old new v h m cause goes kept = (
    m.answer,
    record {
      is_sink = record {
        runs = cause.1;
        config = ap (λ (s : SinkState D). s.config) m.same ∙ h.config;
        rules = ap (λ (s : SinkState D). s.rules) m.same ∙ h.rules;
        fits = m.rows;
        held = kept.stands;
      };
      generation = (let next : new.store.last ≡ old.store.last + 1 = ap (λ (s : State D). s.last) m.commits.store in omega (arith, next));
      longer = omega arith;
      few = goes.last;
      good = cause.2;
    },
  )

  made_or : (model : ideal.Sink) (verdict : ideal_verdict.Verdict) (change : Change) (old new : SinkState D) (result : Result Verdict SinkFault) → IsSinkOf of old model → Makes of model.ledger change verdict old new result
      → HasCause of old new result → Goes of old new result → IfOk result (IsKept of new) → Answers of model (record { verdict = verdict; change = Some change }) old new result
  made_or model verdict change old new (Ok v) h m cause goes kept = made model verdict change old new v h m cause goes kept
  made_or model verdict change old new (Err Halted) h m cause goes kept = absurd (let t : true ≡ false = sym cause.0 ∙ h.runs in cc)
  made_or model verdict change old new (Err (Worn generation)) h m cause goes kept = record {
    due = change;
    is_due = refl;
    greatest = cause.1;
    is = cause.2;
    same = ap (λ (s : SinkState D). s.store.disk) cause.3;
  }
  made_or model verdict change old new (Err DiskFault) h m cause goes kept = record {
    due = change;
    is_due = refl;
    fit = λ c left. m.moments c (now new.store.disk c left);
    failed = cause.2;
  }

  pub answers : (model : ideal.Sink) (ruling : Ruling) (old new : SinkState D) (result : Result Verdict SinkFault) → IsSinkOf of old model → Comes of model.ledger ruling old new result
      → HasCause of old new result → Goes of old new result → IfOk result (IsKept of new) → Answers of model ruling old new result
  answers model ruling old new result h comes cause goes kept = by ruling.change refl
    where
      came : sink.Answers of model.ledger ruling.verdict ruling.change old new result
      came = running model ruling old new result h comes

      by : (change : Option Change) → ruling.change ≡ change → Answers of model ruling old new result
      by None e = subst (λ (o : Option Change). Answers of model (record { verdict = ruling.verdict; change = o }) old new result) (sym e)
          (quiet model ruling.verdict old new result h (subst (λ (o : Option Change). sink.Answers of model.ledger ruling.verdict o old new result) e came))
      by (Some change) e = subst (λ (o : Option Change). Answers of model (record { verdict = ruling.verdict; change = o }) old new result) (sym e)
          (made_or model ruling.verdict change old new result h (subst (λ (o : Option Change). sink.Answers of model.ledger ruling.verdict o old new result) e came) cause goes kept)
