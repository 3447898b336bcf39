-- What is acted on was verified under the key of its row.
use Rattle.std.proofs.Common.{◌≡◌, ℕ, zero, suc, Bool, true, false, ◌==◌, cond, if◌then◌else◌, List, [], ◌∷◌, map, length, Option, Some, None, option_map, refl, sym, ap, ◌∙◌, subst, slice_get}
use Rattle.gp_base.specs.declared.identity.Src.{Src}
use Rattle.gp_security.specs.Protection.{source_of}
use Rattle.gp_translate.specs.declared.act.Act.{Act}
use Rattle.gp_script.specs.declared.report.Entry.{Entry}
use Rattle.gp_script.specs.declared.report.Report.{Report}
use Rattle.gp_script.specs.declared.report.Report.TheVariants as reports
use Rattle.gp_ideal.specs.declared.ledger.Change.{Change}
use Rattle.gp_ideal.specs.declared.ledger.Known.{Known}
use Rattle.gp_ideal.specs.declared.ledger.Values.{Values}
use Rattle.gp_ideal.specs.Heard.{id_of}
use Rattle.gp_ideal.specs.Ledger.{rows, live, floor, last_row, where_live, current, known, pairing_of}
use Rattle.gp_world.specs.Properties.{Takes, Each, acted_reports, unpaired_reports, fresh_reports, ActsOnFresh, TakesOnlyFresh, Acts, VerifiesActs, Verified}
use Rattle.gp_world.specs.Run.{Moment, Run}
use Rattle.gp_world.specs.Sinks.{act_report}
use Rattle.gp_world.specs.World.{World, Sink}
use Rattle.gp_world.proofs.Acting.{OnAir, runs-act, runs-only, is_entry}
use Rattle.gp_ideal.proofs.Ledgers.{last-values, values-pair}

-- ---- the current pairing of a SrcID is that of its row

record IsPaired (ledger : List Change) (source : ℕ) (k : Known) : Type 0 where
  row : slice_get (rows ledger) k.row ≡ Some (pairing_of k.values)
  src : k.values.src.0 ≡ source

live_is : (ledger : List Change) (o : Option (ℕ × Values)) (found : ℕ × Values) → where_live ledger o ≡ Some found → o ≡ Some found
live_is ledger None found e = absurd cc
live_is ledger (Some own) found e = go (live ledger own.0) e
  where
    go : (b : Bool) → (if b then Some own else None) ≡ Some found → Some own ≡ Some found
    go true t = t
    go false t = absurd cc

known_is : (ledger : List Change) (source : ℕ) (k : Known) → known ledger source ≡ Some k → IsPaired ledger source k
unfolding current
known_is ledger source k e = go (current ledger source) refl e
  where
    of_row : (found : ℕ × Values) → last_row ledger source ≡ Some found → IsPaired ledger source (record { row = found.0; values = found.1; floor = floor ledger found.0 })
    of_row found is = let its = last-values ledger source found is in record { row = values-pair ledger found.0 found.1 its.0; src = its.1 }

    go : (o : Option (ℕ × Values)) → current ledger source ≡ o → option_map (λ (found : ℕ × Values). record { row = found.0; values = found.1; floor = floor ledger found.0 }) o ≡ Some k → IsPaired ledger source k
    go None is t = absurd cc
    go (Some found) is t =
        let made : Known = record { row = found.0; values = found.1; floor = floor ledger found.0 } in
        let same : made ≡ k = cc in
        subst (IsPaired ledger source) same (of_row found (live_is ledger (last_row ledger source) found is))

-- ---- what a report of a fresh frame says that it was acted on

record SaysSo (k : Known) (command : List ℕ) (row source id : ℕ) : Type 0 where
  row_is : k.row ≡ row
  source_is : k.values.src.0 ≡ source
  id_is : id_of command ≡ id

no_act : (done : List Act) (i row source counter id count : ℕ) → slice_get (map act_report done) i ≡ Some (reports.Acted row (record { 0 = source }) counter id count) → ⊥
no_act [] i row source counter id count e = absurd cc
no_act (act ∷ done) zero row source counter id count e = absurd cc
no_act (act ∷ done) (suc i) row source counter id count e = no_act done i row source counter id count e

first_says : (k : Known) (command : List ℕ) (row source counter c id count n : ℕ) →
    ◌≡◌ {A = Report} (reports.Acted k.row k.values.src c (id_of command) n) (reports.Acted row (record { 0 = source }) counter id count) → SaysSo k command row source id
first_says k command row source counter c id count n e =
    let device : Src = record { 0 = source } in
    let same : k.values.src ≡ device = cc in
    record { row_is = cc; source_is = ap (λ (s : Src). s.0) same; id_is = cc }

fresh_says : (world : World) (sink : Sink) (k : Known) (c : ℕ) (command : List ℕ) (i row source counter id count : ℕ) →
    slice_get (fresh_reports world sink k c command) i ≡ Some (reports.Acted row (record { 0 = source }) counter id count) → SaysSo k command row source id
fresh_says world sink k c command i row source counter id count e = go (id_of command == 0xE1) i e
  where
    go : (b : Bool) (i : ℕ) → slice_get (cond b (unpaired_reports (length world.messages) k c) (acted_reports sink.rules k c command)) i ≡ Some (reports.Acted row (record { 0 = source }) counter id count) → SaysSo k command row source id
    go true zero t = absurd cc
    go true (suc zero) t = absurd cc
    go true (suc (suc i)) t = absurd cc
    go false zero t = first_says k command row source counter c id count _ (some_report _ _ t)
      where
        some_report : (one other : Report) → ◌≡◌ {A = Option Report} (Some one) (Some other) → one ≡ other
        some_report one other e = cc
    go false (suc i) t = absurd (no_act _ i row source counter id count t)

-- ---- every act was verified

takes_so : (name : List ℕ) (row source counter id : ℕ) (entry : Entry) → Acts name row source counter id entry → Takes name row counter entry
takes_so name row source counter id entry a = record { node = a.node; taken = rw a.acted refl }

pub verifies_acts : (moment : Moment) (earlier : List Moment) → ActsOnFresh moment earlier → TakesOnlyFresh moment earlier → VerifiesActs moment earlier
verifies_acts moment earlier acts only i entry name row source counter id e a =
    let f = only i entry name row counter e (takes_so name row source counter id entry a) in
    let told = acts name f.powered f.octets f.k counter f.command f.hears f.passes f.fresh in
    let its = is_entry (suc (length earlier)) (Some name) (fresh_reports moment.before f.powered.sink f.k counter f.command) i entry (subst (λ (es : List Entry). slice_get es i ≡ Some entry) told e) in
    let says = fresh_says moment.before f.powered.sink f.k counter f.command its.i row source counter id a.count (its.there ∙ ap (λ (r : Report). Some r) a.acted) in
    let paired = known_is f.powered.sink.ledger (source_of f.fresh.mpdu.frame) f.k f.fresh.pairing in
    record {
      powered = f.powered;
      octets = f.octets;
      hears = f.hears;
      mpdu = f.fresh.mpdu;
      spelled = f.fresh.spelled;
      from = sym paired.src ∙ says.source_is;
      counts = f.fresh.counts;
      key = f.k.values.key.0;
      of_row = subst (λ (n : ℕ). slice_get (rows f.powered.sink.ledger) n ≡ Some (source, f.k.values.key.0)) says.row_is
          (paired.row ∙ ap (λ (s : ℕ). Some (s, f.k.values.key.0)) says.source_is);
      command = f.command;
      carried = f.fresh.carried;
      id_is = says.id_is;
    }

pub runs-verified : (moments : List Moment) → Run moments → Each (λ moment earlier. OnAir moment.before) moments → Verified moments
runs-verified moments run air = go moments (runs-act moments run) (runs-only moments run air)
  where
    go : (moments : List Moment) → Each ActsOnFresh moments → Each TakesOnlyFresh moments → Verified moments
    go [] acts only = tt
    go (moment ∷ earlier) acts only = (verifies_acts moment earlier acts.0 only.0, go earlier acts.1 only.1)
