-- Each fresh frame is acted on exactly as the rules say, and nothing else is taken.
use Rattle.std.proofs.Common.{◌≡◌, ◌⊎◌, inl, inr, ℕ, zero, suc, ◌+◌, Bool, true, false, ◌==◌, cond, List, [], ◌∷◌, ◌++◌, map, length, Option, Some, None, Result, Ok, Err, refl, sym, ◌∙◌, ap, subst, append-nil, append_assoc, slice_get, arith}
use Rattle.std.proofs.lemmas.List.{length-append}
use Rattle.gp_base.specs.Field.{IsOctets}
use Rattle.gp_base.specs.Table.{let_ok}
use Rattle.gp_rows.specs.declared.row.Row.{Row}
use Rattle.gp_script.specs.declared.reason.LineReason.{LineReason}
use Rattle.gp_script.specs.declared.reason.LineReason.TheVariants.{Form}
use Rattle.gp_script.specs.declared.report.Entry.{Entry}
use Rattle.gp_script.specs.declared.report.Report.{Report}
use Rattle.gp_script.specs.declared.sink_script.SinkAction.{SinkAction}
use Rattle.gp_script.specs.declared.sink_script.SinkAction.TheVariants.{Config, Hear, Pair, Rule, Announce, Table}
use Rattle.gp_script.specs.declared.sink_script.SinkEvent.{SinkEvent}
use Rattle.gp_script.specs.declared.sink_script.SinkEvent.TheVariants.{Nothing, Line}
use Rattle.gp_ideal.specs.declared.ledger.Change.{Change}
use Rattle.gp_ideal.specs.declared.ledger.Known.{Known}
use Rattle.gp_ideal.specs.Fresh.{Fresh}
use Rattle.gp_ideal.specs.Heard.{id_of, heard, acted, unpaired}
use Rattle.gp_ideal.specs.Paired.{offered, paired}
use Rattle.gp_ideal.specs.Verdict.{Ruling}
use Rattle.gp_ideal.proofs.Freshness.{fresh-passes, passes-fresh}
use Rattle.gp_ideal.proofs.Passing.{Passing, passed, heard-passes, heard-takes}
use Rattle.gp_ideal.proofs.Tests.{which_list}
use Rattle.gp_world.specs.Life.{Life, Lived, begun, gone_on, life_step, lived, own_name}
use Rattle.gp_world.specs.Properties.{Takes, taken_in, acted_reports, unpaired_reports}
use Rattle.gp_world.specs.Sinks.{ruled, rule_of, sink_hears, sink_pairs, sink_rules, sink_announces, sink_lists, verdict_reports, verdict_puts}
use Rattle.gp_world.specs.World.{Effect, entries, put_reports}
use Rattle.gp_world.proofs.Acting.{TakeNothing, IsEntry, is_entry, nothing_both, pairs-quiet, quiet-line, some_none, steady-nothing, verdict-takes}
use Rattle.gp_world.proofs.Steady.{puts-steady, rules-still, announces-still, lists-still, IsStill}
use Rattle.gp_life.specs.Exact.{ActsOnFresh, Hears, IsOfFresh, TakesOnlyFresh, fresh_reports}
use Rattle.gp_life.specs.Lived.{asked, life_of, lived_on, next_line, unborn}
use Rattle.gp_life.specs.Opening.{opening}
use Rattle.gp_life.proofs.Hearing.{heard-octets}
use Rattle.gp_life.proofs.Lines.{life-more, not_both, okay, same_lived, then_ok}

-- what an effect reports
abbrev said : Life → Effect → List Report
said life effect = effect.says ++ put_reports life.sent effect.puts

-- ---- a fresh frame is acted on

passed-reports : (life : Life) (k : Known) (counter : ℕ) (command : List ℕ) → said life (ruled life.sink (passed life.sink.rules k counter command)) ≡ fresh_reports life k counter command
unfolding ruled
passed-reports life k counter command = go (id_of command == 0xE1)
  where
    go : (b : Bool) → said life (ruled life.sink (cond b (unpaired k counter) (acted life.sink.rules k counter command))) ≡ cond b (unpaired_reports life.sent k counter) (acted_reports life.sink.rules k counter command)
    go true = refl
    go false = append-nil (acted_reports life.sink.rules k counter command)

fresh-reports : (life : Life) (octets : List ℕ) (k : Known) (counter : ℕ) (command : List ℕ) → Fresh life.sink.ledger octets k counter command → said life (sink_hears octets life.sink) ≡ fresh_reports life k counter command
unfolding sink_hears
fresh-reports life octets k counter command f =
    ap (λ (r : Ruling). said life (ruled life.sink r)) (heard-passes life.sink.rules life.sink.ledger octets k counter command (fresh-passes life.sink.ledger octets k counter command f))
    ∙ passed-reports life k counter command

module _ (rows : List Row) where
  hears-next : (old : Lived) (life : Life) (n reading : ℕ) (octets : List ℕ) → old.life ≡ Some life
      → next_line rows old n (Some (Line reading (Hear octets))) ≡ Ok (record { life = (lived life n (sink_hears octets life.sink)).life; told = old.told ++ (lived life n (sink_hears octets life.sink)).told })
  unfolding next_line life_step gone_on
  hears-next old life n reading octets e =
      ap (λ (o : Option Life). let_ok (life_step (opening rows) o n (Line reading (Hear octets))) (λ (reason : LineReason). Err reason) (λ (x : Lived). okay (record { life = x.life; told = old.told ++ x.told }))) e

  pub acts-on-fresh : (script : List (List ℕ)) → ActsOnFresh rows script
  unfolding lived
  acts-on-fresh script front line back octets life k counter command parts hears fresh =
      let n = length front + 1 in
      let made : Lived = record { life = (lived life n (sink_hears octets life.sink)).life; told = hears.before.told ++ (lived life n (sink_hears octets life.sink)).told } in
      let next : next_line rows hears.before n (asked line) ≡ Ok made = ap (next_line rows hears.before n) hears.asks ∙ hears-next hears.before life n hears.reading octets hears.runs in (
        made,
        life-more rows front line hears.before made hears.lived next,
        ap (λ (rs : List Report). hears.before.told ++ entries n (Some own_name) rs) (fresh-reports life octets k counter command fresh),
      )

-- ---- nothing else is taken

heard_takes : (life : Life) (octets : List ℕ) (i : ℕ) (report : Report) (row counter : ℕ) → slice_get (said life (sink_hears octets life.sink)) i ≡ Some report → taken_in report ≡ Some (row, counter) → Passing life.sink.ledger octets row counter
unfolding sink_hears ruled
heard_takes life octets i report row counter e t =
    let ruling = heard life.sink.rules life.sink.ledger octets in
    heard-takes life.sink.rules life.sink.ledger octets row counter (elim (which_list (verdict_reports ruling.verdict) (put_reports life.sent (verdict_puts ruling.verdict)) i report e) [
      | inl at ↦ verdict-takes ruling.verdict i report (row, counter) at t
      | inr at ↦ absurd (some_none (taken_in report) (row, counter) (steady-nothing (put_reports life.sent (verdict_puts ruling.verdict)) (puts-steady life.sent (verdict_puts ruling.verdict)) at.0 report at.1) t)
    ])

still_takes : (life : Life) (effect : Effect) → TakeNothing effect.says → TakeNothing (said life effect)
still_takes life effect h = nothing_both effect.says (put_reports life.sent effect.puts) h (steady-nothing (put_reports life.sent effect.puts) (puts-steady life.sent effect.puts))

pairs_take : (life : Life) (values : _) (counter : ℕ) → TakeNothing (said life (sink_pairs values counter life.sink))
unfolding sink_pairs ruled
pairs_take life values counter = still_takes life (ruled life.sink (paired life.sink.config life.sink.ledger values counter)) (pairs-quiet life.sink.config life.sink.ledger values counter)

-- the number of an entry's line
line_number : (line : ℕ) (name : Option (List ℕ)) (rs : List Report) (i : ℕ) (entry : Entry) → slice_get (entries line name rs) i ≡ Some entry → entry.line ≡ line
line_number line name [] i entry e = absurd cc
line_number line name (report ∷ rs) zero entry e =
    let made : Entry = record { line = line; node = name; report = report } in
    let same : made ≡ entry = cc in
    ap (λ (x : Entry). x.line) (sym same)
line_number line name (report ∷ rs) (suc i) entry e = line_number line name rs i entry e

module _ (rows : List Row) (script : List (List ℕ)) where
  -- an entry is of a fresh frame, where it takes one
  abbrev EachFresh : List Entry → Type 0
  EachFresh told = (i : ℕ) (entry : Entry) (name : List ℕ) (row counter : ℕ) → slice_get told i ≡ Some entry → Takes name row counter entry → IsOfFresh rows script entry row counter

  none_told : EachFresh []
  none_told i entry name row counter e t = absurd cc

  both_told : (xs ys : List Entry) → EachFresh xs → EachFresh ys → EachFresh (xs ++ ys)
  both_told [] ys h k i entry name row counter e t = k i entry name row counter e t
  both_told (x ∷ xs) ys h k zero entry name row counter e t = h zero entry name row counter e t
  both_told (x ∷ xs) ys h k (suc i) entry name row counter e t = both_told xs ys (λ j. h (suc j)) k i entry name row counter e t

  quiet_told : (life : Life) (n : ℕ) (effect : Effect) → TakeNothing (said life effect) → EachFresh (lived life n effect).told
  unfolding lived
  quiet_told life n effect h i entry name row counter e t = absurd (quiet-line n (Some own_name) (said life effect) h i entry name row counter e t)

  -- one line of the script
  module _ (front : List (List ℕ)) (line : List ℕ) (back : List (List ℕ)) (parts : script ≡ front ++ line ∷ back) (old : Lived) (here : life_of rows front ≡ Ok old) where
    heard_told : (life : Life) (reading : ℕ) (octets : List ℕ) → old.life ≡ Some life → asked line ≡ Some (Line reading (Hear octets)) → EachFresh (lived life (length front + 1) (sink_hears octets life.sink)).told
    unfolding lived
    heard_told life reading octets runs asks i entry name row counter e t =
        let is = is_entry (length front + 1) (Some own_name) (said life (sink_hears octets life.sink)) i entry e in
        let p = heard_takes life octets is.i entry.report row counter is.there t.taken in
        record {
          front = front;
          line = line;
          back = back;
          parts = parts;
          number = line_number (length front + 1) (Some own_name) (said life (sink_hears octets life.sink)) i entry e;
          octets = octets;
          life = life;
          hears = record { before = old; lived = here; runs = runs; reading = reading; asks = asks };
          k = p.k;
          command = p.command;
          fresh = passes-fresh life.sink.ledger octets p.k counter p.command (heard-octets line reading octets asks) p.passes;
          row_is = p.row_is;
        }

    step : (life : Option Life) (event : SinkEvent) (one : Lived) → old.life ≡ life → asked line ≡ Some event → life_step (opening rows) life (length front + 1) event ≡ Ok one → EachFresh one.told
    unfolding life_step begun gone_on
    step life Nothing one runs asks e = subst (λ (x : Lived). EachFresh x.told) (same_lived _ one e) none_told
    step None (Line reading (Config address ieee mode channel link shared)) one runs asks e = subst (λ (x : Lived). EachFresh x.told) (same_lived _ one e) none_told
    step None (Line reading (Hear octets)) one runs asks e = absurd (not_both one Form e)
    step None (Line reading (Pair source key kind level device counter)) one runs asks e = absurd (not_both one Form e)
    step None (Line reading (Rule source command endpoint form)) one runs asks e = absurd (not_both one Form e)
    step None (Line reading (Announce source)) one runs asks e = absurd (not_both one Form e)
    step None (Line reading Table) one runs asks e = absurd (not_both one Form e)
    step (Some life) (Line reading (Config address ieee mode channel link shared)) one runs asks e = absurd (not_both one Form e)
    step (Some life) (Line reading (Hear octets)) one runs asks e = subst (λ (x : Lived). EachFresh x.told) (same_lived _ one e) (heard_told life reading octets runs asks)
    step (Some life) (Line reading (Pair source key kind level device counter)) one runs asks e =
        subst (λ (x : Lived). EachFresh x.told) (same_lived _ one e) (quiet_told life (length front + 1) (sink_pairs (offered life.sink.config source key kind level device) counter life.sink) (pairs_take life (offered life.sink.config source key kind level device) counter))
    step (Some life) (Line reading (Rule source command endpoint form)) one runs asks e =
        let effect = sink_rules (rule_of source command endpoint form) life.sink in
        subst (λ (x : Lived). EachFresh x.told) (same_lived _ one e) (quiet_told life (length front + 1) effect (still_takes life effect (steady-nothing effect.says (rules-still (rule_of source command endpoint form) life.sink).says)))
    step (Some life) (Line reading (Announce source)) one runs asks e =
        let effect = sink_announces source life.sink in
        subst (λ (x : Lived). EachFresh x.told) (same_lived _ one e) (quiet_told life (length front + 1) effect (still_takes life effect (steady-nothing effect.says (announces-still source life.sink).says)))
    step (Some life) (Line reading Table) one runs asks e =
        let effect = sink_lists life.sink in
        subst (λ (x : Lived). EachFresh x.told) (same_lived _ one e) (quiet_told life (length front + 1) effect (still_takes life effect (steady-nothing effect.says (lists-still life.sink).says)))

    one-line : (event : Option SinkEvent) (made : Lived) → asked line ≡ event → EachFresh old.told → next_line rows old (length front + 1) event ≡ Ok made → EachFresh made.told
    unfolding next_line
    one-line None made asks h e = absurd (not_both made Form e)
    one-line (Some event) made asks h e =
        let found = then_ok _ (life_step (opening rows) old.life (length front + 1) event) made e in
        subst (λ (x : Lived). EachFresh x.told) (same_lived _ made found.2) (both_told old.told found.0.told h (step old.life event found.0 refl asks found.1))

  on : (back front : List (List ℕ)) (old made : Lived) → script ≡ front ++ back → life_of rows front ≡ Ok old → EachFresh old.told → lived_on rows old (length front + 1) (map asked back) ≡ Ok made → EachFresh made.told
  unfolding lived_on
  on [] front old made parts here h e = subst (λ (x : Lived). EachFresh x.told) (same_lived old made e) h
  on (line ∷ back) front old made parts here h e =
      let found = then_ok _ (next_line rows old (length front + 1) (asked line)) made e in
      let longer = length-append front (line ∷ []) in
      let count : (length front + 1) + 1 ≡ length (front ++ line ∷ []) + 1 = omega (arith, longer) in
      on back (front ++ line ∷ []) found.0 made (parts ∙ sym (append_assoc front (line ∷ []) back)) (life-more rows front line old found.0 here found.1)
      (one-line front line back parts old here (asked line) found.0 refl h found.1) (subst (λ (n : ℕ). lived_on rows found.0 n (map asked back) ≡ Ok made) count found.2)

  start : life_of rows [] ≡ Ok unborn
  unfolding lived_on
  start = refl

  pub takes-only-fresh : (made : Lived) → life_of rows script ≡ Ok made → TakesOnlyFresh rows script made.told
  takes-only-fresh made e = on script [] unborn made refl start none_told e
