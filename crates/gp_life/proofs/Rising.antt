-- The counters that a life takes rise.
use Rattle.std.proofs.Common.{◌≡◌, inl, inr, ℕ, ◌+◌, ◌≤◌, true, false, List, [], ◌∷◌, ◌++◌, map, length, Option, Some, None, Result, Ok, Err, refl, sym, ◌∙◌, ap, subst, append-nil, arith}
use Rattle.std.specs.Str.{bytes_eq}
use Rattle.gp_base.specs.Table.{let_ok}
use Rattle.gp_rows.specs.declared.row.Row.{Row}
use Rattle.gp_script.specs.declared.reason.LineReason.{LineReason}
use Rattle.gp_script.specs.declared.reason.LineReason.TheVariants.{Form}
use Rattle.gp_script.specs.declared.report.Entry.{Entry}
use Rattle.gp_script.specs.declared.report.Report.{Report}
use Rattle.gp_script.specs.declared.sink_script.SinkAction.TheVariants.{Config, Hear, Pair, Rule, Announce, Table}
use Rattle.gp_script.specs.declared.sink_script.SinkEvent.{SinkEvent}
use Rattle.gp_script.specs.declared.sink_script.SinkEvent.TheVariants.{Nothing, Line}
use Rattle.gp_ideal.specs.declared.ledger.Change.{Change}
use Rattle.gp_ideal.specs.declared.config.Config as ideal
use Rattle.gp_ideal.specs.Heard.{heard}
use Rattle.gp_ideal.specs.Ledger.{floor, with_change}
use Rattle.gp_ideal.specs.Paired.{offered, paired}
use Rattle.gp_ideal.specs.Verdict.{Ruling}
use Rattle.gp_ideal.proofs.Pairs.{bool_cases}
use Rattle.gp_world.specs.Life.{Life, Lived, begun, gone_on, life_step, lived, own_name}
use Rattle.gp_world.specs.Properties.{Rising, Once}
use Rattle.gp_world.specs.Sinks.{ruled, rule_of, sink_hears, sink_pairs, sink_rules, sink_announces, sink_lists, verdict_reports}
use Rattle.gp_world.specs.World.{Effect, entries, put_reports}
use Rattle.gp_world.proofs.Moving.{Moves, moves_on, takings, takings-append, all_rise, rising-once}
use Rattle.gp_world.proofs.Naming.{same_name}
use Rattle.gp_world.proofs.Rulings.{takings_in, heard-moves, paired-moves, steady-take_nothing}
use Rattle.gp_world.proofs.Running.{in_append, own-entries, other-entries}
use Rattle.gp_world.proofs.Steady.{AreSteady, puts-steady, rules-still, announces-still, lists-still, IsStill}
use Rattle.gp_world.specs.Step.{config_of}
use Rattle.gp_translate.specs.Rules.{standard}
use Rattle.gp_life.specs.Opening.{opening}
use Rattle.gp_life.specs.Lived.{asked, life_of, lived_on, next_line, unborn}
use Rattle.gp_life.proofs.Lines.{okay, not_both, same_lived, then_ok}

-- the life of a sink that was just set up
abbrev first_life : ideal.Config → List Row → Life
first_life config rows = record { sink = record { config = config; rules = standard; ledger = opening rows }; sent = 0 }

-- the floor of a row, 0 before the sink is set up
abbrev floor_of : Option Life → ℕ → ℕ
floor_of None row = 0
floor_of (Some life) row = floor life.sink.ledger row

-- what is told takes each row from one floor to the other
abbrev LifeMoves : Option Life → Option Life → List Entry → Type 0
LifeMoves before after told = (name : List ℕ) (row : ℕ) → Moves (floor_of before row) (floor_of after row) (takings name row told)

moves_up : (f g : ℕ) (ns : List ℕ) → Moves f g ns → f ≤ g
moves_up f g [] h = h
moves_up f g (n ∷ ns) h = let first = h.0 in let later = moves_up n g ns h.1 in omega (arith, first, later)

-- ---- one effect

effect_moves : (life : Life) (line : ℕ) (effect : Effect) → ((row : ℕ) → Moves (floor life.sink.ledger row) (floor effect.sink.ledger row) (takings_in row effect.says))
    → LifeMoves (Some life) (lived life line effect).life (lived life line effect).told
unfolding lived
effect_moves life line effect h name row = elim (bool_cases (bytes_eq own_name name)) [
  | inl same ↦ subst (λ (n : List ℕ). Moves (floor life.sink.ledger row) (floor effect.sink.ledger row) (takings n row (entries line (Some own_name) says))) (same_name own_name name same)
      (subst (λ (ns : List ℕ). Moves (floor life.sink.ledger row) (floor effect.sink.ledger row) ns) (sym (own-entries line own_name row says ∙ all)) (h row))
  | inr differs ↦ subst (λ (ns : List ℕ). Moves (floor life.sink.ledger row) (floor effect.sink.ledger row) ns) (sym (other-entries line own_name name row says differs)) (moves_up _ _ (takings_in row effect.says) (h row))
]
  where
    says : List Report
    says = effect.says ++ put_reports life.sent effect.puts

    all : takings_in row says ≡ takings_in row effect.says
    all = in_append row effect.says (put_reports life.sent effect.puts)
        ∙ ap (λ (ns : List ℕ). takings_in row effect.says ++ ns) (steady-take_nothing row (put_reports life.sent effect.puts) (puts-steady life.sent effect.puts)) ∙ append-nil (takings_in row effect.says)

still_moves : (life : Life) (line : ℕ) (effect : Effect) → IsStill life.sink effect → LifeMoves (Some life) (lived life line effect).life (lived life line effect).told
still_moves life line effect h = effect_moves life line effect (λ row.
    subst (λ (ns : List ℕ). Moves (floor life.sink.ledger row) (floor effect.sink.ledger row) ns) (sym (steady-take_nothing row effect.says h.says))
    (let same : floor effect.sink.ledger row ≡ floor life.sink.ledger row = ap (λ (ledger : List Change). floor ledger row) h.ledger in omega (arith, same)))

hears_move : (life : Life) (line : ℕ) (octets : List ℕ) → LifeMoves (Some life) (lived life line (sink_hears octets life.sink)).life (lived life line (sink_hears octets life.sink)).told
unfolding sink_hears ruled
hears_move life line octets = effect_moves life line _ (heard-moves life.sink.rules life.sink.ledger octets)

pairs_move : (life : Life) (line : ℕ) (values : _) (counter : ℕ) → LifeMoves (Some life) (lived life line (sink_pairs values counter life.sink)).life (lived life line (sink_pairs values counter life.sink)).told
unfolding sink_pairs ruled
pairs_move life line values counter = effect_moves life line _ (paired-moves life.sink.config life.sink.ledger values counter)

-- ---- one line

module _ (rows : List Row) where
  -- what was told takes each row to its floor
  abbrev HasMoved : Lived → Type 0
  HasMoved old = LifeMoves None old.life old.told

  next : (old : Lived) (one made : Lived) → HasMoved old → LifeMoves old.life one.life one.told → okay (record { life = one.life; told = old.told ++ one.told }) ≡ okay made → HasMoved made
  next old one made h k e = subst HasMoved (same_lived _ made e) (λ name row.
      subst (λ (ns : List ℕ). Moves 0 (floor_of one.life row) ns) (sym (takings-append name row old.told one.told)) (moves_on 0 (floor_of old.life row) (floor_of one.life row) (takings name row old.told) (takings name row one.told) (h name row) (k name row)))

  nothing_moves : (life after : Option Life) → ((row : ℕ) → floor_of life row ≤ floor_of after row) → LifeMoves life after []
  unfolding takings
  nothing_moves life after h name row = h row

  step : (life : Option Life) (n : ℕ) (event : SinkEvent) (one : Lived) → life_step (opening rows) life n event ≡ Ok one → LifeMoves life one.life one.told
  unfolding life_step begun gone_on
  step life n Nothing one e = subst (λ (x : Lived). LifeMoves life x.life x.told) (same_lived _ one e) (nothing_moves life life (λ row. omega arith))
  step None n (Line reading (Config address ieee mode channel link shared)) one e = subst (λ (x : Lived). LifeMoves None x.life x.told) (same_lived _ one e) (nothing_moves None (Some (first_life (config_of address ieee mode channel link shared) rows)) (λ row. omega arith))
  step None n (Line reading (Hear octets)) one e = absurd (not_both one Form e)
  step None n (Line reading (Pair source key kind level device counter)) one e = absurd (not_both one Form e)
  step None n (Line reading (Rule source command endpoint form)) one e = absurd (not_both one Form e)
  step None n (Line reading (Announce source)) one e = absurd (not_both one Form e)
  step None n (Line reading Table) one e = absurd (not_both one Form e)
  step (Some life) n (Line reading (Config address ieee mode channel link shared)) one e = absurd (not_both one Form e)
  step (Some life) n (Line reading (Hear octets)) one e = subst (λ (x : Lived). LifeMoves (Some life) x.life x.told) (same_lived _ one e) (hears_move life n octets)
  step (Some life) n (Line reading (Pair source key kind level device counter)) one e = subst (λ (x : Lived). LifeMoves (Some life) x.life x.told) (same_lived _ one e) (pairs_move life n (offered life.sink.config source key kind level device) counter)
  step (Some life) n (Line reading (Rule source command endpoint form)) one e =
      subst (λ (x : Lived). LifeMoves (Some life) x.life x.told) (same_lived _ one e) (still_moves life n (sink_rules (rule_of source command endpoint form) life.sink) (rules-still (rule_of source command endpoint form) life.sink))
  step (Some life) n (Line reading (Announce source)) one e = subst (λ (x : Lived). LifeMoves (Some life) x.life x.told) (same_lived _ one e) (still_moves life n (sink_announces source life.sink) (announces-still source life.sink))
  step (Some life) n (Line reading Table) one e = subst (λ (x : Lived). LifeMoves (Some life) x.life x.told) (same_lived _ one e) (still_moves life n (sink_lists life.sink) (lists-still life.sink))

  line : (old : Lived) (n : ℕ) (event : Option SinkEvent) (made : Lived) → HasMoved old → next_line rows old n event ≡ Ok made → HasMoved made
  unfolding next_line
  line old n None made h e = absurd (not_both made Form e)
  line old n (Some event) made h e =
      let found = then_ok _ (life_step _ old.life n event) made e in
      next old found.0 made h (step old.life n event found.0 found.1) found.2

  on : (events : List (Option SinkEvent)) (old : Lived) (n : ℕ) (made : Lived) → HasMoved old → lived_on rows old n events ≡ Ok made → HasMoved made
  unfolding lived_on
  on [] old n made h e = subst HasMoved (same_lived old made e) h
  on (event ∷ others) old n made h e = let found = then_ok _ (next_line rows old n event) made e in on others found.0 (n + 1) made (line old n event found.0 h found.1) found.2

  first : HasMoved unborn
  unfolding takings
  first name row = omega arith

  -- ---- a whole life

  pub life-rises : (script : List (List ℕ)) (made : Lived) → life_of rows script ≡ Ok made → Rising made.told
  life-rises script made e = let moved = on (map asked script) unborn 1 made first e in all_rise made.told (λ name row. (floor_of made.life row, moved name row))

  pub life-once : (script : List (List ℕ)) (made : Lived) → life_of rows script ≡ Ok made → Once made.told
  life-once script made e = rising-once made.told (life-rises script made e)
