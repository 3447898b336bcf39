-- What a ruling takes lies above the floor of its row, which then is at least as high.
use Rattle.std.proofs.Common.{◌≡◌, inl, inr, ℕ, ◌<◌, ◌≤◌, Bool, true, false, nat_le, ◌==◌, cond, if◌then◌else◌, List, [], ◌∷◌, map, Option, Some, None, option_map, Result, Ok, Err, refl, sym, ap, ◌∙◌, subst, arith}
use Rattle.std.proofs.lemmas.Bool.{cases_eq}
use Rattle.gp_base.specs.Table.{by_table, let_else, let_ok}
use Rattle.gp_base.proofs.Tables.{at_lines}
use Rattle.gp_frames.specs.declared.frame.Gpdf.{Gpdf}
use Rattle.gp_frames.specs.declared.frame.Mpdu.{Mpdu}
use Rattle.gp_frames.specs.declared.frame.FrameReason.{FrameReason}
use Rattle.gp_frames.specs.Reading.{reading}
use Rattle.gp_security.specs.Protection.{opened, counter_of, source_of}
use Rattle.gp_script.specs.declared.report.Cause.TheVariants.{Unsecured, Unknown, BadTag}
use Rattle.gp_script.specs.declared.report.Dropped.{Dropped as Loss}
use Rattle.gp_script.specs.declared.report.Dropped.TheVariants.{Plain, Stale}
use Rattle.gp_script.specs.declared.report.Refusal.{Refusal}
use Rattle.gp_script.specs.declared.report.Refusal.TheVariants.{NotListening, BadSource, CounterEnd}
use Rattle.gp_script.specs.declared.report.Report.{Report}
use Rattle.gp_translate.specs.Acts.{acts}
use Rattle.gp_translate.specs.declared.rule.Rule.{Rule}
use Rattle.gp_ideal.specs.declared.config.Config.{Config}
use Rattle.gp_ideal.specs.declared.ledger.Values.{Values}
use Rattle.gp_ideal.specs.declared.ledger.Change.{Change}
use Rattle.gp_ideal.specs.declared.ledger.Change.TheVariants.{Pair, Accept, Retire}
use Rattle.gp_ideal.specs.declared.ledger.Known.{Known}
use Rattle.gp_ideal.specs.Faults.{malformed}
use Rattle.gp_ideal.specs.Heard.{counted, judged, secured, of_frame, heard, clear, clear_lines, key_lines, frame_lines, leave_lines, acted, unpaired}
use Rattle.gp_ideal.specs.Ledger.{row_of, counter_in, floor, current, with_change}
use Rattle.gp_ideal.specs.Paired.{paired, pairs, offer_lines, room_lines}
use Rattle.gp_world.specs.Properties.{taken_in}
use Rattle.gp_world.specs.Sinks.{verdict_reports, act_report}
use Rattle.gp_ideal.specs.Verdict.{Ruling, Refused, Full, Dropped, says, drops}
use Rattle.gp_ideal.proofs.Ledgers.{floor-here, other_row}
use Rattle.gp_world.proofs.Steady.{AreSteady, acts-steady}
use Rattle.gp_world.proofs.Moving.{Moves, counter_if, and_then}
use Rattle.gp_ideal.proofs.Pairs.{if_eq, if_other}
use Rattle.gp_ideal.proofs.Tests.{below}

-- ---- the counters of a row among reports

unfoldable pub takings_in : ℕ → List Report → List ℕ
takings_in row [] = []
takings_in row (report ∷ reports) = and_then (counter_if row (taken_in report)) (takings_in row reports)

pub steady-take_nothing : (row : ℕ) (reports : List Report) → AreSteady reports → takings_in row reports ≡ []
unfolding takings_in
steady-take_nothing row [] h = refl
steady-take_nothing row (report ∷ reports) h =
    ap (λ (o : Option (ℕ × ℕ)). and_then (counter_if row o) (takings_in row reports)) h.0.takes ∙ steady-take_nothing row reports h.1

-- ---- floors never fall

pub floor-grows : (x : Change) (ledger : List Change) (at : ℕ) → floor ledger at ≤ floor (x ∷ ledger) at
floor-grows x ledger at = elim (cases_eq (row_of x ledger) at) [
  | inl e ↦ let here = floor-here x ledger at e in omega arith
  | inr n ↦ let same = (other_row x ledger at n).has_floor in omega arith
]

-- ---- rulings

-- a property of each answer to octets, at a sink with this ledger
pub record EachAnswer (P : Ruling → Type 0) (rules : List Rule) (ledger : List Change) : Type 0 where
  pub drops : (cause : Loss) → P (says (Dropped cause))
  pub refuses : (reason : Refusal) → P (says (Refused reason))
  pub acts : (k : Known) (counter : ℕ) (command : List ℕ) → floor ledger k.row < counter → P (acted rules k counter command)
  pub unpairs : (k : Known) (counter : ℕ) → floor ledger k.row < counter → P (unpaired k counter)

counted-carries : (P : Ruling → Type 0) (rules : List Rule) (ledger : List Change) → EachAnswer P rules ledger → (k : Known) (counter : ℕ) (command : List ℕ) → floor ledger k.row ≡ k.floor →
    P (counted rules k counter command)
unfolding counted
counted-carries P rules ledger each k counter command is = go (nat_le counter k.floor) refl
  where
    go : (b : Bool) → nat_le counter k.floor ≡ b → P (cond b (says (Dropped (Stale k.floor))) (by_table (leave_lines k counter command) (acted rules k counter command)))
    go true t = each.drops (Stale k.floor)
    go false t =
        let above : floor ledger k.row < counter = let over = below counter k.floor t in omega arith in
        at_lines P (leave_lines k counter command) (acted rules k counter command) (each.unpairs k counter above, each.acts k counter command above)

judged-carries : (P : Ruling → Type 0) (rules : List Rule) (ledger : List Change) → EachAnswer P rules ledger → (k : Known) (frame : Gpdf) → floor ledger k.row ≡ k.floor → P (judged rules k frame)
unfolding judged
judged-carries P rules ledger each k frame is =
    at_lines P (key_lines k frame) (let_else (opened k.values.key.0 frame) (drops BadTag) (λ (c : List ℕ). counted rules k (counter_of frame) c))
    (each.drops _, (each.drops _, opens (opened k.values.key.0 frame)))
  where
    opens : (o : Option (List ℕ)) → P (let_else o (drops BadTag) (λ (c : List ℕ). counted rules k (counter_of frame) c))
    opens None = each.drops (Plain BadTag)
    opens (Some command) = counted-carries P rules ledger each k (counter_of frame) command is

secured-carries : (P : Ruling → Type 0) (rules : List Rule) (ledger : List Change) → EachAnswer P rules ledger → (frame : Gpdf) → P (secured rules ledger frame)
unfolding secured
secured-carries P rules ledger each frame = at (current ledger (source_of frame))
  where
    at : (o : Option (ℕ × Values)) →
        P (let_else (option_map (λ (found : ℕ × Values). record { row = found.0; values = found.1; floor = floor ledger found.0 }) o) (drops Unknown) (λ (k : Known). judged rules k frame))
    at None = each.drops (Plain Unknown)
    at (Some found) = judged-carries P rules ledger each (record { row = found.0; values = found.1; floor = floor ledger found.0 }) frame refl

clear-carries : (P : Ruling → Type 0) (rules : List Rule) (ledger : List Change) → EachAnswer P rules ledger → (body : List ℕ) → P (clear body)
unfolding clear
clear-carries P rules ledger each body = at_lines P (clear_lines body) (drops Unsecured) (each.refuses NotListening, each.drops (Plain Unsecured))

pub heard-carries : (P : Ruling → Type 0) (rules : List Rule) (ledger : List Change) → EachAnswer P rules ledger → (octets : List ℕ) → P (heard rules ledger octets)
unfolding heard of_frame
heard-carries P rules ledger each octets = read (reading octets)
  where
    read : (r : Result Mpdu FrameReason) → P (let_ok r (λ (reason : FrameReason). says (Dropped (malformed reason))) (λ (mpdu : Mpdu). of_frame rules ledger mpdu.frame))
    read (Err reason) = each.drops (malformed reason)
    read (Ok mpdu) =
        at_lines P (frame_lines mpdu.frame) (secured rules ledger mpdu.frame)
        (each.drops _, (clear-carries P rules ledger each mpdu.frame.body, secured-carries P rules ledger each mpdu.frame))

-- and of each answer where a device is to be paired
pub paired-carries : (P : Ruling → Type 0) (config : Config) (ledger : List Change) (values : Values) (counter : ℕ) → ((reason : Refusal) → P (says (Refused reason))) → P (says Full) →
    P (pairs config ledger values counter) → P (paired config ledger values counter)
unfolding paired
paired-carries P config ledger values counter refuses full takes =
    at_lines P (offer_lines values counter) (by_table (room_lines ledger values) (pairs config ledger values counter))
    (refuses BadSource, (refuses CounterEnd, at_lines P (room_lines ledger values) (pairs config ledger values counter) (full, takes)))

-- ---- what they take

-- of every row the ruling takes what lies between the floors before and after its change
abbrev pub RulingMoves : List Change → Ruling → Type 0
RulingMoves ledger ruling = (row : ℕ) → Moves (floor ledger row) (floor (with_change ruling.change ledger) row) (takings_in row (verdict_reports ruling.verdict))

-- one counter of one row moves from its floor, and no other row moves
one_moves : (ledger : List Change) (x : Change) (at counter row : ℕ) → row_of x ledger ≡ at → counter_in x ≡ counter → floor ledger at < counter →
    Moves (floor ledger row) (floor (x ∷ ledger) row) (and_then (if at == row then Some counter else None) [])
one_moves ledger x at counter row is has above = elim (cases_eq at row) [
  | inl e ↦ subst (λ (o : Option ℕ). Moves (floor ledger row) (floor (x ∷ ledger) row) (and_then o [])) (sym (if_eq at row (Some counter) None e))
      (let here = floor-here x ledger row (is ∙ e) in let from : floor ledger row < counter = subst (λ (n : ℕ). floor ledger n < counter) e above in
      (from, omega arith))
  | inr n ↦ subst (λ (o : Option ℕ). Moves (floor ledger row) (floor (x ∷ ledger) row) (and_then o [])) (sym (if_other at row (Some counter) None n))
      (floor-grows x ledger row)
]

acted-moves : (rules : List Rule) (ledger : List Change) (k : Known) (counter : ℕ) (command : List ℕ) → floor ledger k.row < counter → RulingMoves ledger (acted rules k counter command)
unfolding takings_in
acted-moves rules ledger k counter command above row =
    rw (steady-take_nothing row (map act_report (acts rules k.values.src command)) (acts-steady (acts rules k.values.src command))) (one_moves ledger (Accept k.row counter) k.row counter row refl refl above)

unpaired-moves : (ledger : List Change) (k : Known) (counter : ℕ) → floor ledger k.row < counter → RulingMoves ledger (unpaired k counter)
unfolding takings_in
unpaired-moves ledger k counter above row = one_moves ledger (Retire k.row counter) k.row counter row refl refl above

pub heard-moves : (rules : List Rule) (ledger : List Change) (octets : List ℕ) → RulingMoves ledger (heard rules ledger octets)
unfolding takings_in
heard-moves rules ledger octets = heard-carries (RulingMoves ledger) rules ledger (record {
  drops = λ cause row. omega arith;
  refuses = λ reason row. omega arith;
  acts = acted-moves rules ledger;
  unpairs = unpaired-moves ledger;
}) octets

pub paired-moves : (config : Config) (ledger : List Change) (values : Values) (counter : ℕ) → RulingMoves ledger (paired config ledger values counter)
unfolding takings_in
paired-moves config ledger values counter =
    paired-carries (RulingMoves ledger) config ledger values counter (λ reason row. omega arith) (λ row. omega arith) (λ row. floor-grows (Pair values counter) ledger row)
