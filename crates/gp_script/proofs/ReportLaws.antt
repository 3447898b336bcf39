-- A report's lines: what is read is printed so, and what is printed is read.
use Rattle.std.proofs.Common.{Result, Ok, Err, ◌≡◌, ℕ, true, List, [], ◌∷◌, ◌++◌, Option, Some, None, refl, sym, ap, subst, ◌∙◌, inl, inr}
use Rattle.std.specs.Prelude.{codes, decimal, IfOk, if◌then◌else◌}
use Rattle.std.specs.Result.{result_ok}
use Rattle.std.specs.Option.{option_map}
use Rattle.std.proofs.lemmas.List.{append-nil}
use Rattle.std.proofs.lemmas.Bool.{and_parts, and_from, cases_Bool}
use Rattle.gp_base.specs.Table.{let_else}
use Rattle.gp_script.specs.Kinds
use Rattle.gp_script.specs.Kinds.{Parse, Printed, texts, all_fit, keyed, nothing, one, two, three, five, nine, upper, source, hex, octets, number_up_to, flag, key_kind, level, mode, or_word, name, applied, whole}
use Rattle.gp_script.specs.Words.{words, line_of, is_done}
use Rattle.gp_script.specs.Script.{tested_in, number16, number32, number64}
use Rattle.gp_script.specs.Report.{entry_of, text_of, has_line, entry, entry_words, is_named, report_words, dropped_words, verdict, sent, shown, answered, powered, stood, dropped, plain, octet, address16, dest, refusal, rule_answer, frame_fault, command_fault, plain_cause}
use Rattle.gp_script.specs.declared.report.Entry.{Entry}
use Rattle.gp_script.specs.declared.report.Report.{Report}
use Rattle.gp_script.specs.declared.report.Report.TheVariants.{Paired, Unpaired, Acted, Refused, Drop, Put, Air, Zcl, Rule, Rows, Row, Closed, End, Armed, Cut, Halted, Off, Up, Dark, Running}
use Rattle.gp_script.specs.declared.report.Dropped.{Dropped}
use Rattle.gp_script.specs.declared.report.Cause.{Cause}
use Rattle.gp_script.specs.declared.report.Dropped.TheVariants.{Malformed, CommandIll, Stale, Plain}
use Rattle.gp_script.specs.declared.report.Cause.TheVariants as cause
use Rattle.gp_script.proofs.Splitting.{are_plain, words-line_of, line_of-words, ArePlain-test}
use Rattle.gp_script.proofs.KindLaws.{node_is}
use Rattle.gp_script.proofs.ReportKinds.{number16_is, number32_is, number64_is, octet_is, address_is, source_is, octets_is, flag_is, key_kind_is, level_is, mode_is, dest_is, refusal_is, rule_answer_is, frame_fault_is, command_fault_is, plain_cause_is, byte_is, four_is}
use Rattle.gp_script.proofs.FormLaws.{Back, nothing_back, one_back, two_back, three_back, five_back, nine_back, one_again, two_again, three_again, five_again, nine_again, line_back, last_back, keyed_back, made_back, applied_back, whole_back}

-- ---- what is read is printed so

abbrev Drops : List (List ℕ) → Dropped → List (List ℕ) → Type 0
Drops ws d rest = (ws ≡ texts (dropped_words d) ++ rest) × (all_fit (dropped_words d) ≡ true)

abbrev Tells : List ℕ → List (List ℕ) → Report → List (List ℕ) → Type 0
Tells keyword ws r rest = (keyword ∷ ws ≡ texts (report_words r) ++ rest) × (all_fit (report_words r) ≡ true)

plain_from : (keyword : List ℕ) (ws : List (List ℕ)) (d : Dropped) (rest : List (List ℕ)) (o : Option Cause) → plain_cause.read keyword ≡ o
    → option_map {U = Dropped × List (List ℕ)} (λ cause. (Plain cause, ws)) o ≡ Some (d, rest) → Drops (keyword ∷ ws) d rest
plain_from keyword ws d rest None h e = absurd cc
plain_from keyword ws d rest (Some cause) h e =
    let pair : (Plain cause, ws) ≡ (d, rest) = cc in
    let b = plain_cause_is.back keyword cause h in
    subst (λ (p : Dropped × List (List ℕ)). Drops (keyword ∷ ws) p.0 p.1) pair (ap (λ (k : List ℕ). k ∷ ws) b.0, refl)

plain_back : (keyword : List ℕ) → Back (plain keyword) (λ ws d rest. Drops (keyword ∷ ws) d rest)
plain_back keyword ws d rest e = plain_from keyword ws d rest (plain_cause.read keyword) refl e

dropped_back : Back dropped Drops
dropped_back = keyed_back _ Drops (λ k.
    let Fact = λ (keyword : List ℕ) (ws : List (List ℕ)) (d : Dropped) (rest : List (List ℕ)). Drops (keyword ∷ ws) d rest in
    line_back k (codes "Malformed") (two frame_fault (number_up_to 255) Malformed) _ Fact (two_back frame_fault_is byte_is _ _ (λ reason place rest fits. (refl, fits)))
    (line_back k (codes "CommandIll") (two command_fault (number_up_to 255) CommandIll) _ Fact (two_back command_fault_is byte_is _ _ (λ reason place rest fits. (refl, fits)))
    (line_back k (codes "Stale") (one number32 Stale) _ Fact (one_back number32_is _ _ (λ floor rest fits. (refl, fits)))
    (plain_back k))))

stood_back : (k : List ℕ) → Back (stood k) (Tells k)
stood_back k =
    line_back k (codes "armed") (nothing Armed) _ Tells (nothing_back _ _ (λ rest. (refl, refl)))
    (line_back k (codes "dark") (nothing Dark) _ Tells (nothing_back _ _ (λ rest. (refl, refl)))
    (line_back k (codes "running") (nothing Running) _ Tells (nothing_back _ _ (λ rest. (refl, refl)))
    (last_back k _)))

powered_back : (k : List ℕ) → Back (powered k) (Tells k)
powered_back k =
    line_back k (codes "cut") (nothing Cut) _ Tells (nothing_back _ _ (λ rest. (refl, refl)))
    (line_back k (codes "halted") (nothing Halted) _ Tells (nothing_back _ _ (λ rest. (refl, refl)))
    (line_back k (codes "off") (nothing Off) _ Tells (nothing_back _ _ (λ rest. (refl, refl)))
    (line_back k (codes "up") (one number16 Up) _ Tells (one_back number16_is _ _ (λ count rest fits. (refl, fits)))
    (stood_back k))))

answered_back : (k : List ℕ) → Back (answered k) (Tells k)
answered_back k =
    line_back k (codes "closed") (nothing Closed) _ Tells (nothing_back _ _ (λ rest. (refl, refl)))
    (line_back k (codes "end") (nothing End) _ Tells (nothing_back _ _ (λ rest. (refl, refl)))
    (powered_back k))

shown_back : (k : List ℕ) → Back (shown k) (Tells k)
shown_back k =
    line_back k (codes "rule") (one rule_answer Rule) _ Tells (one_back rule_answer_is _ _ (λ answer rest fits. (refl, fits)))
    (line_back k (codes "rows") (one number16 Rows) _ Tells (one_back number16_is _ _ (λ count rest fits. (refl, fits)))
    (line_back k (codes "row") (nine number16 (upper source) key_kind level mode address16 octet flag number32 Row) _ Tells
    (nine_back number16_is source_is key_kind_is level_is mode_is address_is octet_is flag_is number32_is _ _ (λ row src kind lvl way group device live floor rest fits. (refl, fits)))
    (answered_back k)))

sent_back : (k : List ℕ) → Back (sent k) (Tells k)
sent_back k =
    line_back k (codes "put") (three number64 dest (upper octets) Put) _ Tells (three_back number64_is dest_is octets_is _ _ (λ message to sent rest fits. (refl, fits)))
    (line_back k (codes "air") (two number64 (upper octets) Air) _ Tells (two_back number64_is octets_is _ _ (λ frame sent rest fits. (refl, fits)))
    (line_back k (codes "zcl") (five octet address16 flag octet (upper octets) Zcl) _ Tells (five_back octet_is address_is flag_is octet_is octets_is _ _ (λ endpoint cluster general id payload rest fits. (refl, fits)))
    (shown_back k)))

verdict_back : (k : List ℕ) → Back (verdict k) (Tells k)
verdict_back k =
    line_back k (codes "paired") (three number16 (upper source) number32 Paired) _ Tells (three_back number16_is source_is number32_is _ _ (λ row src floor rest fits. (refl, fits)))
    (line_back k (codes "unpaired") (three number16 (upper source) number32 Unpaired) _ Tells (three_back number16_is source_is number32_is _ _ (λ row src counter rest fits. (refl, fits)))
    (line_back k (codes "acted") (five number16 (upper source) number32 octet (number_up_to 4) Acted) _ Tells (five_back number16_is source_is number32_is octet_is four_is _ _ (λ row src counter id count rest fits. (refl, fits)))
    (line_back k (codes "refused") (one refusal Refused) _ Tells (one_back refusal_is _ _ (λ reason rest fits. (refl, fits)))
    (line_back k (codes "drop") (applied (nothing (λ cause. Drop cause)) dropped) _ Tells (made_back dropped (λ cause. Drop cause) Drops (Tells (codes "drop")) dropped_back (λ ws d rest h. (ap (λ (l : List (List ℕ)). codes "drop" ∷ l) h.0, h.1)))
    (sent_back k)))))

-- ---- what is printed is read

abbrev Rereads : {B : Type 0} → Parse B → List (List ℕ) → B → List (List ℕ) → Type 0
Rereads parse ws value rest = (parse (ws ++ rest) ≡ Some (value, rest)) × (are_plain ws ≡ true)

plain_again : (cause : Cause) (rest : List (List ℕ)) → Rereads dropped (plain_cause.text cause ∷ []) (Plain cause) rest
plain_again cause.ToDevice rest = (refl, refl)
plain_again cause.Unsecured rest = (refl, refl)
plain_again cause.NeedsProxy rest = (refl, refl)
plain_again cause.Duplicate rest = (refl, refl)
plain_again cause.Unchecked rest = (refl, refl)
plain_again cause.Unknown rest = (refl, refl)
plain_again cause.KeyBit rest = (refl, refl)
plain_again cause.LevelOther rest = (refl, refl)
plain_again cause.BadTag rest = (refl, refl)
plain_again cause.Idle rest = (refl, refl)

dropped_again : (d : Dropped) (rest : List (List ℕ)) → all_fit (dropped_words d) ≡ true → Rereads dropped (texts (dropped_words d)) d rest
dropped_again (Malformed reason place) rest fits = two_again frame_fault_is byte_is _ reason place rest fits
dropped_again (CommandIll reason place) rest fits = two_again command_fault_is byte_is _ reason place rest fits
dropped_again (Stale floor) rest fits = one_again number32_is _ floor rest fits
dropped_again (Plain cause) rest fits = plain_again cause rest

report_again : (r : Report) (rest : List (List ℕ)) → all_fit (report_words r) ≡ true → Rereads (keyed verdict) (texts (report_words r)) r rest
report_again (Paired row src floor) rest fits = three_again number16_is source_is number32_is _ row src floor rest fits
report_again (Unpaired row src counter) rest fits = three_again number16_is source_is number32_is _ row src counter rest fits
report_again (Acted row src counter id count) rest fits = five_again number16_is source_is number32_is octet_is four_is _ row src counter id count rest fits
report_again (Refused reason) rest fits = one_again refusal_is _ reason rest fits
report_again (Drop cause) rest fits = let part = dropped_again cause rest fits in (rw part.0 refl, part.1)
report_again (Put message to sent) rest fits = three_again number64_is dest_is octets_is _ message to sent rest fits
report_again (Air frame sent) rest fits = two_again number64_is octets_is _ frame sent rest fits
report_again (Zcl endpoint cluster general id payload) rest fits = five_again octet_is address_is flag_is octet_is octets_is _ endpoint cluster general id payload rest fits
report_again (Rule answer) rest fits = one_again rule_answer_is _ answer rest fits
report_again (Rows count) rest fits = one_again number16_is _ count rest fits
report_again (Row row src kind lvl way group device live floor) rest fits = nine_again number16_is source_is key_kind_is level_is mode_is address_is octet_is flag_is number32_is _ row src kind lvl way group device live floor rest fits
report_again Closed rest fits = (refl, refl)
report_again End rest fits = (refl, refl)
report_again Armed rest fits = (refl, refl)
report_again Cut rest fits = (refl, refl)
report_again Halted rest fits = (refl, refl)
report_again Off rest fits = (refl, refl)
report_again (Up count) rest fits = one_again number16_is _ count rest fits
report_again Dark rest fits = (refl, refl)
report_again Running rest fits = (refl, refl)

-- ---- the whole line

abbrev Stands : List (List ℕ) → Entry → List (List ℕ) → Type 0
Stands ws e rest = (ws ≡ texts (entry_words e) ++ rest) × (all_fit (entry_words e) ≡ true)

-- what the number and the name say of the report behind them
abbrev Leads : List (List ℕ) → (Report → Entry) → List (List ℕ) → Type 0
Leads ws make left = (report : Report) (end : List (List ℕ)) → left ≡ texts (report_words report) ++ end → all_fit (report_words report) ≡ true → Stands ws (make report) end

entry_back : Back entry Stands
entry_back = applied_back (two number64 (or_word (codes "-") name) _) (keyed verdict) Leads (λ ws r rest. (ws ≡ texts (report_words r) ++ rest) × (all_fit (report_words r) ≡ true)) Stands
    (two_back number64_is node_is _ Leads (λ line node rest fits report end e fit.
    let parts = and_parts ((Kinds.by number64 line).fits) (all_fit (Kinds.by (or_word (codes "-") name) node ∷ [])) fits in
    let second = and_parts ((Kinds.by (or_word (codes "-") name) node).fits) true parts.1 in
    (ap (λ (l : List (List ℕ)). decimal line ∷ Kinds.or_word_text (codes "-") name.text node ∷ l) e, and_from _ _ parts.0 (and_from _ _ second.0 fit))))
    (keyed_back verdict _ (λ k ws value rest e. verdict_back k ws value rest e))
    (λ ws f left r end h k. h r end k.0 k.1)

abbrev made : ℕ → Option (List ℕ) → Report → Entry
made line node report = record { line = line; node = node; report = report }

applied_again : (front : Parse (Report → Entry)) (last : Parse Report) (ws left end : List (List ℕ)) (f : Report → Entry) (r : Report) → front ws ≡ Some (f, left) → last left ≡ Some (r, end) → applied front last ws ≡ Some (f r, end)
applied_again front last ws left end f r e h = rw (e, h) refl

entry_again : (e : Entry) → all_fit (entry_words e) ≡ true → Rereads entry (texts (entry_words e)) e []
entry_again e fits =
    let first = and_parts _ _ fits in
    let second = and_parts _ _ first.1 in
    let front = two_again {R = Report → Entry} number64_is node_is made e.line e.node (texts (report_words e.report) ++ []) (and_from _ _ first.0 (and_from _ _ second.0 refl)) in
    let last = report_again e.report [] second.1 in
    let plain = and_parts _ _ front.1 in
    let plain2 = and_parts _ true plain.1 in
    (applied_again (two number64 (or_word (codes "-") name) made) (keyed verdict) (texts (entry_words e) ++ []) _ [] (made e.line e.node) e.report front.0 last.0, and_from _ _ plain.0 (and_from _ _ plain2.0 last.1))

whole_again : (ws : List (List ℕ)) (e : Entry) → entry (ws ++ []) ≡ Some (e, []) → let_else {B = Option Entry} (entry ws) None (λ found. if is_done found.1 then Some found.0 else None) ≡ Some e
whole_again ws e h = let k : entry ws ≡ Some (e, []) = subst (λ (l : List (List ℕ)). entry l ≡ Some (e, [])) (append-nil ws) h in rw k refl

tested_from : (o : Option Entry) (e : Entry) → tested_in is_named o ≡ Some e → (o ≡ Some e) × (is_named e ≡ true)
tested_from None e h = absurd cc
tested_from (Some f) e h = elim (cases_Bool (is_named f)) [
  | inl t ↦ let q : f ≡ e = cc (rw t at h) in (ap (λ (x : Entry). Some x) q, ap is_named (sym q) ∙ t)
  | inr t ↦ absurd (let k = rw t at h in cc)
]

pub printed_law : (e : Entry) → has_line e ≡ true → entry_of (text_of e) ≡ Some e
printed_law e fits =
    let both = and_parts (all_fit (entry_words e)) (is_named e) fits in
    let again = entry_again e both.0 in
    let plain = ArePlain-test (texts (entry_words e)) again.1 in
    let split = words-line_of _ _ plain.0 plain.1 in
    let found : whole entry (text_of e) ≡ Some e = ap (λ (ws : List (List ℕ)). let_else {B = Option Entry} (entry ws) None (λ found. if is_done found.1 then Some found.0 else None)) split ∙ whole_again (texts (entry_words e)) e again.0 in
    ap (tested_in is_named) found ∙ rw both.1 refl

pub read_law : (line : List ℕ) (entry : Entry) → entry_of line ≡ Some entry → (line ≡ text_of entry) × (has_line entry ≡ true)
read_law line e h =
    let tested = tested_from (whole entry line) e h in
    let found = whole_back entry Stands entry_back line e tested.0 in
    let same : words line ≡ texts (entry_words e) = found.0 ∙ append-nil (texts (entry_words e)) in
    (sym (line_of-words line) ∙ ap line_of same, and_from _ _ found.1 tested.1)

-- ---- the same of an answer

pub read_spelled : {E : Type 0} (line : List ℕ) (r : Result Entry E) → result_ok r ≡ entry_of line → IfOk r (λ entry. (line ≡ text_of entry) × (has_line entry ≡ true))
read_spelled line (Ok entry) e = read_law line entry (sym e)
read_spelled line (Err x) e = tt

pub read_only : {E : Type 0} (line : List ℕ) (r : Result Entry E) → result_ok r ≡ entry_of line → (entry : Entry) → has_line entry ≡ true → line ≡ text_of entry → result_ok r ≡ Some entry
read_only line r e entry fits is = e ∙ ap entry_of is ∙ printed_law entry fits
