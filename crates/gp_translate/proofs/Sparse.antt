-- A rule that isn't refused leaves no command of a device with more than four rules.
use Rattle.std.proofs.Common.{◌≡◌, ℕ, ◌+◌, ◌<◌, ◌≤◌, Bool, true, false, not, ◌&&◌, eqb, leb, cond, List, [], ◌∷◌, ◌++◌, length, Option, Some, None, refl, sym, ap, subst, ◌∙◌, ⊎_elim, arith, length-append}
use Rattle.std.specs.Prelude.{◌==◌}
use Rattle.std.specs.List.{list_any, list_all}
use Rattle.std.proofs.lemmas.Bool.{and_parts, and_from, and_right, or_parts, or_cases, eqb-true, leb-false, not-false, cases_Bool}
use Rattle.std.proofs.lemmas.List.Sums.{sum_by-cons, sum_by_push}
use Rattle.std.proofs.lemmas.List.Folds.{list_all-append}
use Rattle.gp_base.specs.declared.identity.Src.{Src}
use Rattle.gp_base.proofs.Tables.{first_of-none}
use Rattle.gp_translate.specs.declared.rule.Rule.{Rule}
use Rattle.gp_translate.specs.Rules.{MOST, CAPACITY, is_for, concerns, how_many, is_full, has_form, is_crowded, reasons, refusal, AreRules}

-- a source is this device, and none at all
abbrev pub names : Src → Option Src → Bool
names device None = false
names device (Some own) = own.0 == device.0

abbrev pub is_general : Option Src → Bool
is_general None = true
is_general (Some own) = false

same : (own device : Src) → eqb own.0 device.0 ≡ true → own ≡ device
same own device e = let number : own.0 ≡ device.0 = eqb-true own.0 device.0 e in ap (λ (n : ℕ). let src : Src = record { 0 = n } in src) number

for_all_alone : (device : Src) (source : Option Src) → names device source ≡ false → is_for source (Some device) ≡ is_for source None
for_all_alone device None h = refl
for_all_alone device (Some own) h = h

-- where no rule names a device, those for it are those for all devices
general_alone : (device : Src) (command : ℕ) (rules : List Rule) → list_any (λ rule. names device rule.source) rules ≡ false → how_many (Some device) command rules ≡ how_many None command rules
general_alone device command [] h = refl
general_alone device command (rule ∷ rules) h =
    let parts = or_parts (names device rule.source) (list_any (λ other. names device other.source) rules) h in
    let here : cond (concerns (Some device) command rule) 1 0 ≡ cond (concerns None command rule) 1 0 = ap (λ (b : Bool). let n : ℕ = cond (rule.command == command && b) 1 0 in n) (for_all_alone device rule.source parts.0) in
    sum_by-cons (λ other. cond (concerns (Some device) command other) 1 0) rule rules
    ∙ (ap (λ (n : ℕ). n + how_many (Some device) command rules) here
    ∙ (ap (λ (n : ℕ). cond (concerns None command rule) 1 0 + n) (general_alone device command rules parts.1)
    ∙ sym (sum_by-cons (λ other. cond (concerns None command other) 1 0) rule rules)))

not_general : (source : Option Src) → is_general source ≡ false → is_for source None ≡ false
not_general None h = h
not_general (Some own) h = refl

-- where each rule names a device, none is for all
none_general : (command : ℕ) (rules : List Rule) → list_any (λ rule. is_general rule.source) rules ≡ false → how_many None command rules ≡ 0
none_general command [] h = refl
none_general command (rule ∷ rules) h =
    let parts = or_parts (is_general rule.source) (list_any (λ other. is_general other.source) rules) h in
    let here : cond (concerns None command rule) 1 0 ≡ 0 = ap (λ (b : Bool). let n : ℕ = cond b 1 0 in n) (and_right (rule.command == command) (is_for rule.source None) (not_general rule.source parts.0)) in
    omega (arith, sum_by-cons (λ other. cond (concerns None command other) 1 0) rule rules, here, none_general command rules parts.1)

-- no device of some rules has as many as may be
at_named : (device : Src) (command : ℕ) (rules among : List Rule) → list_any (λ other. is_full other.source command rules) among ≡ false → list_any (λ other. names device other.source) among ≡ true → is_full (Some device) command rules ≡ false
at_named device command rules [] h e = absurd cc
at_named device command rules (rule ∷ among) h e =
    let parts = or_parts (is_full rule.source command rules) (list_any (λ other. is_full other.source command rules) among) h in
    ⊎_elim
    (λ here. named rule.source here parts.0)
    (λ later. at_named device command rules among parts.1 later)
    (or_cases (names device rule.source) (list_any (λ other. names device other.source) among) e)
  where
    named : (source : Option Src) → names device source ≡ true → is_full source command rules ≡ false → is_full (Some device) command rules ≡ false
    named None here free = absurd cc
    named (Some own) here free = subst (λ (x : Src). is_full (Some x) command rules ≡ false) (same own device here) free

at_general : (command : ℕ) (rules among : List Rule) → list_any (λ other. is_full other.source command rules) among ≡ false → list_any (λ other. is_general other.source) among ≡ true → is_full None command rules ≡ false
at_general command rules [] h e = absurd cc
at_general command rules (rule ∷ among) h e =
    let parts = or_parts (is_full rule.source command rules) (list_any (λ other. is_full other.source command rules) among) h in
    ⊎_elim
    (λ here. general rule.source here parts.0)
    (λ later. at_general command rules among parts.1 later)
    (or_cases (is_general rule.source) (list_any (λ other. is_general other.source) among) e)
  where
    general : (source : Option Src) → is_general source ≡ true → is_full source command rules ≡ false → is_full None command rules ≡ false
    general None here free = free
    general (Some own) here free = absurd cc

free : (device : Option Src) (command : ℕ) (rules : List Rule) → is_full device command rules ≡ false → how_many device command rules < MOST
unfolding is_full
free device command rules h = leb-false MOST (how_many device command rules) h

-- and so no device at all has
few_for : (device : Src) (command : ℕ) (rules : List Rule) → list_any (λ other. is_full other.source command rules) rules ≡ false → how_many (Some device) command rules < MOST
few_for device command rules h =
    ⊎_elim
    (λ here. free (Some device) command rules (at_named device command rules rules h here))
    (λ nowhere. subst (λ (n : ℕ). n < MOST) (sym (general_alone device command rules nowhere))
    (⊎_elim
    (λ here. free None command rules (at_general command rules rules h here))
    (λ nowhere. omega (arith, none_general command rules nowhere))
    (cases_Bool (list_any (λ other. is_general other.source) rules))))
    (cases_Bool (list_any (λ other. names device other.source) rules))

has_room : (rules : List Rule) (rule : Rule) (source : Option Src) (device : Src) → is_crowded rules rule source ≡ false → is_for source (Some device) ≡ true → how_many (Some device) rule.command rules < MOST
has_room rules rule None device h e = few_for device rule.command rules h
has_room rules rule (Some own) device h e =
    subst (λ (x : Src). how_many (Some x) rule.command rules < MOST) (same own device e) (free (Some own) rule.command rules h)

-- the rules with one more
sparse_push : (rules : List Rule) (rule : Rule) → ((device : Src) (command : ℕ) → how_many (Some device) command rules ≤ MOST) → is_crowded rules rule rule.source ≡ false → (device : Src) (command : ℕ) → how_many (Some device) command (rules ++ rule ∷ []) ≤ MOST
sparse_push rules rule sparse h device command =
    let pushed = sum_by_push (λ other. cond (concerns (Some device) command other) 1 0) rules rule in
    let before = sparse device command in
    subst (λ (n : ℕ). n ≤ MOST) (sym pushed)
    (⊎_elim
    (λ here. let parts = and_parts (rule.command == command) (is_for rule.source (Some device)) here in
    let room = subst (λ (c : ℕ). how_many (Some device) c rules < MOST) (eqb-true rule.command command parts.0) (has_room rules rule rule.source device h parts.1) in
    subst (λ (b : Bool). how_many (Some device) command rules + cond b 1 0 ≤ MOST) (sym here) (omega (arith, room)))
    (λ away. subst (λ (b : Bool). how_many (Some device) command rules + cond b 1 0 ≤ MOST) (sym away) (omega (arith, before)))
    (cases_Bool (concerns (Some device) command rule)))

pub rules_push : (rules : List Rule) (rule : Rule) → AreRules rules → refusal rules rule ≡ None → AreRules (rules ++ rule ∷ [])
rules_push rules rule are fine =
    let tests : (not (has_form rule) ≡ false) × ((leb CAPACITY (length rules) ≡ false) × ((is_crowded rules rule rule.source ≡ false) × Unit {0})) = first_of-none (reasons rules rule) fine in
    record {
      formed = list_all-append has_form rules (rule ∷ []) ∙ and_from (list_all has_form rules) (has_form rule && true) are.formed (and_from (has_form rule) true (not-false (has_form rule) tests.0) refl);
      few = omega (arith, length-append rules (rule ∷ []), leb-false CAPACITY (length rules) tests.1.0);
      sparse = sparse_push rules rule are.sparse tests.1.1.0;
    }
