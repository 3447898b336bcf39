-- The rules that a sink begins with are rules: each has its form, and no two are about one command.
use Rattle.std.proofs.Common.{◌≡◌, ℕ, ◌+◌, ◌≤◌, Bool, true, false, ◌&&◌, eqb, ltb, cond, List, [], ◌∷◌, map, Some, refl, ap, subst, ◌∙◌, ⊎_elim, arith}
use Rattle.std.specs.List.{list_all}
use Rattle.std.proofs.lemmas.Bool.{and_parts, ltb-true, eqb-true, ne_eqb, cases_Bool}
use Rattle.std.proofs.lemmas.List.Sums.{sum_by-cons}
use Rattle.gp_base.specs.declared.identity.Src.{Src}
use Rattle.gp_translate.specs.declared.rule.Rule.{Rule}
use Rattle.gp_translate.specs.Meanings.{identifiers, has_meaning}
use Rattle.gp_translate.specs.Rules.{concerns, how_many, standard_rule, standard, AreRules}

-- the identifiers rise
abbrev rise : List ℕ → Bool
rise [] = true
rise (id ∷ ids) = list_all (λ other. ltb id other) ids && rise ids

-- how many rules are about a command, with one more before them
one_more : (device : Src) (command id : ℕ) (ids : List ℕ) (here : Bool) → eqb id command ≡ here → how_many (Some device) command (map standard_rule (id ∷ ids)) ≡ cond (here && true) 1 0 + how_many (Some device) command (map standard_rule ids)
one_more device command id ids here e =
    sum_by-cons (λ (rule : Rule). cond (concerns (Some device) command rule) 1 0) (standard_rule id) (map standard_rule ids)
    ∙ ap (λ (b : Bool). cond (b && true) 1 0 + how_many (Some device) command (map standard_rule ids)) e

-- where all identifiers are above a command, no rule is about it
none_above : (device : Src) (command : ℕ) (ids : List ℕ) → list_all (λ other. ltb command other) ids ≡ true → how_many (Some device) command (map standard_rule ids) ≡ 0
none_above device command [] h = refl
none_above device command (id ∷ ids) h =
    let parts = and_parts (ltb command id) (list_all (λ other. ltb command other) ids) h in
    let above = ltb-true command id parts.0 in
    let apart = ne_eqb id command (λ e. omega (arith, e, above)) in
    let later = none_above device command ids parts.1 in
    let first = one_more device command id ids false apart in
    omega (arith, first, later)

-- and where they rise, at most one is
at_most_one : (device : Src) (command : ℕ) (ids : List ℕ) → rise ids ≡ true → how_many (Some device) command (map standard_rule ids) ≤ 1
at_most_one device command [] h = omega arith
at_most_one device command (id ∷ ids) h =
    let parts = and_parts (list_all (λ other. ltb id other) ids) (rise ids) h in
    ⊎_elim
    (λ here. let same = eqb-true id command here in
    let later = subst (λ (c : ℕ). how_many (Some device) c (map standard_rule ids) ≡ 0) same (none_above device id ids parts.0) in
    omega (arith, one_more device command id ids true here, later))
    (λ away. omega (arith, one_more device command id ids false away, at_most_one device command ids parts.1))
    (cases_Bool (eqb id command))

pub standard_are : AreRules standard
unfolding standard identifiers has_meaning
standard_are = record {
  formed = refl;
  few = omega arith;
  sparse = λ device command. omega (arith, at_most_one device command identifiers refl);
}
