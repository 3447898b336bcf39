-- Tables of tests, one behind the other; and a reason or a value.
use Rattle.std.proofs.Common.{◌≡◌, Bool, true, false, cond, List, [], ◌∷◌, ◌++◌, Option, Some, None, Result, refl, sym, subst}
use Rattle.std.specs.Prelude.{IfOk, IfErr}
use Rattle.gp_base.specs.Table.{first_of, by_table, answer}

-- the first of two tables decides where one of its tests holds
pub first_of-append-some : {A : Type 0} (front back : List (Bool × A)) (found : A) → first_of front ≡ Some found → first_of (front ++ back) ≡ Some found
first_of-append-some [] back found h = absurd cc
first_of-append-some ((true, a) ∷ front) back found h = h
first_of-append-some ((false, a) ∷ front) back found h = first_of-append-some front back found h

-- and the second where none of them does
pub first_of-append-none : {A : Type 0} (front back : List (Bool × A)) → first_of front ≡ None → first_of (front ++ back) ≡ first_of back
first_of-append-none [] back h = refl
first_of-append-none ((true, a) ∷ front) back h = absurd cc
first_of-append-none ((false, a) ∷ front) back h = first_of-append-none front back h

-- where no test of two tables holds, none of either does
pub first_of-append-both : {A : Type 0} (front back : List (Bool × A)) → first_of (front ++ back) ≡ None → (first_of front ≡ None) × (first_of back ≡ None)
first_of-append-both [] back h = (refl, h)
first_of-append-both ((true, a) ∷ front) back h = absurd cc
first_of-append-both ((false, a) ∷ front) back h = first_of-append-both front back h

-- a property holds of what stands in each line of a table
abbrev pub AtLines : {A : Type 0} → (A → Type 0) → List (Bool × A) → A → Type 0
AtLines P [] otherwise = P otherwise
AtLines P (line ∷ lines) otherwise = P line.1 × AtLines P lines otherwise

-- and so it holds of what a table gives
pub at_lines : {A : Type 0} (P : A → Type 0) (lines : List (Bool × A)) (otherwise : A) → AtLines P lines otherwise → P (by_table lines otherwise)
at_lines P [] otherwise h = h
at_lines P ((true, a) ∷ lines) otherwise h = h.0
at_lines P ((false, a) ∷ lines) otherwise h = at_lines P lines otherwise h.1

-- no test of a table holds
abbrev pub AreFalse : {A : Type 0} → List (Bool × A) → Type 0
AreFalse [] = Unit {0}
AreFalse (line ∷ lines) = (line.0 ≡ false) × AreFalse lines

pub first_of-none : {A : Type 0} (lines : List (Bool × A)) → first_of lines ≡ None → AreFalse lines
first_of-none [] h = tt
first_of-none ((true, a) ∷ lines) h = absurd cc
first_of-none ((false, a) ∷ lines) h = (refl, first_of-none lines h)

-- no reason in the first line of a table
pub first_none : {X : Type 0} (test : Bool) (x : X) (rest : Option X) → cond test (Some x) rest ≡ None → (test ≡ false) × (rest ≡ None)
first_none true x rest e = absurd cc
first_none false x rest e = (refl, e)

-- what is answered is the value, where there is no reason
pub answer_finds : {X E : Type 0} (reason : Option E) (value : X) (P : X → Type 0) (r : Result X E) → (reason ≡ None → P value) → r ≡ answer reason value → IfOk r P
answer_finds {X} {E} None value P r h e = subst (λ (x : Result X E). IfOk x P) (sym e) (h refl)
answer_finds {X} {E} (Some a) value P r h e = subst (λ (x : Result X E). IfOk x P) (sym e) tt

-- and else the reason
pub answer_refuses : {X E : Type 0} (reason : Option E) (value : X) (r : Result X E) → r ≡ answer reason value → IfErr r (λ told. reason ≡ Some told)
answer_refuses {X} {E} None value r e = subst (λ (x : Result X E). IfErr x (λ told. None ≡ Some told)) (sym e) tt
answer_refuses {X} {E} (Some a) value r e = subst (λ (x : Result X E). IfErr x (λ told. Some a ≡ Some told)) (sym e) refl
