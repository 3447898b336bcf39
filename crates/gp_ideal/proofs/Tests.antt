-- Tests, tables of them, and places in lists.
use Rattle.std.proofs.Common.{◌≡◌, ◌⊎◌, inl, inr, ℕ, zero, suc, ◌<◌, Bool, true, false, not, nat_le, List, [], ◌∷◌, ◌++◌, Some, refl, arith, slice_get}
use Rattle.std.proofs.lemmas.Bool.Decides.{nat_tests}
use Rattle.gp_base.specs.Table.{by_table}
use Rattle.gp_ideal.specs.Heard.{differ}
use Rattle.gp_ideal.proofs.Pairs.{cond_false}

-- a table whose first test doesn't hold is the rest of it
pub by_table-skip : {A : Type 0} (test : Bool) (x : A) (lines : List (Bool × A)) (otherwise : A) → test ≡ false → by_table ((test, x) ∷ lines) otherwise ≡ by_table lines otherwise
by_table-skip test x lines otherwise e = cond_false test x (by_table lines otherwise) e

pub not-true : (b : Bool) → b ≡ true → not b ≡ false
not-true true e = refl
not-true false e = absurd cc

pub not-false_is : (b : Bool) → not b ≡ false → b ≡ true
not-false_is true e = refl
not-false_is false e = absurd cc

pub differ-same : (a b : Bool) → a ≡ b → differ a b ≡ false
differ-same true true e = refl
differ-same false false e = refl
differ-same true false e = absurd cc
differ-same false true e = absurd cc

pub same-differ : (a b : Bool) → differ a b ≡ false → a ≡ b
same-differ true true e = refl
same-differ false false e = refl
same-differ true false e = absurd cc
same-differ false true e = absurd cc

pub below : (a b : ℕ) → nat_le a b ≡ false → b < a
below a b h = grind (arith, nat_tests)

pub not_below : (a b : ℕ) → b < a → nat_le a b ≡ false
not_below a b h = grind (arith, nat_tests)

-- an item of two lists stands in the one or the other
pub which_list : {A : Type 0} (xs ys : List A) (i : ℕ) (x : A) → slice_get (xs ++ ys) i ≡ Some x →
    (slice_get xs i ≡ Some x) ⊎ ((j : ℕ) × (slice_get ys j ≡ Some x))
which_list [] ys i x e = inr (i, e)
which_list (y ∷ xs) ys zero x e = inl e
which_list (y ∷ xs) ys (suc i) x e = which_list xs ys i x e
