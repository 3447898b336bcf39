-- Each value has an octet.
use Rattle.std.proofs.Common.{◌≡◌, ℕ, ◌<◌, Bool, true, false, cond, ltb, List, [], ◌∷◌, Some, refl, subst, arith, inl, inr}
use Rattle.std.specs.Prelude.{◌&&◌, ◌⊎◌}
use Rattle.std.proofs.lemmas.Bool.{ltb-true, and_parts}
use Rattle.std.proofs.lemmas.Option.{same_Some}
use Rattle.gp_commands.specs.declared.value.ValueSize.{ValueSize}
use Rattle.gp_commands.specs.declared.value.ValueSize.TheVariants.{Rising, Fixed, Counted}
use Rattle.gp_commands.specs.Values.{ValueLine}
use Rattle.gp_commands.specs.Values.{value_types, has_kind, size_as, size_by, size_in, value_size}

abbrev is_positive : ValueSize → Bool
is_positive Rising = true
is_positive (Fixed octets) = ltb 0 octets
is_positive Counted = true

abbrev are_positive : List ValueLine → Bool
are_positive [] = true
are_positive (line ∷ lines) = is_positive line.size && are_positive lines

size_as_positive : (size : ValueSize) (lowest kind first : ℕ) → is_positive size ≡ true → 0 < size_as size lowest kind first
size_as_positive Rising lowest kind first h = omega arith
size_as_positive (Fixed octets) lowest kind first h = ltb-true 0 octets h
size_as_positive Counted lowest kind first h = omega arith

chosen : {A : Type 0} (b : Bool) (x y z : A) → cond b x y ≡ z → ((b ≡ true) × (x ≡ z)) ⊎ ((b ≡ false) × (y ≡ z))
chosen true x y z e = inl (refl, e)
chosen false x y z e = inr (refl, e)

size_in_positive : (lines : List ValueLine) (kind first size : ℕ) → are_positive lines ≡ true → size_in lines kind first ≡ Some size → 0 < size
size_in_positive [] kind first size h e = absurd cc
size_in_positive (line ∷ lines) kind first size h e =
    let parts = and_parts (is_positive line.size) (are_positive lines) h in
    elim (chosen (has_kind line kind) (Some (size_by line kind first)) (size_in lines kind first) (Some size) e) [
      | inl here ↦ subst (λ (k : ℕ). 0 < k) (same_Some _ _ here.1) (size_as_positive line.size line.first kind first parts.0)
      | inr later ↦ size_in_positive lines kind first size parts.1 later.1
    ]

pub value_size_positive : (kind first size : ℕ) → value_size kind first ≡ Some size → 0 < size
unfolding value_types value_size
value_size_positive kind first size e = size_in_positive value_types kind first size refl e
