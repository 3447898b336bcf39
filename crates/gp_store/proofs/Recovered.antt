-- What is known where all rows have been read, or an ill slot was met.
use Rattle.std.proofs.Common.{◌≡◌, inl, inr, ℕ, ◌<◌, ◌≤◌, Bool, true, false, List, Option, Some, None, length, refl, sym, ◌∙◌, ap, subst, arith, slice_get}
use Rattle.std.proofs.lemmas.Bool.{cases_lt}
use Rattle.std.proofs.lemmas.Bool.Decides.{nat_tests}
use Rattle.std.proofs.lemmas.Option.{slice_get_past}
use Rattle.gp_store.specs.declared.found.Found.{Found}
use Rattle.gp_store.specs.Slots.{Slots, slot_number, newer, newest, IsWell, IsFirstIll}
use Rattle.gp_store.specs.Image.{slots, format_1, IsFormatted, HoldsRow, HoldsRows, HasLast}
use Rattle.gp_store.specs.Reading.{Reads, EndsIll}
use Rattle.gp_store.specs.Kept.{IsTold}

-- the first ill slot
pub first_ill : (v : Slots) (row : ℕ) (side : Bool) (number : ℕ) → EndsIll v row side → number ≡ slot_number row side → IsFirstIll v number
first_ill v row side number ends is = record {
  row = row;
  side = side;
  is_number = is;
  ill = ends.ill;
  well_before = λ r s o h e. elim (cases_lt r row) [
    | inl less ↦ ends.well_before r s o less e
    | inr most ↦ of_side side s ends is h e (same_row side s r is h most)
  ];
}
  where
    same_row : (x s : Bool) (r : ℕ) → number ≡ slot_number row x → slot_number r s < number → row ≤ r → (r ≡ row) × (x ≡ true) × (s ≡ false)
    same_row true false r e h most = (omega (arith, e, h, most), refl, refl)
    same_row true true r e h most = absurd (omega (arith, e, h, most))
    same_row false false r e h most = absurd (omega (arith, e, h, most))
    same_row false true r e h most = absurd (omega (arith, e, h, most))

    of_side : (x s : Bool) {r : ℕ} {o : List ℕ} → EndsIll v row x → number ≡ slot_number row x → slot_number r s < number → v r s ≡ Some o → (r ≡ row) × (x ≡ true) × (s ≡ false) → IsWell v r s o
    of_side x s {r} {o} ends is h e here =
        subst (λ q. IsWell v q s o) (sym here.0) (subst (λ t. IsWell v row t o) (sym here.2)
        (ends.well_even here.1 o (sym (ap (λ t. v row t) here.2) ∙ sym (ap (λ q. v q s) here.0) ∙ e)))

-- there is no slot past the last row
pub past : (d : List ℕ) (r : ℕ) (s : Bool) → 1024 ≤ r → slots format_1 d r s ≡ None
unfolding slots
past d r s h = grind (arith, nat_tests)

none_is_not : (x : List ℕ) → None ≡ Some x → ⊥
none_is_not x h = cc

module _ (d : List ℕ) (found : Found) (long : 204800 ≤ length d) (formatted : IsFormatted d) (reads : Reads (slots format_1 d) 1024 found) where
  within : (r : ℕ) (s : Bool) (o : List ℕ) → slots format_1 d r s ≡ Some o → r < 1024
  within r s o e = elim (cases_lt r 1024) [ inl less ↦ less | inr most ↦ absurd (none_is_not o (sym (past d r s most) ∙ e)) ]

  none_newest : (r : ℕ) → 1024 ≤ r → newest (slots format_1 d) r ≡ None
  none_newest r most = ap (λ (x : Option (List ℕ)). newer x (slots format_1 d r true)) (past d r false most) ∙ past d r true most

  each : (r : ℕ) → HoldsRow 0 (newest (slots format_1 d) r) (slice_get found.table r)
  each r = elim (cases_lt r 1024) [
    | inl less ↦ reads.each r less
    | inr most ↦ subst (λ x. HoldsRow 0 x (slice_get found.table r)) (sym (none_newest r most)) (subst (λ y. HoldsRow 0 None y) (sym (slice_get_past found.table r (let few = reads.few in omega (arith, few, most)))) tt)
  ]

  pub all_held : HoldsRows d found.table
  unfolding HoldsRows
  all_held = record { size = long; formatted = formatted; consistent = λ r s o e. reads.well r s o (within r s o e) e; each = each }

  pub all_last : HasLast d found.last
  unfolding HasLast
  all_last = record { greatest = λ r s o e. reads.greatest r s o (within r s o e) e; reached = reads.reached }

  pub all_told : IsTold d found.table found.stale.items found.last
  all_told = record { holds = all_held; has_last = all_last; each = λ r s is. let p = reads.stales r s is in record { newest_is_other = p.0; tells = p.1 } }

-- no slot is open past the last row
pub none_newest_of : (d : List ℕ) (r : ℕ) → 1024 ≤ r → newest (slots format_1 d) r ≡ None
none_newest_of d r most = ap (λ (x : Option (List ℕ)). newer x (slots format_1 d r true)) (past d r false most) ∙ past d r true most
