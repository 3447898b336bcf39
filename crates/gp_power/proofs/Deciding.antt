-- The bit that a crashed image decides.
use Rattle.std.proofs.Common.{◌≡◌, ⊎_elim, ℕ, Bool, true, false, List, ◌∷◌, Option, Some, ◌||◌, refl, sym, ◌∙◌, ap, subst}
use Rattle.gp_disk.specs.declared.memory.MemoryDisk.{MemoryDisk}
use Rattle.gp_disk.specs.Memory.{memory_may_leave}
use Rattle.gp_rows.specs.declared.row.Row.{Row}
use Rattle.gp_rows.specs.Changes.{with_row}
use Rattle.gp_store.specs.State.{State}
use Rattle.gp_store.specs.Image.{HoldsRows}
use Rattle.gp_store.specs.Held.{IsRowOf}
use Rattle.gp_store.proofs.OneList.{one_list}
use Rattle.gp_ideal.specs.declared.ledger.Change.{Change}
use Rattle.gp_sink.specs.Fits.{Fits, ImageFits}
use Rattle.gp_power.specs.Inside.{Repeats, DecidesOf}
use Rattle.gp_power.specs.Stands.{IsOpen}
use Rattle.gp_power.proofs.Twice.{written, written_same, twice, repeated}

-- what was looked up: whether the rows repeat the change, and whether the image holds its row
pub record Looks (rows : List Row) (image : List ℕ) (at : ℕ) (value : Row) (once found : Bool) : Type 0 where
  pub repeats : once ≡ true → Repeats rows at value
  pub repeats_not : once ≡ false → Repeats rows at value → ⊥
  pub row : Option Row
  pub is_row : IsRowOf image at row
  pub is_there : found ≡ true → row ≡ Some value
  pub is_not_there : found ≡ false → row ≡ Some value → ⊥

module _ (store : State MemoryDisk) (ledger : List Change) (change : Change) (o : IsOpen store ledger change) (c : List ℕ) (left : memory_may_leave store.disk c) where
  with_change : HoldsRows c (with_row store.rows o.at o.value) → ImageFits (change ∷ ledger) c
  with_change h = (with_row store.rows o.at o.value, h, o.after)

  -- the rows repeat the change
  pub decides_repeated : Repeats store.rows o.at o.value → DecidesOf true change ledger c
  decides_repeated r = record {
    chosen = ⊎_elim (λ h. (store.rows, h, repeated store.rows ledger change o.at o.value o.before o.after o.place o.within r)) with_change (o.images c left);
    exactly = λ e. absurd cc;
  }

  -- the image holds the change's row
  pub decides_there : (held : Option Row) → IsRowOf c o.at held → held ≡ Some o.value → DecidesOf true change ledger c
  decides_there held is e = record {
    chosen = ⊎_elim
        (λ h. (store.rows, h, subst (λ (l : List Row). Fits l (change ∷ ledger)) (written_same store.rows o.at o.value (sym (is store.rows h) ∙ e)) o.after))
        with_change (o.images c left);
    exactly = λ e. absurd cc;
  }

  -- the image doesn't hold it, and the rows don't repeat it
  pub decides_not : (held : Option Row) → IsRowOf c o.at held → (held ≡ Some o.value → ⊥) → (Repeats store.rows o.at o.value → ⊥) → DecidesOf false change ledger c
  decides_not held is other once =
      let before : HoldsRows c store.rows = ⊎_elim (λ h. h) (λ h. absurd (other (is (with_row store.rows o.at o.value) h ∙ written store.rows o.at o.value o.within))) (o.images c left) in
      record {
        chosen = (store.rows, before, o.before);
        exactly = λ e fits. once (twice store.rows ledger change o.at o.value o.before o.after o.place o.within o.due (subst (λ (l : List Row). Fits l (change ∷ ledger)) (one_list c fits.0 store.rows fits.1 before) fits.2));
      }

  decides_either : (once found : Bool) → Looks store.rows c o.at o.value once found → DecidesOf (once || found) change ledger c
  decides_either true found l = decides_repeated (l.repeats refl)
  decides_either false true l = decides_there l.row l.is_row (l.is_there refl)
  decides_either false false l = decides_not l.row l.is_row (l.is_not_there refl) (l.repeats_not refl)

  -- what was looked up decides
  pub decides_bit : (at : ℕ) (value : Row) (once found : Bool) → store.undecided ≡ Some (at, value) → Looks store.rows c at value once found → DecidesOf (once || found) change ledger c
  decides_bit at value once found told l =
      let both : Some (at, value) ≡ Some (o.at, o.value) = sym told ∙ o.told in
      let same : (at, value) ≡ (o.at, o.value) = cc in
      let place : at ≡ o.at = ap (λ (p : ℕ × Row). p.0) same in
      let row : value ≡ o.value = ap (λ (p : ℕ × Row). p.1) same in
      decides_either once found (subst (λ (n : ℕ). Looks store.rows c n o.value once found) place (subst (λ (v : Row). Looks store.rows c at v once found) row l))
