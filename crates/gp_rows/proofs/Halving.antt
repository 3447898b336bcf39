-- A search by halving, one comparison at a time.
use Rattle.std.proofs.Common.{◌≡◌, ◌⊎◌, inl, inr, ℕ, ◌+◌, ◌*◌, ◌-◌, ◌^◌, ◌<◌, ◌≤◌, List, [], ◌∷◌, zero, suc, length, false, Some, None, Option, refl, sym, ◌∙◌, ap, arith, slice_get, get_or, below_more}
use Rattle.std.specs.declared.cmp.Ordering.{Ordering}
use Rattle.std.specs.declared.cmp.Ordering.TheVariants.{Less, Equal, Greater}
use Rattle.std.specs.Ordering.{is_gt, ordering_index}
use Rattle.std.proofs.Math.Nat.{mul-le-mul_left}
use Rattle.std.proofs.lemmas.Nat.{pow-add}
use Rattle.gp_rows.specs.declared.row.Row.{Row}
use Rattle.gp_rows.specs.Index.{IsAt, Rises, IsHalved}

not_greater : (o p : Ordering) → ordering_index o ≤ ordering_index p → is_gt p ≡ false → is_gt o ≡ false
not_greater Less p h k = refl
not_greater Equal p h k = refl
not_greater Greater Less h k = absurd (omega arith)
not_greater Greater Equal h k = absurd (omega arith)
not_greater Greater Greater h k = k

greater : (o p : Ordering) → ordering_index o ≤ ordering_index p → o ≡ Greater → p ≡ Greater
greater o Less h k = absurd (omega (arith, ap ordering_index k))
greater o Equal h k = absurd (omega (arith, ap ordering_index k))
greater o Greater h k = refl

pub row_at : (rows : List Row) (k : ℕ) → k < length rows → (row : Row) × (slice_get rows k ≡ Some row)
row_at [] k h = absurd (omega arith)
row_at (row ∷ rows) zero h = (row, refl)
row_at (row ∷ rows) (suc k) h = row_at rows k (omega arith)

module _ (answer : Row → Ordering) (rows : List Row) (index : List ℕ) (up : Rises answer rows index) (low high middle : ℕ) (kept : Option ℕ) (o : Ordering)
    (h : IsHalved answer rows index low high kept) (above : low ≤ middle) (below : middle < high) (is : (row : Row) → IsAt rows index middle row → o ≡ answer row) where
  found : (row : Row) × (slice_get rows (get_or index middle 0) ≡ Some row)
  found = row_at rows (get_or index middle 0) (up.within middle (omega (arith, h.inside)))

  at_middle : (i : ℕ) → i ≡ middle → (r : Row) → IsAt rows index i r → o ≡ answer r
  at_middle i e r p = is r (let at = ap (λ k. slice_get rows (get_or index k 0)) e in sym at ∙ p)

  rising : (i : ℕ) → i < middle → (r : Row) → IsAt rows index i r → ordering_index (answer r) ≤ ordering_index o
  rising i l r p = omega (arith, up.rises i middle r found.0 l (omega (arith, h.inside)) p found.1, ap ordering_index (is found.0 found.1))

  upto : is_gt o ≡ false → (i : ℕ) → i < middle + 1 → (r : Row) → IsAt rows index i r → is_gt (answer r) ≡ false
  upto g = below_more (λ i. (r : Row) → IsAt rows index i r → is_gt (answer r) ≡ false) middle
      (λ i l r p. not_greater (answer r) o (rising i l r p) g)
      (λ r p. ap is_gt (sym (is r p)) ∙ g)

  pub halved-less : o ≡ Less → IsHalved answer rows index (middle + 1) high None
  halved-less e = record {
    ordered = omega arith;
    inside = h.inside;
    before = upto (ap is_gt e);
    after = h.after;
    last = below_more (λ i. (r : Row) → IsAt rows index i r → answer r ≡ Equal → ⊥) middle
        (λ i l r p q. omega (arith, ap ordering_index q, ap ordering_index e, rising i l r p))
        (λ r p q. omega (arith, ap ordering_index (sym q ∙ sym (is r p) ∙ e)));
  }

  pub halved-equal : o ≡ Equal → IsHalved answer rows index (middle + 1) high (Some (get_or index middle 0))
  halved-equal e = record {
    ordered = omega arith;
    inside = h.inside;
    before = upto (ap is_gt e);
    after = h.after;
    last = (middle, found.0, refl, refl, found.1, sym (is found.0 found.1) ∙ e);
  }

  pub halved-greater : o ≡ Greater → IsHalved answer rows index low middle kept
  halved-greater e = record {
    ordered = above;
    inside = omega (arith, h.inside);
    before = h.before;
    after = λ i l k r p. from i k r p (split i l);
    last = h.last;
  }
    where
      split : (i : ℕ) → middle ≤ i → (middle < i) ⊎ (i ≡ middle)
      split i l = grind arith

      from : (i : ℕ) → i < length index → (r : Row) → IsAt rows index i r → (middle < i) ⊎ (i ≡ middle) → answer r ≡ Greater
      from i k r p (inl l) = greater o (answer r) (omega (arith, up.rises middle i found.0 r l k found.1 p, ap ordering_index (is found.0 found.1))) e
      from i k r p (inr q) = sym (at_middle i q r p) ∙ e

pub halved-start : (answer : Row → Ordering) (rows : List Row) (index : List ℕ) → IsHalved answer rows index 0 (length index) None
halved-start answer rows index = record {
  ordered = omega arith;
  inside = omega arith;
  before = λ i l. absurd (omega arith);
  after = λ i l k. absurd (omega arith);
  last = λ i l. absurd (omega arith);
}

-- the work doubles where what is left is halved
pub doubled : (k s t n : ℕ) → t + t ≤ s → 0 < s → 2 ^ k * s ≤ n → (2 ^ (k + 1) * t ≤ n) × (2 ^ (k + 1) ≤ 2 * n + 1)
doubled k s t n half some h =
    let a : 2 ^ k * (t + t) ≤ 2 ^ k * s = mul-le-mul_left (2 ^ k) half in
    let b : 2 ^ k * 1 ≤ 2 ^ k * s = mul-le-mul_left (2 ^ k) some in
    let e : 2 ^ (k + 1) ≡ 2 ^ k * 2 = pow-add 2 k 1 in
    (rw e (omega (arith, a, h)), rw e (omega (arith, b, h)))

-- one more step is counted
pub doubled-step : (from was now s t n : ℕ) → from ≤ was → now ≡ was + 1 → t + t ≤ s → 0 < s → 2 ^ (was - from) * s ≤ n → (2 ^ (now - from) * t ≤ n) × (2 ^ (now - from) ≤ 2 * n + 1)
doubled-step from was now s t n l e half some h =
    let one : now - from ≡ (was - from) + 1 = omega arith in
    rw one (doubled (was - from) s t n half some h)
