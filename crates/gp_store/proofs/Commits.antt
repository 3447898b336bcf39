-- A commit on images: what each moment of a slot's rewriting leaves, and what stands where it is done.
use Rattle.std.proofs.Common.{◌≡◌, ◌⊎◌, inl, inr, ⊎_elim, ℕ, ◌+◌, ◌≤◌, Bool, true, false, List, Option, Some, None, is_some, refl, sym, ◌∙◌, ap, subst, arith}
use Rattle.std.proofs.lemmas.Bool.{cases_eq}
use Rattle.gp_rows.specs.declared.row.Row.{Row}
use Rattle.gp_store.specs.declared.commit.Stale.{Stale}
use Rattle.gp_store.specs.Slot.{generation, Spelled}
use Rattle.gp_store.specs.Slots.{other_side, newer, newest}
use Rattle.gp_store.specs.Image.{slots, format_1, HoldsRows, HasLast}
use Rattle.gp_store.specs.Writes.{OnlyAt, Rewrites, Rewritten}
use Rattle.gp_store.specs.Kept.{IsStale, IsTold}
use Rattle.gp_store.proofs.Consistent.{Opens, newest_elsewhere, newest_closes, newest_opens, consistent_closes, consistent_opens, consistent_fewer, was_open, cases_at}
use Rattle.gp_store.proofs.RowsHeld.{ChangesAt, last_within, holds_same, holds_changed}

module _ (rows changed : List Row) (stale : List Stale) (last at : ℕ) (side : Bool) (value : Row) (b d : List ℕ)
    (told : IsTold d rows stale last) (behind : newest (slots format_1 d) at ≡ slots format_1 d at (other_side side)) (fits : Opens (slots format_1 d) at side b) (spelled : Spelled b value (last + 1)) (change : ChangesAt rows at value changed) where
  -- an image of which one slot alone differs
  module _ (c : List ℕ) (only : OnlyAt format_1 at side d c) where
    -- that slot is as it was
    same_holds : slots format_1 c at side ≡ slots format_1 d at side → HoldsRows c rows
    unfolding HoldsRows
    same_holds same = record {
      size = subst (λ (n : ℕ). 204800 ≤ n) (sym only.outside.size) told.holds.size;
      formatted = only.header ∙ told.holds.formatted;
      consistent = consistent_fewer (slots format_1 d) (slots format_1 c) (λ r s o is. sym (each r s) ∙ is) newest_same told.holds.consistent;
      each = holds_same (slots format_1 d) (slots format_1 c) rows newest_same told.holds.each;
    }
      where
        each : (r : ℕ) (s : Bool) → slots format_1 c r s ≡ slots format_1 d r s
        each r s = elim (cases_at at side r s) [
          | inl here ↦ ap (λ q. slots format_1 c q s) here.0 ∙ ap (λ t. slots format_1 c at t) here.1 ∙ same ∙ ap (λ t. slots format_1 d at t) (sym here.1) ∙ ap (λ q. slots format_1 d q s) (sym here.0)
          | inr other ↦ only.others r s other
        ]

        newest_same : (r : ℕ) → newest (slots format_1 c) r ≡ newest (slots format_1 d) r
        newest_same r = ap (λ (x : Option (List ℕ)). newer x (slots format_1 c r true)) (each r false) ∙ ap (λ (y : Option (List ℕ)). newer (slots format_1 d r false) y) (each r true)

    -- that slot is closed
    closed_holds : slots format_1 c at side ≡ None → HoldsRows c rows
    unfolding HoldsRows
    closed_holds closed = record {
      size = subst (λ (n : ℕ). 204800 ≤ n) (sym only.outside.size) told.holds.size;
      formatted = only.header ∙ told.holds.formatted;
      consistent = consistent_closes at side (slots format_1 d) (slots format_1 c) only.others told.holds.consistent behind closed;
      each = holds_same (slots format_1 d) (slots format_1 c) rows
          (λ r. elim (cases_eq r at) [
            | inl e ↦ subst (λ q. newest (slots format_1 c) q ≡ newest (slots format_1 d) q) (sym e) (newest_closes at side (slots format_1 d) (slots format_1 c) only.others behind closed)
            | inr other ↦ newest_elsewhere at side (slots format_1 d) (slots format_1 c) only.others r other
          ]) told.holds.each;
    }

    -- that slot is open with the row's new values
    opened_newest : slots format_1 c at side ≡ Some b → newest (slots format_1 c) at ≡ Some b
    opened_newest opened = newest_opens at side (slots format_1 d) (slots format_1 c) only.others b opened (λ o is. fits.greatest at (other_side side) o is)

    opened_holds : slots format_1 c at side ≡ Some b → HoldsRows c changed
    unfolding HoldsRows
    opened_holds opened = record {
      size = subst (λ (n : ℕ). 204800 ≤ n) (sym only.outside.size) told.holds.size;
      formatted = only.header ∙ told.holds.formatted;
      consistent = consistent_opens at side (slots format_1 d) (slots format_1 c) only.others b opened told.holds.consistent fits;
      each = holds_changed at side (slots format_1 d) (slots format_1 c) b value rows changed (newest_elsewhere at side (slots format_1 d) (slots format_1 c) only.others) (opened_newest opened) spelled.shows change told.holds.each;
    }

    -- no generation is above the next one
    generations : Rewrites format_1 at side b d c → (r : ℕ) (s : Bool) (o : List ℕ) → slots format_1 c r s ≡ Some o → generation o ≤ last + 1
    unfolding HasLast
    generations rewrites r s o is = elim (was_open at side (slots format_1 d) (slots format_1 c) only.others r s o is) [
      | inr was ↦ let g = told.has_last.greatest r s o was in omega (arith, g)
      | inl here ↦ of_here rewrites.here (sym (ap (λ t. slots format_1 c at t) here.1) ∙ sym (ap (λ q. slots format_1 c q s) here.0) ∙ is)
    ]
      where
        none_is_not : (x : List ℕ) → None ≡ Some x → ⊥
        none_is_not x h = cc

        of_here : (slots format_1 c at side ≡ slots format_1 d at side) ⊎ (slots format_1 c at side ≡ None) ⊎ (slots format_1 c at side ≡ Some b) → slots format_1 c at side ≡ Some o → generation o ≤ last + 1
        of_here (inl same) is = let g = told.has_last.greatest at side o (sym same ∙ is) in omega (arith, g)
        of_here (inr (inl closed)) is = absurd (none_is_not o (sym closed ∙ is))
        of_here (inr (inr opened)) is = let e : o ≡ b = some_is (sym is ∙ opened) in let n = ap generation e in omega (arith, n, spelled.numbered)
          where
            some_is : Some o ≡ Some b → o ≡ b
            some_is h = cc

    pub rewrites_hold : Rewrites format_1 at side b d c → HoldsRows c rows ⊎ HoldsRows c changed
    rewrites_hold rewrites = ⊎_elim (λ same. inl (same_holds same)) (⊎_elim (λ closed. inl (closed_holds closed)) (λ opened. inr (opened_holds opened))) rewrites.here

    pub rewrites_last : Rewrites format_1 at side b d c → (n : ℕ) → HasLast c n → n ≤ last + 2
    unfolding HasLast
    rewrites_last rewrites n is = let below = last_within (slots format_1 c) n (last + 1) (generations rewrites) is in omega (arith, below)

  -- the slot is rewritten
  module _ (e : List ℕ) (done : Rewritten format_1 at side b d e) where
    pub rewritten_holds : HoldsRows e changed
    rewritten_holds = opened_holds e done.only done.here

    pub rewritten_last : HasLast e (last + 1)
    unfolding HasLast
    rewritten_last = record {
      greatest = generations e done.only (record { only = done.only; here = inr (inr done.here) });
      reached = inr (at, side, b, done.here, spelled.numbered);
    }

    -- the row's other slot is now the stale one
    pub rewritten_stale : IsStale e at (record { odd = other_side side; is_open = is_some (slots format_1 d at (other_side side)) })
    rewritten_stale = record {
      newest_is_other = opened_newest e done.only done.here ∙ sym done.here ∙ ap (λ t. slots format_1 e at t) (twice side);
      tells = ap is_some (done.only.others at (other_side side) (λ here. differs side here.1));
    }
      where
        twice : (s : Bool) → s ≡ other_side (other_side s)
        twice true = refl
        twice false = refl

        differs : (s : Bool) → other_side s ≡ s → ⊥
        differs true h = cc
        differs false h = cc

    -- and those of the other rows are as they were
    pub rewritten_others : (r : ℕ) (s : Stale) → (r ≡ at → ⊥) → IsStale d r s → IsStale e r s
    rewritten_others r s other was = record {
      newest_is_other = newest_elsewhere at side (slots format_1 d) (slots format_1 e) done.only.others r other ∙ was.newest_is_other ∙ sym (done.only.others r (other_side s.odd) (λ here. other here.0));
      tells = ap is_some (done.only.others r s.odd (λ here. other here.0)) ∙ was.tells;
    }
