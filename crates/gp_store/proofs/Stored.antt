-- What a store knows of its disk after one row was written.
use Rattle.std.proofs.Common.{◌≡◌, ◌⊎◌, inl, inr, ⊎_elim, ℕ, ◌+◌, ◌<◌, ◌≤◌, Bool, true, false, List, [], ◌∷◌, ◌++◌, Option, Some, None, is_some, refl, sym, ◌∙◌, ap, subst, arith, slice_get, set, length, length-append}
use Rattle.gp_disk.specs.Disk.{Tally, IsQuiet, Only}
use Rattle.gp_rows.specs.declared.row.Row.{Row}
use Rattle.gp_rows.specs.Rows.{AreWithin}
use Rattle.gp_rows.specs.Changes.{with_row}
use Rattle.gp_rows.proofs.Applied.{AreWithin-with_row, with_row-set, with_row-end, slice_get-with_row_same, slice_get-with_row_other}
use Rattle.gp_rows.proofs.Lists.{slice_get_in_set, slice_get_in_push}
use Rattle.std.proofs.lemmas.Bool.{cases_lt}
use Rattle.std.proofs.lemmas.List.{length-set}
use Rattle.std.proofs.lemmas.Option.{slice_get_within, slice_get_past, slice_get-get_or}
use Rattle.gp_store.specs.declared.commit.Stale.{Stale}
use Rattle.gp_store.specs.Slot.{Spelled}
use Rattle.gp_store.specs.Slots.{other_side, newest}
use Rattle.gp_store.specs.Image.{slots, format_1, HoldsRows, HasLast}
use Rattle.gp_store.specs.Writes.{Rewritten, TellsOpen, Writes, IsWritable}
use Rattle.gp_store.specs.Commit.{Survives, Stands}
use Rattle.gp_store.specs.Kept.{IsStale, IsTold, IsReady, Replaces, Appends, MayPut}
use Rattle.gp_store.proofs.Consistent.{Opens}
use Rattle.gp_store.proofs.RowsHeld.{ChangesAt, slot_of_row, opens_there, opens_at_end, closed_past}
use Rattle.gp_store.proofs.Grows.{became_from}
use Rattle.gp_store.proofs.Commits.{rewrites_hold, rewrites_last, rewritten_holds, rewritten_last, rewritten_stale, rewritten_others}

module _ (image new : Option (List ℕ)) (rows changed : List Row) (stales : List Stale) (last at : ℕ) (side : Bool) (value : Row)
    (told : (d : List ℕ) → image ≡ Some d → IsTold d rows stales last)
    (behind : (d : List ℕ) → image ≡ Some d → newest (slots format_1 d) at ≡ slots format_1 d at (other_side side))
    (fits : (d b : List ℕ) → image ≡ Some d → Spelled b value (last + 1) → Opens (slots format_1 d) at side b)
    (change : ChangesAt rows at value changed) where
  -- at each moment of the write
  pub survives : (left : List ℕ → Type 0) (is_done : Bool) → Writes at side value (last + 1) image new left is_done → Survives left rows changed last
  survives left is_done w = record {
    rows = λ c l. let m = w.moments c l in
        rewrites_hold rows changed stales last at side value w.octets m.0 (told m.0 m.1) (behind m.0 m.1) (fits m.0 w.octets m.1 w.spelled) w.spelled change c m.2.only m.2;
    generation = λ c n l is. let m = w.moments c l in
        rewrites_last rows changed stales last at side value w.octets m.0 (told m.0 m.1) (behind m.0 m.1) (fits m.0 w.octets m.1 w.spelled) w.spelled change c m.2.only m.2 n is;
  }

  module _ (left : List ℕ → Type 0) (is_done : Bool) (w : Writes at side value (last + 1) image new left is_done) (done : is_done ≡ true) where
    -- the image before
    from : (e : List ℕ) → new ≡ Some e → (d : List ℕ) × (image ≡ Some d) × Rewritten format_1 at side w.octets d e
    from e is = became_from (Rewritten format_1 at side w.octets) image new e (w.done done) is

    after_holds : (e : List ℕ) → new ≡ Some e → HoldsRows e changed
    after_holds e is = let f = from e is in
        rewritten_holds rows changed stales last at side value w.octets f.0 (told f.0 f.1) (behind f.0 f.1) (fits f.0 w.octets f.1 w.spelled) w.spelled change e f.2

    after_last : (e : List ℕ) → new ≡ Some e → HasLast e (last + 1)
    after_last e is = let f = from e is in
        rewritten_last rows changed stales last at side value w.octets f.0 (told f.0 f.1) (behind f.0 f.1) (fits f.0 w.octets f.1 w.spelled) w.spelled change e f.2

    -- every image that a crash may leave now
    pub stands : (may_leave : List ℕ → Type 0) → Only new may_leave → Stands may_leave changed (last + 1)
    stands may_leave only c l = (after_holds c (only c l), after_last c (only c l))

    -- the disk is ready for the next commit
    pub ready : (tally : Tally) (may_leave : List ℕ → Type 0) → 204800 ≤ tally.size → IsQuiet tally new may_leave
        → (next : Stale) → next.odd ≡ other_side side → ((d : List ℕ) → image ≡ Some d → is_some (slots format_1 d at (other_side side)) ≡ next.is_open)
        → (later : List Stale) → ((r : ℕ) (s : Stale) → slice_get later r ≡ Some s → ((r ≡ at) × (s ≡ next)) ⊎ ((r ≡ at → ⊥) × (slice_get stales r ≡ Some s)))
        → IsReady tally new may_leave changed later (last + 1)
    ready tally may_leave size quiet next odd is_open later which = record {
      size = size;
      quiet = quiet;
      told = λ e is. record { holds = after_holds e is; has_last = after_last e is; each = λ r s there. at_each e is r s (which r s there) };
    }
      where
        at_next : (e : List ℕ) → new ≡ Some e → IsStale e at next
        at_next e is = let f = from e is in
            let now = rewritten_stale rows changed stales last at side value w.octets f.0 (told f.0 f.1) (behind f.0 f.1) (fits f.0 w.octets f.1 w.spelled) w.spelled change e f.2 in
            record {
              newest_is_other = now.newest_is_other ∙ ap (λ t. slots format_1 e at (other_side t)) (sym odd);
              tells = ap (λ t. is_some (slots format_1 e at t)) odd ∙ now.tells ∙ is_open f.0 f.1;
            }

        at_each : (e : List ℕ) → new ≡ Some e → (r : ℕ) (s : Stale) → ((r ≡ at) × (s ≡ next)) ⊎ ((r ≡ at → ⊥) × (slice_get stales r ≡ Some s)) → IsStale e r s
        at_each e is r s (inl here) = subst (λ q. IsStale e q s) (sym here.0) (subst (λ t. IsStale e at t) (sym here.1) (at_next e is))
        at_each e is r s (inr other) = let f = from e is in
            rewritten_others rows changed stales last at side value w.octets f.0 (told f.0 f.1) (behind f.0 f.1) (fits f.0 w.octets f.1 w.spelled) w.spelled change e f.2 r s other.0 ((told f.0 f.1).each r s other.1)

-- the rows with one put at its number differ there alone
changes_with : (rows : List Row) (at : ℕ) (value : Row) → at ≤ length rows → ChangesAt rows at value (with_row rows at value)
changes_with rows at value within = record { here = slice_get-with_row_same rows at value within; others = λ k other. slice_get-with_row_other rows at k value within other }

-- a row that may be put at a number: what is known of each image
record CanPut (image : Option (List ℕ)) (rows : List Row) (stales : List Stale) (last at : ℕ) (side next_open : Bool) (value : Row) : Type 0 where
  told : (d : List ℕ) → image ≡ Some d → IsTold d rows stales last
  behind : (d : List ℕ) → image ≡ Some d → newest (slots format_1 d) at ≡ slots format_1 d at (other_side side)
  fits : (d b : List ℕ) → image ≡ Some d → Spelled b value (last + 1) → Opens (slots format_1 d) at side b
  other : (d : List ℕ) → image ≡ Some d → is_some (slots format_1 d at (other_side side)) ≡ next_open
  within : at ≤ length rows

-- the slots of the row behind the last one are closed
none_at : (tally : Tally) (may_leave : List ℕ → Type 0) (image : Option (List ℕ)) (rows : List Row) (stales : List Stale) (last at : ℕ) → IsReady tally image may_leave rows stales last → at ≡ length rows
    → (d : List ℕ) → image ≡ Some d → (newest (slots format_1 d) at ≡ None) × ((s : Bool) → slots format_1 d at s ≡ None)
unfolding HoldsRows
none_at tally may_leave image rows stales last at is_ready end d is = closed_past (slots format_1 d) rows at (is_ready.told d is).holds.each (slice_get_past rows at (omega (arith, end)))

-- which slot is stale, as a store finds it
pub record IsStaleAt (stales : List Stale) (at : ℕ) (stale : Stale) : Type 0 where
  pub there : (s : Stale) → slice_get stales at ≡ Some s → stale ≡ s
  pub behind : length stales ≤ at → stale ≡ record { odd = false; is_open = false }

-- which slot is stale afterwards
pub record IsSetAt (stales : List Stale) (at : ℕ) (odd : Bool) (later : List Stale) : Type 0 where
  pub there : at < length stales → later ≡ set stales at (record { odd = odd; is_open = true })
  pub behind : at ≡ length stales → later ≡ stales ++ record { odd = odd; is_open = false } ∷ []

module _ (tally : Tally) (may_leave : List ℕ → Type 0) (image : Option (List ℕ)) (rows : List Row) (stales : List Stale) (last at : ℕ) (as_many : length stales ≡ length rows) (stale : Stale) (found : IsStaleAt stales at stale) (is_ready : IsReady tally image may_leave rows stales last) where
  stale_there : at < length rows → slice_get stales at ≡ Some stale
  stale_there within = let s : Stale = record { odd = false; is_open = false } in
      let here = slice_get-get_or stales at s (omega (arith, within, as_many)) in here ∙ ap (λ (x : Stale). Some x) (sym (found.there _ here))

  -- the row can be written into that slot
  pub put_writable : at ≤ length rows → IsWritable tally image may_leave at stale.odd stale.is_open
  put_writable within = record { size = is_ready.size; quiet = is_ready.quiet; tells = tells image is_ready.told (none_at tally may_leave image rows stales last at is_ready) }
    where
      tells : (i : Option (List ℕ)) → ((d : List ℕ) → i ≡ Some d → IsTold d rows stales last) → (at ≡ length rows → (d : List ℕ) → i ≡ Some d → (newest (slots format_1 d) at ≡ None) × ((s : Bool) → slots format_1 d at s ≡ None))
          → TellsOpen format_1 at stale.odd stale.is_open i
      tells None told none = tt
      tells (Some d) told none = elim (cases_lt at (length rows)) [
        | inl h ↦ ((told d refl).each at stale (stale_there h)).tells
        | inr h ↦
            let end : at ≡ length rows = omega (arith, h, within) in
            let is = found.behind (omega (arith, h, as_many)) in
            ap is_some ((none end d refl).1 stale.odd) ∙ sym (ap (λ (x : Stale). x.is_open) is)
      ]

  replaces_can : (value : Row) → Replaces rows last at value → CanPut image rows stales last at stale.odd true value
  unfolding HoldsRows HasLast
  replaces_can value r =
      let inside = slice_get_within rows at r.before r.there in
      let here = stale_there inside in
      record {
        told = is_ready.told;
        behind = λ d is. ((is_ready.told d is).each at stale here).newest_is_other;
        fits = λ d b is spelled. let t = is_ready.told d is in
            opens_there (slots format_1 d) rows at stale.odd b value last t.holds.consistent t.holds.each t.has_last spelled r.before r.there r.source r.key r.order;
        other = λ d is. let o = slot_of_row (slots format_1 d) rows at r.before (is_ready.told d is).holds.each r.there in
            ap is_some (sym ((is_ready.told d is).each at stale here).newest_is_other ∙ o.1);
        within = omega (arith, inside);
      }

  appends_can : (value : Row) → Appends rows last at value → CanPut image rows stales last at stale.odd false value
  unfolding HoldsRows HasLast
  appends_can value f =
      let odd : stale.odd ≡ false = ap (λ (x : Stale). x.odd) (found.behind (omega (arith, f.end, as_many))) in
      subst (λ (side : Bool). CanPut image rows stales last at side false value) (sym odd) (record {
        told = is_ready.told;
        behind = λ d is. let n = none_at tally may_leave image rows stales last at is_ready f.end d is in n.0 ∙ sym (n.1 true);
        fits = λ d b is spelled. let t = is_ready.told d is in
            opens_at_end (slots format_1 d) rows at false b value last t.holds.consistent t.holds.each t.has_last spelled f.end f.new f.order f.above f.below;
        other = λ d is. ap is_some ((none_at tally may_leave image rows stales last at is_ready f.end d is).1 true);
        within = omega (arith, f.end);
      })

  module _ (new : Option (List ℕ)) (value : Row) (left : List ℕ → Type 0) (is_done : Bool) (w : Writes at stale.odd value (last + 1) image new left is_done) where
    survives_by : (next_open : Bool) → CanPut image rows stales last at stale.odd next_open value → Survives left rows (with_row rows at value) last
    survives_by next_open can = survives image new rows (with_row rows at value) stales last at stale.odd value can.told can.behind can.fits (changes_with rows at value can.within) left is_done w

    -- at each moment of the write
    pub put_survives : MayPut rows last at value → Survives left rows (with_row rows at value) last
    put_survives (inl r) = survives_by true (replaces_can value r)
    put_survives (inr f) = survives_by false (appends_can value f)

    module _ (done : is_done ≡ true) (after : Tally) (now : List ℕ → Type 0) where
      stands_by : (next_open : Bool) → CanPut image rows stales last at stale.odd next_open value → Only new now → Stands now (with_row rows at value) (last + 1)
      stands_by next_open can = stands image new rows (with_row rows at value) stales last at stale.odd value can.told can.behind can.fits (changes_with rows at value can.within) left is_done w done now

      -- once it is done
      pub put_stands : MayPut rows last at value → Only new now → Stands now (with_row rows at value) (last + 1)
      put_stands (inl r) = stands_by true (replaces_can value r)
      put_stands (inr f) = stands_by false (appends_can value f)

      -- the disk is ready for the next commit
      pub put_ready : MayPut rows last at value → 204800 ≤ after.size → IsQuiet after new now → (later : List Stale) → IsSetAt stales at (other_side stale.odd) later → IsReady after new now (with_row rows at value) later (last + 1)
      put_ready (inl r) size quiet later is =
          let can = replaces_can value r in
          let inside = slice_get_within rows at r.before r.there in
          let next : Stale = record { odd = other_side stale.odd; is_open = true } in
          let set_is = is.there (omega (arith, inside, as_many)) in
          ready image new rows (with_row rows at value) stales last at stale.odd value can.told can.behind can.fits (changes_with rows at value can.within) left is_done w done after now size quiet next refl can.other later
          (λ q s there. slice_get_in_set stales at q next s (sym (ap (λ (l : List Stale). slice_get l q) set_is) ∙ there))
      put_ready (inr f) size quiet later is =
          let can = appends_can value f in
          let next : Stale = record { odd = other_side stale.odd; is_open = false } in
          let set_is = is.behind (f.end ∙ sym as_many) in
          ready image new rows (with_row rows at value) stales last at stale.odd value can.told can.behind can.fits (changes_with rows at value can.within) left is_done w done after now size quiet next refl can.other later
          (λ q s there. ⊎_elim (λ p. inr ((λ e. omega (arith, e, p.0, f.end, as_many)), p.1)) (λ p. inl (omega (arith, p.0, f.end, as_many), p.1)) (slice_get_in_push stales next s q (sym (ap (λ (l : List Stale). slice_get l q) set_is) ∙ there)))

-- no order is above the next generation
pub order_put : (rows : List Row) (last at : ℕ) (value : Row) → AreWithin last rows → MayPut rows last at value → AreWithin (last + 1) (with_row rows at value)
order_put rows last at value orders may = AreWithin-with_row (last + 1) rows at value (within may) (λ k row is. let o = orders k row is in omega (arith, o)) (order may)
  where
    within : MayPut rows last at value → at ≤ length rows
    within (inl r) = let inside = slice_get_within rows at r.before r.there in omega (arith, inside)
    within (inr a) = omega (arith, a.end)

    order : MayPut rows last at value → value.order ≤ last + 1
    order (inl r) = let its = orders at r.before r.there in ⊎_elim (λ e. omega (arith, e, its)) (λ e. omega (arith, e)) r.order
    order (inr a) = omega (arith, a.order)

-- there are as many stale slots as rows
pub as_many_put : (rows : List Row) (stales later : List Stale) (at : ℕ) (value : Row) (odd : Bool) → length stales ≡ length rows → at ≤ length rows → IsSetAt stales at odd later → length later ≡ length (with_row rows at value)
as_many_put rows stales later at value odd as_many within is = elim (cases_lt at (length rows)) [
  | inl h ↦
      let next : Stale = record { odd = odd; is_open = true } in
      ap length (is.there (omega (arith, h, as_many))) ∙ length-set stales at next ∙ as_many ∙ sym (length-set rows at value) ∙ sym (ap length (with_row-set rows at value h))
  | inr h ↦
      let end : at ≡ length rows = omega (arith, h, within) in
      let next : Stale = record { odd = odd; is_open = false } in
      let one = ap length (is.behind (end ∙ sym as_many)) in
      let other = ap length (with_row-end rows at value end) in
      omega (arith, one, other, length-append stales (next ∷ []), length-append rows (value ∷ []), as_many)
]
