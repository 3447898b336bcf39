-- The rows that slots hold, where one slot closes, or opens with a row's new values.
use Rattle.std.proofs.Common.{◌≡◌, ◌⊎◌, inl, inr, ⊎_elim, ℕ, suc, ◌+◌, ◌<◌, ◌≤◌, Bool, true, false, cond, nat_lt, List, length, Option, Some, None, IsSome, refl, sym, ◌∙◌, ap, subst, arith, slice_get, get_or}
use Rattle.std.proofs.lemmas.Bool.{cases_eq, cases_lt}
use Rattle.std.proofs.lemmas.Option.{slice_get_past, slice_get-get_or}
use Rattle.gp_rows.specs.declared.row.Row.{Row}
use Rattle.gp_rows.specs.Rows.{IsNewPair}
use Rattle.gp_store.specs.Slot.{generation, source, key, Shows, Spelled}
use Rattle.gp_store.specs.Slots.{Slots, other_side, newer, newest, IsSamePair, IsSameOrder, IsFormed, IsWell, IsConsistent, IsLast}
use Rattle.gp_store.specs.Image.{HoldsRow}
use Rattle.gp_store.proofs.Consistent.{Opens, newest_is_open}

-- each row has the values of its newest slot
abbrev pub HoldsAll : Slots → List Row → Type 0
HoldsAll slots rows = (r : ℕ) → HoldsRow 0 (newest slots r) (slice_get rows r)

-- the rows where the row at one place is this one, and all others are as before
pub record ChangesAt (rows : List Row) (at : ℕ) (row : Row) (changed : List Row) : Type 0 where
  pub here : slice_get changed at ≡ Some row
  pub others : (k : ℕ) → (k ≡ at → ⊥) → slice_get changed k ≡ slice_get rows k

-- a slot that isn't above these generations doesn't raise the last one above them
pub last_within : (slots : Slots) (last bound : ℕ) → ((r : ℕ) (s : Bool) (o : List ℕ) → slots r s ≡ Some o → generation o ≤ bound) → IsLast slots last → last ≤ bound
last_within slots last bound all is = ⊎_elim (λ e. omega (arith, e)) (λ p. let below = all p.0 p.1 p.2 p.3 in omega (arith, below, p.4)) is.reached

-- a row that has a slot is there, with its values
pub row_of_slot : (slots : Slots) (rows : List Row) (r : ℕ) (o : List ℕ) → HoldsAll slots rows → newest slots r ≡ Some o → (row : Row) × (slice_get rows r ≡ Some row) × Shows o 0 row
row_of_slot slots rows r o all is = from (slice_get rows r) refl (subst (λ n. HoldsRow 0 n (slice_get rows r)) is (all r))
  where
    from : (x : Option Row) → slice_get rows r ≡ x → HoldsRow 0 (Some o) (slice_get rows r) → (row : Row) × (slice_get rows r ≡ Some row) × Shows o 0 row
    from None e h = absurd (subst (λ y. HoldsRow 0 (Some o) y) e h)
    from (Some row) e h = (row, e, subst (λ y. HoldsRow 0 (Some o) y) e h)

-- a row that is there has a slot with its values
pub slot_of_row : (slots : Slots) (rows : List Row) (r : ℕ) (row : Row) → HoldsAll slots rows → slice_get rows r ≡ Some row → (o : List ℕ) × (newest slots r ≡ Some o) × Shows o 0 row
slot_of_row slots rows r row all is = from (newest slots r) refl (subst (λ x. HoldsRow 0 (newest slots r) x) is (all r))
  where
    from : (x : Option (List ℕ)) → newest slots r ≡ x → HoldsRow 0 (newest slots r) (Some row) → (o : List ℕ) × (newest slots r ≡ Some o) × Shows o 0 row
    from None e h = absurd (subst (λ y. HoldsRow 0 y (Some row)) e h)
    from (Some o) e h = (o, e, subst (λ y. HoldsRow 0 y (Some row)) e h)

pub newer_is_none : (a b : Option (List ℕ)) → newer a b ≡ None → (a ≡ None) × (b ≡ None)
newer_is_none None b h = (refl, h)
newer_is_none (Some a) None h = absurd (some_is_not a h)
  where
    some_is_not : (x : List ℕ) → Some x ≡ None → ⊥
    some_is_not x h = cc
newer_is_none (Some a) (Some b) h = absurd (neither (nat_lt (generation a) (generation b)) h)
  where
    neither : (t : Bool) → cond t (Some b) (Some a) ≡ None → ⊥
    neither true h = cc
    neither false h = cc

-- the slots of a row that isn't there are closed
pub closed_past : (slots : Slots) (rows : List Row) (r : ℕ) → HoldsAll slots rows → slice_get rows r ≡ None → (newest slots r ≡ None) × ((s : Bool) → slots r s ≡ None)
closed_past slots rows r all none =
    let n = from (newest slots r) refl (subst (λ x. HoldsRow 0 (newest slots r) x) none (all r)) in
    (n, λ s. side s (newer_is_none (slots r false) (slots r true) n))
  where
    from : (x : Option (List ℕ)) → newest slots r ≡ x → HoldsRow 0 (newest slots r) None → newest slots r ≡ None
    from None e h = e
    from (Some o) e h = absurd (subst (λ y. HoldsRow 0 y None) e h)

    side : (s : Bool) → (slots r false ≡ None) × (slots r true ≡ None) → slots r s ≡ None
    side false p = p.0
    side true p = p.1

-- a row with an open slot has a newest one
pub newest_exists : (slots : Slots) (r : ℕ) (t : Bool) (o : List ℕ) → slots r t ≡ Some o → (n : List ℕ) × (newest slots r ≡ Some n)
newest_exists slots r t o e = from (newest slots r) refl
  where
    some_is_not : (x : List ℕ) → Some x ≡ None → ⊥
    some_is_not x h = cc

    side : (t : Bool) → slots r t ≡ Some o → (slots r false ≡ None) × (slots r true ≡ None) → ⊥
    side false e p = some_is_not o (sym e ∙ p.0)
    side true e p = some_is_not o (sym e ∙ p.1)

    from : (x : Option (List ℕ)) → newest slots r ≡ x → (n : List ℕ) × (newest slots r ≡ Some n)
    from None is = absurd (side t e (newer_is_none (slots r false) (slots r true) is))
    from (Some n) is = (n, is)

-- the open slots of a row have one SrcID and key
pub row_pair : (slots : Slots) → IsConsistent slots → (r : ℕ) (s t : Bool) (o p : List ℕ) → slots r s ≡ Some o → slots r t ≡ Some p → IsSamePair o p
row_pair slots c r false false o p e f = let same : o ≡ p = cc in record { same_source = ap source same; same_key = ap key same }
row_pair slots c r true true o p e f = let same : o ≡ p = cc in record { same_source = ap source same; same_key = ap key same }
row_pair slots c r false true o p e f = (c r true p f).twin o refl e
row_pair slots c r true false o p e f = let t = (c r true o e).twin p refl f in record { same_source = sym t.same_source; same_key = sym t.same_key }

-- octets that spell a pairable row, with an order of at most their generation, break no rule by themselves
pub formed : (octets : List ℕ) (row : Row) (number : ℕ) → Spelled octets row number → 0 < row.order → row.order ≤ number → 1 ≤ row.src.0 → row.src.0 ≤ 0xFFFFFFF8 → IsFormed octets
formed octets row number s positive within above below = record {
  numbers = record {
    numbered = omega (arith, s.numbered);
    ordered = omega (arith, s.shows.has_order);
    order_within = omega (arith, s.shows.has_order, s.numbered);
    above_none = omega (arith, s.shows.has_source);
    below_all = omega (arith, s.shows.has_source);
    zeros = s.zeros;
  };
  kinds = record {
    has_kind = (row.kind, s.shows.has_kind);
    has_level = (row.level, s.shows.has_level);
    has_mode = (row.mode, s.shows.has_mode);
    has_live = (row.live, s.shows.has_live);
  };
}

module _ (slots : Slots) (rows : List Row) (at : ℕ) (side : Bool) (b : List ℕ) (row : Row) (last : ℕ) (c : IsConsistent slots) (all : HoldsAll slots rows) (is_last : IsLast slots last) (s : Spelled b row (last + 1)) where
  below_new : (r : ℕ) (t : Bool) (o : List ℕ) → slots r t ≡ Some o → generation o < generation b
  below_new r t o e = let g = is_last.greatest r t o e in omega (arith, g, s.numbered)

  -- octets with a new order have no order of another slot
  fresh_order : row.order ≡ last + 1 → (r : ℕ) (t : Bool) (o : List ℕ) → slots r t ≡ Some o → IsSameOrder o b → ⊥
  fresh_order fresh r t o e p =
      let g = is_last.greatest r t o e in
      let w = (c r t o e).formed.numbers.order_within in
      omega (arith, g, w, p.same_order, s.shows.has_order, fresh)

  -- the row that is there gets new values, and keeps its SrcID and key, and its order too where that isn't new
  module _ (was : Row) (there : slice_get rows at ≡ Some was) (source_is : row.src.0 ≡ was.src.0) (key_is : row.key.0 ≡ was.key.0) (order_is : (row.order ≡ was.order) ⊎ (row.order ≡ last + 1)) where
    now : (o : List ℕ) × (newest slots at ≡ Some o) × Shows o 0 was
    now = slot_of_row slots rows at was all there

    open_now : (t : Bool) × (slots at t ≡ Some now.0)
    open_now = newest_is_open slots at now.0 now.1

    now_well : IsWell slots at open_now.0 now.0
    now_well = c at open_now.0 now.0 open_now.1

    now_formed : IsFormed now.0
    now_formed = now_well.formed

    -- the slot has the pair of the row's newest one
    as_now : (o : List ℕ) → IsSamePair o b → IsSamePair o now.0
    as_now o p = record {
      same_source = p.same_source ∙ sym s.shows.has_source ∙ source_is ∙ now.2.has_source;
      same_key = p.same_key ∙ sym s.shows.has_key ∙ key_is ∙ now.2.has_key;
    }

    not_elsewhere : (r : ℕ) (t : Bool) (o : List ℕ) → (r ≡ at → ⊥) → slots r t ≡ Some o → IsSamePair o b → ⊥
    not_elsewhere r t o other e p = elim (cases_lt r at) [
      | inl h ↦
          let n = newest_exists slots r t o e in
          let there = newest_is_open slots r n.0 n.1 in
          let twin = row_pair slots c r there.0 t n.0 o there.1 e in
          let q = as_now o p in
          now_well.new_pair r n.0 h n.1 (record { same_source = twin.same_source ∙ q.same_source; same_key = twin.same_key ∙ q.same_key })
      | inr h ↦ let q = as_now o p in (c r t o e).new_pair at now.0 (omega (arith, h, other)) now.1 (record { same_source = sym q.same_source; same_key = sym q.same_key })
    ]

    no_order : (row.order ≡ was.order) ⊎ (row.order ≡ last + 1) → (r : ℕ) (t : Bool) (o : List ℕ) → (r ≡ at → ⊥) → slots r t ≡ Some o → IsSameOrder o b → ⊥
    no_order (inr fresh) r t o other e p = fresh_order fresh r t o e p
    no_order (inl kept) r t o other e p =
        let q : IsSameOrder o now.0 = record { same_source = p.same_source ∙ sym s.shows.has_source ∙ source_is ∙ now.2.has_source; same_order = p.same_order ∙ sym s.shows.has_order ∙ kept ∙ now.2.has_order } in
        elim (cases_lt r at) [
          | inl h ↦ now_well.new_order r t o h e q
          | inr h ↦ (c r t o e).new_order at open_now.0 now.0 (omega (arith, h, other)) open_now.1 (record { same_source = sym q.same_source; same_order = sym q.same_order })
        ]

    order_fits : (row.order ≡ was.order) ⊎ (row.order ≡ last + 1) → (0 < row.order) × (row.order ≤ last + 1)
    order_fits (inr fresh) = (omega (arith, fresh), omega (arith, fresh))
    order_fits (inl kept) =
        let g = is_last.greatest at open_now.0 now.0 open_now.1 in (
          omega (arith, kept, now.2.has_order, now_formed.numbers.ordered),
          omega (arith, kept, now.2.has_order, now_formed.numbers.order_within, g),
        )

    pub opens_there : Opens slots at side b
    opens_there = record {
      formed = formed b row (last + 1) s (order_fits order_is).0 (order_fits order_is).1 (omega (arith, source_is, now.2.has_source, now_formed.numbers.above_none)) (omega (arith, source_is, now.2.has_source, now_formed.numbers.below_all));
      follows = now_well.follows;
      greatest = below_new;
      twin = λ o e. let p = row_pair slots c at (other_side side) open_now.0 o now.0 e open_now.1 in record {
        same_source = p.same_source ∙ sym now.2.has_source ∙ sym source_is ∙ s.shows.has_source;
        same_key = p.same_key ∙ sym now.2.has_key ∙ sym key_is ∙ s.shows.has_key;
      };
      new_pair = not_elsewhere;
      new_order = no_order order_is;
    }

  -- a row of a new pair comes at the end
  module _ (end : at ≡ length rows) (new : IsNewPair rows row) (fresh : row.order ≡ last + 1) (above : 1 ≤ row.src.0) (below : row.src.0 ≤ 0xFFFFFFF8) where
    past : slice_get rows at ≡ None
    past = slice_get_past rows at (omega (arith, end))

    none_here : (newest slots at ≡ None) × ((t : Bool) → slots at t ≡ None)
    none_here = closed_past slots rows at all past

    none_is_not : (x : List ℕ) → None ≡ Some x → ⊥
    none_is_not x h = cc

    pair_is_new : (r : ℕ) (t : Bool) (o : List ℕ) → slots r t ≡ Some o → IsSamePair o b → ⊥
    pair_is_new r t o e p =
        let n = newest_exists slots r t o e in
        let there = newest_is_open slots r n.0 n.1 in
        let is = row_of_slot slots rows r n.0 all n.1 in
        let twin = row_pair slots c r t there.0 o n.0 e there.1 in
        new r is.0 is.1
        (is.2.has_source ∙ sym twin.same_source ∙ p.same_source ∙ sym s.shows.has_source)
        (is.2.has_key ∙ sym twin.same_key ∙ p.same_key ∙ sym s.shows.has_key)

    row_before : (before : ℕ) → at ≡ suc before → IsSome (newest slots before)
    row_before before e =
        let is = slice_get-get_or rows before row (omega (arith, e, end)) in
        let n = slot_of_row slots rows before (get_or rows before row) all is in
        subst IsSome (sym n.1) refl

    pub opens_at_end : Opens slots at side b
    opens_at_end = record {
      formed = formed b row (last + 1) s (omega (arith, fresh)) (omega (arith, fresh)) above below;
      follows = row_before;
      greatest = below_new;
      twin = λ o e. absurd (none_is_not o (sym (none_here.1 (other_side side)) ∙ e));
      new_pair = λ r t o other e p. pair_is_new r t o e p;
      new_order = λ r t o other e p. fresh_order fresh r t o e p;
    }

-- the rows after one slot closed that isn't its row's newest one
pub holds_same : (old new : Slots) (rows : List Row) → ((r : ℕ) → newest new r ≡ newest old r) → HoldsAll old rows → HoldsAll new rows
holds_same old new rows same all r = subst (λ n. HoldsRow 0 n (slice_get rows r)) (sym (same r)) (all r)

-- the rows after one slot opened with a row's new values
pub holds_changed : (row : ℕ) (side : Bool) (old new : Slots) (b : List ℕ) (value : Row) (rows changed : List Row) → ((r : ℕ) → (r ≡ row → ⊥) → newest new r ≡ newest old r) → newest new row ≡ Some b → Shows b 0 value → ChangesAt rows row value changed → HoldsAll old rows → HoldsAll new changed
holds_changed row side old new b value rows changed elsewhere here shows ch all r = elim (cases_eq r row) [
  | inl e ↦ subst (λ q. HoldsRow 0 (newest new q) (slice_get changed q)) (sym e) (subst (λ n. HoldsRow 0 n (slice_get changed row)) (sym here) (subst (λ x. HoldsRow 0 (Some b) x) (sym ch.here) shows))
  | inr other ↦ subst (λ n. HoldsRow 0 n (slice_get changed r)) (sym (elsewhere r other)) (subst (λ x. HoldsRow 0 (newest old r) x) (sym (ch.others r other)) (all r))
]
