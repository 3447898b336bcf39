-- The slots of one row more are read.
use Rattle.std.proofs.Common.{◌≡◌, ◌⊎◌, inl, inr, ⊎_elim, ℕ, zero, suc, ◌+◌, ◌<◌, ◌≤◌, max, Bool, true, false, not, List, [], ◌∷◌, ◌++◌, length, get_or, Option, Some, None, IsSome, MatchOption, is_some, refl, sym, ◌∙◌, ap, subst, arith, slice_get, length-append}
use Rattle.std.proofs.lemmas.Bool.{cases_eq, cases_lt}
use Rattle.std.proofs.lemmas.Option.{slice_get_within, slice_get_past, slice_get-get_or}
use Rattle.gp_rows.specs.declared.row.Row.{Row}
use Rattle.gp_rows.proofs.Lists.{slice_get_in_push}
use Rattle.gp_store.specs.declared.commit.Stale.{Stale}
use Rattle.gp_store.specs.Slot.{source, key, order, generation, Shows}
use Rattle.gp_store.specs.Slots.{Slots, other_side, newer, newest, IsSamePair, IsWell}
use Rattle.gp_store.specs.Image.{HoldsRow}
use Rattle.gp_store.specs.Reading.{IsNewAmong, IsJudged, ReadsTo, IsFound, Finds, EndsIll}
use Rattle.gp_store.proofs.Consistent.{newest_is_open, newer-none, newer_odd, newer_even}
use Rattle.gp_store.proofs.RowsHeld.{newest_exists}

-- a row that is there has a slot with its values
held_some : (x : Option (List ℕ)) (y : Option Row) (row : Row) → HoldsRow 0 x y → y ≡ Some row → (o : List ℕ) × (x ≡ Some o) × Shows o 0 row
held_some None y row h is = absurd (subst (λ z. HoldsRow 0 None z) is h)
held_some (Some o) y row h is = (o, refl, subst (λ z. HoldsRow 0 (Some o) z) is h)

-- a row that has a slot is there
held_row : (x : Option (List ℕ)) (y : Option Row) (o : List ℕ) → HoldsRow 0 x y → x ≡ Some o → (row : Row) × (y ≡ Some row) × Shows o 0 row
held_row x None o h is = absurd (subst (λ z. HoldsRow 0 z None) is h)
held_row x (Some row) o h is = (row, refl, subst (λ z. HoldsRow 0 z (Some row)) is h)

element : {X : Type 0} (xs : List X) (k : ℕ) → k < length xs → (x : X) × (slice_get xs k ≡ Some x)
element [] k h = absurd (omega arith)
element (x ∷ xs) zero h = (x, refl)
element (x ∷ xs) (suc k) h = element xs k (omega arith)

pub slice_get_pushed : {X : Type 0} (xs : List X) (x : X) (k : ℕ) → length xs ≡ k → slice_get (xs ++ x ∷ []) k ≡ Some x
slice_get_pushed [] x zero h = refl
slice_get_pushed [] x (suc k) h = absurd (omega arith)
slice_get_pushed (y ∷ xs) x zero h = absurd (omega arith)
slice_get_pushed (y ∷ xs) x (suc k) h = slice_get_pushed xs x k (omega arith)

pub slice_get_before : {X : Type 0} (xs : List X) (x : X) (k : ℕ) → (k < length xs) ⊎ (length xs < k) → slice_get (xs ++ x ∷ []) k ≡ slice_get xs k
slice_get_before [] x zero (inl h) = absurd (omega arith)
slice_get_before [] x zero (inr h) = absurd (omega arith)
slice_get_before [] x (suc k) h = refl
slice_get_before (y ∷ xs) x zero h = refl
slice_get_before (y ∷ xs) x (suc k) (inl h) = slice_get_before xs x k (inl (omega arith))
slice_get_before (y ∷ xs) x (suc k) (inr h) = slice_get_before xs x k (inr (omega arith))

-- a side is this one or the other one
sides : (s t : Bool) → (s ≡ t) ⊎ (s ≡ other_side t)
sides true true = inl refl
sides false false = inl refl
sides true false = inr refl
sides false true = inr refl

some_is : {X : Type 0} {x y : X} → Some x ≡ Some y → x ≡ y
some_is h = cc

module _ (v : Slots) (at : ℕ) (rows : List Row) (stale : List Stale) (older : List ℕ) (last : ℕ) (r : ReadsTo v at rows stale older last) (f : IsFound rows stale older last) where
  -- the open slots of a row read before have one SrcID and key
  pair_below : (q : ℕ) (s t : Bool) (o p : List ℕ) → q < at → v q s ≡ Some o → v q t ≡ Some p → IsSamePair o p
  pair_below q false false o p h e g = let same : o ≡ p = some_is (sym e ∙ g) in record { same_source = ap source same; same_key = ap key same }
  pair_below q true true o p h e g = let same : o ≡ p = some_is (sym e ∙ g) in record { same_source = ap source same; same_key = ap key same }
  pair_below q false true o p h e g = (r.well q true p h g).twin o refl e
  pair_below q true false o p h e g = let t = (r.well q true o h e).twin p refl g in record { same_source = sym t.same_source; same_key = sym t.same_key }

  -- what is known of a row with an open slot
  record Below (q : ℕ) (s : Bool) (o : List ℕ) : Type 0 where
    row : Row
    there : slice_get rows q ≡ Some row
    st : Stale
    st_there : slice_get stale q ≡ Some st
    before : ℕ
    before_there : slice_get older q ≡ Some before
    src_is : row.src.0 ≡ source o
    key_is : row.key.0 ≡ key o
    order_is : (row.order ≡ order o) ⊎ (before ≡ order o)

  below : (q : ℕ) (s : Bool) (o : List ℕ) → q < at → v q s ≡ Some o → Below q s o
  below q s o h e =
      let n = newest_exists v q s o e in
      let open_at = newest_is_open v q n.0 n.1 in
      let held = held_row (newest v q) (slice_get rows q) n.0 (r.each q h) n.1 in
      let within = slice_get_within rows q held.0 held.1 in
      let st : Stale = get_or stale q (record { odd = true; is_open = true }) in
      let st_there = slice_get-get_or stale q (record { odd = true; is_open = true }) (omega (arith, within, f.as_many)) in
      let before_there = slice_get-get_or older q 0 (omega (arith, within, f.as_many_older)) in
      let pair = pair_below q open_at.0 s n.0 o h open_at.1 e in
      let is_newest : s ≡ other_side st.odd → held.0.order ≡ order o = λ is.
      held.2.has_order ∙ ap order (some_is (sym n.1 ∙ (r.stales q st st_there).0 ∙ ap (λ t. v q t) (sym is) ∙ e)) in
      let is_older : s ≡ st.odd → get_or older q 0 ≡ order o = λ is. sym (r.olders q st (get_or older q 0) o st_there before_there (ap (λ t. v q t) (sym is) ∙ e)) in
      record {
        row = held.0;
        there = held.1;
        st = st;
        st_there = st_there;
        before = get_or older q 0;
        before_there = before_there;
        src_is = held.2.has_source ∙ pair.same_source;
        key_is = held.2.has_key ∙ pair.same_key;
        order_is = ⊎_elim (λ is. inr (is_older is)) (λ is. inl (is_newest is)) (sides s st.odd);
      }

  row_before : {b : List ℕ} → IsJudged rows older at b → (before : ℕ) → at ≡ suc before → IsSome (newest v before)
  row_before j before e =
      let row = element rows before (omega (arith, e, j.follows)) in
      let held = held_some (newest v before) (slice_get rows before) row.0 (r.each before (omega (arith, e))) row.1 in
      subst IsSome (sym held.1) refl

  -- a judged slot is well, where it goes with the row's other slot
  pub judged_well : (side : Bool) (b : List ℕ) → IsJudged rows older at b → ((even : List ℕ) → side ≡ true → v at false ≡ Some even → IsSamePair even b) → ((even : List ℕ) → side ≡ true → v at false ≡ Some even → generation even ≡ generation b → ⊥) → IsWell v at side b
  judged_well side b j twin apart = record {
    formed = j.formed;
    follows = row_before j;
    twin = twin;
    apart = apart;
    new_pair = λ above other h e p. let t = newest_is_open v above other e in let k = below above t.0 other h t.1 in (j.new above k.row k.before k.there k.before_there (k.src_is ∙ p.same_source)).0 (k.key_is ∙ p.same_key);
    new_order = λ above s other h e p. let k = below above s other h e in
        let n = j.new above k.row k.before k.there k.before_there (k.src_is ∙ p.same_source) in
        ⊎_elim (λ is. n.1 (is ∙ p.same_order)) (λ is. n.2 (is ∙ p.same_order)) k.order_is;
  }

  -- a well slot is judged so
  as_many_before : (b : List ℕ) (side : Bool) → IsWell v at side b → length rows ≡ at
  as_many_before b side w = from at refl
    where
      from : (n : ℕ) → at ≡ n → length rows ≡ at
      from zero e = let few = r.few in omega (arith, few, e)
      from (suc q) e =
          let is_some_newest = w.follows q e in
          let n = is_there (newest v q) is_some_newest in
          let held = held_row (newest v q) (slice_get rows q) n.0 (r.each q (omega (arith, e))) n.1 in
          let within = slice_get_within rows q held.0 held.1 in
          let few = r.few in omega (arith, few, within, e)
        where
          is_there : (x : Option (List ℕ)) → IsSome x → (o : List ℕ) × (x ≡ Some o)
          is_there None h = absurd (false_is_not h)
            where
              false_is_not : false ≡ true → ⊥
              false_is_not h = cc
          is_there (Some o) h = (o, refl)

  older_clash : (side : Bool) (b : List ℕ) → IsWell v at side b → (k : ℕ) → k < at → (st : Stale) → slice_get stale k ≡ Some st → (before : ℕ) → slice_get older k ≡ Some before
      → (o : List ℕ) (t : Bool) → v k t ≡ Some o → source o ≡ source b → before ≡ order b → (x : Option (List ℕ)) → v k st.odd ≡ x → ⊥
  older_clash side b w k h st st_there before was o t open_at src before_is None e =
      let zero_before = r.closed k st before st_there was e in
      let positive = w.formed.numbers.ordered in omega (arith, zero_before, before_is, positive)
  older_clash side b w k h st st_there before was o t open_at src before_is (Some p) e =
      let pair = pair_below k st.odd t p o h e open_at in
      w.new_order k st.odd p h e (record { same_source = pair.same_source ∙ src; same_order = r.olders k st before p st_there was e ∙ before_is })

  pub well_judged : (side : Bool) (b : List ℕ) → IsWell v at side b → IsJudged rows older at b
  well_judged side b w = record {
    formed = w.formed;
    follows = as_many_before b side w;
    new = is_new;
  }
    where
      is_new : IsNewAmong rows older (source b) (key b) (order b)
      is_new k row before there was src_is =
          let within = slice_get_within rows k row there in
          let few = r.few in
          let h : k < at = omega (arith, within, few) in
          let held = held_some (newest v k) (slice_get rows k) row (r.each k h) there in
          let open_at = newest_is_open v k held.0 held.1 in
          let src = sym held.2.has_source ∙ src_is in
          let st = element stale k (omega (arith, within, f.as_many)) in (
            λ key_is. w.new_pair k held.0 h held.1 (record { same_source = src; same_key = sym held.2.has_key ∙ key_is }),
            λ order_is. w.new_order k open_at.0 held.0 h open_at.1 (record { same_source = src; same_order = sym held.2.has_order ∙ order_is }),
            λ before_is. older_clash side b w k h st.0 st.1 before was held.0 open_at.0 open_at.1 src before_is (v k st.0.odd) refl,
          )

  true_is_not : true ≡ false → ⊥
  true_is_not h = cc

  none_is_not : (x : List ℕ) → None ≡ Some x → ⊥
  none_is_not x h = cc

  -- no slot of this row is open
  pub reads_none : ((s : Bool) → v at s ≡ None) → ReadsTo v (at + 1) rows stale older last
  reads_none closed = record {
    well = λ q s o h e. r.well q s o (lower q s o h e) e;
    few = let few = r.few in omega (arith, few);
    each = λ q h. elim (cases_eq q at) [
      | inl e ↦ subst (λ x. HoldsRow 0 (newest v x) (slice_get rows x)) (sym e) (here (slice_get_past rows at r.few))
      | inr other ↦ r.each q (omega (arith, h, other))
    ];
    stales = r.stales;
    olders = r.olders;
    closed = r.closed;
    greatest = λ q s o h e. r.greatest q s o (lower q s o h e) e;
    reached = r.reached;
  }
    where
      lower : (q : ℕ) (s : Bool) (o : List ℕ) → q < at + 1 → v q s ≡ Some o → q < at
      lower q s o h e = elim (cases_eq q at) [
        | inl is ↦ absurd (none_is_not o (sym (closed s) ∙ ap (λ x. v x s) (sym is) ∙ e))
        | inr other ↦ omega (arith, h, other)
      ]

      none_newest : newest v at ≡ None
      none_newest = ap (λ (x : Option (List ℕ)). newer x (v at true)) (closed false) ∙ closed true

      here : slice_get rows at ≡ None → HoldsRow 0 (newest v at) (slice_get rows at)
      here past = subst (λ x. HoldsRow 0 x (slice_get rows at)) (sym none_newest) (subst (λ y. HoldsRow 0 None y) (sym past) tt)

  -- one slot of this row is open
  module _ (side : Bool) (b : List ℕ) (here : v at side ≡ Some b) (no_other : v at (other_side side) ≡ None) where
    no_twin : (even : List ℕ) → side ≡ true → v at false ≡ Some even → ⊥
    no_twin even odd e = none_is_not even (sym no_other ∙ ap (λ t. v at (other_side t)) odd ∙ e)

    pub one_ill : (IsJudged rows older at b → ⊥) → EndsIll v at side
    one_ill not_judged = record {
      ill = (b, here, λ w. not_judged (well_judged side b w));
      well_even = λ odd o e. absurd (no_twin o odd e);
      well_before = r.well;
    }

    only_newest : newest v at ≡ Some b
    only_newest = from side here no_other
      where
        from : (s : Bool) → v at s ≡ Some b → v at (other_side s) ≡ None → newest v at ≡ Some b
        from false e n = ap (λ (y : Option (List ℕ)). newer (v at false) y) n ∙ newer-none (v at false) ∙ e
        from true e n = ap (λ (x : Option (List ℕ)). newer x (v at true)) n ∙ e

    is_b : (s : Bool) (o : List ℕ) → v at s ≡ Some o → (s ≡ side) × (o ≡ b)
    is_b s o e = ⊎_elim (λ is. (is, some_is (sym e ∙ ap (λ t. v at t) is ∙ here))) (λ is. absurd (none_is_not o (sym no_other ∙ ap (λ t. v at t) (sym is) ∙ e))) (sides s side)

    twice : (s : Bool) → other_side (not s) ≡ s
    twice true = refl
    twice false = refl

    pub one_finds : IsJudged rows older at b → Finds v at b (record { odd = not side; is_open = false }) 0
    one_finds j = record {
      newest_is = only_newest;
      wells = λ s o e. let is = is_b s o e in subst (λ x. IsWell v at s x) (sym is.1) (subst (λ t. IsWell v at t b) (sym is.0)
          (judged_well side b j (λ even odd e'. absurd (no_twin even odd e')) (λ even odd e' g. no_twin even odd e')));
      stale_is = only_newest ∙ sym here ∙ ap (λ t. v at t) (sym (twice side));
      stale_open = ap is_some no_other;
      before_is = λ o e. absurd (none_is_not o (sym no_other ∙ e));
      before_none = λ e. refl;
      generations = λ s o e. let g = ap generation (is_b s o e).1 in omega (arith, g);
    }

  -- both slots of this row are open
  module _ (a b : List ℕ) (even : v at false ≡ Some a) (odd : v at true ≡ Some b) where
    pub two_ill_even : (IsJudged rows older at a → ⊥) → EndsIll v at false
    two_ill_even not_judged = record {
      ill = (a, even, λ w. not_judged (well_judged false a w));
      well_even = λ is o e. absurd (true_is_not (sym is));
      well_before = r.well;
    }

    even_well : IsJudged rows older at a → IsWell v at false a
    even_well j = judged_well false a j (λ o is e. absurd (true_is_not (sym is))) (λ o is e g. true_is_not (sym is))

    pub two_ill_odd : IsJudged rows older at a → (IsWell v at true b → ⊥) → EndsIll v at true
    two_ill_odd j not_well = record {
      ill = (b, odd, not_well);
      well_even = λ is o e. subst (λ x. IsWell v at false x) (some_is (sym even ∙ e)) (even_well j);
      well_before = r.well;
    }

    pub not_judged_ill : (IsJudged rows older at b → ⊥) → IsWell v at true b → ⊥
    not_judged_ill not_judged w = not_judged (well_judged true b w)

    pub other_pair_ill : (IsSamePair a b → ⊥) → IsWell v at true b → ⊥
    other_pair_ill differ w = differ (w.twin a refl even)

    pub same_generation_ill : generation a ≡ generation b → IsWell v at true b → ⊥
    same_generation_ill same w = w.apart a refl even same

    module _ (j : IsJudged rows older at a) (k : IsJudged rows older at b) (pair : IsSamePair a b) (apart : generation a ≡ generation b → ⊥) where
      odd_well : IsWell v at true b
      odd_well = judged_well true b k (λ o is e. subst (λ x. IsSamePair x b) (some_is (sym even ∙ e)) pair) (λ o is e g. apart (ap generation (some_is (sym even ∙ e)) ∙ g))

      both_well : (s : Bool) (o : List ℕ) → v at s ≡ Some o → IsWell v at s o
      both_well false o e = subst (λ x. IsWell v at false x) (some_is (sym even ∙ e)) (even_well j)
      both_well true o e = subst (λ x. IsWell v at true x) (some_is (sym odd ∙ e)) odd_well

      pub odd_finds : generation a < generation b → (bf : ℕ) → bf ≡ order a → Finds v at b (record { odd = false; is_open = true }) bf
      odd_finds less bf is = record {
        newest_is = newest_odd;
        wells = both_well;
        stale_is = newest_odd ∙ sym odd;
        stale_open = ap is_some even;
        before_is = λ o e. ap order (some_is (sym e ∙ even)) ∙ sym is;
        before_none = λ e. absurd (none_is_not a (sym e ∙ even));
        generations = at_most;
      }
        where
          newest_odd : newest v at ≡ Some b
          newest_odd = ap (λ (y : Option (List ℕ)). newer (v at false) y) odd ∙ newer_odd (v at false) b (λ o e. let g = ap generation (some_is (sym e ∙ even)) in omega (arith, g, less))

          at_most : (s : Bool) (o : List ℕ) → v at s ≡ Some o → generation o ≤ generation b
          at_most false o e = let g = ap generation (some_is (sym e ∙ even)) in omega (arith, g, less)
          at_most true o e = let g = ap generation (some_is (sym e ∙ odd)) in omega (arith, g)

      pub even_finds : generation b < generation a → (bf : ℕ) → bf ≡ order b → Finds v at a (record { odd = true; is_open = true }) bf
      even_finds less bf is = record {
        newest_is = newest_even;
        wells = both_well;
        stale_is = newest_even ∙ sym even;
        stale_open = ap is_some odd;
        before_is = λ o e. ap order (some_is (sym e ∙ odd)) ∙ sym is;
        before_none = λ e. absurd (none_is_not b (sym e ∙ odd));
        generations = at_most;
      }
        where
          newest_even : newest v at ≡ Some a
          newest_even = ap (λ (x : Option (List ℕ)). newer x (v at true)) even ∙ newer_even a (v at true) (λ o e. let g = ap generation (some_is (sym e ∙ odd)) in omega (arith, g, less))

          at_most : (s : Bool) (o : List ℕ) → v at s ≡ Some o → generation o ≤ generation a
          at_most true o e = let g = ap generation (some_is (sym e ∙ odd)) in omega (arith, g, less)
          at_most false o e = let g = ap generation (some_is (sym e ∙ even)) in omega (arith, g)

  -- a row is found
  module _ (row : Row) (n : List ℕ) (st : Stale) (bf : ℕ) (count : length rows ≡ at) (shows : Shows n 0 row) (found : Finds v at n st bf) where
    each_more : (q : ℕ) → q < at + 1 → HoldsRow 0 (newest v q) (slice_get (rows ++ row ∷ []) q)
    each_more q h = elim (cases_eq q at) [
      | inl e ↦ subst (λ x. HoldsRow 0 (newest v x) (slice_get (rows ++ row ∷ []) x)) (sym e) (subst (λ x. HoldsRow 0 x (slice_get (rows ++ row ∷ []) at)) (sym found.newest_is) (subst (λ y. HoldsRow 0 (Some n) y) (sym (slice_get_pushed rows row at count)) shows))
      | inr other ↦ subst (λ y. HoldsRow 0 (newest v q) y) (sym (slice_get_before rows row q (inl (omega (arith, h, other, count))))) (r.each q (omega (arith, h, other)))
    ]

    stales_more : (q : ℕ) (s : Stale) → ((q < length stale) × (slice_get stale q ≡ Some s)) ⊎ ((q ≡ length stale) × (s ≡ st)) → (newest v q ≡ v q (other_side s.odd)) × (is_some (v q s.odd) ≡ s.is_open)
    stales_more q s (inl p) = r.stales q s p.1
    stales_more q s (inr p) =
        let here : q ≡ at = omega (arith, p.0, f.as_many, count) in
        subst (λ x. (newest v x ≡ v x (other_side s.odd)) × (is_some (v x s.odd) ≡ s.is_open)) (sym here)
        (subst (λ t. (newest v at ≡ v at (other_side t.odd)) × (is_some (v at t.odd) ≡ t.is_open)) (sym p.1) (found.stale_is, found.stale_open))

    olders_more : (q : ℕ) (s : Stale) (before : ℕ) (o : List ℕ) → ((q < length stale) × (slice_get stale q ≡ Some s)) ⊎ ((q ≡ length stale) × (s ≡ st)) → ((q < length older) × (slice_get older q ≡ Some before)) ⊎ ((q ≡ length older) × (before ≡ bf)) → v q s.odd ≡ Some o → order o ≡ before
    olders_more q s before o (inl p) (inl b) e = r.olders q s before o p.1 b.1 e
    olders_more q s before o (inl p) (inr b) e = absurd (omega (arith, p.0, b.0, f.as_many, f.as_many_older))
    olders_more q s before o (inr p) (inl b) e = absurd (omega (arith, p.0, b.0, f.as_many, f.as_many_older))
    olders_more q s before o (inr p) (inr b) e =
        let here : q ≡ at = omega (arith, p.0, f.as_many, count) in
        found.before_is o (sym (ap (λ x. v x st.odd) here) ∙ sym (ap (λ (t : Stale). v q t.odd) p.1) ∙ e) ∙ sym b.1

    closed_more : (q : ℕ) (s : Stale) (before : ℕ) → ((q < length stale) × (slice_get stale q ≡ Some s)) ⊎ ((q ≡ length stale) × (s ≡ st)) → ((q < length older) × (slice_get older q ≡ Some before)) ⊎ ((q ≡ length older) × (before ≡ bf)) → v q s.odd ≡ None → before ≡ 0
    closed_more q s before (inl p) (inl b) e = r.closed q s before p.1 b.1 e
    closed_more q s before (inl p) (inr b) e = absurd (omega (arith, p.0, b.0, f.as_many, f.as_many_older))
    closed_more q s before (inr p) (inl b) e = absurd (omega (arith, p.0, b.0, f.as_many, f.as_many_older))
    closed_more q s before (inr p) (inr b) e =
        let here : q ≡ at = omega (arith, p.0, f.as_many, count) in
        b.1 ∙ found.before_none (sym (ap (λ x. v x st.odd) here) ∙ sym (ap (λ (t : Stale). v q t.odd) p.1) ∙ e)

    pub reads_more : ReadsTo v (at + 1) (rows ++ row ∷ []) (stale ++ st ∷ []) (older ++ bf ∷ []) (max last (generation n))
    reads_more = record {
      well = λ q s o h e. elim (cases_eq q at) [
        | inl is ↦ subst (λ x. IsWell v x s o) (sym is) (found.wells s o (ap (λ x. v x s) (sym is) ∙ e))
        | inr other ↦ r.well q s o (omega (arith, h, other)) e
      ];
      few = omega (arith, count, length-append rows (row ∷ []));
      each = each_more;
      stales = λ q s is. stales_more q s (slice_get_in_push stale st s q is);
      olders = λ q s before o is was e. olders_more q s before o (slice_get_in_push stale st s q is) (slice_get_in_push older bf before q was) e;
      closed = λ q s before is was e. closed_more q s before (slice_get_in_push stale st s q is) (slice_get_in_push older bf before q was) e;
      greatest = λ q s o h e. elim (cases_eq q at) [
        | inl is ↦ let g = found.generations s o (ap (λ x. v x s) (sym is) ∙ e) in omega (arith, g)
        | inr other ↦ let g = r.greatest q s o (omega (arith, h, other)) e in omega (arith, g)
      ];
      reached = elim (cases_lt last (generation n)) [
        | inl less ↦ let t = newest_is_open v at n found.newest_is in inr (at, t.0, n, t.1, omega (arith, less))
        | inr most ↦ let e : max last (generation n) ≡ last = omega (arith, most) in
            ⊎_elim (λ z. inl (e ∙ z)) (λ p. inr (p.0, p.1, p.2, p.3, p.4 ∙ sym e)) r.reached
      ];
    }

-- what is said of two slots, in the other order
pub swapped : (r : Option Bool) (A B C : Slots → Type 0) (D : Bool → Slots → Type 0) → MatchOption r ((v : Slots) → A v → B v → C v) (λ s. (v : Slots) → A v → B v → D s v)
    → MatchOption r ((v : Slots) → B v → A v → C v) (λ s. (v : Slots) → B v → A v → D s v)
swapped None A B C D h = λ v b a. h v a b
swapped (Some s) A B C D h = λ v b a. h v a b
