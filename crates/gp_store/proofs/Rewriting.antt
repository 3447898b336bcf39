-- The three steps in which a slot is rewritten.
use Rattle.std.proofs.Common.{◌≡◌, inl, inr, ⊎_elim, ℕ, ◌+◌, ◌<◌, ◌≤◌, Bool, true, false, List, [], ◌∷◌, length, Option, Some, None, is_some, option_map, refl, sym, ◌∙◌, ap, subst, arith}
use Rattle.gp_disk.specs.Disk.{part, put, Outside, GrowsTorn, Same, Only}
use Rattle.gp_store.specs.Image.{OPEN, gate_at, slots, format_1}
use Rattle.gp_store.specs.Writes.{Rewrites, Rewritten, Closes, Closed, Filled, Opens, IsOpened, GrowsBy, Becomes, TellsOpen, LeavesRewritten}
use Rattle.gp_store.specs.Commit.{TouchesOneSlot}
use Rattle.gp_store.proofs.Images.{slots_open}
use Rattle.gp_store.proofs.Torn.{OnlyAt-same, OnlyAt-trans, torn_gate, torn_behind, written_closed, written_behind, written_open}
use Rattle.gp_store.proofs.Grows.{grows_torn, becomes_put}

-- the slot of an image is open, or closed, as it is told
tells_of : (row : ℕ) (side : Bool) (is_open : Bool) (image : Option (List ℕ)) (d : List ℕ) → TellsOpen format_1 row side is_open image → image ≡ Some d → is_some (slots format_1 d row side) ≡ is_open
tells_of row side is_open image d tells is = subst (λ i. TellsOpen format_1 row side is_open i) is tells

some_of : (x : Option (List ℕ)) → is_some x ≡ true → (o : List ℕ) × (x ≡ Some o)
some_of None h = absurd (false_is_not h)
  where
    false_is_not : false ≡ true → ⊥
    false_is_not h = cc
some_of (Some o) h = (o, refl)

none_of : (x : Option (List ℕ)) → is_some x ≡ false → x ≡ None
none_of None h = refl
none_of (Some o) h = absurd (true_is_not h)
  where
    true_is_not : true ≡ false → ⊥
    true_is_not h = cc

module _ (row : ℕ) (side : Bool) (there : row < 1024) (at : ℕ) (place : at ≡ gate_at format_1 row side) (within : at + 64 ≤ 135168) (image : Option (List ℕ)) (size : ℕ) (large : 204800 ≤ size) (fits : (d : List ℕ) → image ≡ Some d → length d ≡ size) where
  long : (d : List ℕ) → image ≡ Some d → gate_at format_1 row side + 64 ≤ length d
  long d is = let s = fits d is in omega (arith, s, place, within, large)

  pub close_since : (old new : List ℕ → Type 0) → TellsOpen format_1 row side true image → GrowsTorn at 1 image old new → GrowsBy (Closes format_1 row side) image old new
  close_since old new tells g = grows_torn at 1 (Closes format_1 row side) image old new g (λ d c is o.
      let torn = torn_gate format_1 row side (omega arith) there d c (subst (λ n. Outside n 1 d c) place o) in
      let was = some_of (slots format_1 d row side) (tells_of row side true image d tells is) in
      let same = ap (λ (b : List ℕ). Some b) (slots_open format_1 d was.0 row side was.1) in
      record { only = torn.0; here = ⊎_elim (λ h. inr h) (λ h. inl (h ∙ sym same ∙ sym was.1)) torn.1 })

  pub close_written : (new : Option (List ℕ)) → new ≡ option_map (put at (0 ∷ [])) image → Becomes (Closed format_1 row side) image new
  close_written new is = becomes_put (Closed format_1 row side) (put at (0 ∷ [])) image new is (λ d e.
      subst (λ n. Closed format_1 row side d (put n (0 ∷ []) d)) (sym place) (written_closed format_1 row side (omega arith) there d (let l = long d e in omega (arith, l))))

  pub fill_since : (n : ℕ) → n ≡ 63 → (old new : List ℕ → Type 0) → TellsOpen format_1 row side false image → GrowsTorn (at + 1) n image old new → GrowsBy (Closed format_1 row side) image old new
  fill_since n sixty old new tells g = grows_torn (at + 1) n (Closed format_1 row side) image old new g (λ d c is o.
      let closed = none_of (slots format_1 d row side) (tells_of row side false image d tells is) in
      let torn = torn_behind format_1 row side (omega arith) there d c (subst (λ m. Outside (m + 1) 63 d c) place (subst (λ m. Outside (at + 1) m d c) sixty o)) closed in
      record { only = torn.0; here = torn.1 })

  pub fill_written : (octets : List ℕ) → length octets ≡ 63 → (new : Option (List ℕ)) → TellsOpen format_1 row side false image → new ≡ option_map (put (at + 1) octets) image → Becomes (Filled format_1 row side octets) image new
  fill_written octets sixty new tells is = becomes_put (Filled format_1 row side octets) (put (at + 1) octets) image new is (λ d e.
      let closed = none_of (slots format_1 d row side) (tells_of row side false image d tells e) in
      let done = written_behind format_1 row side (omega arith) there octets d sixty (long d e) closed in
      subst (λ m. Filled format_1 row side octets d (put (m + 1) octets d)) (sym place) (record { closed = done.0; behind = done.1 }))

  pub open_since : (old new : List ℕ → Type 0) → GrowsTorn at 1 image old new → GrowsBy (Opens format_1 row side) image old new
  open_since old new g = grows_torn at 1 (Opens format_1 row side) image old new g (λ d c is o.
      let torn = torn_gate format_1 row side (omega arith) there d c (subst (λ n. Outside n 1 d c) place o) in
      record { only = torn.0; here = torn.1 })

  pub open_written : (new : Option (List ℕ)) → new ≡ option_map (put at (OPEN ∷ [])) image → Becomes (IsOpened format_1 row side) image new
  open_written new is = becomes_put (IsOpened format_1 row side) (put at (OPEN ∷ [])) image new is (λ d e.
      let done = written_open format_1 row side (omega arith) there (part (gate_at format_1 row side + 1) 63 d) d (let l = long d e in omega (arith, l)) refl in
      subst (λ n. IsOpened format_1 row side d (put n (OPEN ∷ []) d)) (sym place) (record { only = done.only; here = done.here }))

-- the steps one after another
module _ (row : ℕ) (side : Bool) (octets : List ℕ) where
  pub closes_rewrites : (d c : List ℕ) → Closes format_1 row side d c → Rewrites format_1 row side octets d c
  closes_rewrites d c p = record { only = p.only; here = ⊎_elim (λ h. inl h) (λ h. inr (inl h)) p.here }

  pub closed_rewrites : (d e c : List ℕ) → Closed format_1 row side d e → Closed format_1 row side e c → Rewrites format_1 row side octets d c
  closed_rewrites d e c p q = record { only = OnlyAt-trans format_1 row side d e c p.only q.only; here = inr (inl q.here) }

  pub filled_after : (d e c : List ℕ) → Closed format_1 row side d e → Filled format_1 row side octets e c → Filled format_1 row side octets d c
  filled_after d e c p q = record { closed = record { only = OnlyAt-trans format_1 row side d e c p.only q.closed.only; here = q.closed.here }; behind = q.behind }

  pub opens_rewrites : (d e c : List ℕ) → Filled format_1 row side octets d e → Opens format_1 row side e c → Rewrites format_1 row side octets d c
  opens_rewrites d e c p q = record {
    only = OnlyAt-trans format_1 row side d e c p.closed.only q.only;
    here = ⊎_elim (λ h. inr (inl h)) (λ h. inr (inr (h ∙ ap (λ (b : List ℕ). Some b) p.behind))) q.here;
  }

  pub opened_rewrites : (d e c : List ℕ) → Filled format_1 row side octets d e → IsOpened format_1 row side e c → Rewritten format_1 row side octets d c
  opened_rewrites d e c p q = record { only = OnlyAt-trans format_1 row side d e c p.closed.only q.only; here = q.here ∙ ap (λ (b : List ℕ). Some b) p.behind }

-- since the last `begin`, from a disk at rest
pub moments_since : (row : ℕ) (side : Bool) (octets : List ℕ) (image begun : Option (List ℕ)) (old now since left : List ℕ → Type 0) → Only image old → begun ≡ image → Same old now → Same now since
    → GrowsBy (Rewrites format_1 row side octets) begun since left → LeavesRewritten row side octets image left
moments_since row side octets image begun old now since left only same_image same_now same_since g = λ c l. ⊎_elim
    (λ was. (c, only c (same_now.none c (same_since.none c was)), record { only = OnlyAt-same format_1 row side c; here = inl refl }))
    (λ t. (t.0, sym same_image ∙ t.1, t.2))
    (g.none c l)

-- no other slot is touched
pub touches_one : (row : ℕ) (side : Bool) (octets : List ℕ) (image : Option (List ℕ)) (left : List ℕ → Type 0) → LeavesRewritten row side octets image left → TouchesOneSlot row image left
touches_one row side octets image left moments = (side, λ c l. let m = moments c l in (m.0, m.1, m.2.only.outside))
