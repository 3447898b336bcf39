-- One fact a kind of stable write: what an image is whose named range may hold any octets, and what it is after the write.
use Rattle.std.proofs.Common.{◌≡◌, ◌⊎◌, inl, inr, ⊎_elim, ℕ, ◌+◌, ◌<◌, ◌≤◌, Bool, List, [], ◌∷◌, length, Some, None, refl, ◌∙◌, ap, subst, arith}
use Rattle.gp_disk.specs.Disk.{part, put, Outside}
use Rattle.gp_store.specs.Image.{Layout, OPEN, gate_at, slots}
use Rattle.gp_store.specs.Writes.{OnlyAt, Closed, Rewritten}
use Rattle.gp_store.proofs.Parts.{part-outside, drop-outside, octet-outside, part-put, octet-put, Outside-put}
use Rattle.gp_store.proofs.Images.{apart, slots_same, slots_either, slots_at_open, slots_at_closed, slots_closed_same}

-- a range that lies within another
pub Outside-within : (at n from count : ℕ) (old new : List ℕ) → from ≤ at → at + n ≤ from + count → Outside at n old new → Outside from count old new
Outside-within at n from count old new starts ends o = record {
  size = o.size;
  below = part-outside at n old new 0 from o (inl (omega arith));
  above = drop-outside at n old new (from + count) o ends;
}

pub OnlyAt-same : (l : Layout) (row : ℕ) (side : Bool) (image : List ℕ) → OnlyAt l row side image image
OnlyAt-same l row side image = record { outside = record { size = refl; below = refl; above = refl }; header = refl; others = λ r s other. refl }

pub OnlyAt-trans : (l : Layout) (row : ℕ) (side : Bool) (a b c : List ℕ) → OnlyAt l row side a b → OnlyAt l row side b c → OnlyAt l row side a c
OnlyAt-trans l row side a b c p q = record {
  outside = record { size = q.outside.size ∙ p.outside.size; below = q.outside.below ∙ p.outside.below; above = q.outside.above ∙ p.outside.above };
  header = q.header ∙ p.header;
  others = λ r s other. q.others r s other ∙ p.others r s other;
}

module _ (l : Layout) (row : ℕ) (side : Bool) (behind_header : 8 ≤ l.first) (there : row < l.rows) where
  -- octets of a slot, its gate or those behind it, change no other slot and not the header
  pub only_at : (at n : ℕ) (old new : List ℕ) → gate_at l row side ≤ at → at + n ≤ gate_at l row side + (l.behind + 1) → Outside at n old new → OnlyAt l row side old new
  only_at at n old new from to o = record {
    outside = Outside-within at n (gate_at l row side) (l.behind + 1) old new from to o;
    header = part-outside at n old new 0 8 o (inl (omega arith));
    others = λ r s other. let where_it_is = apart l row side r s other in
        slots_same l old new r s
        (octet-outside at n old new (gate_at l r s) o (⊎_elim (λ h. inl (omega arith)) (λ h. inr (omega arith)) where_it_is))
        (part-outside at n old new (gate_at l r s + 1) l.behind o (⊎_elim (λ h. inl (omega arith)) (λ h. inr (omega arith)) where_it_is));
  }

  -- a torn gate leaves that slot closed, or open with the octets behind it
  pub torn_gate : (old new : List ℕ) → Outside (gate_at l row side) 1 old new
      → OnlyAt l row side old new × ((slots l new row side ≡ None) ⊎ (slots l new row side ≡ Some (part (gate_at l row side + 1) l.behind old)))
  torn_gate old new o =
      let behind = part-outside (gate_at l row side) 1 old new (gate_at l row side + 1) l.behind o (inr (omega arith)) in (
        only_at (gate_at l row side) 1 old new (omega arith) (omega arith) o,
        ⊎_elim (λ h. inl h) (λ h. inr (h ∙ ap (λ (b : List ℕ). Some b) behind)) (slots_either l new row side),
      )

  -- torn octets behind a closed gate leave every slot as it was
  pub torn_behind : (old new : List ℕ) → Outside (gate_at l row side + 1) l.behind old new → slots l old row side ≡ None → OnlyAt l row side old new × (slots l new row side ≡ None)
  torn_behind old new o closed =
      let gate = octet-outside (gate_at l row side + 1) l.behind old new (gate_at l row side) o (inl (omega arith)) in (
        only_at (gate_at l row side + 1) l.behind old new (omega arith) (omega arith) o,
        slots_closed_same l old new row side gate closed ∙ closed,
      )

  -- a gate that is written closed
  pub written_closed : (image : List ℕ) → gate_at l row side < length image → Closed l row side image (put (gate_at l row side) (0 ∷ []) image)
  written_closed image within =
      let fits : gate_at l row side + 1 ≤ length image = omega arith in
      let gate = octet-put (gate_at l row side) 0 image within in
      record {
        only = only_at (gate_at l row side) 1 image _ (omega arith) (omega arith) (Outside-put (gate_at l row side) (0 ∷ []) image fits);
        here = slots_at_closed l _ row side (λ open_gate. omega (arith, gate, open_gate));
      }

  -- octets that are written behind a closed gate
  pub written_behind : (octets image : List ℕ) → length octets ≡ l.behind → gate_at l row side + (l.behind + 1) ≤ length image → slots l image row side ≡ None
      → Closed l row side image (put (gate_at l row side + 1) octets image) × (part (gate_at l row side + 1) l.behind (put (gate_at l row side + 1) octets image) ≡ octets)
  written_behind octets image size within closed =
      let fits : gate_at l row side + 1 + length octets ≤ length image = omega arith in
      let outside = subst (λ n. Outside (gate_at l row side + 1) n image (put (gate_at l row side + 1) octets image)) size (Outside-put (gate_at l row side + 1) octets image fits) in
      let torn = torn_behind image (put (gate_at l row side + 1) octets image) outside closed in (
        record { only = torn.0; here = torn.1 },
        subst (λ n. part (gate_at l row side + 1) n (put (gate_at l row side + 1) octets image) ≡ octets) size (part-put (gate_at l row side + 1) octets image fits),
      )

  -- a gate that is written open
  pub written_open : (octets image : List ℕ) → gate_at l row side < length image → part (gate_at l row side + 1) l.behind image ≡ octets
      → Rewritten l row side octets image (put (gate_at l row side) (OPEN ∷ []) image)
  written_open octets image within behind =
      let fits : gate_at l row side + 1 ≤ length image = omega arith in
      let outside = Outside-put (gate_at l row side) (OPEN ∷ []) image fits in
      let kept = part-outside (gate_at l row side) 1 image _ (gate_at l row side + 1) l.behind outside (inr (omega arith)) in
      record {
        only = only_at (gate_at l row side) 1 image _ (omega arith) (omega arith) outside;
        here = slots_at_open l _ row side there (octet-put (gate_at l row side) OPEN image within) ∙ ap (λ (b : List ℕ). Some b) (kept ∙ behind);
      }
