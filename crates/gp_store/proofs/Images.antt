-- What the slots of an image are after each kind of write, whole or torn.
use Rattle.std.proofs.Common.{◌≡◌, ◌⊎◌, inl, inr, ⊎_elim, ℕ, ◌+◌, ◌*◌, ◌<◌, ◌≤◌, Bool, true, false, cond, List, Option, Some, None, refl, sym, ◌∙◌, ap, arith, slice_index, nat_lt, ◌==◌, ◌&&◌}
use Rattle.std.proofs.lemmas.Bool.{cases_eq, cases_lt}
use Rattle.std.proofs.lemmas.Bool.Decides.{nat_tests}
use Rattle.std.proofs.Math.Nat.{mul-le-mul_left}
use Rattle.gp_disk.specs.Disk.{part}
use Rattle.gp_store.specs.Slots.{slot_number}
use Rattle.gp_store.specs.Image.{Layout, OPEN, gate_at, slots}

-- two slots are the same one
abbrev pub IsAt : ℕ → Bool → ℕ → Bool → Type 0
IsAt row side r s = (r ≡ row) × (s ≡ side)

-- the octets of two slots don't overlap
pub slots-apart : (l : Layout) (m n : ℕ) → m < n → l.first + (l.behind + 1) * m + (l.behind + 1) ≤ l.first + (l.behind + 1) * n
slots-apart l m n h =
    let more : (l.behind + 1) * (m + 1) ≤ (l.behind + 1) * n = mul-le-mul_left (l.behind + 1) (omega arith) in
    omega (arith, more)

numbers-differ : (row : ℕ) (side : Bool) (r : ℕ) (s : Bool) → (IsAt row side r s → ⊥) → (slot_number r s < slot_number row side) ⊎ (slot_number row side < slot_number r s)
numbers-differ row false r false other = elim (cases_eq r row) [ inl e ↦ absurd (other (e, refl)) | inr n ↦ elim (cases_lt r row) [ inl h ↦ inl (omega arith) | inr h ↦ inr (omega arith) ] ]
numbers-differ row true r true other = elim (cases_eq r row) [ inl e ↦ absurd (other (e, refl)) | inr n ↦ elim (cases_lt r row) [ inl h ↦ inl (omega arith) | inr h ↦ inr (omega arith) ] ]
numbers-differ row false r true other = elim (cases_lt r row) [ inl h ↦ inl (omega arith) | inr h ↦ inr (omega arith) ]
numbers-differ row true r false other = elim (cases_lt row r) [ inl h ↦ inr (omega arith) | inr h ↦ inl (omega arith) ]

-- a slot's octets end before another's gate, or the other's octets end before its gate
pub apart : (l : Layout) (row : ℕ) (side : Bool) (r : ℕ) (s : Bool) → (IsAt row side r s → ⊥)
    → (gate_at l r s + (l.behind + 1) ≤ gate_at l row side) ⊎ (gate_at l row side + (l.behind + 1) ≤ gate_at l r s)
apart l row side r s other = ⊎_elim (λ h. inl (slots-apart l (slot_number r s) (slot_number row side) h)) (λ h. inr (slots-apart l (slot_number row side) (slot_number r s) h)) (numbers-differ row side r s other)

-- a slot by its gate and the octets behind it
slot_by : Layout → ℕ → ℕ → List ℕ → Option (List ℕ)
slot_by l row gate behind = cond (nat_lt row l.rows && gate == OPEN) (Some behind) None

pub slots_same : (l : Layout) (old new : List ℕ) (r : ℕ) (s : Bool) → slice_index new (gate_at l r s) ≡ slice_index old (gate_at l r s)
    → part (gate_at l r s + 1) l.behind new ≡ part (gate_at l r s + 1) l.behind old → slots l new r s ≡ slots l old r s
unfolding slots slot_by
slots_same l old new r s gate behind =
    ap (λ (g : ℕ). slot_by l r g (part (gate_at l r s + 1) l.behind new)) gate ∙ ap (λ (b : List ℕ). slot_by l r (slice_index old (gate_at l r s)) b) behind

-- an open slot has the octets behind its gate
pub slots_open : (l : Layout) (image octets : List ℕ) (r : ℕ) (s : Bool) → slots l image r s ≡ Some octets → octets ≡ part (gate_at l r s + 1) l.behind image
unfolding slots
slots_open l image octets r s = from (nat_lt r l.rows && slice_index image (gate_at l r s) == OPEN)
  where
    from : (b : Bool) → cond b (Some (part (gate_at l r s + 1) l.behind image)) None ≡ Some octets → octets ≡ part (gate_at l r s + 1) l.behind image
    from true h = cc
    from false h = cc

-- whatever its gate is, a slot is closed, or open with the octets behind the gate
pub slots_either : (l : Layout) (image : List ℕ) (r : ℕ) (s : Bool) → (slots l image r s ≡ None) ⊎ (slots l image r s ≡ Some (part (gate_at l r s + 1) l.behind image))
unfolding slots
slots_either l image r s = from (nat_lt r l.rows && slice_index image (gate_at l r s) == OPEN)
  where
    from : (b : Bool) → (cond b (Some (part (gate_at l r s + 1) l.behind image)) None ≡ None) ⊎ (cond b (Some (part (gate_at l r s + 1) l.behind image)) None ≡ Some (part (gate_at l r s + 1) l.behind image))
    from true = inr refl
    from false = inl refl

-- a slot with an open gate
pub slots_at_open : (l : Layout) (image : List ℕ) (r : ℕ) (s : Bool) → r < l.rows → slice_index image (gate_at l r s) ≡ OPEN → slots l image r s ≡ Some (part (gate_at l r s + 1) l.behind image)
unfolding slots
slots_at_open l image r s within gate = grind (arith, nat_tests)

-- a slot with a closed gate
pub slots_at_closed : (l : Layout) (image : List ℕ) (r : ℕ) (s : Bool) → (slice_index image (gate_at l r s) ≡ OPEN → ⊥) → slots l image r s ≡ None
unfolding slots
slots_at_closed l image r s gate = grind (arith, nat_tests)

-- a closed slot whose octets change stays closed
pub slots_closed_same : (l : Layout) (old new : List ℕ) (r : ℕ) (s : Bool) → slice_index new (gate_at l r s) ≡ slice_index old (gate_at l r s) → slots l old r s ≡ None → slots l new r s ≡ slots l old r s
unfolding slots
slots_closed_same l old new r s gate closed = sym (ap (λ (g : ℕ). cond (nat_lt r l.rows && g == OPEN) (Some (part (gate_at l r s + 1) l.behind new)) None) (sym gate)) ∙ from (nat_lt r l.rows && slice_index old (gate_at l r s) == OPEN) closed
  where
    from : (b : Bool) → cond b (Some (part (gate_at l r s + 1) l.behind old)) None ≡ None → cond b (Some (part (gate_at l r s + 1) l.behind new)) None ≡ cond b (Some (part (gate_at l r s + 1) l.behind old)) None
    from true h = cc
    from false h = refl

-- a slot as it is read: its gate, and what is behind it
pub slots_read : (l : Layout) (image : List ℕ) (r : ℕ) (s : Bool) → r < l.rows → slots l image r s ≡ cond (slice_index image (gate_at l r s) == OPEN) (Some (part (gate_at l r s + 1) l.behind image)) None
unfolding slots
slots_read l image r s within = grind (arith, nat_tests)
