-- A slot as it is read.
use Rattle.std.proofs.Common.{◌≡◌, ℕ, ◌+◌, ◌<◌, Bool, cond, List, Option, Some, None, IfSome, sym, ◌∙◌, ap, subst, arith, slice_index, ◌==◌}
use Rattle.gp_disk.specs.Disk.{part}
use Rattle.gp_store.specs.Image.{OPEN, gate_at, slots, format_1}
use Rattle.gp_store.specs.Reading.{slot_of}
use Rattle.gp_store.proofs.Parts.{octet-part, part-part}
use Rattle.gp_store.proofs.Images.{slots_read}

pub at_some : (image : Option (List ℕ)) (P : List ℕ → Type 0) (d : List ℕ) → IfSome image P → image ≡ Some d → P d
at_some image P d h is = subst (λ i. IfSome i P) is h

pub slot_read : (row : ℕ) (side : Bool) (at : ℕ) (into behind d : List ℕ) → row < 1024 → at ≡ gate_at format_1 row side → into ≡ part at 64 d → behind ≡ part 1 63 into → slots format_1 d row side ≡ slot_of (slice_index into 0 == OPEN) behind
slot_read row side at into behind d within place into_is behind_is =
    let gate : slice_index into 0 ≡ slice_index d (gate_at format_1 row side) = ap (λ (l : List ℕ). slice_index l 0) into_is ∙ octet-part at 64 d (omega arith) ∙ ap (λ (n : ℕ). slice_index d n) place in
    let octets : behind ≡ part (gate_at format_1 row side + 1) 63 d = behind_is ∙ ap (λ (l : List ℕ). part 1 63 l) into_is ∙ part-part at 64 1 63 d (omega arith) ∙ ap (λ (n : ℕ). part (n + 1) 63 d) place in
    slots_read format_1 d row side within ∙ ap (λ (g : ℕ). cond (g == OPEN) (Some (part (gate_at format_1 row side + 1) 63 d)) None) (sym gate)
    ∙ ap (λ (b : List ℕ). cond (slice_index into 0 == OPEN) (Some b) None) (sym octets)
