-- What a write into an image leaves as it was.
use Rattle.std.proofs.Common.{◌≡◌, ℕ, ◌+◌, ◌≤◌, List, ◌++◌, length, take, drop, refl, arith, append_assoc, length-append, length-drop, length-take}
use Rattle.std.proofs.lemmas.List.{take_at, length-take-le}
use Rattle.std.proofs.lemmas.Slice.{drop-append-drop}
use Rattle.gp_disk.specs.Disk.{put, Outside}

pub length-put : (at : ℕ) (octets image : List ℕ) → at + length octets ≤ length image → length (put at octets image) ≡ length image
length-put at octets image fits = simp (length-append, length-drop, length-take) (omega arith)

pub Outside-put : (at count : ℕ) (octets image : List ℕ) → length octets ≤ count → at + count ≤ length image → Outside at count image (put at octets image)
Outside-put at count octets image short fits = record {
  size = length-put at octets image (omega arith);
  below = rw append_assoc (take_at (take at image) (octets ++ drop (at + length octets) image) at (length-take-le at image (omega arith)));
  above = drop-append-drop (at + length octets) image (take at image ++ octets) (at + count) (omega arith) (rw length-append (rw (length-take-le at image (omega arith)) refl));
}
