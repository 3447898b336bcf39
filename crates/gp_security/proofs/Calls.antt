-- How often the block cipher is called for a frame: at most 17 times.
use Rattle.std.proofs.Common.{◌≡◌, ℕ, ◌+◌, ◌/◌, ◌≤◌, eqb, Bool, true, false, List, [], ◌++◌, length, if◌then◌else◌, arith, refl, length-append}
use Rattle.gp_ccm.specs.Ccm.{cipher_calls}
use Rattle.gp_frames.specs.declared.frame.Gpdf.{Gpdf}
use Rattle.gp_frames.specs.Frame.{header, level_of}
use Rattle.gp_frames.proofs.Headers.{header-length}
use Rattle.gp_security.specs.Protection.{frame_calls}

few : (empty : Bool) (n : ℕ) → n ≤ 8 → (if empty then 0 else n) ≤ n
few true n h = omega arith
few false n h = omega arith

calls_by : (three : Bool) (head c : List ℕ) → length head ≤ 10 → length c ≤ 104 →
    cipher_calls (if three then head else head ++ c) (if three then c else []) ≤ 17
calls_by true head c h k = omega (arith, h, k, few (eqb (length head) 0) ((length head + 2 + 15) / 16) (omega (arith, h)))
calls_by false head c h k =
    let n = length-append head c in
    omega (arith, h, k, n, few (eqb (length (head ++ c)) 0) ((length (head ++ c) + 2 + 15) / 16) (omega (arith, n, h, k)))

pub calls-bound : (f : Gpdf) (c : List ℕ) → length c ≤ 104 → frame_calls f c ≤ 17
calls-bound f c h = calls_by (eqb (level_of f) 3) (header f) c (header-length f) h

-- the longest command takes 17 calls at level 3, and ten at level 2
by_three : (head c : List ℕ) → length head ≡ 10 → length c ≡ 104 → cipher_calls head c ≡ 17
by_three head c h k = rw (h, k) refl

by_two : (head c : List ℕ) → length head ≡ 10 → length c ≡ 104 → cipher_calls (head ++ c) [] ≡ 10
by_two head c h k = rw (length-append head c, h, k) refl

pub longest_three : (f : Gpdf) (c : List ℕ) → level_of f ≡ 3 → length (header f) ≡ 10 → length c ≡ 104 → frame_calls f c ≡ 17
longest_three f c l h k = rw l (by_three (header f) c h k)

pub longest_two : (f : Gpdf) (c : List ℕ) → level_of f ≡ 2 → length (header f) ≡ 10 → length c ≡ 104 → frame_calls f c ≡ 10
longest_two f c l h k = rw l (by_two (header f) c h k)
