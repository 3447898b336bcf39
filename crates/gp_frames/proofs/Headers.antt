-- The header octets are at most ten, and its fields stand among the others of a frame.
use Rattle.std.proofs.Common.{◌≡◌, ℕ, ◌≤◌, List, [], ◌∷◌, ◌++◌, length, Option, Some, None, arith, append_assoc, length-append}
use Rattle.std.specs.Int.{w16, w32, to_le_bytes}
use Rattle.gp_base.specs.Field.{octet, optional}
use Rattle.gp_frames.specs.declared.frame.Gpdf.{Gpdf}
use Rattle.gp_frames.specs.declared.frame.Mpdu.{Mpdu}
use Rattle.gp_frames.specs.Frame.{control, extension, header, spelling}

optional-length : {A : Type 0} (spell : A → List ℕ) (n : ℕ) → ((x : A) → length (spell x) ≤ n) → (o : Option A) → length (optional spell o) ≤ n
optional-length spell n h None = omega arith
optional-length spell n h (Some x) = h x

pub header-length : (f : Gpdf) → length (header f) ≤ 10
unfolding header
header-length f =
    let ext = optional (λ e. octet (extension e)) f.ext in
    let src = optional (λ s. to_le_bytes w32 s.0) f.src in
    let counter = optional (to_le_bytes w32) f.counter in
    omega (
      arith,
      length-append ext (src ++ counter),
      length-append src counter,
      optional-length (λ e. octet (extension e)) 1 (λ e. omega arith) f.ext,
      optional-length (λ s. to_le_bytes w32 s.0) 4 (λ s. omega arith) f.src,
      optional-length (to_le_bytes w32) 4 (λ n. omega arith) f.counter,
    )

-- the spelling, field by field
abbrev pub flat : Mpdu → List ℕ
flat v =
    (1 ∷ 8 ∷ v.seq ∷ [])
    ++ (to_le_bytes w16 v.pan
    ++ (to_le_bytes w16 v.dest
    ++ (octet (control v.frame)
    ++ (optional (λ ext. octet (extension ext)) v.frame.ext
    ++ (optional (λ src. to_le_bytes w32 src.0) v.frame.src
    ++ (optional (to_le_bytes w32) v.frame.counter ++ (v.frame.body ++ optional (λ mic. mic) v.frame.mic)))))))

pub spelling-flat : (v : Mpdu) → spelling v ≡ flat v
unfolding header
spelling-flat v = simp append_assoc
