-- What it says of a frame that a valid MPDU carries it.
use Rattle.std.proofs.Common.{◌≡◌, ℕ, ◌+◌, ◌≤◌, Bool, true, false, ◌||◌, not, List, ◌++◌, length, Option, Some, None, refl, ap, subst, ◌∙◌, arith, length-append}
use Rattle.std.specs.Prelude.{IsTrue, IfSome, is_some}
use Rattle.std.specs.Option.{option_map_or}
use Rattle.std.specs.Int.{w32, to_le_bytes}
use Rattle.std.proofs.lemmas.Bool.{lt-ltb}
use Rattle.gp_base.specs.Field.{octet, optional}
use Rattle.gp_frames.specs.declared.frame.Ext.{Ext}
use Rattle.gp_frames.specs.declared.frame.Gpdf.{Gpdf}
use Rattle.gp_frames.specs.declared.frame.Mpdu.{Mpdu}
use Rattle.gp_frames.proofs.Headers.{flat, spelling-flat}
use Rattle.gp_frames.specs.Frame.{IsCarried, IsFrame, Frame, extension, is_secured, level_of, spelling}

pub carried-frame : (f : Gpdf) → IsCarried f → IsFrame f
carried-frame f h = subst (λ (g : Gpdf). IsFrame g) h.1 h.2.1.frame

pub carried-secured : (f : Gpdf) → 2 ≤ level_of f → IsTrue (is_secured f)
carried-secured f h = lt-ltb 1 (level_of f) h

-- ---- how many octets the fields have

some_length : {A : Type 0} (spell : A → List ℕ) (n : ℕ) → ((x : A) → length (spell x) ≡ n) → (o : Option A) → is_some o ≡ true → length (optional spell o) ≡ n
some_length spell n h None there = absurd cc
some_length spell n h (Some x) there = h x

mic_length : (o : Option (List ℕ)) → is_some o ≡ true → IfSome o (λ m. length m ≡ 4) → length (optional (λ (m : List ℕ). m) o) ≡ 4
mic_length None there fit = absurd cc
mic_length (Some m) there fit = fit

pub ext_some : (o : Option Ext) → 2 ≤ option_map_or (λ e. e.level) o 0 → is_some o ≡ true
ext_some None h = absurd (omega (arith, h))
ext_some (Some e) h = refl

or_true : (a b : Bool) → b ≡ true → (a || b) ≡ true
or_true true b h = refl
or_true false b h = h

-- the octets of a secured frame behind the NWK frame control
pub record HasLengths (f : Gpdf) : Type 0 where
  pub ext : length (optional (λ e. octet (extension e)) f.ext) ≡ 1
  pub src : length (optional (λ s. to_le_bytes w32 s.0) f.src) ≡ 4
  pub counter : length (optional (to_le_bytes w32) f.counter) ≡ 4
  pub mic : length (optional (λ (m : List ℕ). m) f.mic) ≡ 4

pub lengths_of : (f : Gpdf) → IsFrame f → 2 ≤ level_of f → HasLengths f
lengths_of f h two =
    let ext = ext_some f.ext two in
    let secured = carried-secured f two in
    record {
      ext = some_length (λ e. octet (extension e)) 1 (λ e. refl) f.ext ext;
      src = some_length (λ s. to_le_bytes w32 s.0) 4 (λ s. refl) f.src (h.src ∙ or_true (not f.maintenance) (is_some f.ext) ext);
      counter = some_length (to_le_bytes w32) 4 (λ n. refl) f.counter (h.counter ∙ secured);
      mic = mic_length f.mic (h.mic ∙ secured) h.mic_fits;
    }

-- the octets of a secured MPDU besides its body are 21
flat-length : (v : Mpdu) → HasLengths v.frame → length (flat v) ≡ 21 + length v.frame.body
flat-length v h =
    let f = v.frame in
    let ext = optional (λ e. octet (extension e)) f.ext in
    let src = optional (λ s. to_le_bytes w32 s.0) f.src in
    let counter = optional (to_le_bytes w32) f.counter in
    let mic = optional (λ (m : List ℕ). m) f.mic in
    omega (
      arith,
      h.ext,
      h.src,
      h.counter,
      h.mic,
      length-append ext (src ++ (counter ++ (f.body ++ mic))),
      length-append src (counter ++ (f.body ++ mic)),
      length-append counter (f.body ++ mic),
      length-append f.body mic,
    )

pub spelling-length : (v : Mpdu) → HasLengths v.frame → length (spelling v) ≡ 21 + length v.frame.body
spelling-length v h = ap length (spelling-flat v) ∙ flat-length v h

room_of : (v : Mpdu) (b : List ℕ) → Frame v b → 2 ≤ level_of v.frame → length v.frame.body ≤ 104
room_of v b h two =
    let n = spelling-length v (lengths_of v.frame h.frame two) in
    let m : length b ≡ length (spelling v) = ap length h.spelled in
    omega (arith, n, m, h.limit)

pub carried-room : (f : Gpdf) → IsCarried f → 2 ≤ level_of f → length f.body ≤ 104
carried-room f h two =
    subst (λ (g : Gpdf). 2 ≤ level_of g → length g.body ≤ 104) h.1 (λ k. room_of h.0 h.2.0 h.2.1 k) two
