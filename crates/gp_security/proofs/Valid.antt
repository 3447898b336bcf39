-- A secured data frame whose fields fit stands in a valid MPDU.
use Rattle.std.proofs.Common.{◌≡◌, ℕ, zero, suc, ◌^◌, ◌<◌, ◌≤◌, ◌⊎◌, inl, inr, Bool, true, false, not, ◌||◌, List, [], ◌∷◌, ◌++◌, length, Option, Some, None, refl, sym, ap, subst, ◌∙◌, arith}
use Rattle.std.specs.Prelude.{IfSome, is_some}
use Rattle.std.specs.Option.{option_map_or}
use Rattle.std.specs.Int.{w16, w32, to_le_bytes}
use Rattle.gp_base.specs.Field.{IsOctets, flag, octet, optional}
use Rattle.gp_frames.specs.declared.frame.Ext.{Ext}
use Rattle.gp_frames.specs.declared.frame.Gpdf.{Gpdf}
use Rattle.gp_frames.specs.declared.frame.Mpdu.{Mpdu}
use Rattle.gp_frames.proofs.Headers.{flat, spelling-flat}
use Rattle.gp_frames.specs.Frame.{IsFrame, IsValid, control, extension, level_of, spelling}
use Rattle.gp_security.proofs.Carried.{carried-secured, lengths_of, spelling-length}

-- ---- octets

octets-append : (xs ys : List ℕ) → IsOctets xs → IsOctets ys → IsOctets (xs ++ ys)
octets-append [] ys h k i = k i
octets-append (x ∷ xs) ys h k zero = h 0
octets-append (x ∷ xs) ys h k (suc i) = octets-append xs ys (λ j. h (suc j)) k i

octets-one : (n : ℕ) → n < 256 → IsOctets (n ∷ [])
octets-one n h zero = h
octets-one n h (suc i) = omega arith

octets-two : (n : ℕ) → IsOctets (to_le_bytes w16 n)
octets-two n zero = omega arith
octets-two n (suc zero) = omega arith
octets-two n (suc (suc i)) = omega arith

octets-four : (n : ℕ) → IsOctets (to_le_bytes w32 n)
octets-four n zero = omega arith
octets-four n (suc zero) = omega arith
octets-four n (suc (suc zero)) = omega arith
octets-four n (suc (suc (suc zero))) = omega arith
octets-four n (suc (suc (suc (suc i)))) = omega arith

octets-optional : {A : Type 0} (spell : A → List ℕ) (o : Option A) → IfSome o (λ x. IsOctets (spell x)) → IsOctets (optional spell o)
octets-optional spell None h = λ i. omega arith
octets-optional spell (Some x) h = h

for_some : {A : Type 0} (o : Option A) (P : A → Type 0) → ((x : A) → P x) → IfSome o P
for_some None P h = tt
for_some (Some x) P h = h x

flag-small : (b : Bool) → flag b ≤ 1
flag-small false = omega arith
flag-small true = omega arith

control-small : (f : Gpdf) → control f < 256
control-small f = omega (arith, flag-small f.maintenance, flag-small f.auto, flag-small (is_some f.ext))

extension-small : (o : Option Ext) → IfSome o (λ e. e.level ≤ 3) → IfSome o (λ e. IsOctets (octet (extension e)))
extension-small None h = tt
extension-small (Some e) h = octets-one (extension e) (omega (arith, h, flag-small e.individual, flag-small e.rx_after, flag-small e.to_device))

flat-octets : (v : Mpdu) → v.seq < 2 ^ 8 → IfSome v.frame.ext (λ e. e.level ≤ 3) → IsOctets v.frame.body → IfSome v.frame.mic (λ m. IsOctets m) → IsOctets (flat v)
flat-octets v seq level body mic =
    let f = v.frame in
    let tag = optional (λ (m : List ℕ). m) f.mic in
    let counter = optional (to_le_bytes w32) f.counter in
    let src = optional (λ s. to_le_bytes w32 s.0) f.src in
    let ext = optional (λ e. octet (extension e)) f.ext in
    let behind = ext ++ (src ++ (counter ++ (f.body ++ tag))) in
    let controlled = (control f ∷ []) ++ behind in
    let dest = to_le_bytes w16 v.dest in
    let one = octets-append (1 ∷ []) (8 ∷ v.seq ∷ []) (octets-one 1 (omega arith)) (octets-append (8 ∷ []) (v.seq ∷ []) (octets-one 8 (omega arith)) (octets-one v.seq (omega (arith, seq)))) in
    let in_body = octets-append f.body tag body (octets-optional (λ (m : List ℕ). m) f.mic mic) in
    let in_counter = octets-append counter (f.body ++ tag) (octets-optional (to_le_bytes w32) f.counter (for_some f.counter (λ n. IsOctets (to_le_bytes w32 n)) (λ n. octets-four n))) in_body in
    let in_src = octets-append src (counter ++ (f.body ++ tag)) (octets-optional (λ s. to_le_bytes w32 s.0) f.src (for_some f.src (λ s. IsOctets (to_le_bytes w32 s.0)) (λ s. octets-four s.0))) in_counter in
    let in_ext = octets-append ext (src ++ (counter ++ (f.body ++ tag))) (octets-optional (λ e. octet (extension e)) f.ext (extension-small f.ext level)) in_src in
    let in_control = octets-append (control f ∷ []) behind (octets-one (control f) (control-small f)) in_ext in
    let in_dest = octets-append dest controlled (octets-two v.dest) in_control in
    octets-append (1 ∷ 8 ∷ v.seq ∷ []) (to_le_bytes w16 v.pan ++ (dest ++ controlled)) one (octets-append (to_le_bytes w16 v.pan) (dest ++ controlled) (octets-two v.pan) in_dest)

-- ---- a valid MPDU

-- the fields of a secured data frame
pub record IsSecured (f : Gpdf) : Type 0 where
  pub data_frame : f.maintenance ≡ false
  pub level : (level_of f ≡ 2) ⊎ (level_of f ≡ 3)
  pub src : is_some f.src ≡ true
  pub counter : is_some f.counter ≡ true
  pub mic : is_some f.mic ≡ true
  pub some : 0 < length f.body
  pub room : length f.body ≤ 104
  pub src_fits : IfSome f.src (λ s. s.0 < 2 ^ 32)
  pub counter_fits : IfSome f.counter (λ n. n < 2 ^ 32)
  pub mic_fits : IfSome f.mic (λ m. length m ≡ 4)
  pub body_octets : IsOctets f.body
  pub mic_octets : IfSome f.mic (λ m. IsOctets m)

pub two : (f : Gpdf) → (level_of f ≡ 2) ⊎ (level_of f ≡ 3) → 2 ≤ level_of f
two f (inl h) = omega (arith, h)
two f (inr h) = omega (arith, h)

ext_level : (o : Option Ext) → option_map_or (λ e. e.level) o 0 ≤ 3 → IfSome o (λ e. e.level ≤ 3)
ext_level None h = tt
ext_level (Some e) h = h

is_frame : (f : Gpdf) → IsSecured f → IsFrame f
is_frame f h =
    let secured = carried-secured f (two f h.level) in
    record {
      level = inr h.level;
      unsecured = λ t. absurd (let a = h.data_frame in cc);
      src = h.src ∙ ap (λ (b : Bool). not b || is_some f.ext) (sym h.data_frame);
      counter = h.counter ∙ sym secured;
      mic = h.mic ∙ sym secured;
      command = h.some;
      src_fits = h.src_fits;
      counter_fits = h.counter_fits;
      mic_fits = h.mic_fits;
    }

three : (f : Gpdf) → (level_of f ≡ 2) ⊎ (level_of f ≡ 3) → level_of f ≤ 3
three f (inl h) = omega (arith, h)
three f (inr h) = omega (arith, h)

pub valid_of : (v : Mpdu) → v.seq < 2 ^ 8 → v.pan < 2 ^ 16 → v.dest < 2 ^ 16 → IsSecured v.frame → IsValid v
valid_of v seq pan dest h =
    let frame = is_frame v.frame h in
    let lengths = lengths_of v.frame frame (two v.frame h.level) in (
      spelling v,
      record {
        seq = seq;
        pan = pan;
        dest = dest;
        frame = frame;
        limit = omega (arith, spelling-length v lengths, h.room);
        are_octets = subst IsOctets (sym (spelling-flat v)) (flat-octets v seq (ext_level v.frame.ext (three v.frame h.level)) h.body_octets h.mic_octets);
        spelled = refl;
      },
    )
