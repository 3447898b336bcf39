-- What is read is spelled so: octets with no fault are the fields of their value, one after the other.
use Rattle.std.proofs.Common.{◌≡◌, ℕ, zero, suc, ◌+◌, ◌-◌, ◌*◌, ◌/◌, ◌%◌, ◌^◌, ◌<◌, ◌≤◌, ◌⊎◌, inl, inr, Bool, true, false, cond, not, ◌&&◌, ◌||◌, eqb, ltb, leb, List, [], ◌∷◌, ◌++◌, length, drop, None, refl, sym, ap, ◌∙◌, arith}
use Rattle.std.specs.Prelude.{IfSome, is_some}
use Rattle.std.specs.Int.{w16, w32, to_le_bytes}
use Rattle.std.proofs.lemmas.Bool.{eqb-false, leb-false}
use Rattle.std.proofs.lemmas.List.{take_all, drop_all, length-drop}
use Rattle.gp_base.specs.Field.{IsOctets, part, flag, has_bit, octet, octet_at, two_at, four_at, optional, size_if, value_if}
use Rattle.gp_base.specs.declared.identity.Src.{Src}
use Rattle.gp_base.proofs.Codec.{split_octet, split_octets, length-octets_at, join, IsField, number16_codec, number32_codec, optional_codec, src_codec}
use Rattle.gp_frames.specs.declared.frame.Ext.{Ext}
use Rattle.gp_frames.specs.Frame.{level_of, control, extension, IsFrame, Frame}
use Rattle.gp_frames.specs.Reasons.{type_at, is_extended, level_at, has_src, has_security, src_place, counter_place, command_place, mic_size, first_reason}
use Rattle.gp_frames.specs.Reading.{ext_in, ext_at, src_at, counter_at, body_at, mic_at, frame_at, value_at}
use Rattle.gp_frames.proofs.Bits.{control_again, extension_again, same_test}
use Rattle.gp_frames.proofs.Faultless.{IsFaultless, faultless}
use Rattle.gp_frames.proofs.Headers.{flat, spelling-flat}

-- ---- the fields that have a codec of their own

ext_split : (there : Bool) (b : List ℕ) → IsOctets b → (there ≡ true → 9 ≤ length b) → cond there (octet_at b 8) 0 % 8 ≡ 0
    → drop 8 b ≡ optional (λ ext. octet (extension ext)) (value_if there (ext_in (octet_at b 8))) ++ drop (8 + size_if there 1) b
ext_split true b bytes long app = split_octet b 8 (long refl) ∙ ap (λ (x : ℕ). x ∷ drop 9 b) (sym (extension_again (octet_at b 8) (bytes 8) app))
ext_split false b bytes long app = refl

mic_split : (there : Bool) (b : List ℕ) → size_if there 4 ≤ length b → drop (length b - size_if there 4) b ≡ optional (λ (mic : List ℕ). mic) (value_if there (part b (length b - 4) 4))
mic_split true b enough = sym (take_all 4 (drop (length b - 4) b) (omega (arith, length-drop (length b - 4) b)))
mic_split false b enough = drop_all (length b - 0) b (omega arith)

is_some-value_if : {X : Type 0} (there : Bool) (x : X) → is_some (value_if there x) ≡ there
is_some-value_if true x = refl
is_some-value_if false x = refl

level_is : (there : Bool) (octet : ℕ) → level_of (record { maintenance = false; auto = false; ext = value_if there (ext_in octet); src = None; counter = None; body = []; mic = None }) ≡ cond there octet 0 / 8 % 4
level_is true octet = refl
level_is false octet = refl

three : (n : ℕ) → n < 4 → eqb n 1 ≡ false → (n ≡ 0) ⊎ ((n ≡ 2) ⊎ (n ≡ 3))
three zero h e = inl refl
three (suc zero) h e = absurd cc
three (suc (suc zero)) h e = inr (inl refl)
three (suc (suc (suc zero))) h e = inr (inr refl)
three (suc (suc (suc (suc n)))) h e = absurd (omega arith)

other_kind : (n : ℕ) → n < 2 → eqb n 0 ≡ not (eqb n 1)
other_kind zero h = refl
other_kind (suc zero) h = refl
other_kind (suc (suc n)) h = absurd (omega arith)

low_level : (n : ℕ) (m : Bool) → (m && leb 2 n) ≡ false → m ≡ true → eqb n 1 ≡ false → n ≡ 0
low_level n true none e ne =
    let below = leb-false 2 n none in
    let other = eqb-false n 1 ne in
    omega (arith, below, other)
low_level n false none e ne = absurd cc

mic_fit : (there : Bool) (b : List ℕ) → size_if there 4 ≤ length b → IfSome (value_if there (part b (length b - 4) 4)) (λ mic. length mic ≡ 4)
mic_fit true b enough = length-octets_at 4 b (length b - 4) (omega arith)
mic_fit false b enough = tt

-- an octet at its place
cell : (b : List ℕ) (p x : ℕ) (rest : List ℕ) → p < length b → octet_at b p ≡ x → drop (p + 1) b ≡ rest → drop p b ≡ x ∷ rest
cell b p x rest lt is behind = split_octet b p lt ∙ ap (λ (y : ℕ). y ∷ drop (p + 1) b) is ∙ ap (λ (l : List ℕ). x ∷ l) behind

-- ---- the value of octets with no fault

module _ (b : List ℕ) (bytes : IsOctets b) (f : IsFaultless b) where
  level-is : level_of (frame_at b) ≡ level_at b
  unfolding frame_at ext_at
  level-is = level_is (is_extended b) (octet_at b 8)

  small : level_at b < 4
  small = omega arith

  src_field : (drop (src_place b) b ≡ optional (λ (src : Src). to_le_bytes w32 src.0) (value_if (has_src b) (record { 0 = four_at b (src_place b) })) ++ drop (counter_place b) b) × IsField {X = Src} (has_src b) (λ src. src.0 < 2 ^ 32) (value_if (has_src b) (record { 0 = four_at b (src_place b) }))
  src_field = (optional_codec _ _ _ _ src_codec (has_src b)).split b (src_place b) bytes (let h : counter_place b ≤ length b = omega (arith, f.enough) in h)

  counter_field : (drop (counter_place b) b ≡ optional (to_le_bytes w32) (value_if (has_security b) (four_at b (counter_place b))) ++ drop (command_place b) b) × IsField (has_security b) (λ n. n < 2 ^ 32) (value_if (has_security b) (four_at b (counter_place b)))
  counter_field = (optional_codec _ _ _ _ number32_codec (has_security b)).split b (counter_place b) bytes (let h : command_place b ≤ length b = omega (arith, f.enough) in h)

  frame : IsFrame (frame_at b)
  unfolding frame_at ext_at src_at counter_at body_at mic_at
  frame = record {
    level = rw level-is (three (level_at b) small f.level);
    unsecured = λ m. rw level-is (low_level (level_at b) (eqb (type_at b) 1) f.unsecured m f.level);
    src = is_some-value_if (has_src b) _ ∙ ap (λ (x : Bool). x || is_extended b) (other_kind (type_at b) f.kind) ∙ ap (λ (x : Bool). not (eqb (type_at b) 1) || x) (sym (is_some-value_if (is_extended b) (ext_in (octet_at b 8))));
    counter = is_some-value_if (has_security b) _ ∙ same_test (level_at b) ∙ ap (ltb 1) (sym level-is);
    mic = is_some-value_if (has_security b) _ ∙ same_test (level_at b) ∙ ap (ltb 1) (sym level-is);
    command = omega (arith, length-octets_at (length b - mic_size b - command_place b) b (command_place b) (omega (arith, f.enough)), f.enough);
    src_fits = src_field.1.fit;
    counter_fits = counter_field.1.fit;
    mic_fits = mic_fit (has_security b) b (omega (arith, f.enough));
  }

  application_is : (there : Bool) → is_extended b ≡ there → cond there (octet_at b 8) 0 % 8 ≡ 0
  application_is there e = rw (← e) f.application

  control-is : control (frame_at b) ≡ octet_at b 7
  unfolding frame_at ext_at
  control-is = ap (λ (x : Bool). flag (eqb (type_at b) 1) + 12 + 64 * flag (has_bit (octet_at b 7) 64) + 128 * flag x) (is_some-value_if (is_extended b) (ext_in (octet_at b 8)))
      ∙ control_again (octet_at b 7) (bytes 7) f.kind f.version

  whole : b ≡ flat (value_at b)
  unfolding value_at frame_at ext_at src_at counter_at body_at mic_at
  whole =
      let len = length b in
      let mic = mic_split (has_security b) b (omega (arith, f.enough)) in
      let body_end : command_place b + (length b - mic_size b - command_place b) ≡ length b - mic_size b = omega (arith, f.enough) in
      let body = join b (command_place b) (length b - mic_size b) (body_at b) (optional (λ (mic : List ℕ). mic) (mic_at b))
      (split_octets (length b - mic_size b - command_place b) b (command_place b) ∙ ap (λ (k : ℕ). body_at b ++ drop k b) body_end) mic in
      let counter = join b (counter_place b) (command_place b) (optional (to_le_bytes w32) (counter_at b)) _ counter_field.0 body in
      let src = join b (src_place b) (counter_place b) (optional (λ (src : Src). to_le_bytes w32 src.0) (src_at b)) _ src_field.0 counter in
      let ext = join b 8 (src_place b) (optional (λ (ext : Ext). octet (extension ext)) (ext_at b)) _ (ext_split (is_extended b) b bytes f.longer (application_is (is_extended b) refl)) src in
      let ctrl = join b 7 8 (octet (control (frame_at b))) _ (split_octet b 7 (omega (arith, f.long)) ∙ ap (λ (x : ℕ). x ∷ drop 8 b) (sym control-is)) ext in
      let dest = join b 5 7 (to_le_bytes w16 (two_at b 5)) _ (number16_codec.split b 5 bytes (omega (arith, f.long))).0 ctrl in
      let pan = join b 3 5 (to_le_bytes w16 (two_at b 3)) _ (number16_codec.split b 3 bytes (omega (arith, f.long))).0 dest in
      let seq = cell b 2 (octet_at b 2) _ (omega (arith, f.long)) refl pan in
      let second = cell b 1 8 _ (omega (arith, f.long)) f.mac_second seq in
      cell b 0 1 _ (omega (arith, f.long)) f.mac_first second

pub is_spelled : (b : List ℕ) → IsOctets b → first_reason b ≡ None → Frame (value_at b) b
unfolding value_at
is_spelled b bytes h =
    let f = faultless b h in
    record {
      seq = bytes 2;
      pan = (number16_codec.split b 3 bytes (omega (arith, f.long))).1;
      dest = (number16_codec.split b 5 bytes (omega (arith, f.long))).1;
      frame = frame b bytes f;
      limit = f.limit;
      are_octets = bytes;
      spelled = whole b bytes f ∙ sym (spelling-flat (value_at b));
    }
