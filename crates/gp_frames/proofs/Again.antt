-- What is spelled so is read: octets that are the fields of a value have no fault, and at their places that value.
use Rattle.std.proofs.Common.{◌≡◌, ℕ, ◌+◌, ◌-◌, ◌/◌, ◌%◌, ◌<◌, ◌⊎◌, inl, inr, Bool, true, false, cond, not, ◌&&◌, ◌||◌, eqb, leb, List, [], ◌∷◌, ◌++◌, length, take, drop, Option, Some, None, Ok, refl, sym, ap, ◌∙◌, arith}
use Rattle.std.specs.Prelude.{IsTrue, IfSome, is_some}
use Rattle.std.specs.Option.{option_map_or}
use Rattle.std.specs.Int.{w32, to_le_bytes}
use Rattle.std.proofs.lemmas.List.{take_all, length-drop}
use Rattle.gp_base.specs.Field.{part, flag, has_bit, octet, octet_at, two_at, four_at, optional, size_if, value_if}
use Rattle.gp_base.specs.declared.identity.Src.{Src}
use Rattle.gp_base.proofs.Codec.{At, At-after, At-taken, At-octet, number16_codec, number32_codec, optional_codec, src_codec}
use Rattle.gp_frames.specs.declared.frame.Ext.{Ext}
use Rattle.gp_frames.specs.declared.frame.Gpdf.{Gpdf}
use Rattle.gp_frames.specs.declared.frame.Mpdu.{Mpdu}
use Rattle.gp_frames.specs.Frame.{level_of, is_secured, control, extension, IsFrame, Frame}
use Rattle.gp_frames.specs.Reasons.{type_at, version_at, is_extended, application_at, level_at, has_src, has_security, src_place, counter_place, command_place, mic_size}
use Rattle.gp_frames.specs.Reading.{ext_in, ext_at, src_at, counter_at, body_at, mic_at, frame_at, value_at, reading}
use Rattle.gp_frames.proofs.Bits.{SaysControl, says_control, says_extension, flag-lt, same_test}
use Rattle.gp_frames.proofs.Faultless.{IsFaultless, no_reason}
use Rattle.gp_frames.proofs.Headers.{flat, spelling-flat}

-- ---- the extension

record IsExtension (b : List ℕ) (there : Bool) (o : Option Ext) (rest : List ℕ) : Type 0 where
  is : value_if there (ext_in (octet_at b 8)) ≡ o
  behind : At b (8 + size_if there 1) rest
  application : cond there (octet_at b 8) 0 % 8 ≡ 0
  level : cond there (octet_at b 8) 0 / 8 % 4 ≡ option_map_or (λ ext. ext.level) o 0

ext_again : (b : List ℕ) (there : Bool) (o : Option Ext) (rest : List ℕ) → is_some o ≡ there → option_map_or (λ ext. ext.level) o 0 < 4 → At b 8 (optional (λ ext. octet (extension ext)) o ++ rest) → IsExtension b there o rest
ext_again b true (Some ext) rest e small at =
    let o : octet_at b 8 ≡ extension ext = At-octet b 8 (extension ext) rest at in
    let says = says_extension ext small in
    record {
      is = rw (o, says.level, says.individual, says.rx_after, says.to_device) refl;
      behind = At-after b 8 (extension ext ∷ []) rest at;
      application = rw o says.application;
      level = rw o says.level;
    }
ext_again b true None rest e small at = absurd cc
ext_again b false (Some ext) rest e small at = absurd cc
ext_again b false None rest e small at = record { is = refl; behind = at; application = refl; level = refl }

-- ---- small facts

kind_zero : (m : Bool) → eqb (flag m) 0 ≡ not m
kind_zero true = refl
kind_zero false = refl

kind_one : (m : Bool) → eqb (flag m) 1 ≡ m
kind_one true = refl
kind_one false = refl

level_lt : (n : ℕ) → (n ≡ 0) ⊎ ((n ≡ 2) ⊎ (n ≡ 3)) → n < 4
level_lt n (inl e) = omega arith
level_lt n (inr (inl e)) = omega arith
level_lt n (inr (inr e)) = omega arith

level_no_one : (n : ℕ) → (n ≡ 0) ⊎ ((n ≡ 2) ⊎ (n ≡ 3)) → eqb n 1 ≡ false
level_no_one n (inl e) = rw e refl
level_no_one n (inr (inl e)) = rw e refl
level_no_one n (inr (inr e)) = rw e refl

unsecured_is : (m : Bool) (n : ℕ) → (IsTrue m → n ≡ 0) → (m && leb 2 n) ≡ false
unsecured_is true n h = rw (h refl) refl
unsecured_is false n h = refl

mic_again : (b : List ℕ) (p : ℕ) (there : Bool) (o : Option (List ℕ)) → is_some o ≡ there → IfSome o (λ mic. length mic ≡ 4) → At b p (optional (λ (mic : List ℕ). mic) o)
    → (value_if there (part b (length b - 4) 4) ≡ o) × (length b ≡ p + size_if there 4)
mic_again b p true (Some mic) e fit at =
    let len : length b - p ≡ 4 = sym (length-drop p b) ∙ ap length at.rest ∙ fit in
    let total : length b ≡ p + 4 = omega (arith, len, at.within) in
    let place : length b - 4 ≡ p = omega (arith, total) in
    (ap (λ (xs : List ℕ). Some xs) (ap (λ (k : ℕ). take 4 (drop k b)) place ∙ ap (take 4) at.rest ∙ take_all 4 mic (omega (arith, fit))), total)
mic_again b p true None e fit at = absurd cc
mic_again b p false (Some mic) e fit at = absurd cc
mic_again b p false None e fit at =
    let len : length b - p ≡ 0 = sym (length-drop p b) ∙ ap length at.rest in
    (refl, omega (arith, len, at.within))

-- ---- octets that are the fields of a value

-- the fields of a value from the extension on
abbrev fields_of : Gpdf → List ℕ
fields_of frame = optional (λ ext. octet (extension ext)) frame.ext
    ++ (optional (λ (src : Src). to_le_bytes w32 src.0) frame.src
    ++ (optional (to_le_bytes w32) frame.counter
    ++ (frame.body ++ optional (λ (mic : List ℕ). mic) frame.mic)))

-- what the octets up to there say
record IsHead (b : List ℕ) (v : Mpdu) : Type 0 where
  first : octet_at b 0 ≡ 1
  second : octet_at b 1 ≡ 8
  seq : octet_at b 2 ≡ v.seq
  pan : two_at b 3 ≡ v.pan
  dest : two_at b 5 ≡ v.dest
  control_is : octet_at b 7 ≡ control v.frame
  behind : At b 8 (fields_of v.frame)

head_again : (v : Mpdu) (b : List ℕ) → Frame v b → IsHead b v
head_again v b h =
    let at0 : At b 0 (flat v) = record { rest = h.spelled ∙ spelling-flat v; within = omega arith } in
    let at1 = At-after b 0 (1 ∷ []) _ at0 in
    let at2 = At-after b 1 (8 ∷ []) _ at1 in
    let at3 = At-after b 2 (v.seq ∷ []) _ at2 in
    let pan = number16_codec.again b 3 v.pan _ at3 h.pan in
    let dest = number16_codec.again b 5 v.dest _ pan.1 h.dest in
    record {
      first = At-octet b 0 1 _ at0;
      second = At-octet b 1 8 _ at1;
      seq = At-octet b 2 v.seq _ at2;
      pan = pan.0;
      dest = dest.0;
      control_is = At-octet b 7 (control v.frame) _ dest.1;
      behind = At-after b 7 (control v.frame ∷ []) _ dest.1;
    }

-- what the control octets say, and the fields behind them
record IsBehind (b : List ℕ) (frame : Gpdf) : Type 0 where
  kind : type_at b ≡ flag frame.maintenance
  version : version_at b ≡ 3
  auto_is : has_bit (octet_at b 7) 64 ≡ frame.auto
  extended : is_extended b ≡ is_some frame.ext
  application : application_at b ≡ 0
  level : level_at b ≡ level_of frame
  ext_is : value_if (is_extended b) (ext_in (octet_at b 8)) ≡ frame.ext
  src_is : value_if (has_src b) (record { 0 = four_at b (src_place b) }) ≡ frame.src
  counter_is : value_if (has_security b) (four_at b (counter_place b)) ≡ frame.counter
  body_is : part b (command_place b) (length b - mic_size b - command_place b) ≡ frame.body
  mic_is : value_if (has_security b) (part b (length b - 4) 4) ≡ frame.mic
  total : length b ≡ command_place b + length frame.body + mic_size b

behind_again : (b : List ℕ) (frame : Gpdf) → IsFrame frame → octet_at b 7 ≡ control frame → At b 8 (fields_of frame) → IsBehind b frame
behind_again b frame fit ctrl at8 =
    let says : SaysControl (octet_at b 7) frame.maintenance frame.auto (is_some frame.ext) = rw ctrl (says_control frame.maintenance frame.auto (is_some frame.ext)) in
    let extended : is_extended b ≡ is_some frame.ext = says.extended_is in
    let ext = ext_again b (is_extended b) frame.ext _ (sym extended) (level_lt _ fit.level) at8 in
    let src_there : is_some frame.src ≡ has_src b = fit.src ∙ ap (λ (x : Bool). x || is_some frame.ext) (sym (ap (λ (n : ℕ). eqb n 0) says.kind ∙ kind_zero frame.maintenance)) ∙ ap (λ (x : Bool). eqb (type_at b) 0 || x) (sym extended) in
    let src = (optional_codec _ _ _ _ src_codec (has_src b)).again b (src_place b) frame.src _ ext.behind (record { there_is = src_there; fit = fit.src_fits }) in
    let secured : is_secured frame ≡ has_security b = sym (ap (λ (n : ℕ). leb 2 n) ext.level ∙ same_test (level_of frame)) in
    let counter = (optional_codec _ _ _ _ number32_codec (has_security b)).again b (counter_place b) frame.counter _ src.1 (record { there_is = fit.counter ∙ secured; fit = fit.counter_fits }) in
    let after = At-after b (command_place b) frame.body _ counter.1 in
    let mic = mic_again b (command_place b + length frame.body) (has_security b) frame.mic (fit.mic ∙ secured) fit.mic_fits after in
    let size : length b - mic_size b - command_place b ≡ length frame.body = omega (arith, mic.1) in
    record {
      kind = says.kind;
      version = says.version;
      auto_is = says.auto_is;
      extended = extended;
      application = ext.application;
      level = ext.level;
      ext_is = ext.is;
      src_is = src.0;
      counter_is = counter.0;
      body_is = ap (λ (k : ℕ). part b (command_place b) k) size ∙ At-taken b (command_place b) frame.body _ counter.1;
      mic_is = mic.0;
      total = mic.1;
    }

is_faultless : (v : Mpdu) (b : List ℕ) → Frame v b → IsHead b v → IsBehind b v.frame → IsFaultless b
is_faultless v b h head behind =
    record {
      limit = h.limit;
      mac_first = head.first;
      mac_second = head.second;
      long = head.behind.within;
      kind = rw behind.kind (flag-lt v.frame.maintenance);
      version = behind.version;
      longer = λ e. let place : size_if (is_extended b) 1 ≡ 1 = rw e refl in omega (arith, behind.total, place);
      application = behind.application;
      level = rw behind.level (level_no_one _ h.frame.level);
      unsecured = rw (behind.kind, kind_one v.frame.maintenance, behind.level) (unsecured_is v.frame.maintenance (level_of v.frame) h.frame.unsecured);
      enough = omega (arith, behind.total, h.frame.command);
    }

same_value : (v : Mpdu) (b : List ℕ) → IsHead b v → IsBehind b v.frame → value_at b ≡ v
unfolding value_at frame_at ext_at src_at counter_at body_at mic_at
same_value v b head behind =
    rw (head.seq, head.pan, head.dest, behind.ext_is, behind.src_is, behind.counter_is, behind.body_is, behind.mic_is, behind.auto_is, behind.kind, kind_one v.frame.maintenance) refl

pub is_read : (v : Mpdu) (b : List ℕ) → Frame v b → reading b ≡ Ok v
unfolding reading
is_read v b h =
    let head = head_again v b h in
    let behind = behind_again b v.frame h.frame head.control_is head.behind in
    rw (no_reason b (is_faultless v b h head behind)) (ap (λ (x : Mpdu). Ok x) (same_value v b head behind))
