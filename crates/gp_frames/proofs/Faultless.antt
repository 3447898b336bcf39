-- What holds of octets with no fault, and that octets of which it holds have none.
use Rattle.std.proofs.Common.{◌≡◌, ℕ, ◌+◌, ◌<◌, ◌≤◌, Bool, true, false, not, ◌&&◌, eqb, List, ◌++◌, length, None, refl, arith}
use Rattle.std.proofs.lemmas.Bool.{not-false, eqb-true, eqb-false, eq-eqb, ne_eqb, ltb-false, le-ltb, leb-false, lt-leb}
use Rattle.gp_base.specs.Field.{octet_at}
use Rattle.gp_base.proofs.Tables.{first_of-append-both, first_of-none}
use Rattle.gp_frames.specs.Reasons.{type_at, version_at, is_extended, application_at, level_at, has_security, command_place, mic_size, mac_lines, control_lines, extension_lines, field_lines, first_reason}

-- octets with no fault
pub record IsFaultless (b : List ℕ) : Type 0 where
  pub limit : length b ≤ 125
  pub mac_first : octet_at b 0 ≡ 1
  pub mac_second : octet_at b 1 ≡ 8
  pub long : 8 ≤ length b
  pub kind : type_at b < 2
  pub version : version_at b ≡ 3
  pub longer : is_extended b ≡ true → 9 ≤ length b
  pub application : application_at b ≡ 0
  pub level : eqb (level_at b) 1 ≡ false
  pub unsecured : (eqb (type_at b) 1 && has_security b) ≡ false
  pub enough : command_place b + mic_size b < length b

both_true : (x y : Bool) → not (x && y) ≡ false → (x ≡ true) × (y ≡ true)
both_true true true h = (refl, refl)
both_true true false h = absurd cc
both_true false y h = absurd cc

then_false : (x y : Bool) → (x && y) ≡ false → x ≡ true → y ≡ false
then_false true y h e = h
then_false false y h e = absurd cc

lt_from : {a b : ℕ} → a ≤ b → (b ≡ a → ⊥) → a < b
lt_from {a} {b} le ne = omega (arith, ne)

pub faultless : (b : List ℕ) → first_reason b ≡ None → IsFaultless b
unfolding first_reason mac_lines control_lines extension_lines field_lines
faultless b h =
    let s1 = first_of-append-both (mac_lines b) (control_lines b ++ (extension_lines b ++ field_lines b)) h in
    let s2 = first_of-append-both (control_lines b) (extension_lines b ++ field_lines b) s1.1 in
    let s3 = first_of-append-both (extension_lines b) (field_lines b) s2.1 in
    let m = first_of-none (mac_lines b) s1.0 in
    let c = first_of-none (control_lines b) s2.0 in
    let e = first_of-none (extension_lines b) s3.0 in
    let f = first_of-none (field_lines b) s3.1 in
    let mac = both_true (eqb (octet_at b 0) 1) (eqb (octet_at b 1) 8) m.1.1.0 in
    record {
      limit = ltb-false _ _ m.0;
      mac_first = eqb-true _ _ mac.0;
      mac_second = eqb-true _ _ mac.1;
      long = ltb-false _ _ m.1.1.1.0;
      kind = leb-false _ _ c.0;
      version = eqb-true _ _ (not-false _ c.1.0);
      longer = λ h. ltb-false _ _ (then_false _ _ c.1.1.0 h);
      application = eqb-true _ _ (not-false _ e.0);
      level = e.1.0;
      unsecured = e.1.1.0;
      enough = lt_from (ltb-false _ _ f.0) (eqb-false _ _ f.1.0);
    }

false_or : (x y : Bool) → (x ≡ true → y ≡ false) → (x && y) ≡ false
false_or true y h = h refl
false_or false y h = refl

pub no_reason : (b : List ℕ) → IsFaultless b → first_reason b ≡ None
unfolding first_reason mac_lines control_lines extension_lines field_lines
no_reason b f =
    rw (
      le-ltb _ _ f.limit,
      le-ltb (length b) 2 (omega (arith, f.long)),
      eq-eqb _ _ f.mac_first,
      eq-eqb _ _ f.mac_second,
      le-ltb _ _ f.long,
      lt-leb _ _ f.kind,
      eq-eqb _ _ f.version,
      false_or _ _ (λ e. le-ltb _ _ (f.longer e)),
      eq-eqb _ _ f.application,
      f.level,
      f.unsecured,
      le-ltb (length b) (command_place b + mic_size b) (omega (arith, f.enough)),
      ne_eqb (length b) (command_place b + mic_size b) (λ e. absurd (omega (arith, f.enough))),
    ) refl
