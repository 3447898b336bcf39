-- Hexadecimal digits in upper case.
use Rattle.std.proofs.Common.{◌≡◌, ℕ, ◌+◌, ◌*◌, ◌/◌, ◌%◌, ◌<◌, ◌==◌, Bool, true, false, not, ◌&&◌, ◌||◌, List, [], ◌∷◌, slice_index, Option, Some, None, Result, Ok, Err, refl, sym, ap, subst, ◌∙◌, arith, inl, inr}
use Rattle.std.specs.Prelude.{nat_le, nat_lt}
use Rattle.std.specs.Option.{is_some}
use Rattle.std.proofs.lemmas.Bool.{agree_below_at, and_parts, and_from, or_parts, cases_Bool, not-true, lt-leb, eqb-true, ltb-true, lt-ltb, leb-true, leb-false}
use Rattle.hex.specs.Hex.{decode_pairs, digit_or_error, hex_digit_value, encode_upper, encode_with, upper_digits, pair_value, value_at, ◌>>=◌}
use Rattle.hex.specs.declared.error.FromHexError.{FromHexError}
use Rattle.gp_script.specs.Kinds.{is_small, has_small, are_octets}

-- a digit in upper case is that of its value
abbrev has_digit : ℕ → Option ℕ → Bool
has_digit c None = true
has_digit c (Some v) = is_small c || ((slice_index upper_digits v == c) && nat_lt v 16 && not (c == 32))

all_digits : (c : ℕ) → c < 256 → has_digit c (hex_digit_value c) ≡ true
all_digits c lt = agree_below_at (λ c. has_digit c (hex_digit_value c)) (λ c. true) 256 c refl lt

and_false : (b : Bool) → (b && false) ≡ false
and_false true = refl
and_false false = refl

-- a digit is below 256
digit_bound : (c : ℕ) → is_some (hex_digit_value c) ≡ true → c < 256
digit_bound c h = elim (cases_Bool (nat_le c 102)) [
  | inl e ↦ let le = leb-true c 102 e in omega arith
  | inr e ↦
      let gt = leb-false c 102 e in
      let f70 : nat_le c 70 ≡ false = lt-leb c 70 (omega arith) in
      let f57 : nat_le c 57 ≡ false = lt-leb c 57 (omega arith) in
      absurd (let k = simp (f70, e, f57, and_false) at h in cc)
]

digit_from : (c v : ℕ) (o : Option ℕ) → is_small c ≡ false → has_digit c o ≡ true → o ≡ Some v → (slice_index upper_digits v ≡ c) × (v < 16) × ((c == 32) ≡ false)
digit_from c v None small h e = absurd cc
digit_from c v (Some w) small h e =
    let q : w ≡ v = cc in
    let k : (is_small c || ((slice_index upper_digits v == c) && nat_lt v 16 && not (c == 32))) ≡ true = subst (λ (x : ℕ). (is_small c || ((slice_index upper_digits x == c) && nat_lt x 16 && not (c == 32))) ≡ true) q h in
    let parts = and_parts _ _ (rw small at k) in
    let front = and_parts _ _ parts.0 in
    (eqb-true _ c front.0, ltb-true v 16 front.1, not-true _ parts.1)

pub digit_known : (c v : ℕ) → is_small c ≡ false → hex_digit_value c ≡ Some v → (slice_index upper_digits v ≡ c) × (v < 16) × ((c == 32) ≡ false)
digit_known c v small e = digit_from c v (hex_digit_value c) small (all_digits c (digit_bound c (ap is_some e))) e

bind_ok : {A B : Type 0} (r : Result A FromHexError) (f : A → Result B FromHexError) (y : B) → (r >>= f) ≡ Ok y → (x : A) × (r ≡ Ok x) × (f x ≡ Ok y)
bind_ok (Ok x) f y h = (x, refl, h)
bind_ok (Err e) f y h = cc h

digit_ok : (c i v : ℕ) (o : Option ℕ) → digit_or_error c i o ≡ Ok v → o ≡ Some v
digit_ok c i v (Some w) h = ap Some (let q : w ≡ v = cc in q)
digit_ok c i v None h = absurd cc

pair_ok : (high low i v : ℕ) → pair_value high low i ≡ Ok v → (h : ℕ) × (l : ℕ) × (hex_digit_value high ≡ Some h) × (hex_digit_value low ≡ Some l) × (h * 16 + l ≡ v)
pair_ok high low i v e =
    let first = bind_ok (value_at high i) (λ h. value_at low (i + 1) >>= λ l. Ok (h * 16 + l)) v e in
    let second = bind_ok (value_at low (i + 1)) (λ l. Ok (first.0 * 16 + l)) v first.2 in
    (first.0, second.0, digit_ok high i first.0 _ first.1, digit_ok low (i + 1) second.0 _ second.1, (let q : first.0 * 16 + second.0 ≡ v = cc second.2 in q))

pairs_ok : (i high low : ℕ) (rest octets : List ℕ) → decode_pairs i (high ∷ low ∷ rest) ≡ Ok octets
    → (v : ℕ) × (more : List ℕ) × (pair_value high low i ≡ Ok v) × (decode_pairs (i + 2) rest ≡ Ok more) × (v ∷ more ≡ octets)
unfolding decode_pairs
pairs_ok i high low rest octets e =
    let first = bind_ok (pair_value high low i) (λ v. decode_pairs (i + 2) rest >>= λ more. Ok (v ∷ more)) octets e in
    let second = bind_ok (decode_pairs (i + 2) rest) (λ more. Ok (first.0 ∷ more)) octets first.2 in
    (first.0, second.0, first.1, second.1, (let q : first.0 ∷ second.0 ≡ octets = cc second.2 in q))

-- octets that digits in upper case name are spelled by them
pub pairs_upper : (i : ℕ) (word octets : List ℕ) → has_small word ≡ false → decode_pairs i word ≡ Ok octets
    → (word ≡ encode_upper octets) × (are_octets octets ≡ true)
unfolding decode_pairs encode_with
pairs_upper i [] octets small h = let e : [] ≡ octets = cc in (ap encode_upper e, ap are_octets (sym e))
pairs_upper i (c ∷ []) octets small h = absurd cc
pairs_upper i (high ∷ low ∷ rest) octets small h =
    let smalls = or_parts (is_small high) _ small in
    let smalls2 = or_parts (is_small low) _ smalls.1 in
    let parts = pairs_ok i high low rest octets h in
    let digits = pair_ok high low i parts.0 parts.2 in
    let more = pairs_upper (i + 2) rest parts.1 smalls2.1 parts.3 in
    let top = digit_known high digits.0 smalls.0 digits.2 in
    let bottom = digit_known low digits.1 smalls2.0 digits.3 in
    let value : digits.0 * 16 + digits.1 ≡ parts.0 = digits.4 in
    let h1 : parts.0 / 16 ≡ digits.0 = omega arith in
    let l1 : parts.0 % 16 ≡ digits.1 = omega arith in
    let small_octet : parts.0 < 256 = omega arith in
    let both : high ∷ low ∷ rest ≡ encode_upper (parts.0 ∷ parts.1) = rw (h1, l1, top.0, bottom.0) (ap (λ (l : List ℕ). high ∷ low ∷ l) more.0) in
    (both ∙ ap encode_upper parts.4, ap are_octets (sym parts.4) ∙ and_from _ _ (lt-ltb parts.0 256 small_octet) more.1)
