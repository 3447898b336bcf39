-- Each kind of words: what is read is its text, and the text of a value is read.
use Rattle.std.proofs.Common.{◌≡◌, ℕ, ◌+◌, ◌<◌, ◌^◌, ◌==◌, ◌/◌, ◌%◌, zero, suc, slice_index, if◌then◌else◌, ◌||◌, Bool, true, false, ◌&&◌, not, List, [], ◌∷◌, length, Option, Some, None, Result, Ok, Err, refl, sym, ap, subst, ◌∙◌, arith, inl, inr}
use Rattle.std.specs.Prelude.{decimal, nat_le, nat_lt, codes}
use Rattle.std.specs.Option.{option_map}
use Rattle.std.specs.Str.{bytes_eq}
use Rattle.std.specs.Str.Parse.{digits_value}
use Rattle.std.proofs.lemmas.Bool.{and_parts, and_from, and_left, cases_Bool, cases_eq, ne_eqb, leb-true, le-leb, ltb-true, lt-ltb, agree_below_at}
use Rattle.hex.specs.Hex.{decode_pairs, decode_of, decode_sized, encode_upper, encode_with, upper_digits, IsBytes}
use Rattle.hex.proofs.HexLemmas.{length-encode_with, decode_of-even, decode_of-encode_upper, decode_of-ok, decode_sized-ok, decode_sized-twice}
use Rattle.std.specs.Int.{Width, byte_len, w8, w16, w32, to_be_bytes, from_be_bytes}
use Rattle.std.proofs.lemmas.Nat.{be_bytes_2, be_bytes_4, from_be_bytes-to_be_bytes_2, from_be_bytes-to_be_bytes_4}
use Rattle.hex.specs.declared.error.FromHexError.{FromHexError}
use Rattle.gp_base.specs.declared.identity.Src.{Src}
use Rattle.std.specs.Result.{result_ok}
use Rattle.gp_script.proofs.HexLaws.{pairs_upper}
use Rattle.std.proofs.lemmas.Slice.Eq.{bytes_eq-Decides}
use Rattle.gp_script.specs.Kinds.{Kind, number_up_to, number_in, hex, hex_in, source, octets, name, is_name, upper, upper_in, is_small, has_small, are_octets, is_letter, is_name_letter, are_name_letters, octets_in, octets_text, among, among_in, or_word, or_word_in}
use Rattle.std.proofs.lemmas.Fmt.{decimal_by_steps}
use Rattle.gp_script.proofs.Splitting.{is_plain, is_plain-append}
use Rattle.gp_script.proofs.Numbers.{number_found}

pub record IsKind {A : Type 0} (kind : Kind A) : Type 0 where
  pub back : (word : List ℕ) (value : A) → kind.read word ≡ Some value → (word ≡ kind.text value) × (kind.fits value ≡ true)
  pub again : (value : A) → kind.fits value ≡ true → kind.read (kind.text value) ≡ Some value
  pub plain : (value : A) → kind.fits value ≡ true → is_plain (kind.text value) ≡ true

or_from_left : (x y : Bool) → x ≡ true → (x || y) ≡ true
or_from_left x y e = rw e refl

or_both : (x y : Bool) → x ≡ false → y ≡ false → (x || y) ≡ false
or_both x y e f = rw (e, f) refl

-- digits in upper case and letters of names are no space
digit_plain : (d : ℕ) → d < 16 → (is_small (slice_index upper_digits d) ≡ false) × (not (slice_index upper_digits d == 32) ≡ true)
digit_plain d lt = (agree_below_at (λ d. is_small (slice_index upper_digits d)) (λ d. false) 16 d refl lt, agree_below_at (λ d. not (slice_index upper_digits d == 32)) (λ d. true) 16 d refl lt)

letter_plain : (c : ℕ) → is_name_letter c ≡ true → not (c == 32) ≡ true
letter_plain c h = elim (cases_eq c 32) [
  | inl e ↦ absurd (let k = subst (λ (x : ℕ). is_name_letter x ≡ true) e h in cc)
  | inr ne ↦ ap not (ne_eqb c 32 ne)
]

number_back : (most : ℕ) (word : List ℕ) (n : ℕ) → number_in most word ≡ Some n → (word ≡ decimal n) × (nat_le n most ≡ true)
unfolding number_in
number_back most word n h =
    let m = digits_value 10 word in
    elim (cases_Bool (bytes_eq word (decimal m) && nat_le m most)) [
      | inl e ↦
          let parts = and_parts _ _ e in
          let q : m ≡ n = cc (rw e at h) in
          (subst (λ (k : ℕ). word ≡ decimal k) q ((bytes_eq-Decides word (decimal m)).0 parts.0), subst (λ (k : ℕ). nat_le k most ≡ true) q parts.1)
      | inr e ↦ absurd (let k = rw e at h in cc)
    ]

glyph : (d : ℕ) → not (48 + d == 32) ≡ true
glyph d = ap not (ne_eqb (48 + d) 32 (λ e. absurd (omega arith)))

decimal_plain : (n : ℕ) → n < 2 ^ 64 → is_plain (decimal n) ≡ true
decimal_plain n lt = decimal_by_steps (λ n ds. is_plain ds ≡ true) (λ d low. and_from _ _ (glyph d) refl) (λ m ds high h. is_plain-append ds _ h (and_from _ _ (glyph (m % 10)) refl)) n lt

pub number_is : (most : ℕ) → most < 2 ^ 64 → IsKind (number_up_to most)
number_is most lt = record {
  back = number_back most;
  again = λ n fit. sym (number_found most n (decimal n) (let le = leb-true n most fit in omega arith) (leb-true n most fit) refl);
  plain = λ n fit. decimal_plain n (let le = leb-true n most fit in omega arith);
}

-- ---- hexadecimal digits in upper case

sized_back : (word octets : List ℕ) (n : ℕ) → has_small word ≡ false → decode_sized word n ≡ Ok octets → (word ≡ encode_upper octets) × (are_octets octets ≡ true) × (length octets ≡ n)
sized_back word octets n small e =
    let len = decode_sized-ok word n octets e in
    let of : decode_of word ≡ Ok octets = sym (decode_sized-twice word n len) ∙ e in
    let even : length word % 2 ≡ 0 = omega arith in
    let pairs : decode_pairs 0 word ≡ Ok octets = sym (decode_of-even word even) ∙ of in
    let both = pairs_upper 0 word octets small pairs in
    let count = length-encode_with upper_digits octets in
    let lens : length word ≡ length (encode_upper octets) = ap length both.0 in
    (both.0, both.1, omega arith)

IsBytes-test : (octets : List ℕ) → are_octets octets ≡ true → IsBytes octets
IsBytes-test [] h i = omega arith
IsBytes-test (o ∷ os) h zero = ltb-true o 256 (and_parts _ _ h).0
IsBytes-test (o ∷ os) h (suc i) = IsBytes-test os (and_parts _ _ h).1 i

-- the spelling of octets has no small letter and no space, and is read
spelled_again : (octets : List ℕ) → are_octets octets ≡ true → (has_small (encode_upper octets) ≡ false) × (is_plain (encode_upper octets) ≡ true)
unfolding encode_with
spelled_again [] h = (refl, refl)
spelled_again (o ∷ os) h =
    let parts = and_parts _ _ h in
    let lt = ltb-true o 256 parts.0 in
    let more = spelled_again os parts.1 in
    let top = digit_plain (o / 16) (omega arith) in
    let bottom = digit_plain (o % 16) (omega arith) in
    (or_both _ _ top.0 (or_both _ _ bottom.0 more.0), and_from _ _ top.1 (and_from _ _ bottom.1 more.1))

sized_again : (octets : List ℕ) (n : ℕ) → are_octets octets ≡ true → length octets ≡ n → decode_sized (encode_upper octets) n ≡ Ok octets
sized_again octets n h len =
    let count = length-encode_with upper_digits octets in
    decode_sized-twice (encode_upper octets) n (omega arith) ∙ decode_of-encode_upper octets (IsBytes-test octets h)

-- what a number in upper case is read from
record Named (width : Width) (word : List ℕ) (n : ℕ) : Type 0 where
  pub octets : List ℕ
  pub spelled : word ≡ encode_upper octets
  pub bytes : are_octets octets ≡ true
  pub size : length octets ≡ byte_len width
  pub value : from_be_bytes width octets ≡ n

hex_from : (width : Width) (word : List ℕ) (n : ℕ) (r : Result (List ℕ) FromHexError) → has_small word ≡ false → decode_sized word (byte_len width) ≡ r
    → option_map (from_be_bytes width) (result_ok r) ≡ Some n → Named width word n
hex_from width word n (Err e) small h k = absurd cc
hex_from width word n (Ok octets) small h k =
    let b = sized_back word octets (byte_len width) small h in
    record { octets = octets; spelled = b.0; bytes = b.1; size = b.2; value = (let q : from_be_bytes width octets ≡ n = cc in q) }

hex_named : (width : Width) (word : List ℕ) (n : ℕ) → has_small word ≡ false → hex_in width word ≡ Some n → Named width word n
unfolding hex_in
hex_named width word n small h = hex_from width word n (decode_sized word (byte_len width)) small refl h

-- upper case is a test in front
upper_back : {A : Type 0} (read : List ℕ → Option A) (word : List ℕ) (value : A) → upper_in read word ≡ Some value → (has_small word ≡ false) × (read word ≡ Some value)
upper_back read word value h = elim (cases_Bool (has_small word)) [
  | inl e ↦ absurd (let k = rw e at h in cc)
  | inr e ↦ (e, rw e at h)
]

hex_spelled : (width : Width) (n : ℕ) → are_octets (to_be_bytes width n) ≡ true → length (to_be_bytes width n) ≡ byte_len width → from_be_bytes width (to_be_bytes width n) ≡ n
    → hex_in width (encode_upper (to_be_bytes width n)) ≡ Some n
unfolding hex_in
hex_spelled width n bytes size value = rw (sized_again (to_be_bytes width n) (byte_len width) bytes size, value) refl

below_octet : (n : ℕ) → nat_lt (n % 256) 256 ≡ true
below_octet n = lt-ltb _ 256 (omega arith)

octets8 : (n : ℕ) → are_octets (to_be_bytes w8 n) ≡ true
octets8 n = and_from _ _ (below_octet _) refl

octets16 : (n : ℕ) → are_octets (to_be_bytes w16 n) ≡ true
octets16 n = and_from _ _ (below_octet (n / 256 ^ 1)) (and_from _ _ (below_octet n) refl)

octets32 : (n : ℕ) → are_octets (to_be_bytes w32 n) ≡ true
octets32 n = and_from _ _ (below_octet (n / 256 ^ 3)) (and_from _ _ (below_octet (n / 256 ^ 2)) (and_from _ _ (below_octet (n / 256 ^ 1)) (and_from _ _ (below_octet n) refl)))

back16 : (word : List ℕ) (n : ℕ) → upper_in (hex_in w16) word ≡ Some n → (word ≡ encode_upper (to_be_bytes w16 n)) × (nat_lt n 65536 ≡ true)
back16 word n h =
    let u = upper_back (hex_in w16) word n h in
    let k = hex_named w16 word n u.0 u.1 in
    let bytes = IsBytes-test k.octets k.bytes in
    (k.spelled ∙ ap encode_upper (sym (be_bytes_2 k.octets n k.size bytes (sym k.value))), lt-ltb n 65536 (let v = k.value in omega (arith, bytes 0, bytes 1)))

pub upper_hex16_is : IsKind (upper (hex w16))
upper_hex16_is = record {
  back = back16;
  again = λ n fit. let s = spelled_again (to_be_bytes w16 n) (octets16 n) in rw s.0 (hex_spelled w16 n (octets16 n) refl (from_be_bytes-to_be_bytes_2 n (ltb-true n 65536 fit)));
  plain = λ n fit. (spelled_again (to_be_bytes w16 n) (octets16 n)).1;
}

one_octet : (octets : List ℕ) (n : ℕ) → length octets ≡ 1 → IsBytes octets → from_be_bytes w8 octets ≡ n → (octets ≡ to_be_bytes w8 n) × (n < 256)
one_octet [] n len bytes e = absurd (omega arith)
one_octet (o ∷ []) n len bytes e = let b = bytes 0 in let q : o ≡ n = omega (arith, e) in let r : o ≡ n % 256 = omega arith in (ap (λ (x : ℕ). x ∷ []) r, omega arith)
one_octet (o ∷ p ∷ os) n len bytes e = absurd (omega arith)

back8 : (word : List ℕ) (n : ℕ) → upper_in (hex_in w8) word ≡ Some n → (word ≡ encode_upper (to_be_bytes w8 n)) × (nat_lt n 256 ≡ true)
back8 word n h =
    let u = upper_back (hex_in w8) word n h in
    let k = hex_named w8 word n u.0 u.1 in
    let o = one_octet k.octets n k.size (IsBytes-test k.octets k.bytes) k.value in
    (k.spelled ∙ ap encode_upper o.0, lt-ltb n 256 o.1)

again8 : (n : ℕ) → n < 256 → from_be_bytes w8 (to_be_bytes w8 n) ≡ n
again8 n lt = omega arith

pub upper_hex8_is : IsKind (upper (hex w8))
upper_hex8_is = record {
  back = back8;
  again = λ n fit. let s = spelled_again (to_be_bytes w8 n) (octets8 n) in rw s.0 (hex_spelled w8 n (octets8 n) refl (again8 n (ltb-true n 256 fit)));
  plain = λ n fit. (spelled_again (to_be_bytes w8 n) (octets8 n)).1;
}

source_from : (word : List ℕ) (src : Src) (o : Option ℕ) → has_small word ≡ false → hex_in w32 word ≡ o → option_map {U = Src} (λ n. record { 0 = n }) o ≡ Some src
    → (word ≡ encode_upper (to_be_bytes w32 src.0)) × (nat_lt src.0 4294967296 ≡ true)
source_from word src None small e h = absurd cc
source_from word src (Some n) small e h =
    let k = hex_named w32 word n small e in
    let bytes = IsBytes-test k.octets k.bytes in
    let made : Src = record { 0 = n } in
    let q : made ≡ src = cc in
    let r : n ≡ src.0 = ap (λ (x : Src). x.0) q in
    subst (λ (m : ℕ). (word ≡ encode_upper (to_be_bytes w32 m)) × (nat_lt m 4294967296 ≡ true)) r
    (k.spelled ∙ ap encode_upper (sym (be_bytes_4 k.octets n k.size bytes (sym k.value))), lt-ltb n 4294967296 (let v = k.value in omega (arith, bytes 0, bytes 1, bytes 2, bytes 3)))

source_back : (word : List ℕ) (src : Src) → (upper source).read word ≡ Some src → (word ≡ source.text src) × (source.fits src ≡ true)
source_back word src h = let u = upper_back source.read word src h in source_from word src (hex_in w32 word) u.0 refl u.1

pub upper_source_is : IsKind (upper source)
upper_source_is = record {
  back = source_back;
  again = λ src fit. let s = spelled_again (to_be_bytes w32 src.0) (octets32 src.0) in rw (s.0, hex_spelled w32 src.0 (octets32 src.0) refl (from_be_bytes-to_be_bytes_4 src.0 (ltb-true src.0 4294967296 fit))) refl;
  plain = λ src fit. (spelled_again (to_be_bytes w32 src.0) (octets32 src.0)).1;
}

text_of_some : (bytes : List ℕ) → 0 < length bytes → octets_text bytes ≡ encode_upper bytes
text_of_some [] lt = absurd (omega arith)
text_of_some (b ∷ bs) lt = refl

and_left_false : (x : Bool) → (x && false) ≡ false
and_left_false true = refl
and_left_false false = refl

octets_read : (word value : List ℕ) → has_small word ≡ false → bytes_eq word (codes "-") ≡ false → nat_le 1 (length word) ≡ true → nat_le (length word) 254 ≡ true → decode_of word ≡ Ok value
    → (upper octets).read word ≡ Some value
unfolding octets_in
octets_read word value small dash low high e = rw (small, dash, low, high, e) refl

of_from : (word value : List ℕ) (r : Result (List ℕ) FromHexError) → has_small word ≡ false → nat_le 1 (length word) ≡ true → nat_le (length word) 254 ≡ true → decode_of word ≡ r → result_ok r ≡ Some value
    → (word ≡ octets_text value) × (octets.fits value ≡ true)
of_from word value (Err e) small low high h k = absurd cc
of_from word value (Ok bytes) small low high h k =
    let ok = decode_of-ok word bytes h in
    let len = ok.2 in
    let l = leb-true _ _ low in
    let u = leb-true _ _ high in
    let pairs : decode_pairs 0 word ≡ Ok bytes = sym (decode_of-even word ok.0) ∙ h in
    let both = pairs_upper 0 word bytes small pairs in
    let q : bytes ≡ value = cc in
    subst (λ (x : List ℕ). (word ≡ octets_text x) × (octets.fits x ≡ true)) q
    (both.0 ∙ sym (text_of_some bytes (omega arith)), and_from _ _ (le-leb _ _ (omega arith)) both.1)

octets_back : (word value : List ℕ) → (upper octets).read word ≡ Some value → (word ≡ octets_text value) × (octets.fits value ≡ true)
unfolding octets_in
octets_back word value h =
    let u = upper_back octets.read word value h in
    elim (cases_Bool (bytes_eq word (codes "-"))) [
      | inl e ↦
          let q : [] ≡ value = cc (rw e at u.1) in
          subst (λ (x : List ℕ). (word ≡ octets_text x) × (octets.fits x ≡ true)) q ((bytes_eq-Decides word (codes "-")).0 e, refl)
      | inr e ↦ elim (cases_Bool (nat_le 1 (length word) && nat_le (length word) 254)) [
        | inl f ↦ let parts = and_parts _ _ f in of_from word value (decode_of word) u.0 parts.0 parts.1 refl (rw (e, f) at u.1)
        | inr f ↦ absurd (let k = rw (e, f) at u.1 in cc)
      ]
    ]

octets_again : (value : List ℕ) → octets.fits value ≡ true → (upper octets).read (octets_text value) ≡ Some value
unfolding octets_in encode_with
octets_again [] fit = refl
octets_again (o ∷ os) fit =
    let parts = and_parts (nat_le (length (o ∷ os)) 127) (are_octets (o ∷ os)) fit in
    let most = leb-true (length (o ∷ os)) 127 parts.0 in
    let s = spelled_again (o ∷ os) parts.1 in
    let count = length-encode_with upper_digits (o ∷ os) in
    let low : nat_le 1 (length (encode_upper (o ∷ os))) ≡ true = le-leb 1 (length (encode_upper (o ∷ os))) (omega arith) in
    let high : nat_le (length (encode_upper (o ∷ os))) 254 ≡ true = le-leb (length (encode_upper (o ∷ os))) 254 (omega arith) in
    octets_read (encode_upper (o ∷ os)) (o ∷ os) s.0 (and_left_false _) low high (decode_of-encode_upper (o ∷ os) (IsBytes-test (o ∷ os) parts.1))

octets_plain : (value : List ℕ) → octets.fits value ≡ true → is_plain (octets_text value) ≡ true
octets_plain [] fit = refl
octets_plain (o ∷ os) fit = (spelled_again (o ∷ os) (and_parts (nat_le (length (o ∷ os)) 127) (are_octets (o ∷ os)) fit).1).1

pub upper_octets_is : IsKind (upper octets)
upper_octets_is = record { back = octets_back; again = octets_again; plain = octets_plain }

name_back : (word value : List ℕ) → (if is_name word then Some word else None) ≡ Some value → (word ≡ value) × (is_name value ≡ true)
name_back word value h = elim (cases_Bool (is_name word)) [
  | inl e ↦ let q : word ≡ value = cc (rw e at h) in (q, ap is_name (sym q) ∙ e)
  | inr e ↦ absurd (let k = rw e at h in cc)
]

letters_plain : (cs : List ℕ) → are_name_letters cs ≡ true → is_plain cs ≡ true
letters_plain [] h = refl
letters_plain (c ∷ cs) h = let parts = and_parts _ _ h in and_from _ _ (letter_plain c parts.0) (letters_plain cs parts.1)

name_plain : (word : List ℕ) → is_name word ≡ true → is_plain word ≡ true
unfolding is_name
name_plain [] h = absurd cc
name_plain (c ∷ cs) h =
    let parts = and_parts (is_letter c && nat_le (length cs) 7) (are_name_letters cs) h in
    let front = and_parts (is_letter c) (nat_le (length cs) 7) parts.0 in
    and_from _ _ (letter_plain c (or_from_left (is_letter c) (nat_le 48 c && nat_le c 57) front.0)) (letters_plain cs parts.1)

pub name_is : IsKind name
name_is = record {
  back = name_back;
  again = λ value fit. rw fit refl;
  plain = name_plain;
}

-- ---- one of some values, by its text

among_back : {A : Type 0} (values : List A) (text : A → List ℕ) (word : List ℕ) (value : A) → among_in values text word ≡ Some value → (word ≡ text value) × (true ≡ true)
among_back [] text word value h = absurd cc
among_back (v ∷ vs) text word value h = elim (cases_Bool (bytes_eq word (text v))) [
  | inl e ↦
      let q : v ≡ value = cc (rw e at h) in
      ((bytes_eq-Decides word (text v)).0 e ∙ ap text q, refl)
  | inr e ↦ among_back vs text word value (rw e at h)
]

pub among_is : {A : Type 0} (values : List A) (text : A → List ℕ) → ((value : A) → among_in values text (text value) ≡ Some value) → ((value : A) → is_plain (text value) ≡ true) → IsKind (among values text)
among_is values text again plain = record {
  back = among_back values text;
  again = λ value fit. again value;
  plain = λ value fit. plain value;
}

or_word_from : {A : Type 0} (absent : List ℕ) (kind : Kind A) → IsKind kind → (word : List ℕ) (value : Option A) (o : Option A) → kind.read word ≡ o
    → option_map (λ v. Some v) o ≡ Some value → (word ≡ (or_word absent kind).text value) × ((or_word absent kind).fits value ≡ true)
or_word_from absent kind k word value None e h = absurd cc
or_word_from {A} absent kind k word value (Some v) e h =
    let q : Some v ≡ value = cc in
    subst (λ (x : Option A). (word ≡ (or_word absent kind).text x) × ((or_word absent kind).fits x ≡ true)) q (k.back word v e)

or_word_back : {A : Type 0} (absent : List ℕ) (kind : Kind A) → IsKind kind → (word : List ℕ) (value : Option A) → or_word_in absent kind.read word ≡ Some value
    → (word ≡ (or_word absent kind).text value) × ((or_word absent kind).fits value ≡ true)
or_word_back {A} absent kind k word value h = elim (cases_Bool (bytes_eq word absent)) [
  | inl e ↦
      let q : None ≡ value = cc (rw e at h) in
      subst (λ (x : Option A). (word ≡ (or_word absent kind).text x) × ((or_word absent kind).fits x ≡ true)) q ((bytes_eq-Decides word absent).0 e, refl)
  | inr e ↦ or_word_from absent kind k word value (kind.read word) refl (rw e at h)
]

or_word_again : {A : Type 0} (absent : List ℕ) (kind : Kind A) → IsKind kind → ((value : A) → kind.fits value ≡ true → bytes_eq (kind.text value) absent ≡ false)
    → (value : Option A) → (or_word absent kind).fits value ≡ true → or_word_in absent kind.read ((or_word absent kind).text value) ≡ Some value
or_word_again absent kind k other None fit = rw ((bytes_eq-Decides absent absent).1 refl) refl
or_word_again absent kind k other (Some v) fit = rw (other v fit, k.again v fit) refl

or_word_plain : {A : Type 0} (absent : List ℕ) (kind : Kind A) → IsKind kind → is_plain absent ≡ true → (value : Option A) → (or_word absent kind).fits value ≡ true → is_plain ((or_word absent kind).text value) ≡ true
or_word_plain absent kind k plain None fit = plain
or_word_plain absent kind k plain (Some v) fit = k.plain v fit

pub or_word_is : {A : Type 0} (absent : List ℕ) (kind : Kind A) → IsKind kind → is_plain absent ≡ true → ((value : A) → kind.fits value ≡ true → bytes_eq (kind.text value) absent ≡ false) → IsKind (or_word absent kind)
or_word_is absent kind k plain other = record {
  back = or_word_back absent kind k;
  again = or_word_again absent kind k other;
  plain = or_word_plain absent kind k plain;
}

-- a name is not a dash
dash_or_name : (letters : List ℕ) → is_name letters ≡ true → bytes_eq letters (codes "-") ≡ false
unfolding is_name
dash_or_name [] h = refl
dash_or_name (c ∷ cs) h =
    let parts = and_parts (is_letter c && nat_le (length cs) 7) (are_name_letters cs) h in
    let front = and_parts (is_letter c) (nat_le (length cs) 7) parts.0 in
    let low = leb-true 97 c (and_parts (nat_le 97 c) (nat_le c 122) front.0).0 in
    and_left _ _ (ne_eqb c 45 (λ e. absurd (omega arith)))

pub node_is : IsKind (or_word (codes "-") name)
node_is = or_word_is (codes "-") name name_is refl dash_or_name
