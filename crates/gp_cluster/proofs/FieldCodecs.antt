-- The fields of the messages at places, and spelled out.
use Rattle.std.proofs.Common.{◌≡◌, ℕ, zero, suc, ◌+◌, ◌^◌, ◌<◌, ◌≤◌, Bool, true, false, not, eqb, List, [], ◌∷◌, ◌++◌, length, take, drop, Option, Some, None, refl, ap, subst, ◌∙◌, append_assoc, arith}
use Rattle.std.specs.Int.{w64, from_le_bytes, to_le_bytes}
use Rattle.std.proofs.lemmas.Bool.{eqb-true, eqb-false, ne_eqb}
use Rattle.std.proofs.lemmas.Nat.{le_bytes_4, le_bytes_8, from_le_bytes-to_le_bytes_8}
use Rattle.gp_base.specs.Field.{IsOctets, octet_at, eight_at, part, size_if, value_if}
use Rattle.gp_base.proofs.Codec.{At, At-after, At-octet, IsCodec, split_octet, length-octets_at, octet_codec, number16_codec, counted_codec, fixed_codec, retold, eight_told, octet_of_part, first_of_part}
use Rattle.gp_cluster.specs.Fields.{three_octets, three_at, octet_string, IsString, string_size, string_at, proxy_octets, proxy_at, sink_octets, sink_at}

-- ---- codecs from codecs

-- a codec whose fitting values are told in another way
refit : {X : Type 0} (spell : X → List ℕ) (size : List ℕ → ℕ → ℕ) (at : List ℕ → ℕ → X) (Fit Other : X → Type 0) → IsCodec spell size at Fit
    → ((x : X) → Fit x → Other x) → ((x : X) → Other x → Fit x) → IsCodec spell size at Other
refit {X} spell size at Fit Other codec there back = record {
  split = λ b p bytes h. let s = codec.split b p bytes h in (s.0, there _ s.1);
  again = λ b p x r here fit. codec.again b p x r here (back x fit);
}

-- two fields of so many octets, one after the other
pair_codec : {X Y : Type 0} (n m : ℕ) (first : X → List ℕ) (first_at : List ℕ → ℕ → X) (First : X → Type 0) (second : Y → List ℕ) (second_at : List ℕ → ℕ → Y) (Second : Y → Type 0)
    → IsCodec first (λ _ _. n) first_at First → IsCodec second (λ _ _. m) second_at Second
    → IsCodec {X = X × Y} (λ v. first v.0 ++ second v.1) (λ _ _. n + m) (λ b p. (first_at b p, second_at b (p + n))) (λ v. First v.0 × Second v.1)
pair_codec {X} {Y} n m first first_at First second second_at Second one two = record {
  split = λ b p bytes h.
      let x = one.split b p bytes (omega (arith, h)) in
      let y = two.split b (p + n) bytes (omega (arith, h)) in
      let place : (p + n) + m ≡ p + (n + m) = omega arith in
      let all : drop p b ≡ first (first_at b p) ++ (second (second_at b (p + n)) ++ drop (p + (n + m)) b) =
      x.0 ∙ ap (λ (l : List ℕ). first (first_at b p) ++ l) (y.0 ∙ ap (λ (k : ℕ). second (second_at b (p + n)) ++ drop k b) place) in
      (all ∙ simp append_assoc, (x.1, y.1));
  again = λ b p v r at fit.
      let start : At b p (first v.0 ++ (second v.1 ++ r)) = record { rest = at.rest ∙ simp append_assoc; within = at.within } in
      let x = one.again b p v.0 (second v.1 ++ r) start fit.0 in
      let y = two.again b (p + n) v.1 r x.1 fit.1 in
      let place : (p + n) + m ≡ p + (n + m) = omega arith in
      (rw (x.0, y.0) refl, subst (λ (k : ℕ). At b k r) place y.1);
}

-- ---- numbers

three_told : (b : List ℕ) (p : ℕ) → three_at b p ≡ three_at (part b p 3) 0
three_told b p = rw (first_of_part b p 3 (omega arith), octet_of_part b p 3 1 (omega arith), octet_of_part b p 3 2 (omega arith)) refl

cells : (x y z : ℕ) → x < 256 → y < 256 → z < 256 → IsOctets (x ∷ y ∷ z ∷ 0 ∷ [])
cells x y z hx hy hz zero = hx
cells x y z hx hy hz (suc zero) = hy
cells x y z hx hy hz (suc (suc zero)) = hz
cells x y z hx hy hz (suc (suc (suc zero))) = omega arith
cells x y z hx hy hz (suc (suc (suc (suc i)))) = omega arith

three_back : (xs : List ℕ) → IsOctets xs → length xs ≡ 3 → three_octets (three_at xs 0) ≡ xs
three_back [] bytes len = absurd (omega (arith, len))
three_back (x ∷ []) bytes len = absurd (omega (arith, len))
three_back (x ∷ y ∷ []) bytes len = absurd (omega (arith, len))
three_back (x ∷ y ∷ z ∷ []) bytes len = ap (take 3) (le_bytes_4 (x ∷ y ∷ z ∷ 0 ∷ []) _ refl (cells x y z (bytes 0) (bytes 1) (bytes 2)) refl)
three_back (x ∷ y ∷ z ∷ u ∷ xs) bytes len = absurd (omega (arith, len))

pub number24_codec : IsCodec three_octets (λ _ _. 3) three_at (λ n. n < 2 ^ 24)
number24_codec = retold _ _ _ _ (fixed_codec 3 three_octets (λ xs. three_at xs 0) (λ n. n < 2 ^ 24) (record {
  len = λ n fit. refl;
  back = three_back;
  fit = λ xs bytes len. omega (arith, bytes 0, bytes 1, bytes 2);
  again = λ n lt. omega (arith, lt);
})) three_at three_told

number64_codec : IsCodec (to_le_bytes w64) (λ _ _. 8) eight_at (λ n. n < 2 ^ 64)
number64_codec = retold _ _ _ _ (fixed_codec 8 (to_le_bytes w64) (from_le_bytes w64) (λ n. n < 2 ^ 64) (record {
  len = λ n fit. refl;
  back = λ xs bytes len. le_bytes_8 xs _ len bytes refl;
  fit = λ xs bytes len. omega (arith, bytes 0, bytes 1, bytes 2, bytes 3, bytes 4, bytes 5, bytes 6, bytes 7);
  again = λ n lt. from_le_bytes-to_le_bytes_8 n lt;
})) eight_at eight_told

-- ---- addresses

pub proxy_codec : IsCodec proxy_octets (λ _ _. 3) proxy_at (λ proxy. proxy.0 < 2 ^ 16)
proxy_codec =
    refit proxy_octets (λ _ _. 3) proxy_at (λ proxy. (proxy.0 < 2 ^ 16) × Unit {0}) (λ proxy. proxy.0 < 2 ^ 16)
    (pair_codec 2 1 _ _ _ _ _ _ number16_codec octet_codec)
    (λ proxy fit. fit.0)
    (λ proxy fit. (fit, tt))

pub sink_codec : IsCodec sink_octets (λ _ _. 10) sink_at (λ sink. (sink.0 < 2 ^ 64) × (sink.1 < 2 ^ 16))
sink_codec = pair_codec 8 2 _ _ _ _ _ _ number64_codec number16_codec

-- ---- octet strings

string_split : (t : Bool) (b : List ℕ) (p : ℕ) → eqb (octet_at b p) 0xFF ≡ t → IsOctets b → p + (1 + size_if (not t) (octet_at b p)) ≤ length b
    → (drop p b ≡ octet_string (value_if (not t) (part b (p + 1) (octet_at b p))) ++ drop (p + (1 + size_if (not t) (octet_at b p))) b) × IsString (value_if (not t) (part b (p + 1) (octet_at b p)))
string_split true b p e bytes h =
    (split_octet b p (omega (arith, h)) ∙ ap (λ (x : ℕ). x ∷ drop (p + 1) b) (eqb-true _ _ e), tt)
string_split false b p e bytes h =
    let field = counted_codec.split b p bytes h in
    let len = length-octets_at (octet_at b p) b (p + 1) (omega (arith, h)) in
    let other = eqb-false (octet_at b p) 0xFF e in
    (field.0, omega (arith, len, bytes p, other))

string_again : (b : List ℕ) (p : ℕ) (x : Option (List ℕ)) (r : List ℕ) → At b p (octet_string x ++ r) → IsString x → (string_at b p ≡ x) × At b (p + string_size b p) r
string_again b p None r at fit =
    let first : octet_at b p ≡ 0xFF = At-octet b p 0xFF r at in
    (rw first refl, rw first (At-after b p (0xFF ∷ []) r at))
string_again b p (Some xs) r at fit =
    let found = counted_codec.again b p xs r at tt in
    let count : octet_at b p ≡ length xs = At-octet b p (length xs) (xs ++ r) at in
    let other : eqb (octet_at b p) 0xFF ≡ false = ne_eqb _ _ (λ e. absurd (omega (arith, count, fit, e))) in
    (rw other (ap (λ (l : List ℕ). Some l) found.0), rw other found.1)

pub string_codec : IsCodec octet_string string_size string_at IsString
string_codec = record {
  split = λ b p bytes h. string_split (eqb (octet_at b p) 0xFF) b p refl bytes h;
  again = string_again;
}
