-- Decimal numbers as words.
use Rattle.std.proofs.Common.{◌≡◌, ℕ, ◌<◌, ◌≤◌, ◌^◌, true, false, not, ◌&&◌, List, Some, None, Result, Ok, refl, ap, ◌∙◌, inl, inr}
use Rattle.std.specs.Prelude.{decimal, nat_le}
use Rattle.std.specs.Str.{bytes_eq, IsUtf8}
use Rattle.std.specs.Str.Parse.{digits_value, ParsesUnsigned}
use Rattle.std.proofs.lemmas.Fmt.{decimal_is_IsNumeral, parse-decimal, IsAscii-decimal}
use Rattle.std.proofs.lemmas.Str.{IsUtf8-from_ascii}
use Rattle.std.proofs.lemmas.Slice.Eq.{bytes_eq-Decides}
use Rattle.std.proofs.lemmas.Bool.{and_parts, and_from, cases_Bool, not-true, not-false, both_ways, leb-true, le-leb}
use Rattle.gp_script.specs.Kinds.{number_in}

pub number_refused : (most : ℕ) (word : List ℕ) → ((n : ℕ) → n ≤ most → word ≡ decimal n → ⊥) → None ≡ number_in most word
unfolding number_in
number_refused most word h =
    let n = digits_value 10 word in
    elim (cases_Bool (bytes_eq word (decimal n) && nat_le n most)) [
      | inl e ↦
          let parts = and_parts _ _ e in
          absurd (h n (leb-true n most parts.1) ((bytes_eq-Decides word (decimal n)).0 parts.0))
      | inr e ↦ rw e refl
    ]

pub number_found : (most n : ℕ) (word : List ℕ) → n < 2 ^ 64 → n ≤ most → word ≡ decimal n → Some n ≡ number_in most word
unfolding number_in
number_found most n word lt le e =
    let value : digits_value 10 word ≡ n = ap (digits_value 10) e ∙ (decimal_is_IsNumeral n lt).1 in
    let here : (bytes_eq word (decimal n) && nat_le n most) ≡ true = and_from _ _ ((bytes_eq-Decides word (decimal n)).1 e) (le-leb n most le) in
    rw (value, here) refl

pub decimal_is_text : (n : ℕ) (word : List ℕ) → n < 2 ^ 64 → word ≡ decimal n → IsUtf8 word
decimal_is_text n word lt e = rw e (IsUtf8-from_ascii (decimal n) (IsAscii-decimal n lt))

pub decimal_parses : {E : Type 0} (n : ℕ) (word : List ℕ) (r : Result ℕ E) → n < 2 ^ 64 → word ≡ decimal n → ParsesUnsigned 64 10 word r → r ≡ Ok n
decimal_parses n word r lt e h = parse-decimal 64 n word r lt lt e h

pub same : (p w : List ℕ) → not (bytes_eq p w) ≡ false → p ≡ w
same p w h = (bytes_eq-Decides p w).0 (not-false _ h)

pub differs : (p w : List ℕ) → not (bytes_eq p w) ≡ true → p ≡ w → ⊥
differs p w h e = both_ways _ (not-true _ h) ((bytes_eq-Decides p w).1 e)
