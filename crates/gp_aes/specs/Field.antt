-- The field GF(2^8) and the S-box (FIPS 197, sections 4 and 5.1.1). An octet stands for the polynomial whose
-- coefficient of x^i is its bit i. The sum of two of them is `bit_xor`.
use Rattle.std.specs.Prelude.{ℕ, zero, suc, ◌+◌, ◌*◌, ◌/◌, ◌%◌, ◌^◌, ◌==◌, nat_lt, bit_xor, List, [], ◌∷◌, find, sum_by, unwrap_or, if◌then◌else◌}
use Rattle.std.specs.Int.{bit_at}

-- b times x, modulo x^8 + x^4 + x^3 + x + 1 (4.2)
abbrev pub times_x : ℕ → ℕ
times_x b = if nat_lt b 0x80 then 2 * b else bit_xor (2 * b) 0x11b

-- b times the first n terms of c: the constant term of c times b, and the rest of c times b times x
abbrev pub times_terms : ℕ → ℕ → ℕ → ℕ
times_terms b c zero = 0
times_terms b c (suc n) = bit_xor (if c % 2 == 1 then b else 0) (times_terms (times_x b) (c / 2) n)

-- the product of two elements (4.2)
unfoldable pub product : ℕ → ℕ → ℕ
product b c = times_terms b c 8

-- the numbers below n, from the highest
abbrev pub below : ℕ → List ℕ
below zero = []
below (suc n) = n ∷ below n

-- the multiplicative inverse, the element whose product with b is 1; 0 for 0, which has none (4.2)
unfoldable pub inverse : ℕ → ℕ
inverse b = unwrap_or (find (λ c. product b c == 1) (below 256)) 0

-- bit i of the affine map: the sum of bits i, i + 4, i + 5, i + 6 and i + 7 modulo 8 of b, and bit i of 0x63 (5.1.1)
abbrev pub affine_bit : ℕ → ℕ → ℕ
affine_bit b i =
    (bit_at b i + bit_at b ((i + 4) % 8) + bit_at b ((i + 5) % 8) + bit_at b ((i + 6) % 8) + bit_at b ((i + 7) % 8)
    + bit_at 0x63 i) % 2

-- the affine map on the eight bits of b (5.1.1)
abbrev pub affine : ℕ → ℕ
affine b = sum_by (λ i. affine_bit b i * 2 ^ i) (below 8)

-- the S-box: the inverse, then the affine map (5.1.1)
unfoldable pub sub_byte : ℕ → ℕ
sub_byte b = affine (inverse b)
