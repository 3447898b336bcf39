-- The cipher AES-128 (FIPS 197, sections 3.4 and 5.1). A state is the list of its 16 octets, column after column.
use Rattle.std.specs.Prelude.{ℕ, zero, suc, ◌+◌, ◌-◌, ◌%◌, bit_xor, List, [], ◌∷◌, ◌++◌, slice_index}
use Rattle.gp_aes.specs.Field.{product, sub_byte}
use Rattle.gp_aes.specs.State.{at, column, state_of}
use Rattle.gp_aes.specs.KeyExpansion.{round_key}

-- each octet by the S-box (5.1.1)
abbrev pub sub_bytes : List ℕ → List ℕ
sub_bytes s = state_of (λ r c. sub_byte (at s r c))

-- row r moves left by r places, round its end (5.1.2)
abbrev pub shift_rows : List ℕ → List ℕ
shift_rows s = state_of (λ r c. at s r ((c + r) % 4))

-- coefficient r of the product of two polynomials of four terms, modulo x^4 + 1 (4.3)
abbrev pub product_modulo : List ℕ → List ℕ → ℕ → ℕ
product_modulo a b r =
    bit_xor (bit_xor (bit_xor
    (product (slice_index a ((r + 4 - 0) % 4)) (slice_index b 0))
    (product (slice_index a ((r + 4 - 1) % 4)) (slice_index b 1)))
    (product (slice_index a ((r + 4 - 2) % 4)) (slice_index b 2)))
    (product (slice_index a ((r + 4 - 3) % 4)) (slice_index b 3))

-- the polynomial 3 x^3 + x^2 + x + 2, from its constant term (5.1.3)
abbrev pub mixing : List ℕ
mixing = 2 ∷ 1 ∷ 1 ∷ 3 ∷ []

-- a column, as a polynomial from its constant term, times `mixing`, modulo x^4 + 1 (5.1.3)
abbrev pub mix_column : List ℕ → List ℕ
mix_column b =
    product_modulo mixing b 0 ∷ product_modulo mixing b 1 ∷ product_modulo mixing b 2 ∷ product_modulo mixing b 3 ∷ []

-- each column mixed
abbrev pub mix_columns : List ℕ → List ℕ
mix_columns s = mix_column (column s 0) ++ mix_column (column s 1) ++ mix_column (column s 2) ++ mix_column (column s 3)

-- the sum of the state and a round key (5.1.4)
abbrev pub add_round_key : List ℕ → List ℕ → List ℕ
add_round_key s k = state_of (λ r c. bit_xor (at s r c) (at k r c))

-- the state after the first key and n whole rounds
unfoldable pub after_rounds : List ℕ → List ℕ → ℕ → List ℕ
after_rounds key block zero = add_round_key block (round_key key 0)
after_rounds key block (suc n) = add_round_key (mix_columns (shift_rows (sub_bytes (after_rounds key block n)))) (round_key key (suc n))

-- the cipher: nine whole rounds, and a tenth without MixColumns (5.1)
unfoldable pub cipher : List ℕ → List ℕ → List ℕ
cipher key block = add_round_key (shift_rows (sub_bytes (after_rounds key block 9))) (round_key key 10)
