-- The key expansion of AES-128 (FIPS 197, section 5.2). A word is four octets. The words of the expanded key are
-- taken four at a time, as round keys: column c of round key j is word 4 j + c of the standard.
use Rattle.std.specs.Prelude.{ℕ, zero, suc, ◌-◌, bit_xor, List, [], ◌∷◌, ◌++◌}
use Rattle.gp_aes.specs.Field.{times_x, sub_byte}
use Rattle.gp_aes.specs.State.{column}

-- the sum of two words
abbrev pub add_words : List ℕ → List ℕ → List ℕ
add_words (x ∷ xs) (y ∷ ys) = bit_xor x y ∷ add_words xs ys
add_words _ _ = []

-- SubWord: each octet by the S-box
abbrev pub sub_word : List ℕ → List ℕ
sub_word (x ∷ xs) = sub_byte x ∷ sub_word xs
sub_word [] = []

-- RotWord: the first octet goes to the end
abbrev pub rot_word : List ℕ → List ℕ
rot_word (x ∷ xs) = xs ++ x ∷ []
rot_word [] = []

-- x to the power n, in GF(2^8)
abbrev pub power_of_x : ℕ → ℕ
power_of_x zero = 1
power_of_x (suc n) = times_x (power_of_x n)

-- the round constant of round j, from 1 on: x to the power j - 1, and three zeros
abbrev pub round_constant : ℕ → List ℕ
round_constant j = power_of_x (j - 1) ∷ 0 ∷ 0 ∷ 0 ∷ []

-- round key j, from the one before it: its first word is the sum of the first word there and of SubWord of RotWord
-- of the last word there and the round constant; each other word is the sum of the same word there and the word
-- before it
abbrev pub next_round_key : ℕ → List ℕ → List ℕ
next_round_key j k =
    let w0 = add_words (column k 0) (add_words (sub_word (rot_word (column k 3))) (round_constant j)) in
    let w1 = add_words (column k 1) w0 in
    let w2 = add_words (column k 2) w1 in
    let w3 = add_words (column k 3) w2 in
    w0 ++ w1 ++ w2 ++ w3

-- round key j of a key, from 0 to 10
unfoldable pub round_key : List ℕ → ℕ → List ℕ
round_key key zero = key
round_key key (suc j) = next_round_key (suc j) (round_key key j)
