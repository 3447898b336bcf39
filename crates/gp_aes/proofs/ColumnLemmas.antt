-- Sums of columns, row by row.
use Rattle.std.proofs.Common.{◌≡◌, ℕ, ◌/◌, ◌%◌, ◌^◌, ◌∙◌, List, [], ◌∷◌, ◌++◌, refl, ap, bit_xor}
use Rattle.std.proofs.lemmas.Nat.{xor_shr, xor_mod}
use Rattle.gp_aes.specs.Field.{product}
use Rattle.gp_aes.specs.Columns.{rows_of}
use Rattle.gp_aes.specs.Cipher.{mix_column}
use Rattle.gp_aes.specs.KeyExpansion.{add_words}

-- a row of a sum of columns is the sum of the rows
low-xor : (x y : ℕ) → bit_xor x y % 256 ≡ bit_xor (x % 256) (y % 256)
low-xor x y = xor_mod x y 8

row-xor : (x y k : ℕ) → bit_xor x y / 2 ^ k % 256 ≡ bit_xor (x / 2 ^ k % 256) (y / 2 ^ k % 256)
row-xor x y k = ap (λ n. n % 256) (xor_shr x y k) ∙ low-xor (x / 2 ^ k) (y / 2 ^ k)

cells : (a a' b b' c c' d d' : ℕ) → a ≡ a' → b ≡ b' → c ≡ c' → d ≡ d' →
    ◌≡◌ {A = List ℕ} (a ∷ b ∷ c ∷ d ∷ []) (a' ∷ b' ∷ c' ∷ d' ∷ [])
cells a a' b b' c c' d d' e f g h = cc

pub rows_of-xor : (x y : ℕ) → rows_of (bit_xor x y) ≡ add_words (rows_of x) (rows_of y)
rows_of-xor x y = cells _ _ _ _ _ _ _ _ (low-xor x y) (row-xor x y 8) (row-xor x y 16) (row-xor x y 24)

pub rows_of-sum : (x y : ℕ) (xs ys : List ℕ) → rows_of x ≡ xs → rows_of y ≡ ys → rows_of (bit_xor x y) ≡ add_words xs ys
rows_of-sum x y xs ys e f = rows_of-xor x y ∙ ap (λ w. add_words w (rows_of y)) e ∙ ap (add_words xs) f

-- the sum of what four octets give to a column, and a word of the key, is the mixed column and that word
pub rows_of-mixed : (t0 t1 t2 t3 key a b c d : ℕ)
    → rows_of t0 ≡ product 2 a ∷ product 1 a ∷ product 1 a ∷ product 3 a ∷ []
    → rows_of t1 ≡ product 3 b ∷ product 2 b ∷ product 1 b ∷ product 1 b ∷ []
    → rows_of t2 ≡ product 1 c ∷ product 3 c ∷ product 2 c ∷ product 1 c ∷ []
    → rows_of t3 ≡ product 1 d ∷ product 1 d ∷ product 3 d ∷ product 2 d ∷ []
    → rows_of (bit_xor (bit_xor (bit_xor (bit_xor t0 t1) t2) t3) key) ≡ add_words (mix_column (a ∷ b ∷ c ∷ d ∷ [])) (rows_of key)
rows_of-mixed t0 t1 t2 t3 key a b c d e0 e1 e2 e3 =
    rows_of-sum _ _ _ _ (rows_of-sum _ _ _ _ (rows_of-sum _ _ _ _ (rows_of-sum _ _ _ _ e0 e1) e2) e3) refl

-- a column that was read from four octets, and a word of the key
pub rows_of-read : (w key a b c d : ℕ) → rows_of w ≡ a ∷ b ∷ c ∷ d ∷ [] →
    rows_of (bit_xor w key) ≡ add_words (a ∷ b ∷ c ∷ d ∷ []) (rows_of key)
rows_of-read w key a b c d e = rows_of-sum _ _ _ _ e refl

-- four columns, each by its rows
pub four_columns : (p p' q q' r r' s s' : List ℕ) → p ≡ p' → q ≡ q' → r ≡ r' → s ≡ s' →
    p ++ (q ++ (r ++ s)) ≡ p' ++ (q' ++ (r' ++ s'))
four_columns p p' q q' r r' s s' e f g h = cc
