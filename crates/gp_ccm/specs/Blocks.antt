-- Octets in blocks of 16, the block size of AES.
use Rattle.std.specs.Prelude.{ℕ, zero, suc, ◌+◌, ◌-◌, ◌/◌, ◌%◌, List, [], ◌∷◌, ◌++◌, length, take, drop, replicate, bit_xor}

-- a number in two octets, most significant first
abbrev pub two_octets : ℕ → List ℕ
two_octets n = n / 256 % 256 ∷ n % 256 ∷ []

-- two lists added octet by octet, as far as both go
abbrev pub xor_octets : List ℕ → List ℕ → List ℕ
xor_octets [] ys = []
xor_octets (x ∷ xs) [] = []
xor_octets (x ∷ xs) (y ∷ ys) = bit_xor x y ∷ xor_octets xs ys

-- at most 16 octets, and zeros up to 16
abbrev pub padded : List ℕ → List ℕ
padded xs = xs ++ replicate (16 - length xs) 0

-- how many blocks hold n octets
abbrev pub block_count : ℕ → ℕ
block_count n = (n + 15) / 16

-- the first n blocks of a list, the last with zeros at its end
abbrev pub cut : ℕ → List ℕ → List (List ℕ)
cut zero xs = []
cut (suc n) xs = padded (take 16 xs) ∷ cut n (drop 16 xs)

-- all blocks of a list, the last with zeros at its end
unfoldable pub blocks_of : List ℕ → List (List ℕ)
blocks_of xs = cut (block_count (length xs)) xs
