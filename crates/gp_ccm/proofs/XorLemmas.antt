-- Sums of lists, octet by octet.
use Rattle.std.proofs.Common.{◌≡◌, ℕ, zero, suc, ◌<◌, ◌≤◌, ◌∙◌, min, List, [], ◌∷◌, ◌++◌, length, take, drop, get_or, refl, ap, arith, bit_xor, bit_or}
use Rattle.std.specs.Int.Bits.{xor_self, xor_zero_r, xor_add_and, xor_assoc}
use Rattle.std.proofs.lemmas.Nat.{le_or_l, le_or_r, and_le_l, and_le_r}
use Rattle.gp_ccm.specs.Blocks.{xor_octets}

-- ---- one octet

pub or_zero_left : (a b : ℕ) → bit_or a b ≡ 0 → a ≡ 0
or_zero_left a b e = omega (arith, le_or_l a b)

pub or_zero_right : (a b : ℕ) → bit_or a b ≡ 0 → b ≡ 0
or_zero_right a b e = omega (arith, le_or_r a b)

-- octets whose sum is 0 are equal
pub same_from_xor : (a b : ℕ) → bit_xor a b ≡ 0 → a ≡ b
same_from_xor a b e = omega (arith, xor_add_and a b, and_le_l a b, and_le_r a b)

-- ---- lists

pub length-xor_octets : (xs ys : List ℕ) → length (xor_octets xs ys) ≡ min (length xs) (length ys)
length-xor_octets [] ys = omega arith
length-xor_octets (x ∷ xs) [] = omega arith
length-xor_octets (x ∷ xs) (y ∷ ys) = omega (arith, length-xor_octets xs ys)

pub get_or-xor_octets : (xs ys : List ℕ) (i : ℕ) → i < length xs → i < length ys →
    get_or (xor_octets xs ys) i 0 ≡ bit_xor (get_or xs i 0) (get_or ys i 0)
get_or-xor_octets [] ys i h k = absurd (omega arith)
get_or-xor_octets (x ∷ xs) [] i h k = absurd (omega arith)
get_or-xor_octets (x ∷ xs) (y ∷ ys) zero h k = refl
get_or-xor_octets (x ∷ xs) (y ∷ ys) (suc i) h k = get_or-xor_octets xs ys i (omega arith) (omega arith)

-- a list against two lists, one after the other
pub xor_octets-append : (xs ys zs : List ℕ) →
    xor_octets xs (ys ++ zs) ≡ xor_octets (take (length ys) xs) ys ++ xor_octets (drop (length ys) xs) zs
xor_octets-append xs [] zs = refl
xor_octets-append [] (y ∷ ys) zs = refl
xor_octets-append (x ∷ xs) (y ∷ ys) zs = ap (λ l. bit_xor x y ∷ l) (xor_octets-append xs ys zs)

-- one octet more
pub xor_octets-take_more : (xs ys : List ℕ) (i : ℕ) → i < length xs → i < length ys →
    xor_octets (take (suc i) xs) ys ≡ xor_octets (take i xs) ys ++ bit_xor (get_or xs i 0) (get_or ys i 0) ∷ []
xor_octets-take_more [] ys i h k = absurd (omega arith)
xor_octets-take_more (x ∷ xs) [] i h k = absurd (omega arith)
xor_octets-take_more (x ∷ xs) (y ∷ ys) zero h k = refl
xor_octets-take_more (x ∷ xs) (y ∷ ys) (suc i) h k = ap (λ l. bit_xor x y ∷ l) (xor_octets-take_more xs ys i (omega arith) (omega arith))

-- ---- a sum taken away again

xor-twice : (a b : ℕ) → bit_xor (bit_xor a b) b ≡ a
xor-twice a b = xor_assoc a b b ∙ ap (bit_xor a) (xor_self b) ∙ xor_zero_r a

pub xor_octets-twice : (xs ys : List ℕ) → length xs ≤ length ys → xor_octets (xor_octets xs ys) ys ≡ xs
xor_octets-twice [] ys h = refl
xor_octets-twice (x ∷ xs) [] h = absurd (omega arith)
xor_octets-twice (x ∷ xs) (y ∷ ys) h =
    let tails = xor_octets-twice xs ys (omega arith) in
    ap (λ a. a ∷ xor_octets (xor_octets xs ys) ys) (xor-twice x y) ∙ ap (λ l. x ∷ l) tails
