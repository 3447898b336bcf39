-- What the tables hold, checked over their 256 octets.
use Rattle.std.proofs.Common.{◌≡◌, ℕ, ◌+◌, ◌-◌, ◌<◌, ◌≤◌, List, [], ◌∷◌, refl, sym, ap, ◌∙◌, length, slice_index, slice_index_or, arith}
use Rattle.std.specs.Prelude.{map}
use Rattle.std.specs.List.{range_with_len}
use Rattle.std.proofs.lemmas.List.FromFn.{get_or-map-range_with_len}
use Rattle.std.proofs.lemmas.List.{get_or-map}
use Rattle.gp_aes.specs.Field.{product, inverse, sub_byte}
use Rattle.gp_aes.specs.Columns.{rows_of}
use Rattle.gp_aes.specs.KeyExpansion.{round_constant}
use Rattle.gp_aes.specs.declared.round.TheConstants.{POWERS_OF_X}
use Rattle.gp_aes.specs.declared.tables.TheConstants.{SUB, MIXED_0, MIXED_1, MIXED_2, MIXED_3}

-- a list that is f at the places below n has f k at place k
pub of_places : {X : Type 0} (f : ℕ → X) (xs : List X) (n k : ℕ) (d : X) → xs ≡ map f (range_with_len 0 n) → k < n → slice_index_or xs k d ≡ f k
of_places f xs n k d e h = rw e (get_or-map-range_with_len f 0 n k k d h (omega arith))

-- the S-box of each octet
sub_table : SUB ≡ map sub_byte (range_with_len 0 256)
unfolding product inverse sub_byte
sub_table = refl

pub sub_at : (k : ℕ) → k < 256 → slice_index SUB k ≡ sub_byte k
sub_at k h = of_places sub_byte SUB 256 k 0 sub_table h

-- the S-box value of octet k times each of four factors
abbrev pub times_all : ℕ → List ℕ → List ℕ
times_all s [] = []
times_all s (x ∷ xs) = product x s ∷ times_all s xs

-- the table has the rows of the S-box value times these factors
abbrev pub IsMixed : List ℕ → List ℕ → Type 0
IsMixed table factors = map rows_of table ≡ map (λ k. times_all (slice_index SUB k) factors) (range_with_len 0 256)

is_mixed_0 : IsMixed MIXED_0 (2 ∷ 1 ∷ 1 ∷ 3 ∷ [])
unfolding product
is_mixed_0 = refl

is_mixed_1 : IsMixed MIXED_1 (3 ∷ 2 ∷ 1 ∷ 1 ∷ [])
unfolding product
is_mixed_1 = refl

is_mixed_2 : IsMixed MIXED_2 (1 ∷ 3 ∷ 2 ∷ 1 ∷ [])
unfolding product
is_mixed_2 = refl

is_mixed_3 : IsMixed MIXED_3 (1 ∷ 1 ∷ 3 ∷ 2 ∷ [])
unfolding product
is_mixed_3 = refl

mixed_at : (table factors : List ℕ) (k : ℕ) → length table ≡ 256 → IsMixed table factors → k < 256 →
    rows_of (slice_index table k) ≡ times_all (sub_byte k) factors
mixed_at table factors k n e h =
    let inside : k < length table = omega arith in
    sym (get_or-map rows_of table k 0 [] inside)
    ∙ of_places (λ j. times_all (slice_index SUB j) factors) (map rows_of table) 256 k [] e h
    ∙ ap (λ s. times_all s factors) (sub_at k h)

pub mixed_0_at : (k : ℕ) → k < 256 → rows_of (slice_index MIXED_0 k) ≡ times_all (sub_byte k) (2 ∷ 1 ∷ 1 ∷ 3 ∷ [])
mixed_0_at k h = mixed_at MIXED_0 (2 ∷ 1 ∷ 1 ∷ 3 ∷ []) k refl is_mixed_0 h

pub mixed_1_at : (k : ℕ) → k < 256 → rows_of (slice_index MIXED_1 k) ≡ times_all (sub_byte k) (3 ∷ 2 ∷ 1 ∷ 1 ∷ [])
mixed_1_at k h = mixed_at MIXED_1 (3 ∷ 2 ∷ 1 ∷ 1 ∷ []) k refl is_mixed_1 h

pub mixed_2_at : (k : ℕ) → k < 256 → rows_of (slice_index MIXED_2 k) ≡ times_all (sub_byte k) (1 ∷ 3 ∷ 2 ∷ 1 ∷ [])
mixed_2_at k h = mixed_at MIXED_2 (1 ∷ 3 ∷ 2 ∷ 1 ∷ []) k refl is_mixed_2 h

pub mixed_3_at : (k : ℕ) → k < 256 → rows_of (slice_index MIXED_3 k) ≡ times_all (sub_byte k) (1 ∷ 1 ∷ 3 ∷ 2 ∷ [])
mixed_3_at k h = mixed_at MIXED_3 (1 ∷ 1 ∷ 3 ∷ 2 ∷ []) k refl is_mixed_3 h

-- the constants of rounds 1 to 10
constants : map rows_of POWERS_OF_X ≡ map (λ i. round_constant (i + 1)) (range_with_len 0 10)
constants = refl

pub constant_at : (j : ℕ) → 1 ≤ j → j ≤ 10 → rows_of (slice_index POWERS_OF_X (j - 1)) ≡ round_constant j
constant_at j low high =
    let inside : j - 1 < 10 = omega arith in
    let back : (j - 1) + 1 ≡ j = omega arith in
    sym (get_or-map rows_of POWERS_OF_X (j - 1) 0 [] inside)
    ∙ of_places (λ i. round_constant (i + 1)) (map rows_of POWERS_OF_X) 10 (j - 1) [] constants inside
    ∙ ap round_constant back
