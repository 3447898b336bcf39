-- A list without its first block.
use Rattle.std.proofs.Common.{◌≡◌, ℕ, zero, suc, ◌-◌, ◌<◌, ◌≤◌, ◌∙◌, Bool, true, false, ◌==◌, min, List, [], ◌∷◌, ◌++◌, length, take, drop, replicate, refl, sym, ap, arith, length-drop, append-nil, length-append, get_or}
use Rattle.std.proofs.lemmas.List.{get_or_append_left, get_or-append_right, length-replicate, take_min, drop_min, nil_from_length}
use Rattle.std.proofs.lemmas.Bool.{eqb-true, eqb-false}
use Rattle.gp_ccm.specs.Blocks.{padded, block_count, cut, blocks_of}

pub block_count-next : (n : ℕ) → 0 < n → block_count n ≡ suc (block_count (n - 16))
block_count-next n h = omega arith

pub block_count-drop : (xs : List ℕ) → 0 < length xs → block_count (length xs) ≡ suc (block_count (length (drop 16 xs)))
block_count-drop xs h = block_count-next (length xs) h ∙ ap (λ n. suc (block_count n)) (sym (length-drop 16 xs))

pub blocks_of-empty : blocks_of [] ≡ []
unfolding blocks_of
blocks_of-empty = refl

pub blocks_of-next : (xs : List ℕ) → 0 < length xs → blocks_of xs ≡ padded (take 16 xs) ∷ blocks_of (drop 16 xs)
unfolding blocks_of
blocks_of-next xs h = ap (λ n. cut n xs) (block_count-drop xs h)

-- a whole block needs no zeros
pub padded-whole : (xs : List ℕ) → length xs ≡ 16 → padded xs ≡ xs
padded-whole xs h = ap (λ n. xs ++ replicate n 0) (let e : 16 - length xs ≡ 0 = omega arith in e) ∙ append-nil xs

pub length-padded : (xs : List ℕ) → length xs ≤ 16 → length (padded xs) ≡ 16
length-padded xs h = omega (arith, length-append xs (replicate (16 - length xs) 0), length-replicate {A = ℕ} (16 - length xs) 0)

pub get_or-padded_inside : (xs : List ℕ) (k : ℕ) → k < length xs → get_or (padded xs) k 0 ≡ get_or xs k 0
get_or-padded_inside xs k h = get_or_append_left xs (replicate (16 - length xs) 0) 0 k h

get_or-zeros : (n k : ℕ) → ◌≡◌ {A = ℕ} (get_or (replicate n 0) k 0) 0
get_or-zeros zero k = refl
get_or-zeros (suc n) zero = refl
get_or-zeros (suc n) (suc k) = get_or-zeros n k

pub get_or-padded_past : (xs : List ℕ) (k : ℕ) → length xs ≤ k → ◌≡◌ {A = ℕ} (get_or (padded xs) k 0) 0
get_or-padded_past xs k h =
    get_or-append_right xs (replicate (16 - length xs) 0) (length xs) k 0 refl h ∙ get_or-zeros (16 - length xs) (k - length xs)

-- ---- what the code sees of a list and its first block

pub some_left : (xs : List ℕ) (r : Bool) → r ≡ (length xs == 0) → r ≡ false → 0 < length xs
some_left xs r e f = let ne = eqb-false (length xs) 0 (sym e ∙ f) in omega arith

pub none_left : (xs : List ℕ) (r : Bool) → r ≡ (length xs == 0) → r ≡ true → xs ≡ []
none_left xs r e f = nil_from_length xs (eqb-true (length xs) 0 (sym e ∙ f))

pub front_of : (xs front : List ℕ) (n : ℕ) → n ≡ min (length xs) 16 → front ≡ take n xs → front ≡ take 16 xs
front_of xs front n e f =
    let turned : n ≡ min 16 (length xs) = omega arith in
    f ∙ ap (λ k. take k xs) turned ∙ take_min 16 xs

pub rest_of : (xs rest : List ℕ) (n : ℕ) → n ≡ min (length xs) 16 → rest ≡ drop n xs → rest ≡ drop 16 xs
rest_of xs rest n e f =
    let turned : n ≡ min 16 (length xs) = omega arith in
    f ∙ ap (λ k. drop k xs) turned ∙ drop_min 16 xs
