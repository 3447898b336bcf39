-- Splitting at spaces and joining.
use Rattle.std.proofs.Common.{◌≡◌, ℕ, zero, suc, ◌+◌, ◌-◌, ◌<◌, ◌≤◌, ◌==◌, Bool, true, false, not, ◌&&◌, List, [], ◌∷◌, ◌++◌, length, get_or, take, drop, Option, Some, None, inl, inr, refl, sym, ap, subst, ◌∙◌, add-one, arith, take_all, drop-drop, length-drop}
use Rattle.std.proofs.lemmas.Bool.{eqb-true, cases_Bool, not-true, not-false, and_parts, and_from}
use Rattle.std.proofs.lemmas.List.{take-append-drop, append-nil}
use Rattle.std.proofs.Math.Seq.{drop-cons}
use Rattle.gp_script.specs.Words.{longer, words, spaced, line_of, is_done, words_left}
use Rattle.std.specs.Option.{is_some}

-- no octet is a space
abbrev pub IsPlain : List ℕ → Type 0
IsPlain [] = Unit {0}
IsPlain (octet ∷ octets) = ((octet == 32) ≡ false) × IsPlain octets

-- the same as a test, which computes at a literal
abbrev pub is_plain : List ℕ → Bool
is_plain [] = true
is_plain (octet ∷ octets) = not (octet == 32) && is_plain octets

abbrev pub are_plain : List (List ℕ) → Bool
are_plain [] = true
are_plain (word ∷ words) = is_plain word && are_plain words

pub IsPlain-test : (xs : List ℕ) → is_plain xs ≡ true → IsPlain xs
IsPlain-test [] h = tt
IsPlain-test (x ∷ xs) h = let parts = and_parts _ _ h in (not-true _ parts.0, IsPlain-test xs parts.1)

pub is_plain-append : (xs ys : List ℕ) → is_plain xs ≡ true → is_plain ys ≡ true → is_plain (xs ++ ys) ≡ true
is_plain-append [] ys h k = k
is_plain-append (x ∷ xs) ys h k = let parts = and_parts _ _ h in and_from _ _ parts.0 (is_plain-append xs ys parts.1 k)

pub words-plain : (xs : List ℕ) → IsPlain xs → words xs ≡ xs ∷ []
words-plain [] h = refl
words-plain (x ∷ xs) h = rw (h.0, words-plain xs h.1) refl

pub words-split : (xs ys : List ℕ) → IsPlain xs → words (xs ++ 32 ∷ ys) ≡ xs ∷ words ys
words-split [] ys h = refl
words-split (x ∷ xs) ys h = rw (h.0, words-split xs ys h.1) refl

-- the words of a line are those that it was made of
abbrev pub ArePlain : List (List ℕ) → Type 0
ArePlain [] = Unit {0}
ArePlain (word ∷ words) = IsPlain word × ArePlain words

pub ArePlain-test : (ws : List (List ℕ)) → are_plain ws ≡ true → ArePlain ws
ArePlain-test [] h = tt
ArePlain-test (w ∷ ws) h = let parts = and_parts _ _ h in (IsPlain-test w parts.0, ArePlain-test ws parts.1)

pub words-line_of : (w : List ℕ) (ws : List (List ℕ)) → IsPlain w → ArePlain ws → words (line_of (w ∷ ws)) ≡ w ∷ ws
words-line_of w [] h hs = ap words (append-nil w) ∙ words-plain w h
words-line_of w (v ∷ ws) h hs = words-split w (v ++ spaced ws) h ∙ ap (λ (l : List (List ℕ)). w ∷ l) (words-line_of v ws hs.0 hs.1)

-- and a line is made of its words
longer-line_of : (x : ℕ) (ws : List (List ℕ)) (xs : List ℕ) → 0 < length ws → line_of ws ≡ xs → line_of (longer x ws) ≡ x ∷ xs
longer-line_of x [] xs lt h = absurd (omega arith)
longer-line_of x (w ∷ ws) xs lt h = ap (λ (l : List ℕ). x ∷ l) h

longer-length : (x : ℕ) (ws : List (List ℕ)) → length (longer x ws) ≡ length ws
longer-length x [] = refl
longer-length x (w ∷ ws) = refl

words-some : (xs : List ℕ) → 0 < length (words xs)
words-some [] = omega arith
words-some (x ∷ xs) = elim (cases_Bool (x == 32)) [
  | inl e ↦ rw e (omega arith)
  | inr e ↦ rw (e, longer-length) (words-some xs)
]

spaced-words : (ws : List (List ℕ)) (xs : List ℕ) → 0 < length ws → line_of ws ≡ xs → line_of ([] ∷ ws) ≡ 32 ∷ xs
spaced-words [] xs lt h = absurd (omega arith)
spaced-words (w ∷ ws) xs lt h = ap (λ (l : List ℕ). 32 ∷ l) h

pub line_of-words : (xs : List ℕ) → line_of (words xs) ≡ xs
line_of-words [] = refl
line_of-words (x ∷ xs) = elim (cases_Bool (x == 32)) [
  | inl e ↦ rw e (spaced-words (words xs) xs (words-some xs) (line_of-words xs) ∙ ap (λ (k : ℕ). k ∷ xs) (sym (eqb-true x 32 e)))
  | inr e ↦ rw e (longer-line_of x (words xs) xs (words-some xs) (line_of-words xs))
]

-- what stands before the first space is the first word
plain-below : (xs : List ℕ) (n : ℕ) → n ≤ length xs → ((k : ℕ) → k < n → (get_or xs k 0 == 32) ≡ false) → IsPlain (take n xs)
plain-below xs zero le h = tt
plain-below [] (suc n) le h = tt
plain-below (x ∷ xs) (suc n) le h = (h 0 (omega arith), plain-below xs n (omega arith) (λ k lt. h (suc k) (omega arith)))

pub words-at : (xs : List ℕ) (n : ℕ) → n < length xs → ((k : ℕ) → k < n → (get_or xs k 0 == 32) ≡ false) → (get_or xs n 0 == 32) ≡ true
    → words xs ≡ take n xs ∷ words (drop (n + 1) xs)
words-at xs n lt before here =
    let whole : xs ≡ take n xs ++ 32 ∷ drop (n + 1) xs =
    sym (take-append-drop n xs) ∙ ap (λ (l : List ℕ). take n xs ++ l) (drop-cons xs n 0 lt ∙ ap (λ (k : ℕ). k ∷ drop (suc n) xs) (eqb-true _ 32 here)) ∙ rw add-one refl in
    ap words whole ∙ words-split (take n xs) (drop (n + 1) xs) (plain-below xs n (omega arith) before)

pub words-none : (xs : List ℕ) → ((k : ℕ) → k < length xs → (get_or xs k 0 == 32) ≡ false) → words xs ≡ xs ∷ []
words-none xs h = words-plain xs (subst IsPlain (take_all (length xs) xs (omega arith)) (plain-below xs (length xs) (omega arith) h))

not_true : (b : Bool) → (b ≡ true → ⊥) → b ≡ false
not_true true h = absurd (h refl)
not_true false h = refl

some_left : (ws : List (List ℕ)) → 0 < length ws → false ≡ is_done ws
some_left [] lt = absurd (omega arith)
some_left (w ∷ ws) lt = refl

-- the same as a walk takes the words
pub first_taken : (xs front back : List ℕ) (n : ℕ) → n < length xs → ((k : ℕ) → 0 ≤ k → k < n → (get_or xs k 0 == 32) ≡ true → ⊥) → (get_or xs n 0 == 32) ≡ true
    → front ≡ take n xs → back ≡ drop n xs → words xs ≡ front ∷ words (take (length back - 1) (drop 1 back))
first_taken xs front back n lt before here e f =
    let rest : take (length back - 1) (drop 1 back) ≡ drop (n + 1) xs =
    take_all _ (drop 1 back) (omega (arith, length-drop 1 back)) ∙ ap (λ (l : List ℕ). drop 1 l) f ∙ drop-drop 1 n xs ∙ ap (λ (k : ℕ). drop k xs) (omega arith) in
    words-at xs n lt (λ k lk. not_true _ (before k (omega arith) lk)) here ∙ rw (← e, ← rest) refl

pub last_taken : (xs : List ℕ) → ((k : ℕ) → 0 ≤ k → k < length xs → (get_or xs k 0 == 32) ≡ true → ⊥) → words xs ≡ xs ∷ []
last_taken xs h = words-none xs (λ k lt. not_true _ (h k (omega arith) lt))

pub done_from : {R : Type 0} (text : R → List ℕ) (rest : Option R) (b : Bool) → is_some rest ≡ not b → b ≡ is_done (words_left text rest)
done_from {R} text None b h = not-false b (sym h)
done_from {R} text (Some r) b h = not-true b (sym h) ∙ some_left (words (text r)) (words-some (text r))
