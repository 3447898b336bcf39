-- Places of pairs in a list.
use Rattle.std.proofs.Common.{◌≡◌, ◌⊎◌, inl, inr, ℕ, zero, suc, Bool, true, false, ◌==◌, ◌&&◌, cond, List, [], ◌∷◌, Some, length, refl, sym, ◌∙◌, ap, subst, slice_get}
use Rattle.std.specs.Str.{bytes_eq}
use Rattle.std.proofs.lemmas.Bool.{and_parts, eqb-true, eq-eqb}
use Rattle.std.proofs.lemmas.Bool.Decides.{eqb_tells}
use Rattle.std.proofs.lemmas.Slice.Eq.{bytes_eq-Decides}
use Rattle.gp_ideal.specs.Ledger.{Pairing, is_same, place, with_pairing}

pub cond_true : {A : Type 0} (b : Bool) (x y : A) → b ≡ true → cond b x y ≡ x
cond_true true x y e = refl
cond_true false x y e = absurd cc

pub cond_false : {A : Type 0} (b : Bool) (x y : A) → b ≡ false → cond b x y ≡ y
cond_false false x y e = refl
cond_false true x y e = absurd cc

pub if_eq : {A : Type 0} (a b : ℕ) (x y : A) → a ≡ b → cond (a == b) x y ≡ x
if_eq a b x y e = cond_true (a == b) x y (eq-eqb a b e)

pub if_other : {A : Type 0} (a b : ℕ) (x y : A) → (a ≡ b → ⊥) → cond (a == b) x y ≡ y
if_other a b x y n = elim (eqb_tells a b) [ inl p ↦ absurd (n p.1) | inr q ↦ cond_false (a == b) x y q.0 ]

pub bool_cases : (b : Bool) → (b ≡ true) ⊎ (b ≡ false)
bool_cases true = inl refl
bool_cases false = inr refl

pub same_is : (p q : Pairing) → is_same p q ≡ true → p ≡ q
same_is p q e =
    let parts = and_parts (p.0 == q.0) (bytes_eq p.1 q.1) e in
    let sources : p.0 ≡ q.0 = eqb-true p.0 q.0 parts.0 in
    let keys : p.1 ≡ q.1 = (bytes_eq-Decides p.1 q.1).0 parts.1 in
    ap (λ (s : ℕ). (s, p.1)) sources ∙ ap (λ (k : List ℕ). (q.0, k)) keys

pub is_same_as : (p q : Pairing) → p ≡ q → is_same p q ≡ true
is_same_as p q e = subst (λ (x : Pairing). is_same p x ≡ true) e (both (p.0 == p.0) (bytes_eq p.1 p.1) (eq-eqb p.0 p.0 refl) ((bytes_eq-Decides p.1 p.1).1 refl))
  where
    both : (a b : Bool) → a ≡ true → b ≡ true → (a && b) ≡ true
    both a b p q = cc

pub slice_get-with_pairing : (p : Pairing) (ps : List Pairing) → slice_get (with_pairing p ps) (place p ps) ≡ Some p
slice_get-with_pairing p [] = refl
slice_get-with_pairing p (q ∷ ps) = elim (bool_cases (is_same p q)) [
  | inl e ↦ rw (cond_true (is_same p q) (q ∷ ps) (q ∷ with_pairing p ps) e, cond_true (is_same p q) 0 (suc (place p ps)) e) (ap (λ (x : Pairing). Some x) (sym (same_is p q e)))
  | inr e ↦ rw (cond_false (is_same p q) (q ∷ ps) (q ∷ with_pairing p ps) e, cond_false (is_same p q) 0 (suc (place p ps)) e) (slice_get-with_pairing p ps)
]

pub slice_get-with_pairing_other : (p : Pairing) (ps : List Pairing) (k : ℕ) → (place p ps ≡ k → ⊥) → slice_get (with_pairing p ps) k ≡ slice_get ps k
slice_get-with_pairing_other p [] zero n = absurd (n refl)
slice_get-with_pairing_other p [] (suc k) n = refl
slice_get-with_pairing_other p (q ∷ ps) k n = elim (bool_cases (is_same p q)) [
  | inl e ↦ rw (cond_true (is_same p q) (q ∷ ps) (q ∷ with_pairing p ps) e) refl
  | inr e ↦ rw (cond_false (is_same p q) (q ∷ ps) (q ∷ with_pairing p ps) e) (behind k (λ is. n (cond_false (is_same p q) 0 (suc (place p ps)) e ∙ is)) (λ j. slice_get-with_pairing_other p ps j))
]
  where
    behind : (k : ℕ) → (suc (place p ps) ≡ k → ⊥) → ((j : ℕ) → (place p ps ≡ j → ⊥) → slice_get (with_pairing p ps) j ≡ slice_get ps j) → slice_get (q ∷ with_pairing p ps) k ≡ slice_get (q ∷ ps) k
    behind zero n rest = refl
    behind (suc k) n rest = rest k (λ e. n (ap suc e))

-- the place of a pair is that of this pair
pub place_is : (p q : Pairing) (ps : List Pairing) → slice_get ps (place p ps) ≡ Some q → p ≡ q
place_is p q [] h = absurd cc
place_is p q (x ∷ ps) h = elim (bool_cases (is_same p x)) [
  | inl e ↦ let there : Some x ≡ Some q = subst (λ (n : ℕ). slice_get (x ∷ ps) n ≡ Some q) (cond_true (is_same p x) 0 (suc (place p ps)) e) h in
      same_is p x e ∙ (let is : x ≡ q = cc in is)
  | inr e ↦ place_is p q ps (subst (λ (n : ℕ). slice_get (x ∷ ps) n ≡ Some q) (cond_false (is_same p x) 0 (suc (place p ps)) e) h)
]

-- a pair that is there is at its place
pub place_there : (p : Pairing) (ps : List Pairing) (at : ℕ) → slice_get ps at ≡ Some p → slice_get ps (place p ps) ≡ Some p
place_there p [] at h = absurd cc
place_there p (x ∷ ps) at h = elim (bool_cases (is_same p x)) [
  | inl e ↦ rw (cond_true (is_same p x) 0 (suc (place p ps)) e) (ap (λ (y : Pairing). Some y) (sym (same_is p x e)))
  | inr e ↦ rw (cond_false (is_same p x) 0 (suc (place p ps)) e) (place_there p ps _ (behind at h e).1)
]
  where
    behind : (at : ℕ) → slice_get (x ∷ ps) at ≡ Some p → is_same p x ≡ false → (k : ℕ) × (slice_get ps k ≡ Some p)
    behind zero h e = let is : x ≡ p = cc in absurd (differ (is_same p x) (is_same_as p x (sym is)) e)
      where
        differ : (b : Bool) → b ≡ true → b ≡ false → ⊥
        differ b t f = cc
    behind (suc k) h e = (k, h)

-- a pair that isn't there is placed behind all
pub place_behind : (p : Pairing) (ps : List Pairing) → ((k : ℕ) → slice_get ps k ≡ Some p → ⊥) → place p ps ≡ length ps
place_behind p [] n = refl
place_behind p (x ∷ ps) n = elim (bool_cases (is_same p x)) [
  | inl e ↦ absurd (n 0 (ap (λ (y : Pairing). Some y) (sym (same_is p x e))))
  | inr e ↦ rw (cond_false (is_same p x) 0 (suc (place p ps)) e) (ap suc (place_behind p ps (λ k. n (suc k))))
]
