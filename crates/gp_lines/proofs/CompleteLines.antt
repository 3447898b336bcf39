-- The lines that stand complete in octets.
use Rattle.std.proofs.Common.{◌≡◌, ℕ, suc, inl, inr, true, false, ◌||◌, List, [], ◌∷◌, ◌++◌, refl, sym, ap, ◌∙◌, append_assoc, arith}
use Rattle.std.specs.List.{list_any}
use Rattle.gp_lines.specs.Lines.{complete, HasNoEnd}
use Rattle.gp_lines.specs.Cutting.{AreWhole}
use Rattle.gp_lines.proofs.LineLemmas.{is_end}

any_end : (front back : List ℕ) → list_any is_end (front ++ 10 ∷ back) ≡ true
any_end [] back = refl
any_end (octet ∷ front) back = elim (is_end octet) as (λ b. (b || list_any is_end (front ++ 10 ∷ back)) ≡ true) [ true ↦ refl | false ↦ any_end front back ]

no_end : (octets : List ℕ) → HasNoEnd octets → list_any is_end octets ≡ false
no_end [] none = refl
no_end (octet ∷ octets) none = rw (none 0 0 (omega arith)) (no_end octets (λ k d h. none (suc k) d (omega arith)))

-- none, and those of octets that end with LF
pub complete-none : (octets : List ℕ) → HasNoEnd octets → complete octets ≡ []
complete-none [] none = refl
complete-none (octet ∷ octets) none = rw (no_end (octet ∷ octets) none) refl

pub complete-line : (front back : List ℕ) → complete (front ++ 10 ∷ back) ≡ front ++ 10 ∷ complete back
complete-line [] back = refl
complete-line (octet ∷ front) back = rw (any_end (octet ∷ front) back) (ap (λ (xs : List ℕ). octet ∷ xs) (complete-line front back))

pub complete-append : (whole rest : List ℕ) → AreWhole whole → complete (whole ++ rest) ≡ whole ++ complete rest
complete-append whole rest (inl none) = rw none refl
complete-append whole rest (inr some) =
    ap (λ (xs : List ℕ). complete (xs ++ rest)) some.1 ∙ ap complete (append_assoc some.0 (10 ∷ []) rest) ∙ complete-line some.0 rest
    ∙ sym (ap (λ (xs : List ℕ). xs ++ complete rest) some.1 ∙ append_assoc some.0 (10 ∷ []) (complete rest))
