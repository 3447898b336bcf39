-- Lines that were listed one after the other.
use Rattle.std.proofs.Common.{◌≡◌, ℕ, ◌+◌, List, [], ◌∷◌, ◌++◌, Option, Some, None, refl, sym, ap, subst, ◌∙◌}
use Rattle.std.specs.Option.{IsSomeAnd}
use Rattle.gp_lines.specs.declared.work.Halt.{Halt}
use Rattle.gp_lines.specs.Work as work
use Rattle.gp_app.specs.declared.decoding.Decoding.{Decoding}
use Rattle.gp_listing.specs.Form.{listing_of}
use Rattle.gp_app.specs.Decoding.{Goes, Stops, HasNoForm, listed, listed_before, IsListed, IsUnlisted}

abbrev pub steps : Decoding → ℕ → List ℕ → List ℕ → Decoding → Type 0
steps old number line text new = Goes old line text new

abbrev pub halting : Decoding → ℕ → List ℕ → Halt → Decoding → Type 0
halting old number line halt new = Stops old line halt new

some_and : {A : Type 0} (found : Option A) (P : A → Type 0) → IsSomeAnd found P → (x : A) × (found ≡ Some x) × P x
some_and None P h = absurd h
some_and (Some x) P h = (x, refl, h)

listed_cons : (one : Option (List ℕ)) (others : Option (List ℕ)) (found first more text : List ℕ) → one ≡ Some found → others ≡ Some more → first ≡ found ++ 10 ∷ [] → text ≡ first ++ more → listed_before one others ≡ Some text
listed_cons one others found first more text p q e is = rw (p, q, is, e) refl

-- the lines are listed, and the listing is as before
pub chain_lists : (old : Decoding) (n : ℕ) (lines : List (List ℕ)) (text : List ℕ) (new : Decoding) → work.Chain steps old n lines text new → (listed (listing_of old.form) lines ≡ Some text) × (new ≡ old)
chain_lists old n [] text new h = (ap (λ (xs : List ℕ). Some xs) (sym h.0), h.1)
chain_lists old n (line ∷ lines) text new h =
    let one = some_and (listing_of old.form line) (λ found. h.1 ≡ found ++ 10 ∷ []) h.3.1 in
    let more = chain_lists h.0 (n + 1) lines h.2 new h.4 in
    let same : listed (listing_of old.form) lines ≡ Some h.2 = subst (λ (l : Decoding). listed (listing_of l.form) lines ≡ Some h.2) h.3.0 more.0 in
    (listed_cons (listing_of old.form line) (listed (listing_of old.form) lines) one.0 h.1 h.2 text one.1 same one.2 h.5, more.1 ∙ h.3.0)

pub chain_is : (old : Decoding) (lines : List (List ℕ)) (text : List ℕ) (new : Decoding) → work.Chain steps old 1 lines text new → IsListed (listing_of old.form) lines text new
chain_is old lines text new h = (chain_lists old 1 lines text new h).0

pub halts_is : (old : Decoding) (lines : List (List ℕ)) (text line : List ℕ) (halt : Halt) (new : Decoding) → work.Halts steps halting old lines text line halt new → IsUnlisted (listing_of old.form) lines text line halt new
halts_is old lines text line halt new h =
    let ran = chain_lists old 1 lines text h.0 h.1 in
    (ran.0, subst (λ (l : Decoding). HasNoForm (listing_of l.form) line halt) ran.1 h.2.1)
