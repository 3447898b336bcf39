-- A disk that tells nothing of what it holds.
use Rattle.std.specs.Prelude.{◌≡◌, ℕ, List, Option, Some, None, MatchOption}
use mathlib.Core.Path.{subst}

abbrev pub no_image : Option (List ℕ)
no_image = None

abbrev pub no_images : List ℕ → Type 0
no_images c = ⊥

pub none_told : (c : List ℕ) → no_image ≡ Some c → ⊥
none_told c is = subst (λ (image : Option (List ℕ)). MatchOption image (Unit {0}) (λ _. ⊥)) is tt
