-- A walk over octets.
use Rattle.std.specs.Prelude.{◌≡◌, ℕ, ◌+◌, ◌<◌, ◌≤◌, List, length, Result, MatchResult}

-- all the octets, and how many of them have been taken
pub record Walk : Type 0 where
  pub octets : List ℕ
  pub place : ℕ

-- so many octets were taken
pub record Took (size : ℕ) (old new : Walk) : Type 0 where
  pub octets : new.octets ≡ old.octets
  pub place : new.place ≡ old.place + size
  pub within : old.place + size ≤ length old.octets

-- The field of so many octets was taken; or an octet of it is missing.
abbrev pub Takes : {A E : Type 0} → ℕ → A → Walk → Walk → Result A E → Type 0
Takes size field old new taken =
    MatchResult taken (λ value. (value ≡ field) × Took size old new) (λ _. length old.octets < old.place + size)

-- What stands up to this place was taken; or an octet of it is missing.
abbrev pub TakesTo : {A E : Type 0} → ℕ → A → Walk → Walk → Result A E → Type 0
TakesTo end field old new taken =
    MatchResult taken
    (λ value. (value ≡ field) × (new.octets ≡ old.octets) × (new.place ≡ end) × (end ≤ length old.octets))
    (λ _. length old.octets < end)

-- the walk stands in the octets, or at their end
abbrev pub IsWithin : Walk → Type 0
IsWithin walk = walk.place ≤ length walk.octets
