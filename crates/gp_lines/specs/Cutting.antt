-- Octets that are cut into lines, a piece after the other. No clause of a public call cites this file: nothing in it has to be
-- believed.
use Rattle.std.specs.Prelude.{◌≡◌, ℕ, ◌+◌, ◌-◌, ◌*◌, ◌⊎◌, List, [], ◌∷◌, ◌++◌, length}
use Rattle.std.specs.Str.Lines.{lines, strip_carriage_return}
use Rattle.gp_lines.specs.Lines.{HasNoEnd, IsBeyond}

-- the octets are whole lines: none, or the last of them is LF
abbrev pub AreWhole : List ℕ → Type 0
AreWhole octets = (octets ≡ []) ⊎ ((front : List ℕ) × (octets ≡ front ++ 10 ∷ []))

-- From a line that has begun, the octets end these lines and begin another, whatever comes after them.
pub record Cuts (begun_before octets : List ℕ) (ended : List (List ℕ)) (begun_after : List ℕ) : Type 0 where
  pub whole : List ℕ
  pub parts : begun_before ++ octets ≡ whole ++ begun_after
  pub going : (rest : List ℕ) → lines (whole ++ rest) ≡ ended ++ lines rest
  pub are_whole : AreWhole whole
  pub begun : HasNoEnd begun_after

-- how much more may come under the limits of lines and width
abbrev pub room : ℕ → List ℕ → ℕ
room count begun = 1027 * (1000000 - count) + (1026 - length begun)

-- behind a line that has begun the first LF of the octets ends this line
abbrev pub MakesLine : List ℕ → List ℕ → List ℕ → Type 0
MakesLine begun octets line =
    (front : List ℕ) × (more : List ℕ) × (octets ≡ front ++ 10 ∷ more) × HasNoEnd (begun ++ front) × (line ≡ strip_carriage_return (begun ++ front))

-- they make the next line one beyond the limits, whatever comes after them
abbrev pub GoesBeyond : ℕ → List ℕ → List ℕ → Type 0
GoesBeyond count begun octets =
    (rest : List ℕ) → (line : List ℕ) × (others : List (List ℕ)) × (lines (begun ++ (octets ++ rest)) ≡ line ∷ others) × IsBeyond count line
