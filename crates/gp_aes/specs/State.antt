-- The state (FIPS 197, section 3.4): four rows and four columns of octets, listed column after column.
use Rattle.std.specs.Prelude.{ℕ, ◌+◌, ◌*◌, List, [], ◌∷◌, slice_index}

-- the octet in row r of column c
abbrev pub at : List ℕ → ℕ → ℕ → ℕ
at s r c = slice_index s (r + 4 * c)

-- column c, from its first row on
abbrev pub column : List ℕ → ℕ → List ℕ
column s c = at s 0 c ∷ at s 1 c ∷ at s 2 c ∷ at s 3 c ∷ []

-- the state that has f r c in row r of column c
abbrev pub state_of : (ℕ → ℕ → ℕ) → List ℕ
state_of f =
    f 0 0 ∷ f 1 0 ∷ f 2 0 ∷ f 3 0 ∷
    f 0 1 ∷ f 1 1 ∷ f 2 1 ∷ f 3 1 ∷
    f 0 2 ∷ f 1 2 ∷ f 2 2 ∷ f 3 2 ∷
    f 0 3 ∷ f 1 3 ∷ f 2 3 ∷ f 3 3 ∷ []
