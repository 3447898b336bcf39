-- A work that takes lines one by one. What a line does is a relation between what stands before it and what stands after it.
use Rattle.std.specs.Prelude.{◌≡◌, ℕ, ◌+◌, List, [], ◌∷◌, ◌++◌, length}
use Rattle.gp_lines.specs.declared.work.Halt.{Halt}
use Rattle.gp_lines.specs.declared.work.Halt.TheVariants.{NoMemory}

-- the text grew, and what was added is as asked
abbrev pub Grows : List ℕ → List ℕ → (List ℕ → Type 0) → Type 0
Grows old new Asked = (text : List ℕ) × (new ≡ old ++ text) × Asked text

-- a fact, but where memory wasn't found
abbrev pub UnlessNoMemory : Halt → Type 0 → Type 0
UnlessNoMemory NoMemory fact = Unit {0}
UnlessNoMemory halt fact = fact

-- One line after the other, the first of them with this number: the texts together, and what stands at the end.
abbrev pub Chain : {S : Type 0} → (S → ℕ → List ℕ → List ℕ → S → Type 0) → S → ℕ → List (List ℕ) → List ℕ → S → Type 0
Chain {S} goes old number [] text new = (text ≡ []) × (new ≡ old)
Chain {S} goes old number (line ∷ others) text new =
    (mid : S) × (first : List ℕ) × (more : List ℕ) × goes old number line first mid × Chain goes mid (number + 1) others more new × (text ≡ first ++ more)

-- Behind these lines, which give this text, this line stops the work for this cause.
abbrev pub Halts : {S : Type 0} → (S → ℕ → List ℕ → List ℕ → S → Type 0) → (S → ℕ → List ℕ → Halt → S → Type 0) → S → List (List ℕ) → List ℕ → List ℕ → Halt → S → Type 0
Halts {S} goes stops old taken text line halt new = (mid : S) × Chain goes old 1 taken text mid × stops mid (length taken + 1) line halt new
