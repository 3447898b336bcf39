-- The words of a line.
use Rattle.std.specs.Prelude.{ℕ, ◌==◌, Bool, true, false, List, [], ◌∷◌, ◌++◌, Option, Some, None, if◌then◌else◌}

-- an octet more at the front of the first word
abbrev pub longer : ℕ → List (List ℕ) → List (List ℕ)
longer octet [] = []
longer octet (word ∷ others) = (octet ∷ word) ∷ others

-- what stands between the spaces of a line, and so one word more than it has spaces
abbrev pub words : List ℕ → List (List ℕ)
words [] = [] ∷ []
words (octet ∷ octets) = if octet == 32 then [] ∷ words octets else longer octet (words octets)

-- the words with a space before each
abbrev pub spaced : List (List ℕ) → List ℕ
spaced [] = []
spaced (word ∷ others) = 32 ∷ word ++ spaced others

-- the words with a space between each two
abbrev pub line_of : List (List ℕ) → List ℕ
line_of [] = []
line_of (word ∷ others) = word ++ spaced others

-- a text with words added to it, a space before each
abbrev pub added : List ℕ → List (List ℕ) → List ℕ
added text [] = text
added text (word ∷ others) = added (text ++ (32 ∷ word)) others

-- the words of what is left of a line
abbrev pub words_left : {R : Type 0} → (R → List ℕ) → Option R → List (List ℕ)
words_left text None = []
words_left text (Some rest) = words (text rest)

abbrev pub is_done : List (List ℕ) → Bool
is_done [] = true
is_done (word ∷ words) = false
