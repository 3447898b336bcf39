-- The lines of an input, and the limits on them. Lines end with LF, before which a CR is dropped; a last line without LF counts
-- where it isn't empty: they are std's `lines`.
use Rattle.std.specs.Prelude.{◌≡◌, ℕ, ◌<◌, ◌≤◌, ◌⊎◌, ◌==◌, false, if◌then◌else◌, List, [], ◌∷◌, length, All}
use Rattle.std.specs.List.{list_any}
use Rattle.std.specs.Str.Lines.{strip_carriage_return}

-- the greatest number of lines, and of octets in a line
abbrev pub line_limit : ℕ
line_limit = 1000000

abbrev pub width_limit : ℕ
width_limit = 1024

-- no LF is among the octets
abbrev pub HasNoEnd : List ℕ → Type 0
HasNoEnd octets = All (λ octet. (octet == 10) ≡ false) octets

-- the octets up to the last LF, whose lines stand complete
abbrev pub complete : List ℕ → List ℕ
complete [] = []
complete (octet ∷ octets) = if list_any (λ other. other == 10) (octet ∷ octets) then octet ∷ complete octets else []

-- behind so many lines a line is none too many and not too wide
abbrev pub IsWithin : ℕ → List ℕ → Type 0
IsWithin count line = (count < line_limit) × (length line ≤ width_limit)

-- or it is one too many, or too wide
abbrev pub IsBeyond : ℕ → List ℕ → Type 0
IsBeyond count line = (line_limit ≤ count) ⊎ (width_limit < length line)

-- no line is too wide
abbrev pub AreNarrow : List (List ℕ) → Type 0
AreNarrow lines = All (λ line. length line ≤ width_limit) lines

-- the lines are none too many, and none is too wide
abbrev pub AreWithin : List (List ℕ) → Type 0
AreWithin lines = (length lines ≤ line_limit) × AreNarrow lines

-- behind so many lines no line has begun, or one that is none too many and isn't too wide yet
abbrev pub MayGoOn : ℕ → List ℕ → Type 0
MayGoOn count begun = (begun ≡ []) ⊎ IsWithin count (strip_carriage_return begun)
