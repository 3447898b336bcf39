-- Fields of a format, spelled out and at their places. Numbers stand least significant octet first.
use Rattle.std.specs.Prelude.{◌≡◌, ℕ, ◌+◌, ◌<◌, ◌/◌, ◌%◌, ◌==◌, Bool, true, false, not, List, [], ◌∷◌, ◌++◌, length, Option, Some, None, take, drop, slice_index, if◌then◌else◌, Result, MatchResult}
use Rattle.std.specs.Int.{w16, w32, w64, from_le_bytes, to_le_bytes}
use Rattle.gp_base.specs.declared.identity.Key.{Key}
use Rattle.gp_base.specs.declared.identity.Src.{Src}

-- a list of numbers that are octets
abbrev pub IsOctets : List ℕ → Type 0
IsOctets octets = (i : ℕ) → slice_index octets i < 256

-- so many octets from a place on
abbrev pub part : List ℕ → ℕ → ℕ → List ℕ
part octets at count = take count (drop at octets)

-- the octet at a place; a missing one counts as 0
abbrev pub octet_at : List ℕ → ℕ → ℕ
octet_at octets at = slice_index octets at

-- the number in two octets from a place on, in four and in eight, least significant octet first
abbrev pub two_at : List ℕ → ℕ → ℕ
two_at octets at = from_le_bytes w16 (slice_index octets at ∷ slice_index octets (at + 1) ∷ [])

abbrev pub four_at : List ℕ → ℕ → ℕ
four_at octets at = from_le_bytes w32 (slice_index octets at ∷ slice_index octets (at + 1) ∷ slice_index octets (at + 2) ∷ slice_index octets (at + 3) ∷ [])

abbrev pub eight_at : List ℕ → ℕ → ℕ
eight_at octets at = from_le_bytes w64 (slice_index octets at ∷ slice_index octets (at + 1) ∷ slice_index octets (at + 2) ∷ slice_index octets (at + 3) ∷ slice_index octets (at + 4) ∷ slice_index octets (at + 5) ∷ slice_index octets (at + 6) ∷ slice_index octets (at + 7) ∷ [])

-- a flag as a bit
abbrev pub flag : Bool → ℕ
flag false = 0
flag true = 1

-- two answers are the same
abbrev pub agree : Bool → Bool → Bool
agree true answer = answer
agree false answer = not answer

-- whether the bit of this weight, 1, 2, 4, .., is set
abbrev pub has_bit : ℕ → ℕ → Bool
has_bit number weight = number / weight % 2 == 1

-- a field where it is there, and nothing where it is absent
abbrev pub optional : {A : Type 0} → (A → List ℕ) → Option A → List ℕ
optional spell None = []
optional spell (Some field) = spell field

-- one octet
abbrev pub octet : ℕ → List ℕ
octet value = value ∷ []

-- the octets of a SrcID, and the SrcID at a place
abbrev pub src_octets : Src → List ℕ
src_octets src = to_le_bytes w32 src.0

abbrev pub src_at : List ℕ → ℕ → Src
src_at octets at = record { 0 = four_at octets at }

-- the octets of a key, and the key at a place
abbrev pub key_octets : Key → List ℕ
key_octets key = key.0

abbrev pub key_at : List ℕ → ℕ → Key
key_at octets at = record { 0 = part octets at 16 }

-- a list whose length stands before it, and that list at a place
abbrev pub counted : List ℕ → List ℕ
counted octets = length octets ∷ octets

abbrev pub counted_at : List ℕ → ℕ → List ℕ
counted_at octets at = part octets (at + 1) (octet_at octets at)

-- parts one after another
abbrev pub joined : List (List ℕ) → List ℕ
joined [] = []
joined (first ∷ []) = first
joined (first ∷ next ∷ parts) = first ++ joined (next ∷ parts)

-- how many octets a field takes that is there or not, and what it is
abbrev pub size_if : Bool → ℕ → ℕ
size_if there size = if there then size else 0

abbrev pub value_if : {A : Type 0} → Bool → A → Option A
value_if there value = if there then Some value else None

-- a part was added at the end; or there was no room for it in a list of at most 127 octets
abbrev pub Adds : {E : Type 0} → List ℕ → List ℕ → List ℕ → Result (Unit {0}) E → Type 0
Adds added old new told = MatchResult told (λ _. new ≡ old ++ added) (λ _. 127 < length old + length added)
