-- Sizes of attribute values by their type (Zigbee Cluster Library, 2.6.2, table of data types).
use Rattle.std.specs.Prelude.{ℕ, ◌+◌, ◌-◌, ◌==◌, ◌&&◌, nat_le, Bool, List, [], ◌∷◌, Option, Some, None, if◌then◌else◌}
use Rattle.gp_commands.specs.declared.value.ValueSize.{ValueSize}
use Rattle.gp_commands.specs.declared.value.ValueSize.TheVariants.{Rising, Fixed, Counted}

-- ---- the table

-- the types from the first to the last, whose values have one rule for their size
pub record ValueLine : Type 0 where
  pub first : ℕ
  pub last : ℕ
  pub size : ValueSize

abbrev pub line : ℕ → ℕ → ValueSize → ValueLine
line first last size = record { first = first; last = last; size = size }

-- types of values and the sizes of their values. A rising size is 1 at the first type of the line, and one more at
-- each type after it. A counted value is a length octet and so many octets.
unfoldable pub value_types : List ValueLine
value_types =
    -- general data of 8 to 64 bits
    line 0x08 0x0F Rising
    -- boolean
    ∷ line 0x10 0x10 (Fixed 1)
    -- bitmaps of 8 to 64 bits
    ∷ line 0x18 0x1F Rising
    -- unsigned integers of 8 to 64 bits
    ∷ line 0x20 0x27 Rising
    -- signed integers of 8 to 64 bits
    ∷ line 0x28 0x2F Rising
    -- enumerations of 8 and 16 bits
    ∷ line 0x30 0x31 Rising
    -- semi-precision, single precision, double precision
    ∷ line 0x38 0x38 (Fixed 2)
    ∷ line 0x39 0x39 (Fixed 4)
    ∷ line 0x3A 0x3A (Fixed 8)
    -- octet string, character string
    ∷ line 0x41 0x42 Counted
    -- time of day, date, UTC time
    ∷ line 0xE0 0xE2 (Fixed 4)
    -- cluster identifier, attribute identifier
    ∷ line 0xE8 0xE9 (Fixed 2)
    -- IEEE address
    ∷ line 0xF0 0xF0 (Fixed 8)
    ∷ []

-- ---- sizes

-- how many octets follow a length octet: none where it is FF
abbrev pub text_length : ℕ → ℕ
text_length length = if length == 0xFF then 0 else length

-- the size of a value of a type, where a line begins with the type `lowest` and the value with the octet `first`
abbrev pub size_as : ValueSize → ℕ → ℕ → ℕ → ℕ
size_as Rising lowest kind first = kind - lowest + 1
size_as (Fixed octets) lowest kind first = octets
size_as Counted lowest kind first = 1 + text_length first

-- the size by a line of the table
abbrev pub size_by : ValueLine → ℕ → ℕ → ℕ
size_by here kind first = size_as here.size here.first kind first

-- the type stands in the line
abbrev pub has_kind : ValueLine → ℕ → Bool
has_kind here kind = nat_le here.first kind && nat_le kind here.last

-- the size by the first line that has the type
abbrev pub size_in : List ValueLine → ℕ → ℕ → Option ℕ
size_in [] kind first = None
size_in (here ∷ below) kind first =
    if has_kind here kind then Some (size_by here kind first) else size_in below kind first

-- how many octets a value of a type takes whose first octet is this; none for a type that isn't listed
unfoldable pub value_size : ℕ → ℕ → Option ℕ
value_size kind first = size_in value_types kind first
