-- Fields of the messages, spelled out and at their places. Numbers stand least significant octet first.
use Rattle.std.specs.Prelude.{ℕ, ◌+◌, ◌<◌, ◌==◌, Bool, not, List, [], ◌∷◌, ◌++◌, length, take, slice_index, Option, Some, None, IfSome}
use Rattle.std.specs.Int.{w16, w32, w64, from_le_bytes, to_le_bytes}
use Rattle.gp_base.specs.Field.{octet, octet_at, two_at, eight_at, part, counted, size_if, value_if}

-- a number in three octets, and the number in the three octets from a place on
abbrev pub three_octets : ℕ → List ℕ
three_octets number = take 3 (to_le_bytes w32 number)

abbrev pub three_at : List ℕ → ℕ → ℕ
three_at octets at = from_le_bytes w32 (slice_index octets at ∷ slice_index octets (at + 1) ∷ slice_index octets (at + 2) ∷ 0 ∷ [])

-- An octet string: its length and so many octets, fewer than 255; or FF, which says that it is unspecified
-- (Zigbee Cluster Library, 2.6.2, octet string).
abbrev pub octet_string : Option (List ℕ) → List ℕ
octet_string None = 0xFF ∷ []
octet_string (Some octets) = counted octets

abbrev pub IsString : Option (List ℕ) → Type 0
IsString string = IfSome string (λ octets. length octets < 0xFF)

-- whether the string at a place is specified, how many octets it takes, and what it is
abbrev pub is_specified : List ℕ → ℕ → Bool
is_specified octets at = not (octet_at octets at == 0xFF)

abbrev pub string_size : List ℕ → ℕ → ℕ
string_size octets at = 1 + size_if (is_specified octets at) (octet_at octets at)

abbrev pub string_at : List ℕ → ℕ → Option (List ℕ)
string_at octets at = value_if (is_specified octets at) (part octets (at + 1) (octet_at octets at))

-- proxy info: the proxy's address in two octets, and the link in one
abbrev pub proxy_octets : ℕ × ℕ → List ℕ
proxy_octets proxy = to_le_bytes w16 proxy.0 ++ octet proxy.1

abbrev pub proxy_at : List ℕ → ℕ → ℕ × ℕ
proxy_at octets at = (two_at octets at, octet_at octets (at + 2))

-- a sink: its IEEE address in eight octets, and its network address in two
abbrev pub sink_octets : ℕ × ℕ → List ℕ
sink_octets sink = to_le_bytes w64 sink.0 ++ to_le_bytes w16 sink.1

abbrev pub sink_at : List ℕ → ℕ → ℕ × ℕ
sink_at octets at = (eight_at octets at, two_at octets (at + 8))
