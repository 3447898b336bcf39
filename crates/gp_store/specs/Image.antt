-- The image of a store, and the rows that it holds.
use Rattle.std.specs.Prelude.{◌≡◌, ◌≤◌, ℕ, ◌+◌, ◌*◌, Bool, nat_lt, ◌==◌, ◌&&◌, if◌then◌else◌, List, [], ◌∷◌, ◌++◌, codes, length, slice_index, slice_get, Option, Some, None}
use Rattle.gp_disk.specs.Disk.{part}
use Rattle.gp_rows.specs.declared.row.Row.{Row}
use Rattle.gp_rows.specs.Rows.{CAPACITY}
use Rattle.gp_store.specs.Slot.{Shows}
use Rattle.gp_store.specs.Slots.{Slots, slot_number, newest, IsConsistent, IsLast}

-- a gate is one octet, open where it is A5 and closed with any other value
abbrev pub OPEN : ℕ
OPEN = 0xA5

-- size: the octets of an image
-- first: the place of slot 0; behind: the octets of a slot behind its gate; rows: how many rows have slots
pub record Layout : Type 0 where
  pub size : ℕ
  pub first : ℕ
  pub behind : ℕ
  pub rows : ℕ

-- the octets of an image of format 1
abbrev pub IMAGE_SIZE : ℕ
IMAGE_SIZE = 204800

-- format 1: 204,800 octets; slot s is 64 octets from 4,096 + 64 s on, for s from 0 to 2,047
abbrev pub format_1 : Layout
format_1 = record { size = IMAGE_SIZE; first = 4096; behind = 63; rows = CAPACITY }

-- the place of the gate of a slot
abbrev pub gate_at : Layout → ℕ → Bool → ℕ
gate_at layout row side = layout.first + (layout.behind + 1) * slot_number row side

-- the place behind the last slot: 135,168 in format 1
abbrev pub slots_end : Layout → ℕ
slots_end layout = layout.first + (layout.behind + 1) * (2 * layout.rows)

-- the slots of an image
unfoldable pub slots : Layout → List ℕ → Slots
slots layout image row side =
    if nat_lt row layout.rows && slice_index image (gate_at layout row side) == OPEN
    then Some (part (gate_at layout row side + 1) layout.behind image)
    else None

-- the header's gate is open, `GPSINK` stands in octets 1-6, and 01 in octet 7
abbrev pub IsFormatted : List ℕ → Type 0
IsFormatted image = part 0 8 image ≡ OPEN ∷ codes "GPSINK" ++ 1 ∷ []

-- a row has the values of the open slot with the greater generation; where no slot is open there is no row
abbrev pub HoldsRow : ℕ → Option (List ℕ) → Option Row → Type 0
HoldsRow counter None None = Unit {0}
HoldsRow counter None (Some row) = ⊥
HoldsRow counter (Some octets) None = ⊥
HoldsRow counter (Some octets) (Some row) = Shows octets counter row

-- The image holds these rows: it has its octets, it is formatted, no slot is ill, and each row has the values of its slot. Its floor is
-- the greater one of that slot's and of the row's counter kept elsewhere.
pub record Holds (layout : Layout) (counters : ℕ → ℕ) (image : List ℕ) (rows : List Row) : Type 0 where
  pub size : layout.size ≤ length image
  pub formatted : IsFormatted image
  pub consistent : IsConsistent (slots layout image)
  pub each : (r : ℕ) → HoldsRow (counters r) (newest (slots layout image) r) (slice_get rows r)

-- no counter is kept outside the slots
abbrev pub no_counters : ℕ → ℕ
no_counters row = 0

-- the rows that an image of format 1 holds
unfoldable pub HoldsRows : List ℕ → List Row → Type 0
HoldsRows = Holds format_1 no_counters

-- the last generation of an image of format 1
unfoldable pub HasLast : List ℕ → ℕ → Type 0
HasLast image = IsLast (slots format_1 image)
