-- One slot of the disk: the 63 octets behind its gate, which is octet 0 of the slot. Numbers of more than one octet have the
-- least significant octet first.
use Rattle.std.specs.Prelude.{◌≡◌, ℕ, ◌-◌, max, Bool, true, false, List, replicate, slice_index}
use Rattle.std.specs.Int.{w16, w32, w64, from_le_bytes}
use Rattle.gp_base.specs.Identity.{kind_number, level_number, mode_number}
use Rattle.gp_disk.specs.Disk.{part}
use Rattle.gp_rows.specs.declared.row.Row.{Row}

-- the octet of this number of the slot, counted from the gate; and so many octets from it on
abbrev pub octet : ℕ → List ℕ → ℕ
octet n octets = slice_index octets (n - 1)

abbrev pub octets_from : ℕ → ℕ → List ℕ → List ℕ
octets_from n count octets = part (n - 1) count octets

-- octets 1-8: the number of the commit that wrote the slot
unfoldable pub generation : List ℕ → ℕ
generation octets = from_le_bytes w64 (octets_from 1 8 octets)

-- octets 9-12: the SrcID
unfoldable pub source : List ℕ → ℕ
source octets = from_le_bytes w32 (octets_from 9 4 octets)

-- octets 13-28: the key
unfoldable pub key : List ℕ → List ℕ
key octets = octets_from 13 16 octets

-- octet 29: the kind of the key
unfoldable pub kind : List ℕ → ℕ
kind octets = octet 29 octets

-- octet 30: the security level
unfoldable pub level : List ℕ → ℕ
level octets = octet 30 octets

-- octet 31: the mode
unfoldable pub mode : List ℕ → ℕ
mode octets = octet 31 octets

-- octets 32-33: the group
unfoldable pub group : List ℕ → ℕ
group octets = from_le_bytes w16 (octets_from 32 2 octets)

-- octet 34: the DeviceID
unfoldable pub device : List ℕ → ℕ
device octets = octet 34 octets

-- octet 35: whether the pairing is live
unfoldable pub live : List ℕ → ℕ
live octets = octet 35 octets

-- octets 36-43: the number of the commit that last paired or revived the row
unfoldable pub order : List ℕ → ℕ
order octets = from_le_bytes w64 (octets_from 36 8 octets)

-- octets 44-47: the counter floor
unfoldable pub floor : List ℕ → ℕ
floor octets = from_le_bytes w32 (octets_from 44 4 octets)

-- octets 48-63, which are zero
unfoldable pub rest : List ℕ → List ℕ
rest octets = octets_from 48 16 octets

-- the number of whether a pairing is live
abbrev pub live_number : Bool → ℕ
live_number false = 0
live_number true = 1

-- the slot has the values of this row; the row's floor is the greater one of the slot's and of this counter
pub record Shows (octets : List ℕ) (counter : ℕ) (row : Row) : Type 0 where
  pub has_source : row.src.0 ≡ source octets
  pub has_key : row.key.0 ≡ key octets
  pub has_kind : kind_number row.kind ≡ kind octets
  pub has_level : level_number row.level ≡ level octets
  pub has_mode : mode_number row.mode ≡ mode octets
  pub has_group : row.group ≡ group octets
  pub has_device : row.device ≡ device octets
  pub has_order : row.order ≡ order octets
  pub has_live : live_number row.live ≡ live octets
  pub has_floor : row.floor ≡ max (floor octets) counter

-- the slot's octets spell this row's values, with its own floor, under this generation
pub record Spelled (octets : List ℕ) (row : Row) (number : ℕ) : Type 0 where
  pub shows : Shows octets 0 row
  pub numbered : generation octets ≡ number
  pub zeros : rest octets ≡ replicate 16 0
