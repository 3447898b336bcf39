-- How far a reading of the slots has come. No public clause cites this file.
use Rattle.std.specs.Prelude.{◌≡◌, ◌<◌, ◌≤◌, ◌⊎◌, ℕ, Bool, true, false, List, Option, Some, None, length, slice_get, is_some, if◌then◌else◌}
use Rattle.gp_rows.specs.declared.row.Row.{Row}
use Rattle.gp_rows.specs.Rows.{IsTable}
use Rattle.gp_store.specs.declared.found.Found.{Found}
use Rattle.gp_store.specs.declared.commit.Stale.{Stale}
use Rattle.gp_store.specs.Slot.{source, key, order, generation}
use Rattle.gp_store.specs.Slots.{Slots, other_side, newest, IsFormed, IsWell, IsIll}
use Rattle.gp_store.specs.Image.{HoldsRow, slots, format_1}

-- a slot by whether its gate is open, and the octets behind it
abbrev pub slot_of : Bool → List ℕ → Option (List ℕ)
slot_of is_open octets = if is_open then Some octets else None

-- a row, with the order of its older slot, has another SrcID, or another key and other orders
abbrev pub IsOther : Row → ℕ → ℕ → List ℕ → ℕ → Type 0
IsOther row before its_source its_key its_order = row.src.0 ≡ its_source → (row.key.0 ≡ its_key → ⊥) × (row.order ≡ its_order → ⊥) × (before ≡ its_order → ⊥)

-- no row has this SrcID and key, or this SrcID and this order, also in its older slot
abbrev pub IsNewAmong : List Row → List ℕ → ℕ → List ℕ → ℕ → Type 0
IsNewAmong rows older its_source its_key its_order = (k : ℕ) (row : Row) (before : ℕ) → slice_get rows k ≡ Some row → slice_get older k ≡ Some before → IsOther row before its_source its_key its_order

-- an open slot of row `at` breaks no rule but those on the row's other slot, by what was read before
pub record IsJudged (rows : List Row) (older : List ℕ) (at : ℕ) (octets : List ℕ) : Type 0 where
  pub formed : IsFormed octets
  pub follows : length rows ≡ at
  pub new : IsNewAmong rows older (source octets) (key octets) (order octets)

-- the slots of the rows below `at` aren't ill, and hold exactly the rows found so far
pub record ReadsTo (slots : Slots) (at : ℕ) (rows : List Row) (stale : List Stale) (older : List ℕ) (last : ℕ) : Type 0 where
  pub well : (r : ℕ) (s : Bool) (o : List ℕ) → r < at → slots r s ≡ Some o → IsWell slots r s o
  pub few : length rows ≤ at
  pub each : (r : ℕ) → r < at → HoldsRow 0 (newest slots r) (slice_get rows r)
  pub stales : (r : ℕ) (s : Stale) → slice_get stale r ≡ Some s → (newest slots r ≡ slots r (other_side s.odd)) × (is_some (slots r s.odd) ≡ s.is_open)
  pub olders : (r : ℕ) (s : Stale) (before : ℕ) (o : List ℕ) → slice_get stale r ≡ Some s → slice_get older r ≡ Some before → slots r s.odd ≡ Some o → order o ≡ before
  pub closed : (r : ℕ) (s : Stale) (before : ℕ) → slice_get stale r ≡ Some s → slice_get older r ≡ Some before → slots r s.odd ≡ None → before ≡ 0
  pub greatest : (r : ℕ) (s : Bool) (o : List ℕ) → r < at → slots r s ≡ Some o → generation o ≤ last
  pub reached : (last ≡ 0) ⊎ ((r : ℕ) × (s : Bool) × (o : List ℕ) × (slots r s ≡ Some o) × (generation o ≡ last))

-- what is found, whatever the disk holds: a table, as many stale slots and orders of older slots as rows, and no order above
-- the last generation
pub record IsFound (rows : List Row) (stale : List Stale) (older : List ℕ) (last : ℕ) : Type 0 where
  pub table : IsTable rows
  pub as_many : length stale ≡ length rows
  pub as_many_older : length older ≡ length rows
  pub orders : (r : ℕ) (row : Row) → slice_get rows r ≡ Some row → row.order ≤ last

-- the smallest ill slot is this one of row `at`
pub record EndsIll (slots : Slots) (at : ℕ) (side : Bool) : Type 0 where
  pub ill : IsIll slots at side
  pub well_even : side ≡ true → (o : List ℕ) → slots at false ≡ Some o → IsWell slots at false o
  pub well_before : (r : ℕ) (s : Bool) (o : List ℕ) → r < at → slots r s ≡ Some o → IsWell slots r s o

-- what has been found
abbrev pub FoundOf : Found → Type 0
FoundOf found = IsFound found.table found.stale.items found.older.items found.last

-- the slots of the rows below `at` aren't ill, and hold exactly what has been found
abbrev pub Reads : Slots → ℕ → Found → Type 0
Reads slots at found = ReadsTo slots at found.table found.stale.items found.older.items found.last

-- the row at this place is found: its newest slot has these octets, its stale slot is this one with this order, and its
-- slots aren't ill
pub record Finds (slots : Slots) (at : ℕ) (octets : List ℕ) (stale : Stale) (before : ℕ) : Type 0 where
  pub newest_is : newest slots at ≡ Some octets
  pub wells : (s : Bool) (o : List ℕ) → slots at s ≡ Some o → IsWell slots at s o
  pub stale_is : newest slots at ≡ slots at (other_side stale.odd)
  pub stale_open : is_some (slots at stale.odd) ≡ stale.is_open
  pub before_is : (o : List ℕ) → slots at stale.odd ≡ Some o → order o ≡ before
  pub before_none : slots at stale.odd ≡ None → before ≡ 0
  pub generations : (s : Bool) (o : List ℕ) → slots at s ≡ Some o → generation o ≤ generation octets

-- the rows below `at` have been read of an image
abbrev pub ReadsImage : List ℕ → ℕ → Found → Type 0
ReadsImage image at found = Reads (slots format_1 image) at found
