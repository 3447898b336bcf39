-- What a store keeps of its disk. No public clause cites this file.
use Rattle.std.specs.Prelude.{◌≡◌, ◌<◌, ◌≤◌, ◌⊎◌, ◌^◌, ◌-◌, ℕ, false, List, Option, Some, None, Result, Ok, Err, length, slice_get, is_some}
use Rattle.gp_disk.specs.Disk.{Tally, IsQuiet}
use Rattle.gp_rows.specs.declared.row.Row.{Row}
use Rattle.gp_rows.specs.Rows.{AreWithin, IsNewPair, CAPACITY}
use Rattle.gp_rows.specs.Changes.{Change, place, value, with_row, HasNoRoom}
use Rattle.gp_store.specs.declared.commit.Marks.{Marks}
use Rattle.gp_store.specs.declared.commit.Stale.{Stale}
use Rattle.gp_store.specs.declared.fault.CommitFault.{CommitFault}
use Rattle.gp_store.specs.State.{State}
use Rattle.gp_store.specs.Commit.{next_generation}
use Rattle.gp_store.specs.Slots.{newest, other_side}
use Rattle.gp_store.specs.Image.{IMAGE_SIZE, slots, format_1, HoldsRows, HasLast}

-- the stale slot of a row isn't its newest one, and is open or not as is told
pub record IsStale (image : List ℕ) (row : ℕ) (stale : Stale) : Type 0 where
  pub newest_is_other : newest (slots format_1 image) row ≡ slots format_1 image row (other_side stale.odd)
  pub tells : is_some (slots format_1 image row stale.odd) ≡ stale.is_open

-- the image holds the rows, with the last generation and the stale slots
pub record IsTold (image : List ℕ) (rows : List Row) (stale : List Stale) (last : ℕ) : Type 0 where
  pub holds : HoldsRows image rows
  pub has_last : HasLast image last
  pub each : (r : ℕ) (s : Stale) → slice_get stale r ≡ Some s → IsStale image r s

-- the disk is large enough and at rest, and holds the rows where it tells what it holds
pub record IsReady (tally : Tally) (image : Option (List ℕ)) (may_leave : List ℕ → Type 0) (rows : List Row) (stale : List Stale) (last : ℕ) : Type 0 where
  pub size : IMAGE_SIZE ≤ tally.size
  pub quiet : IsQuiet tally image may_leave
  pub told : (d : List ℕ) → image ≡ Some d → IsTold d rows stale last

-- A store keeps a stale slot for each row, and an order of each row that isn't above the last generation; while it isn't
-- halted, its disk is ready, and no change undecided.
pub record IsKept (tally : Tally) (image : Option (List ℕ)) (may_leave : List ℕ → Type 0) (rows : List Row) (stale : List Stale) (room : ℕ) (marks : Marks) : Type 0 where
  pub roomy : CAPACITY ≤ room
  pub as_many : length stale ≡ length rows
  pub orders : AreWithin marks.last rows
  pub ready : marks.halted ≡ false → IsReady tally image may_leave rows stale marks.last
  pub decided : marks.halted ≡ false → marks.undecided ≡ None

-- the store of these parts
abbrev pub state_of : {D : Type 0} → D → List Row → Marks → State D
state_of disk rows marks = record { disk = disk; rows = rows; last = marks.last; halted = marks.halted; undecided = marks.undecided }

-- the row replaces one of its SrcID and key, whose order it keeps or under the next generation
pub record Replaces (rows : List Row) (last at : ℕ) (row : Row) : Type 0 where
  pub before : Row
  pub there : slice_get rows at ≡ Some before
  pub source : row.src.0 ≡ before.src.0
  pub key : row.key.0 ≡ before.key.0
  pub order : (row.order ≡ before.order) ⊎ (row.order ≡ next_generation last)

-- the row, of a new and pairable SrcID and key and under the next generation, comes behind the others
pub record Appends (rows : List Row) (last at : ℕ) (row : Row) : Type 0 where
  pub end : at ≡ length rows
  pub new : IsNewPair rows row
  pub order : row.order ≡ next_generation last
  pub above : 1 ≤ row.src.0
  pub below : row.src.0 ≤ 0xFFFFFFF8

-- the row may be put at this number
abbrev pub MayPut : List Row → ℕ → ℕ → Row → Type 0
MayPut rows last at row = Replaces rows last at row ⊎ Appends rows last at row

-- the change has room, and puts these values at this number
pub record Puts (change : Change) (rows : List Row) (last at : ℕ) (row : Row) : Type 0 where
  pub room : HasNoRoom change rows → ⊥
  pub here : last < 2 ^ 64 - 1 → place change rows ≡ at
  pub gives : last < 2 ^ 64 - 1 → value change rows ≡ Some row

-- the rows with this one put there, where it was put
abbrev pub rows_put : Result (Unit {0}) CommitFault → List Row → ℕ → Row → List Row
rows_put (Ok value) rows at row = with_row rows at row
rows_put (Err fault) rows at row = rows
