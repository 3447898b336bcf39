-- What a recovery answers.
use Rattle.std.specs.Prelude.{◌≡◌, ◌≢◌, ◌<◌, ◌≤◌, ℕ, Bool, true, false, List, Option, Some, None}
use Rattle.std.specs.Bool.{OnTrue, OnFalse}
use Rattle.gp_base.specs.Outside.{one_more}
use Rattle.gp_disk.specs.declared.device.Disk.{Ghosts}
use Rattle.gp_disk.specs.Disk.{Tally, IsQuiet}
use Rattle.gp_disk.specs.Fuse.{lit}
use Rattle.gp_rows.specs.declared.row.Row.{Row}
use Rattle.gp_rows.specs.Rows.{IsTable, AreWithin}
use Rattle.gp_store.specs.declared.fault.Refused.{Refused}
use Rattle.gp_store.specs.declared.fault.StoreFault.{StoreFault}
use Rattle.gp_store.specs.declared.fault.StoreFault.TheVariants.{DiskFault, DiskShort, NotFormatted, AlreadyFormatted, SlotForm, NoMemory}
use Rattle.gp_store.specs.Slots.{IsFirstIll}
use Rattle.gp_store.specs.Image.{IMAGE_SIZE, IsFormatted, HoldsRows, HasLast, slots, format_1}
use Rattle.gp_store.specs.Commit.{RunsOnce, Stands}
use Rattle.gp_store.specs.State.{State}
use Rattle.gp_store.specs.Untouched.{GoesOn, RunsThrough}

-- where a read's image is told, it has this property
abbrev pub Told : Option (List ℕ) → (List ℕ → Type 0) → Type 0
Told image P = (d : List ℕ) → image ≡ Some d → P d

-- Each refusal comes only where its line holds: the disk is too small; the header isn't that of a formatted disk; this is
-- the smallest ill slot. The line of NoMemory says nothing, and that of DiskFault only that the size was tested before.
abbrev pub Refuses : StoreFault → ℕ → Option (List ℕ) → Type 0
Refuses NoMemory size image = Unit {0}
Refuses DiskShort size image = size < IMAGE_SIZE
Refuses DiskFault size image = IMAGE_SIZE ≤ size
Refuses NotFormatted size image = (IMAGE_SIZE ≤ size) × Told image (λ d. IsFormatted d → ⊥)
Refuses (SlotForm slot) size image = (IMAGE_SIZE ≤ size) × Told image (λ d. IsFormatted d × IsFirstIll (slots format_1 d) slot)
Refuses AlreadyFormatted size image = ⊥

-- the refusal comes after the `begin`
abbrev pub begun : StoreFault → Bool
begun NoMemory = false
begun DiskShort = false
begun fault = true

-- One `begin`, before which no call was made. After it one call that isn't a read, which is a `sync`, since it writes no
-- octets and leaves nothing pending that wasn't.
pub record WritesNothing (old new : Tally) : Type 0 where
  pub once : RunsOnce old new
  pub one_sync : new.writes ≡ 1
  pub no_octets : new.octets ≡ 0
  pub none_pending : new.pending ≡ true → old.pending ≡ true

-- how many device calls a recovery makes where none fails: a sync, a read of the header, and one of each slot
unfoldable pub recovery_calls : ℕ
recovery_calls = 2050

-- the image holds these rows, with this last generation, and no others
pub record HasRows (image : List ℕ) (rows : List Row) (last : ℕ) : Type 0 where
  pub holds : HoldsRows image rows
  pub has_last : HasLast image last
  pub only : (others : List Row) → HoldsRows image others → others ≡ rows
  pub only_last : (other : ℕ) → HasLast image other → other ≡ last

-- A store that was recovered from a disk: its rows are those of the read image, and every image that a crash may leave
-- holds them.
pub record Recovered {D : Type 0} (of : Ghosts D) (disk : D) (store : State D) : Type 0 where
  pub large : IMAGE_SIZE ≤ (of.tally disk).size
  pub rows : Told (of.image disk) (λ image. HasRows image store.rows store.last)
  pub table : IsTable store.rows
  pub within : AreWithin store.last store.rows
  pub running : store.halted ≡ false
  pub decided : store.undecided ≡ None
  pub stands : Stands (of.may_leave store.disk) store.rows store.last
  pub quiet : IsQuiet (of.tally store.disk) (of.image store.disk) (of.may_leave store.disk)
  pub image : of.image store.disk ≡ of.image disk
  pub since : (c : List ℕ) → of.left store.disk c → of.may_leave disk c
  pub no_write : WritesNothing (of.tally disk) (of.tally store.disk)
  pub good : of.faults store.disk ≡ of.faults disk
  pub calls : RunsThrough recovery_calls (of.fuse disk) (of.fuse store.disk) true

-- A refusal hands the disk back: as it was where nothing has begun, and else with nothing written.
pub record RefusedToRecover {D : Type 0} (of : Ghosts D) (disk : D) (refused : Refused D) : Type 0 where
  pub refuses : Refuses refused.fault (of.tally disk).size (of.image disk)
  pub untouched : OnFalse (begun refused.fault) (refused.disk ≡ disk)
  pub image : of.image refused.disk ≡ of.image disk
  pub since : OnTrue (begun refused.fault) ((c : List ℕ) → of.left refused.disk c → of.may_leave disk c)
  pub no_write : OnTrue (begun refused.fault) (WritesNothing (of.tally disk) (of.tally refused.disk))
  pub good : refused.fault ≢ DiskFault → of.faults refused.disk ≡ of.faults disk
  pub failed : refused.fault ≡ DiskFault → of.faults refused.disk ≡ one_more (of.faults disk)
  pub calls : OnTrue (begun refused.fault) (refused.fault ≢ DiskFault → GoesOn recovery_calls (lit (of.fuse disk)) (of.fuse refused.disk))
  pub calls_failed : refused.fault ≡ DiskFault → RunsThrough recovery_calls (of.fuse disk) (of.fuse refused.disk) false
