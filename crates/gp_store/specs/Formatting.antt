-- What formatting makes of an image.
use Rattle.std.specs.Prelude.{◌≡◌, ◌≢◌, ◌⊎◌, ◌<◌, ◌≤◌, ℕ, ◌+◌, true, false, List, [], drop, slice_index, Option, Some, is_some}
use Rattle.std.specs.Bool.{OnTrue, OnFalse}
use Rattle.gp_base.specs.Outside.{one_more}
use Rattle.gp_disk.specs.declared.device.Disk.{Ghosts}
use Rattle.gp_disk.specs.Disk.{Tally}
use Rattle.gp_disk.specs.Fuse.{lit}
use Rattle.gp_store.specs.declared.fault.StoreFault.{StoreFault}
use Rattle.gp_store.specs.declared.fault.StoreFault.TheVariants.{DiskFault, DiskShort, NotFormatted, AlreadyFormatted, SlotForm, NoMemory}
use Rattle.gp_store.specs.Image.{IMAGE_SIZE, OPEN, IsFormatted, HoldsRows}
use Rattle.gp_store.specs.Commit.{RunsOnce}
use Rattle.gp_store.specs.Recovery.{Told, WritesNothing, begun}
use Rattle.gp_store.specs.Untouched.{GoesOn, RunsThrough}

-- the header's gate is open, whatever stands behind it
abbrev pub HasOpenGate : List ℕ → Type 0
HasOpenGate image = slice_index image 0 ≡ OPEN

-- an image of which all but the gate, the name and the number of the format is zero
abbrev pub IsBlank : List ℕ → Type 0
IsBlank image = (i : ℕ) → 8 ≤ i → i < IMAGE_SIZE → slice_index image i ≡ 0

-- nothing was written, and a crash leaves what it might have left before
pub record IsLeftAlone (old new : Tally) (before since : List ℕ → Type 0) : Type 0 where
  pub no_write : WritesNothing old new
  pub images : (c : List ℕ) → since c → before c

-- Each refusal of a formatting comes only where its line holds. The line of DiskFault says only that the size was tested
-- before.
abbrev pub RefusesFormat : StoreFault → ℕ → Option (List ℕ) → Type 0
RefusesFormat DiskShort size image = size < IMAGE_SIZE
RefusesFormat DiskFault size image = IMAGE_SIZE ≤ size
RefusesFormat AlreadyFormatted size image = (IMAGE_SIZE ≤ size) × Told image HasOpenGate
RefusesFormat NotFormatted size image = ⊥
RefusesFormat (SlotForm slot) size image = ⊥
RefusesFormat NoMemory size image = ⊥

-- a crash leaves what it might have left before, or an image that isn't formatted, or one that holds no rows
abbrev pub LeavesNoRows : (List ℕ → Type 0) → List ℕ → Type 0
LeavesNoRows before c = before c ⊎ (IsFormatted c → ⊥) ⊎ HoldsRows c []

-- the octets behind the image of a store, from octet 204,800 on, are as they were
abbrev pub SameRest : List ℕ → List ℕ → Type 0
SameRest old new = drop IMAGE_SIZE new ≡ drop IMAGE_SIZE old

-- behind the image of a store it agrees with an image that a crash might have left before
abbrev pub KeepsRest : (List ℕ → Type 0) → List ℕ → Type 0
KeepsRest before c = (d : List ℕ) × before d × SameRest d c

-- how many device calls a formatting makes where none fails: a sync, a read of the header's gate, and three writes, each with
-- its sync
unfoldable pub format_calls : ℕ
format_calls = 8

-- A disk was formatted: a crash leaves the empty image alone; one during the call leaves no rows, or what it might have left
-- before.
pub record Formatted {D : Type 0} (of : Ghosts D) (old new : D) : Type 0 where
  pub large : IMAGE_SIZE ≤ (of.tally old).size
  pub closed : Told (of.image old) (λ d. HasOpenGate d → ⊥)
  pub empty : (c : List ℕ) → of.may_leave new c → HoldsRows c []
  pub blank : (c : List ℕ) → of.may_leave new c → IsBlank c
  pub since : (c : List ℕ) → of.left new c → LeavesNoRows (of.may_leave old) c
  pub rest : (c : List ℕ) → of.left new c → KeepsRest (of.may_leave old) c
  pub told : is_some (of.image new) ≡ is_some (of.image old)
  pub run : RunsOnce (of.tally old) (of.tally new)
  pub writes : (of.tally new).writes + 1 ≡ format_calls
  pub few : (of.tally new).writes ≤ 16
  pub good : of.faults new ≡ of.faults old
  pub calls : RunsThrough format_calls (of.fuse old) (of.fuse new) true

-- A formatting was refused: the disk is as it was where nothing has begun; where the header's gate was open, a crash leaves
-- what it might have left before.
pub record RefusedToFormat {D : Type 0} (of : Ghosts D) (fault : StoreFault) (old new : D) : Type 0 where
  pub refuses : RefusesFormat fault (of.tally old).size (of.image old)
  pub untouched : OnFalse (begun fault) (new ≡ old)
  pub since : OnTrue (begun fault) ((c : List ℕ) → of.left new c → LeavesNoRows (of.may_leave old) c)
  pub rest : OnTrue (begun fault) ((c : List ℕ) → of.left new c → KeepsRest (of.may_leave old) c)
  pub already : OnTrue (begun fault) ((d : List ℕ) → of.image old ≡ Some d → HasOpenGate d → (c : List ℕ) → of.left new c → of.may_leave old c)
  pub left_alone : fault ≡ AlreadyFormatted → IsLeftAlone (of.tally old) (of.tally new) (of.may_leave old) (of.left new)
  pub told : is_some (of.image new) ≡ is_some (of.image old)
  pub image : fault ≡ AlreadyFormatted → of.image new ≡ of.image old
  pub run : OnTrue (begun fault) (RunsOnce (of.tally old) (of.tally new))
  pub good : fault ≢ DiskFault → of.faults new ≡ of.faults old
  pub failed : fault ≡ DiskFault → of.faults new ≡ one_more (of.faults old)
  pub calls : fault ≡ AlreadyFormatted → GoesOn format_calls (lit (of.fuse old)) (of.fuse new)
  pub calls_failed : fault ≡ DiskFault → RunsThrough format_calls (of.fuse old) (of.fuse new) false
