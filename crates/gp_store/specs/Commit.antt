-- What a commit answers, and all that it leaves of the store and of its disk.
use Rattle.std.specs.Prelude.{◌≡◌, ◌<◌, ◌≤◌, ◌^◌, ◌⊎◌, ℕ, ◌+◌, ◌-◌, Bool, true, false, List, Option, Result, Ok, Err, OnOk, is_ok, is_some}
use Rattle.std.specs.Bool.{OnTrue}
use Rattle.std.specs.Option.{option_map}
use Rattle.gp_base.specs.Outside.{one_more}
use Rattle.gp_disk.specs.Disk.{Tally, Torn}
use Rattle.gp_disk.specs.declared.device.Disk.{Ghosts}
use Rattle.gp_disk.specs.Fuse.{Fuse, lit, burnt, Foretold}
use Rattle.gp_rows.specs.declared.row.Row.{Row}
use Rattle.gp_rows.specs.Changes.{Change, place, value, applied, HasNoRoom}
use Rattle.gp_store.specs.declared.fault.CommitFault.{CommitFault}
use Rattle.gp_store.specs.declared.fault.CommitFault.TheVariants.{TableFull, Worn, DiskFault, Halted}
use Rattle.gp_store.specs.Image.{HoldsRows, HasLast, gate_at, format_1}
use Rattle.gp_store.specs.State.{State}

-- the last generation after one more commit, which is also the order of a row that it pairs
abbrev pub next_generation : ℕ → ℕ
next_generation last = last + 1

-- a row under the order that the next commit gives it
abbrev pub ordered : ℕ → Row → Row
ordered last row = record row { order = next_generation last }

-- an answer without its value
abbrev pub plain : {T : Type 0} → Result T CommitFault → Result (Unit {0}) CommitFault
plain (Ok value) = Ok tt
plain (Err fault) = Err fault

-- Each answer comes exactly where its line holds: the store was halted; else the rows have no room (`full`); else the
-- last generation is the greatest one; else the commit is made.
abbrev pub HasReason : Result (Unit {0}) CommitFault → Bool → Type 0 → ℕ → Type 0
HasReason (Err Halted) halted full last = halted ≡ true
HasReason (Err TableFull) halted full last = (halted ≡ false) × full
HasReason (Err (Worn generation)) halted full last = (halted ≡ false) × (full → ⊥) × (last ≡ 2 ^ 64 - 1) × (generation ≡ last)
HasReason (Err DiskFault) halted full last = (halted ≡ false) × (full → ⊥) × (last < 2 ^ 64 - 1)
HasReason (Ok value) halted full last = (halted ≡ false) × (full → ⊥) × (last < 2 ^ 64 - 1)

-- a commit that answers Ok or DiskFault is made, any other isn't
abbrev pub is_made : Result (Unit {0}) CommitFault → Bool
is_made (Ok value) = true
is_made (Err DiskFault) = true
is_made (Err fault) = false

-- the number of the row that a change concerns, and the values that it gives it
abbrev pub undecided_by : Change → List Row → Option (ℕ × Row)
undecided_by change rows = option_map (λ row. (place change rows, row)) (value change rows)

-- The store afterwards, over its disk: after Ok with the change made, and the next generation; after DiskFault halted, with
-- the change undecided; after Worn halted; else as it was.
abbrev pub after : {D : Type 0} → Result (Unit {0}) CommitFault → Change → State D → D → State D
after (Ok value) change old disk = record old { disk = disk; rows = applied change old.rows; last = next_generation old.last }
after (Err DiskFault) change old disk = record old { disk = disk; halted = true; undecided = undecided_by change old.rows }
after (Err (Worn generation)) change old disk = record old { halted = true }
after (Err fault) change old disk = old

-- the count of faults rises by one where the disk has failed, and else stays
abbrev pub HasCause : Result (Unit {0}) CommitFault → ℕ → ℕ → Type 0
HasCause (Ok value) old new = new ≡ old
HasCause (Err DiskFault) old new = new ≡ one_more old
HasCause (Err fault) old new = new ≡ old

-- one run of calls since the counts were so: one `begin`, before which no call was made
pub record RunsOnce (old new : Tally) : Type 0 where
  pub size : new.size ≡ old.size
  pub begins : new.begins ≡ one_more old.begins
  pub before : new.before ≡ old.calls

-- one run of at most sixteen device calls, none of them a read; where it is done, of at least four
pub record WritesOnce (old new : Tally) (is_done : Bool) : Type 0 where
  pub once : RunsOnce old new
  pub none_read : new.calls ≡ new.writes
  pub at_most : new.writes ≤ 16
  pub at_least : OnTrue is_done (4 ≤ new.writes)

-- at each moment since the last `begin` a crash leaves the rows from before or those after, and no last generation of
-- more than two above the one before
pub record Survives (left : List ℕ → Type 0) (before after : List Row) (last : ℕ) : Type 0 where
  pub rows : (c : List ℕ) → left c → HoldsRows c before ⊎ HoldsRows c after
  pub generation : (c : List ℕ) (n : ℕ) → left c → HasLast c n → n ≤ last + 2

-- at each moment since the last `begin` a crash leaves what a read gave, but for the 64 octets of one of the row's slots
abbrev pub TouchesOneSlot : ℕ → Option (List ℕ) → (List ℕ → Type 0) → Type 0
TouchesOneSlot row image left = (side : Bool) × ((c : List ℕ) → left c → Torn (gate_at format_1 row side) 64 image c)

-- every image that a crash now may leave holds these rows, with this last generation
abbrev pub Stands : (List ℕ → Type 0) → List Row → ℕ → Type 0
Stands may_leave rows last = (c : List ℕ) → may_leave c → HoldsRows c rows × HasLast c last

-- Where the disk tells what is to fail: the commit is one `begin` and so many device calls, four to sixteen, and it
-- answers Ok exactly where they all go through.
pub record Burns (old new : Fuse) (is_done : Bool) : Type 0 where
  pub count : ℕ
  pub at_least : 4 ≤ count
  pub at_most : count ≤ 16
  pub fuse : new ≡ burnt count (lit old)
  pub foretold : Foretold count (lit old) is_done

-- what a commit that is made does on the disk
pub record IsMade {D : Type 0} (disk : Ghosts D) (change : Change) (old new : State D) (is_done : Bool) : Type 0 where
  pub moments : Survives (disk.left new.disk) old.rows (applied change old.rows) old.last
  pub slot : TouchesOneSlot (place change old.rows) (disk.image old.disk) (disk.left new.disk)
  pub run : WritesOnce (disk.tally old.disk) (disk.tally new.disk) is_done
  pub fuse : Burns (disk.fuse old.disk) (disk.fuse new.disk) is_done

-- All of the commit of a change: why its answer comes, and the store afterwards; where it is made, what it does on the disk;
-- after Ok, what stands; the cause of a fault; and that a disk which told its image still tells it.
pub record Commits {D : Type 0} (disk : Ghosts D) (change : Change) (old new : State D) (result : Result (Unit {0}) CommitFault) : Type 0 where
  pub reason : HasReason result old.halted (HasNoRoom change old.rows) old.last
  pub store : new ≡ after result change old new.disk
  pub made : OnTrue (is_made result) (IsMade disk change old new (is_ok result))
  pub stands : OnOk result (Stands (disk.may_leave new.disk) new.rows new.last)
  pub cause : HasCause result (disk.faults old.disk) (disk.faults new.disk)
  pub told : is_some (disk.image new.disk) ≡ is_some (disk.image old.disk)
