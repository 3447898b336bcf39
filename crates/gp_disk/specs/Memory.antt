-- What a disk in memory tells.
use Rattle.std.specs.Prelude.{◌≡◌, ℕ, List, Option, Some}
use Rattle.gp_disk.specs.declared.memory.MemoryDisk.{MemoryDisk}
use Rattle.gp_disk.specs.Disk.{Tally, Moment, moment, Same}
use Rattle.gp_disk.specs.Fuse.{Fuse}
use Rattle.gp_disk.specs.History.{Held, held_after, MayLeave, PastLeft}
use Rattle.gp_disk.specs.Kept.{kept_of}

abbrev pub memory_image : MemoryDisk → Option (List ℕ)
memory_image disk = Some (kept_of disk).image

-- what the last good sync or crash left, or the zeros of a new disk; the ranges written since, in order; and what a
-- read gives
abbrev pub memory_held : MemoryDisk → Held
memory_held disk = held_after (kept_of disk).past

abbrev pub memory_may_leave : MemoryDisk → List ℕ → Type 0
memory_may_leave disk c = MayLeave (memory_held disk) c

abbrev pub memory_left : MemoryDisk → List ℕ → Type 0
memory_left disk c = PastLeft (kept_of disk).past c

abbrev pub memory_tally : MemoryDisk → Tally
memory_tally disk = (kept_of disk).tally

abbrev pub memory_faults : MemoryDisk → ℕ
memory_faults disk = (kept_of disk).faults

abbrev pub memory_fuse : MemoryDisk → Fuse
memory_fuse disk = (kept_of disk).fuse

abbrev pub memory_moment : MemoryDisk → Moment
memory_moment disk = moment memory_image memory_may_leave memory_left memory_tally memory_faults memory_fuse disk

-- all but the fuse is the same
pub record SameButFuse (old new : MemoryDisk) : Type 0 where
  pub image : memory_image new ≡ memory_image old
  pub held : memory_held new ≡ memory_held old
  pub now : Same (memory_may_leave old) (memory_may_leave new)
  pub since : Same (memory_left old) (memory_left new)
  pub tally : memory_tally new ≡ memory_tally old
  pub faults : memory_faults new ≡ memory_faults old
