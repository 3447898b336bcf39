-- How a disk in memory keeps what it tells. A reader needn't believe this file: the clauses on the calls of a disk in
-- memory pin what it gives.
use Rattle.std.specs.Prelude.{length}
use Rattle.gp_disk.specs.declared.memory.MemoryDisk.{MemoryDisk}
use Rattle.gp_disk.specs.Content.{past_of}
use Rattle.gp_disk.specs.Counts.{tally_of}
use Rattle.gp_disk.specs.History.{Kept}
use Rattle.gp_disk.specs.Trigger.{fuse_of}

abbrev pub kept_of : MemoryDisk → Kept
kept_of disk = record { image = disk.content.image.items; past = past_of disk.content; tally = tally_of (length disk.content.image.items) disk.counts; faults = disk.trigger.faults; fuse = fuse_of disk.trigger }
