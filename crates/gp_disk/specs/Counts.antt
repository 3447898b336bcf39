-- How a disk keeps the counts of its calls. A reader needn't believe this file: the clauses on the calls pin what it gives.
use Rattle.std.specs.Prelude.{ℕ}
use Rattle.gp_disk.specs.declared.counts.Counts.{Counts}
use Rattle.gp_disk.specs.Disk.{Tally}

abbrev pub tally_of : ℕ → Counts → Tally
tally_of size counts = record {
  size = size;
  begins = counts.begins;
  before = counts.before;
  calls = counts.calls;
  writes = counts.writes;
  octets = counts.octets;
  pending = counts.pending;
  unsettled = counts.unsettled;
}
