use Rattle.std.proofs.Common.{◌≡◌, ◌*◌, ℕ, List, Some}
use Rattle.gp_disk.specs.Fuse.{burnt}
use Rattle.gp_store.specs.Image.{slots, format_1}
use Rattle.gp_store.specs.Reading.{FoundOf, Reads}
use Rattle.gp_store.specs.Untouched.{OnlyReads, IsKeptAsIs, AllGone}
use Rattle.gp_store.proofs.rows.read_rows.Given as goal

-- the rows so far have been read, by two calls a row
abbrev pub invariant-loop-at : goal.invariant-loop-at
invariant-loop-at g l = record {
  found : FoundOf l.found;
  rows : (d : List ℕ) → g.D.Disk.image l.initial.disk ≡ Some d → Reads (slots format_1 d) 0 l.initial.found → Reads (slots format_1 d) l.at l.found;
  kept : IsKeptAsIs (g.D.Disk.image l.initial.disk) (g.D.Disk.image l.disk) (g.D.Disk.may_leave l.initial.disk) (g.D.Disk.may_leave l.disk) (g.D.Disk.left l.initial.disk) (g.D.Disk.left l.disk);
  reads : OnlyReads (g.D.Disk.tally l.initial.disk) (g.D.Disk.tally l.disk);
  good : g.D.Disk.faults l.disk ≡ g.D.Disk.faults l.initial.disk;
  fuse : g.D.Disk.fuse l.disk ≡ burnt (2 * l.at) (g.D.Disk.fuse l.initial.disk);
  gone : AllGone (2 * l.at) (g.D.Disk.fuse l.initial.disk);
}
