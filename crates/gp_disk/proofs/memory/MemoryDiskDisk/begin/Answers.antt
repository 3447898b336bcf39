use Rattle.std.proofs.Common.{rules, arith}
use Rattle.gp_disk.specs.Content.{past_of}
use Rattle.gp_disk.proofs.Pasts.{same-begun}
use Rattle.gp_disk.proofs.memory.MemoryDiskDisk.begin.Goals as goal

pub returns-clause-begins : goal.returns-clause-begins
returns-clause-begins c = record {
  image = search rules;
  now = search rules;
  since =
      same-begun (past_of c.begin.new.self) (omega (arith, c.begin.ensures.begun));
  tally = search rules;
  faults = search rules;
  fuse = search rules;
}
