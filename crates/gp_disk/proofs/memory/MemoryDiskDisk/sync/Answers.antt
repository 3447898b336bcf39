use Rattle.std.proofs.Common.{rules}
use Rattle.gp_disk.specs.Content.{past_of}
use Rattle.gp_disk.specs.History.{Synced}
use Rattle.gp_disk.proofs.Pasts.{held-lived, grows-lived, begun_before, certain_synced}
use Rattle.gp_disk.proofs.memory.MemoryDiskDisk.sync.Goals as goal

pub returns-clause-held : goal.returns-clause-held
returns-clause-held c =
    held-lived (past_of c.args.self.now.content) (past_of c.sync.new.self) Synced c.sync.ensures.past

pub returns-clause-syncs : goal.returns-clause-syncs
returns-clause-syncs c = record {
  image = search rules;
  certain =
      certain_synced c.args.self.now.content c.sync.new.self c.sync.ensures.image c.sync.ensures.past;
  now = search rules;
  since =
      grows-lived (past_of c.args.self.now.content) (past_of c.sync.new.self) Synced c.sync.ensures.past (begun_before c.args.self.now.content);
  tally = search rules;
  tally_failed = search rules;
  call = search rules;
}
