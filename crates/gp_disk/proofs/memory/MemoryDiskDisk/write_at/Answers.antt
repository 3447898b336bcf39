use Rattle.std.proofs.Common.{rules, arith}
use Rattle.std.proofs.lemmas.Grind.{common_steps}
use Rattle.gp_disk.specs.Content.{past_of}
use Rattle.gp_disk.specs.History.{Wrote, written}
use Rattle.gp_disk.proofs.Pasts.{held-lived, follows-wrote, grows-lived, begun_before}
use Rattle.gp_disk.proofs.memory.MemoryDiskDisk.write_at.Goals as goal

pub returns-clause-held : goal.returns-clause-held
returns-clause-held c =
    rw (c.answer.ensures, ← c.how_many_stored.ensures) (held-lived (past_of c.args.self.now.content) (past_of c.write.new.self) (Wrote (written c.args.at c.args.octets.now c.how_many_stored.result)) c.write.ensures.past)

pub returns-clause-writes : goal.returns-clause-writes
returns-clause-writes c = record {
  written = grind (arith, common_steps);
  told = search rules;
  now =
      follows-wrote (past_of c.args.self.now.content) (past_of c.write.new.self) (written c.args.at c.args.octets.now c.how_many_stored.result) c.write.ensures.past;
  since =
      grows-lived (past_of c.args.self.now.content) (past_of c.write.new.self) (Wrote (written c.args.at c.args.octets.now c.how_many_stored.result)) c.write.ensures.past (begun_before c.args.self.now.content);
  tally = search rules;
  call = search rules;
}
