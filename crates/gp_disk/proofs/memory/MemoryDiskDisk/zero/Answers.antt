use Rattle.std.proofs.Common.{rules, ℕ, subst}
use Rattle.std.proofs.lemmas.List.{length-replicate}
use Rattle.gp_disk.specs.Content.{past_of}
use Rattle.gp_disk.specs.Disk.{Follows}
use Rattle.gp_disk.specs.History.{Wrote, MayLeave, held_after, zeroed}
use Rattle.gp_disk.proofs.Pasts.{held-lived, follows-wrote, grows-lived, begun_before}
use Rattle.gp_disk.proofs.memory.MemoryDiskDisk.zero.Goals as goal

pub returns-clause-held : goal.returns-clause-held
returns-clause-held c =
    rw (c.answer.ensures, ← c.how_many_stored.ensures) (held-lived (past_of c.args.self.now.content) (past_of c.zero.new.self) (Wrote (zeroed c.args.at c.args.count c.how_many_stored.result)) c.zero.ensures.past)

pub returns-clause-writes : goal.returns-clause-writes
returns-clause-writes c = record {
  written = search rules;
  told = search rules;
  now =
      subst (λ (count : ℕ). Follows c.args.at count (MayLeave (held_after (past_of c.args.self.now.content))) (MayLeave (held_after (past_of c.zero.new.self)))) (length-replicate c.args.count 0) (follows-wrote (past_of c.args.self.now.content) (past_of c.zero.new.self) (zeroed c.args.at c.args.count c.how_many_stored.result) c.zero.ensures.past);
  since =
      grows-lived (past_of c.args.self.now.content) (past_of c.zero.new.self) (Wrote (zeroed c.args.at c.args.count c.how_many_stored.result)) c.zero.ensures.past (begun_before c.args.self.now.content);
  tally = search rules;
  call = search rules;
}
