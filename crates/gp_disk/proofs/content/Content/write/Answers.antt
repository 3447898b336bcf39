use Rattle.std.proofs.Common.{length, arith, length-take, refl}
use Rattle.gp_disk.specs.declared.log.Step.TheVariants.{Write}
use Rattle.gp_disk.specs.History.{at_rest, written}
use Rattle.gp_disk.specs.Log.{log_events}
use Rattle.gp_disk.specs.Step.{is_write, is_within}
use Rattle.gp_disk.proofs.Contents.{reads-wrote, traced-wrote, list_all-push, within-write}
use Rattle.gp_disk.proofs.content.Content.write.Goals as goal

pub invariant_of-self-clause-reads : goal.invariant_of-self-clause-reads
invariant_of-self-clause-reads c =
    reads-wrote (at_rest c.args.self.now.origin.items) (log_events c.args.self.now.settled) (log_events c.args.self.now.pending) (log_events c.add_write.new.self) (written c.args.at c.args.octets.now c.args.stored) c.args.self.now.image.items c.write_into.new.image.items c.args.self.now.reads c.add_write.ensures.events c.write_into.ensures

pub invariant_of-self-clause-traced : goal.invariant_of-self-clause-traced
invariant_of-self-clause-traced c =
    traced-wrote (at_rest c.args.self.now.origin.items) (log_events c.args.self.now.settled) (log_events c.args.self.now.pending) (log_events c.add_write.new.self) (written c.args.at c.args.octets.now c.args.stored) c.args.self.now.image.items c.args.self.now.reads c.add_write.ensures.events c.args.self.now.traced c.requires.range (rw length-take (omega arith))

pub invariant_of-self-clause-writes : goal.invariant_of-self-clause-writes
invariant_of-self-clause-writes c = list_all-push is_write c.args.self.now.pending.steps.items c.add_write.new.self.steps.items (Write c.args.at (length c.args.octets.now) c.args.stored) c.add_write.ensures.steps c.args.self.now.writes refl

pub invariant_of-self-clause-pending_within : goal.invariant_of-self-clause-pending_within
invariant_of-self-clause-pending_within c = list_all-push (is_within (length c.args.self.now.origin.items)) c.args.self.now.pending.steps.items c.add_write.new.self.steps.items (Write c.args.at (length c.args.octets.now) c.args.stored) c.add_write.ensures.steps c.args.self.now.pending_within (within-write (length c.args.self.now.origin.items) c.args.at (length c.args.octets.now) c.args.stored (omega (arith, c.args.self.now.sized)) c.requires.stored)
