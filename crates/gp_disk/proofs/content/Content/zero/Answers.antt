use Rattle.std.proofs.Common.{length, refl, arith, ℕ}
use Rattle.std.proofs.lemmas.List.{length-replicate}
use Rattle.gp_disk.specs.declared.log.Step.TheVariants.{Zero}
use Rattle.gp_disk.specs.History.{at_rest, zeroed}
use Rattle.gp_disk.specs.Log.{log_events}
use Rattle.gp_disk.specs.Step.{is_write, is_within}
use Rattle.gp_disk.proofs.Contents.{reads-wrote, traced-wrote, list_all-push, within-zero}
use Rattle.gp_disk.proofs.content.Content.zero.Goals as goal

pub invariant_of-self-clause-reads : goal.invariant_of-self-clause-reads
invariant_of-self-clause-reads c =
    reads-wrote (at_rest c.args.self.now.origin.items) (log_events c.args.self.now.settled) (log_events c.args.self.now.pending) (log_events c.add_zeros.new.self) (zeroed c.args.at c.args.count c.args.stored) c.args.self.now.image.items c.zero_into.new.image.items c.args.self.now.reads c.add_zeros.ensures.events c.zero_into.ensures

pub invariant_of-self-clause-traced : goal.invariant_of-self-clause-traced
invariant_of-self-clause-traced c =
    traced-wrote (at_rest c.args.self.now.origin.items) (log_events c.args.self.now.settled) (log_events c.args.self.now.pending) (log_events c.add_zeros.new.self) (zeroed c.args.at c.args.count c.args.stored) c.args.self.now.image.items c.args.self.now.reads c.add_zeros.ensures.events c.args.self.now.traced (rw length-replicate c.requires.range) (rw (length-replicate {A = ℕ} c.args.stored 0, length-replicate {A = ℕ} c.args.count 0) c.requires.stored)

pub invariant_of-self-clause-writes : goal.invariant_of-self-clause-writes
invariant_of-self-clause-writes c = list_all-push is_write c.args.self.now.pending.steps.items c.add_zeros.new.self.steps.items (Zero c.args.at c.args.count c.args.stored) c.add_zeros.ensures.steps c.args.self.now.writes refl

pub invariant_of-self-clause-pending_within : goal.invariant_of-self-clause-pending_within
invariant_of-self-clause-pending_within c = list_all-push (is_within (length c.args.self.now.origin.items)) c.args.self.now.pending.steps.items c.add_zeros.new.self.steps.items (Zero c.args.at c.args.count c.args.stored) c.add_zeros.ensures.steps c.args.self.now.pending_within (within-zero (length c.args.self.now.origin.items) c.args.at c.args.count c.args.stored (omega (arith, c.args.self.now.sized)) c.requires.stored)
