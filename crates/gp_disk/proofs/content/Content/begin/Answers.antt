use Rattle.std.proofs.Common.{◌≡◌, true, sym, subst, ℕ, arith}
use Rattle.std.specs.List.{list_all}
use Rattle.gp_disk.specs.Log.{log_events}
use Rattle.gp_disk.specs.Step.{is_within}
use Rattle.gp_disk.proofs.Contents.{held-begun, traced-begun, certain-none, none_pending-none}
use Rattle.gp_disk.proofs.content.Content.begin.Goals as goal
use Rattle.gp_disk.proofs.Steps.{length-events}

pub invariant_of-self-2-clause-reads : goal.invariant_of-self-2-clause-reads
invariant_of-self-2-clause-reads c =
    let held = held-begun c.args.self.now.origin.items c.settle.new.origin.items (log_events c.args.self.now.settled) (log_events c.args.self.now.pending) (log_events c.settle.new.settled) c.args.self.now.certain c.args.self.now.none_pending c.settle.ensures.image c.settle.ensures.events in
    rw held c.args.self.now.reads

pub invariant_of-self-2-clause-traced : goal.invariant_of-self-2-clause-traced
invariant_of-self-2-clause-traced c =
    traced-begun c.args.self.now.origin.items c.settle.new.origin.items (log_events c.args.self.now.settled) (log_events c.args.self.now.pending) (log_events c.settle.new.settled) c.args.self.now.certain c.args.self.now.none_pending c.settle.ensures.image c.settle.ensures.events c.args.self.now.traced

pub invariant_of-self-2-clause-certain : goal.invariant_of-self-2-clause-certain
invariant_of-self-2-clause-certain c = certain-none c.settle.new.origin.items (log_events c.settle.new.settled) c.settle.ensures.events

pub invariant_of-self-2-clause-none_pending : goal.invariant_of-self-2-clause-none_pending
invariant_of-self-2-clause-none_pending c = none_pending-none c.settle.new.origin.items (log_events c.settle.new.settled) c.settle.ensures.events

pub returns-clause-held : goal.returns-clause-held
returns-clause-held c =
    held-begun c.args.self.now.origin.items c.settle.new.origin.items (log_events c.args.self.now.settled) (log_events c.args.self.now.pending) (log_events c.settle.new.settled) c.args.self.now.certain c.args.self.now.none_pending c.settle.ensures.image c.settle.ensures.events

pub invariant_of-self-2-clause-pending_within : goal.invariant_of-self-2-clause-pending_within
invariant_of-self-2-clause-pending_within c = subst (λ (size : ℕ). list_all (is_within size) c.args.self.now.pending.steps.items ≡ true) (sym c.settle.ensures.size) c.args.self.now.pending_within

pub returns-clause-begun : goal.returns-clause-begun
returns-clause-begun c = rw (c.settle.ensures.events, length-events) (omega arith)
