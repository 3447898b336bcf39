use Rattle.std.specs.List.{list_all}
use Rattle.std.proofs.Common.{subst, ℕ, ◌≡◌, true, sym, ◌∙◌}
use Rattle.gp_disk.specs.History.{at_rest}
use Rattle.gp_disk.specs.Log.{log_events}
use Rattle.gp_disk.specs.Step.{is_within}
use Rattle.gp_disk.proofs.Contents.{struck-crashed, reads-none, traced-none, certain-none, none_pending-none}
use Rattle.gp_disk.proofs.Strikes.{left-crashed}
use Rattle.gp_disk.proofs.content.Content.crash.Goals as goal

pub invariant_of-self-clause-reads : goal.invariant_of-self-clause-reads
invariant_of-self-clause-reads c =
    reads-none c.copy_onto.new.image.items c.strike_on.new.image.items (log_events c.settle.new.settled) (log_events c.clear.new.self) (c.copy_onto.ensures ∙ c.deref.ensures.value) c.settle.ensures.events c.clear.ensures.events

pub invariant_of-self-clause-traced : goal.invariant_of-self-clause-traced
invariant_of-self-clause-traced c = traced-none (at_rest c.strike_on.new.image.items) (log_events c.settle.new.settled) (log_events c.clear.new.self) c.settle.ensures.events c.clear.ensures.events

pub invariant_of-self-clause-certain : goal.invariant_of-self-clause-certain
invariant_of-self-clause-certain c = certain-none c.strike_on.new.image.items (log_events c.settle.new.settled) c.settle.ensures.events

pub invariant_of-self-clause-none_pending : goal.invariant_of-self-clause-none_pending
invariant_of-self-clause-none_pending c = none_pending-none c.strike_on.new.image.items (log_events c.settle.new.settled) c.settle.ensures.events

pub returns-clause-image : goal.returns-clause-image
returns-clause-image c =
    struck-crashed c.args.way c.args.self.now.origin.items c.settle.new.origin.items c.copy_onto.new.image.items (log_events c.args.self.now.settled) c.args.self.now.pending.steps.items c.args.self.now.pending.octets.items c.args.self.now.certain c.args.self.now.none_pending c.args.self.now.writes c.settle.ensures.image (c.copy_onto.ensures ∙ c.deref.ensures.value ∙ c.strike_on.ensures.image)

pub returns-clause-left : goal.returns-clause-left
returns-clause-left c =
    left-crashed c.args.way c.args.self.now.origin.items c.settle.new.origin.items c.copy_onto.new.image.items (log_events c.args.self.now.settled) c.args.self.now.pending.steps.items c.args.self.now.pending.octets.items c.args.self.now.certain c.args.self.now.none_pending c.args.self.now.writes (subst (λ (size : ℕ). list_all (is_within size) c.args.self.now.pending.steps.items ≡ true) (sym c.settle.ensures.size) c.args.self.now.pending_within) c.settle.ensures.image (c.copy_onto.ensures ∙ c.deref.ensures.value ∙ c.strike_on.ensures.image)
