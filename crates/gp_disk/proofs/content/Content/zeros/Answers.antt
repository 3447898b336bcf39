use Rattle.std.proofs.Common.{sym, ◌∙◌}
use Rattle.gp_disk.specs.History.{at_rest}
use Rattle.gp_disk.specs.Log.{log_events}
use Rattle.gp_disk.proofs.Contents.{reads-none, traced-none, certain-none, none_pending-none}
use Rattle.gp_disk.proofs.content.Content.zeros.Goals as goal

pub invariant_of-result-clause-reads : goal.invariant_of-result-clause-reads
invariant_of-result-clause-reads c =
    reads-none c.in_ok-image.image.items c.in_ok-origin.origin.items (log_events c.in_ok-settled.settled) (log_events c.in_ok-pending.pending) (c.in_ok-image.ensures ∙ sym c.in_ok-origin.ensures) c.in_ok-settled.ensures.events c.in_ok-pending.ensures.events

pub invariant_of-result-clause-traced : goal.invariant_of-result-clause-traced
invariant_of-result-clause-traced c = traced-none (at_rest c.in_ok-origin.origin.items) (log_events c.in_ok-settled.settled) (log_events c.in_ok-pending.pending) c.in_ok-settled.ensures.events c.in_ok-pending.ensures.events

pub invariant_of-result-clause-certain : goal.invariant_of-result-clause-certain
invariant_of-result-clause-certain c = certain-none c.in_ok-origin.origin.items (log_events c.in_ok-settled.settled) c.in_ok-settled.ensures.events

pub invariant_of-result-clause-none_pending : goal.invariant_of-result-clause-none_pending
invariant_of-result-clause-none_pending c = none_pending-none c.in_ok-origin.origin.items (log_events c.in_ok-settled.settled) c.in_ok-settled.ensures.events
