use Rattle.std.proofs.Common.{◌++◌, length, refl}
use Rattle.gp_disk.specs.declared.log.Step.TheVariants.{Sync}
use Rattle.gp_disk.specs.History.{at_rest}
use Rattle.gp_disk.specs.Log.{log_events}
use Rattle.gp_disk.specs.Step.{is_within}
use Rattle.gp_disk.proofs.Contents.{settled-synced, history-synced, certain-synced, none_pending-synced, reads-synced, list_all-push, list_all-both}
use Rattle.gp_disk.proofs.content.Content.sync.Goals as goal
use Rattle.gp_disk.proofs.Histories.{AllTraced-synced}

pub invariant_of-self-clause-reads : goal.invariant_of-self-clause-reads
invariant_of-self-clause-reads c =
    let history = history-synced (log_events c.args.self.now.settled) (log_events c.args.self.now.pending) (log_events c.add_all.new.self) (log_events c.add_sync.new.self) (log_events c.clear.new.self) c.add_all.ensures.events c.add_sync.ensures.events c.clear.ensures.events in
    rw (history, reads-synced) c.args.self.now.reads

pub invariant_of-self-clause-traced : goal.invariant_of-self-clause-traced
invariant_of-self-clause-traced c =
    let history = history-synced (log_events c.args.self.now.settled) (log_events c.args.self.now.pending) (log_events c.add_all.new.self) (log_events c.add_sync.new.self) (log_events c.clear.new.self) c.add_all.ensures.events c.add_sync.ensures.events c.clear.ensures.events in
    rw history (AllTraced-synced (at_rest c.args.self.now.origin.items) (log_events c.args.self.now.settled ++ log_events c.args.self.now.pending) c.args.self.now.traced)

pub invariant_of-self-clause-certain : goal.invariant_of-self-clause-certain
invariant_of-self-clause-certain c =
    let settled = settled-synced (log_events c.args.self.now.settled) (log_events c.args.self.now.pending) (log_events c.add_all.new.self) (log_events c.add_sync.new.self) c.add_all.ensures.events c.add_sync.ensures.events in
    rw settled (certain-synced (at_rest c.args.self.now.origin.items) (log_events c.args.self.now.settled ++ log_events c.args.self.now.pending))

pub invariant_of-self-clause-none_pending : goal.invariant_of-self-clause-none_pending
invariant_of-self-clause-none_pending c =
    let settled = settled-synced (log_events c.args.self.now.settled) (log_events c.args.self.now.pending) (log_events c.add_all.new.self) (log_events c.add_sync.new.self) c.add_all.ensures.events c.add_sync.ensures.events in
    rw settled (none_pending-synced (at_rest c.args.self.now.origin.items) (log_events c.args.self.now.settled ++ log_events c.args.self.now.pending))

pub invariant_of-self-clause-settled_within : goal.invariant_of-self-clause-settled_within
invariant_of-self-clause-settled_within c =
    let within = is_within (length c.args.self.now.origin.items) in
    list_all-push within c.add_all.new.self.steps.items c.add_sync.new.self.steps.items Sync c.add_sync.ensures.steps (list_all-both within c.args.self.now.settled.steps.items c.args.self.now.pending.steps.items c.add_all.new.self.steps.items c.add_all.ensures.steps c.args.self.now.settled_within c.args.self.now.pending_within) refl

pub returns-clause-past : goal.returns-clause-past
returns-clause-past c =
    let history = history-synced (log_events c.args.self.now.settled) (log_events c.args.self.now.pending) (log_events c.add_all.new.self) (log_events c.add_sync.new.self) (log_events c.clear.new.self) c.add_all.ensures.events c.add_sync.ensures.events c.clear.ensures.events in
    cc
