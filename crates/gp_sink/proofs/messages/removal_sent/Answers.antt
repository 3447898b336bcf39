use Rattle.std.proofs.Common.{sym, subst}
use Rattle.gp_sink.specs.Sink.{IsMessage}
use Rattle.gp_sink.proofs.Sendable.{removal-message}
use Rattle.gp_sink.proofs.messages.removal_sent.Goals as goal

pub returns-clause-message : goal.returns-clause-message
returns-clause-message c = subst IsMessage (sym c.removal_of.ensures.value) (removal-message c.args.source c.removal_of.ensures.wide)
