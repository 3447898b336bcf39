use Rattle.std.proofs.Common.{sym, subst}
use Rattle.gp_sink.specs.Sink.{IsMessage}
use Rattle.gp_sink.proofs.Sendable.{pairing-message}
use Rattle.gp_sink.proofs.messages.pairing_sent.Goals as goal

pub returns-clause-message : goal.returns-clause-message
returns-clause-message c = subst IsMessage (sym c.pairing_of.ensures.value) (pairing-message c.args.config.now c.args.values.now c.args.floor c.pairing_of.ensures.wide)
