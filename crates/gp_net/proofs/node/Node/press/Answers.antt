use Rattle.std.proofs.Common.{subst}
use Rattle.gp_net.specs.declared.node.Kind.{Kind}
use Rattle.gp_net.specs.Nodes.{IsKindOf}
use Rattle.gp_net.proofs.Pressing.{presses_make}
use Rattle.gp_net.proofs.node.Node.press.Goals as goal

pub returns-clause-made : goal.returns-clause-made
returns-clause-made c = λ model h.
    presses_make c.args.command.now c.in-Device.device c.press.new.self c.press.result c.press.ensures.none c.press.ensures.sends c.press.ensures.counts model (subst (λ (k : Kind). IsKindOf k model) c.in-Device.is h)
