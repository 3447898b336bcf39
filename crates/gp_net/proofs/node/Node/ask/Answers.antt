use Rattle.std.proofs.Common.{ℕ, ◌+◌, subst}
use Rattle.gp_net.specs.declared.node.Kind.{Kind}
use Rattle.gp_net.specs.Nodes.{IsKindOf}
use Rattle.gp_net.specs.Steady.{IsFewKind}
use Rattle.gp_net.proofs.Replying.{asks_make}
use Rattle.gp_net.proofs.node.Node.ask.Goals as goal

pub returns-clause-made : goal.returns-clause-made
returns-clause-made c = λ model h. asks_make c.args.request c.in-Sink.powered c.reply_to.new.powered _ _ _ c.reply_to.ensures.comes model (subst (λ (k : Kind). IsKindOf k model) c.in-Sink.is h)

pub returns-clause-few : goal.returns-clause-few
returns-clause-few c = λ most h. c.reply_to.ensures.few most (subst (λ (k : Kind). IsFewKind most k) c.in-Sink.is h)
