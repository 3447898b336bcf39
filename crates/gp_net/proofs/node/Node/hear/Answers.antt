use Rattle.std.proofs.Common.{ℕ, ◌+◌, ap, ◌≡◌, sym, ◌∙◌, List, subst}
use Rattle.gp_net.specs.declared.node.Kind.{Kind}
use Rattle.gp_net.specs.Nodes.{IsKindOf}
use Rattle.gp_net.specs.Steady.{IsFewKind}
use Rattle.gp_net.proofs.Replying.{hears_make, closes, reply-says, reply-puts}
use Rattle.gp_net.proofs.node.Node.hear.Goals as goal

pub returns-in-Device-clause-made : goal.returns-in-Device-clause-made
returns-in-Device-clause-made c = λ model h. rw c.in-Device.is (closes c.args.octets.now c.in-Device.field-0 model (subst (λ (k : Kind). IsKindOf k model) c.in-Device.is h))

pub returns-in-Sink-clause-made : goal.returns-in-Sink-clause-made
returns-in-Sink-clause-made c = λ model h.
    rw (c.replied.ensures, reply-says c.hear-answer.result.0, reply-puts c.hear-answer.result.0)
    (hears_make c.args.octets.now c.in-Sink.powered c.hear-answer.new.self _ _ c.hear-answer.result.1 c.hear-answer.ensures.comes model (subst (λ (k : Kind). IsKindOf k model) c.in-Sink.is h))

pub returns-in-Sink-clause-few : goal.returns-in-Sink-clause-few
returns-in-Sink-clause-few c = λ most h. c.hear-answer.ensures.few most (subst (λ (k : Kind). IsFewKind most k) c.in-Sink.is h)
