use Rattle.std.proofs.Common.{ℕ, subst}
use Rattle.gp_net.specs.declared.node.Kind.{Kind}
use Rattle.gp_net.specs.declared.reply.Switch.TheVariants as switches
use Rattle.gp_net.specs.Nodes.{IsKindOf}
use Rattle.gp_net.specs.Steady.{IsFewKind}
use Rattle.gp_net.proofs.Replying.{switches_make, armed_same, on_err}
use Rattle.gp_net.proofs.node.Node.switch_on.Goals as goal
use Rattle.gp_net.proofs.node.Node.switch_on.Goals.{in-On+in_ok-report-in-On, in-Flicker+in_ok-report-in-Flicker}

pub returns-in_err-report-in-On-clause-left : goal.returns-in_err-report-in-On-clause-left
returns-in_err-report-in-On-clause-left c = on_err c.from_residual.result _ (rw c.in-Sink.is (armed_same c.in-Sink.powered c.switch_on.new.self c.in_err-report-in-On.ensures.same))

pub returns-in_err-report-in-On-clause-few : goal.returns-in_err-report-in-On-clause-few
returns-in_err-report-in-On-clause-few c = λ most h. c.switch_on.ensures.few most (subst (λ (k : Kind). IsFewKind most k) c.in-Sink.is h)

pub returns-in_err-report-in-Flicker-clause-few : goal.returns-in_err-report-in-Flicker-clause-few
returns-in_err-report-in-Flicker-clause-few c = λ most h. c.flicker.ensures.few most (subst (λ (k : Kind). IsFewKind most k) c.in-Sink.is h)

pub returns-clause-made : goal.returns-clause-made
returns-clause-made c = elim c.match-switch.branch [
  | in-On+in_ok-report-in-On w ↦ λ model h.
      rw (w.in-On.is, w.self-is, w.report-is) (switches_make switches.On c.in-Sink.powered w.switch_on.new.self _ w.in_ok-report-in-On.ensures.comes model (subst (λ (k : Kind). IsKindOf k model) c.in-Sink.is h))
  | in-Flicker+in_ok-report-in-Flicker w ↦ λ model h.
      rw (w.in-Flicker.is, w.self-is, w.report-is) (switches_make (switches.Flicker w.in-Flicker.calls w.in-Flicker.way) c.in-Sink.powered w.flicker.new.self _ w.in_ok-report-in-Flicker.ensures.comes model (subst (λ (k : Kind). IsKindOf k model) c.in-Sink.is h))
]

pub returns-clause-few : goal.returns-clause-few
returns-clause-few c = elim c.match-switch.branch [
  | in-On+in_ok-report-in-On w ↦ λ most h. rw w.self-is (w.switch_on.ensures.few most (subst (λ (k : Kind). IsFewKind most k) c.in-Sink.is h))
  | in-Flicker+in_ok-report-in-Flicker w ↦ λ most h. rw w.self-is (w.flicker.ensures.few most (subst (λ (k : Kind). IsFewKind most k) c.in-Sink.is h))
]
