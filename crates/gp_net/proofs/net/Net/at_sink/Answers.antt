use Rattle.gp_world.specs.Step.{acted_on, reaches}
use Rattle.gp_net.proofs.Asked.{only_these}
use Rattle.gp_net.proofs.net.Net.at_sink.Goals as goal

pub unreachable-requires : goal.unreachable-requires
unreachable-requires c =
    only_these c.args.action.now c.requires.kind (λ a b d e f g h. c.in_default.not-Pair a b d e f g h) (λ a b d e f. c.in_default.not-Rule a b d e f) (λ a b. c.in_default.not-Announce a b)
    (λ a b d e. c.in_default.not-Cut a b d e) (λ a b d. c.in_default.not-Fault a b d) (λ a. c.in_default.not-Off a)

pub returns-in-Pair-clause-comes : goal.returns-in-Pair-clause-comes
unfolding acted_on reaches
returns-in-Pair-clause-comes c = λ model h. rw c.in-Pair.is (rw c.offer_of-offer.ensures at c.ask.ensures.comes model h)

pub returns-in-Rule-clause-comes : goal.returns-in-Rule-clause-comes
unfolding acted_on reaches
returns-in-Rule-clause-comes c = λ model h. rw c.in-Rule.is (rw c.rule_of-rule.ensures at c.ask-in-Rule.ensures.comes model h)

pub returns-in-Announce-clause-comes : goal.returns-in-Announce-clause-comes
unfolding acted_on reaches
returns-in-Announce-clause-comes c = λ model h. rw c.in-Announce.is (c.ask-in-Announce.ensures.comes model h)

pub returns-in-Cut-clause-comes : goal.returns-in-Cut-clause-comes
unfolding acted_on reaches
returns-in-Cut-clause-comes c = λ model h. rw c.in-Cut.is (c.ask-in-Cut.ensures.comes model h)

pub returns-in-Fault-clause-comes : goal.returns-in-Fault-clause-comes
unfolding acted_on reaches
returns-in-Fault-clause-comes c = λ model h. rw c.in-Fault.is (c.ask-in-Fault.ensures.comes model h)

pub returns-in-Off-clause-comes : goal.returns-in-Off-clause-comes
unfolding acted_on reaches
returns-in-Off-clause-comes c = λ model h. rw c.in-Off.is (c.ask-in-Off.ensures.comes model h)
