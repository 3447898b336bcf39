use Rattle.gp_world.specs.Step.{acted_on}
use Rattle.gp_net.proofs.net.Net.happen.Goals as goal

pub returns-in-Press-clause-comes : goal.returns-in-Press-clause-comes
unfolding acted_on
returns-in-Press-clause-comes c = λ model h. rw c.in-Press.is (rw c.as_slice.ensures.value at c.press.ensures.comes model h)

pub returns-in-Table-clause-comes : goal.returns-in-Table-clause-comes
unfolding acted_on
returns-in-Table-clause-comes c = λ model h. rw c.in-Table.is (c.list.ensures.comes model h)
