use Rattle.std.proofs.Common.{arith}
use Rattle.gp_security.proofs.Calls.{longest_two}
use Rattle.gp_security_tests.proofs.tests.longest_at_two.Goals as goal

pub returns : goal.returns
returns g c = omega (arith, c.seal_frame.ensures.cost, longest_two c.head.result.frame c.args.command.now c.head.ensures.level c.head.ensures.size c.requires)
