use Rattle.std.proofs.Common.{refl}
use Rattle.gp_frames.specs.Frame.{header}
use Rattle.gp_security_tests.proofs.tests.head.Goals as goal

pub returns-clause-size : goal.returns-clause-size
unfolding header
returns-clause-size c = refl
