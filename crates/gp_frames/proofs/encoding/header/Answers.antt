use Rattle.std.proofs.Common.{arith}
use Rattle.gp_frames.proofs.Headers.{header-length}
use Rattle.gp_frames.proofs.encoding.header.Goals as goal

pub unreachable-requires : goal.unreachable-requires
unreachable-requires c = omega (arith, header-length c.args.frame.now, c.in-Err.ensures)

pub returns-clause-size : goal.returns-clause-size
returns-clause-size c = rw c.in-Ok.ensures (header-length c.args.frame.now)
