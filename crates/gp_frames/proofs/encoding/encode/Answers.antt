use Rattle.std.proofs.Common.{arith}
use Rattle.gp_frames.proofs.Validity.{valid_back, encoded}
use Rattle.gp_frames.proofs.encoding.encode.Goals as goal

pub unreachable-requires : goal.unreachable-requires
unreachable-requires c = let back = valid_back c.args.mpdu.now c.requires in omega (arith, back.1, c.in-Err.ensures.octets)

pub returns : goal.returns
returns c = encoded c.args.mpdu.now c.in-Ok.octets c.requires c.in-Ok.ensures.octets
