use Rattle.std.proofs.Common.{arith}
use Rattle.gp_listing.proofs.Bodies.{body_fits}
use Rattle.gp_listing.proofs.listing.push_air.Goals as goal

pub push_frame-requires-clause-body : goal.push_frame-requires-clause-body
push_frame-requires-clause-body c = omega (arith, body_fits c.in-Ok.mpdu c.args.octets.now c.in-Ok.ensures.found, c.open-told.ensures.size)
