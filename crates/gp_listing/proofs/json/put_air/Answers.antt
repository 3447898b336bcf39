use Rattle.std.proofs.Common.{arith}
use Rattle.gp_listing.proofs.Bodies.{body_fits}
use Rattle.gp_listing.proofs.json.put_air.Goals as goal

pub put_frame-requires-clause-body : goal.put_frame-requires-clause-body
put_frame-requires-clause-body c = omega (arith, body_fits c.in-Ok.mpdu c.args.octets.now c.in-Ok.ensures.found, c.open-told.ensures.size)
