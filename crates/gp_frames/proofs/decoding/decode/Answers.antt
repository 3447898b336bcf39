use Rattle.std.proofs.Common.{arith}
use Rattle.gp_frames.proofs.DecodeClauses.{found, only, refused, reason_of}
use Rattle.gp_frames.proofs.decoding.decode.Goals as goal

pub returns-clause-found : goal.returns-clause-found
returns-clause-found c = found c.args.octets.now c.read.result (λ i. omega (arith, c.type_inv.octets i)) c.read.ensures.exact

pub returns-clause-only : goal.returns-clause-only
returns-clause-only c = only c.args.octets.now c.read.result c.read.ensures.exact

pub returns-clause-refused : goal.returns-clause-refused
returns-clause-refused c = refused c.args.octets.now c.read.result c.read.ensures.exact

pub returns-clause-reason : goal.returns-clause-reason
returns-clause-reason c = reason_of c.args.octets.now c.read.result c.read.ensures.exact
