use Rattle.std.proofs.Common.{arith}
use Rattle.gp_security.proofs.Opening.{answered, is_found, is_only, is_refused}
use Rattle.gp_security.proofs.Calls.{calls-bound}
use Rattle.gp_security.proofs.Carried.{carried-frame, carried-room, carried-secured}
use Rattle.gp_security.proofs.frame.unseal_frame.Goals as goal

pub open-requires-clause-room : goal.open-requires-clause-room
open-requires-clause-room g c = carried-room c.args.frame.now c.requires.carried c.requires.secured

pub returns-clause-value : goal.returns-clause-value
returns-clause-value g c = answered c.args.key.now.0 c.args.frame.now c.in-Some.mic c.open.result c.in-Some.is c.open.ensures.value

pub returns-clause-found : goal.returns-clause-found
returns-clause-found g c =
    is_found c.args.key.now.0 c.args.frame.now c.in-Some.mic c.open.result (carried-frame c.args.frame.now c.requires.carried) (carried-secured c.args.frame.now c.requires.secured) c.in-Some.is
    (answered c.args.key.now.0 c.args.frame.now c.in-Some.mic c.open.result c.in-Some.is c.open.ensures.value)

pub returns-clause-only : goal.returns-clause-only
returns-clause-only g c =
    is_only c.args.key.now.0 c.args.frame.now c.open.result
    (answered c.args.key.now.0 c.args.frame.now c.in-Some.mic c.open.result c.in-Some.is c.open.ensures.value)

pub returns-clause-refused : goal.returns-clause-refused
returns-clause-refused g c =
    is_refused c.args.key.now.0 c.args.frame.now c.open.result
    (answered c.args.key.now.0 c.args.frame.now c.in-Some.mic c.open.result c.in-Some.is c.open.ensures.value)

pub returns-clause-bound : goal.returns-clause-bound
returns-clause-bound g c = omega (arith, c.open.ensures.cost, calls-bound c.args.frame.now c.args.frame.now.body (carried-room c.args.frame.now c.requires.carried c.requires.secured))
