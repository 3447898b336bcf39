use Rattle.std.proofs.Common.{◌<◌, ◌≤◌, arith}
use Rattle.gp_net.proofs.Stepping.{same_steady}
use Rattle.gp_net.proofs.Asked.{asked-fits}
use Rattle.gp_net.proofs.world.World.step.Goals as goal

pub played-requires-clause-event : goal.played-requires-clause-event
played-requires-clause-event c = asked-fits c.args.event.now c.requires.event

pub played-requires-clause-ready : goal.played-requires-clause-ready
played-requires-clause-ready c = record {
  before = c.args.self.now.line;
  follows = omega (arith, c.requires.follows, c.in-Ok.ensures.line);
  within = omega (arith, c.requires.within, c.in-Ok.ensures.line);
  steady = same_steady c.args.self.now.net c.make_room.new.self c.args.self.now.line c.make_room.ensures.same c.args.self.now.steady;
  room = c.in-Ok-make_room.ensures.room;
  untold = c.in-Ok.ensures.empty;
  entries = omega (arith, c.room_for.ensures.some, c.in-Ok.ensures.room);
}

pub invariant_of-self-in-Err-played : goal.invariant_of-self-in-Err-played
invariant_of-self-in-Err-played c = record { steady = c.in-Err.ensures.few c.args.self.now.line (same_steady c.args.self.now.net c.make_room.new.self c.args.self.now.line c.make_room.ensures.same c.args.self.now.steady) }
