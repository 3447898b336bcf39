use Rattle.gp_net.specs.World.{Stands, bits_of}
use Rattle.gp_simulation.proofs.Ends.{ends}
use Rattle.gp_simulation.proofs.running.simulate.Goals as goal

pub returns-clause-completes : goal.returns-clause-completes
returns-clause-completes g c = ends Stands bits_of c.play_lines.result.1 c.play_lines.result.0 _ _ _ _ _ _ _ _ c.play_lines.ensures.leaves c.play_lines.ensures.counts
