use Rattle.gp_lines.specs.Work as work
use Rattle.gp_lines.proofs.Meanings.{Leaves-as}
use Rattle.gp_net.specs.declared.world.World.{World}
use Rattle.gp_net.specs.World.{Stands, bits_of}
use Rattle.gp_simulation.specs.declared.simulation.Simulation.{Simulation}
use Rattle.gp_simulation.specs.Playing.{Plays, StopsAt}
use Rattle.gp_simulation.proofs.Plays.{goes, stops, plays, stops_at}
use Rattle.gp_simulation.proofs.running.play_lines.Goals as goal

abbrev world_of : Simulation → World
world_of simulation = simulation.world

pub returns-clause-leaves : goal.returns-clause-leaves
returns-clause-leaves g c =
    let start : Simulation = record { alloc = c.args.alloc; world = c.new.result } in
    let new = c.run_lines-status.new.work in
    let empty = c.new.ensures.stands in
    let no_bits = c.new.ensures.bits in
    Leaves-as world_of (work.Chain (goes world_of Stands bits_of) start 1) (Plays Stands bits_of) (work.Halts (goes world_of Stands bits_of) (stops world_of Stands bits_of) start) (StopsAt Stands bits_of) 0 new
    (λ script text s. plays world_of Stands bits_of start empty no_bits script text s) (λ script text line halt. stops_at world_of Stands bits_of start empty no_bits script text line halt new)
    _ _ _ _ _ c.run_lines-status.ensures.leaves
