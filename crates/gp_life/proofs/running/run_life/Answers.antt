use Rattle.std.proofs.Common.{refl}
use Rattle.gp_lines.specs.Work as work
use Rattle.gp_lines.proofs.Meanings.{Leaves-as}
use Rattle.gp_life.specs.declared.stage.Living.{Living}
use Rattle.gp_life.specs.declared.stage.Stage.{Stage}
use Rattle.gp_life.specs.declared.stage.Stage.TheVariants.{Waiting}
use Rattle.gp_life.specs.Living.{Lives, StopsAt}
use Rattle.gp_life.specs.Stages.{IsThere, disk_in}
use Rattle.gp_life.proofs.Closing.{whatever}
use Rattle.gp_life.proofs.Lasting.{goes, stops, lives, stops_at, there, stopped_there}
use Rattle.gp_life.proofs.running.run_life.Goals as goal

abbrev stage_of : {D : Type 0} → Living D → Stage D
stage_of living = living.stage

pub disk_of-requires : goal.disk_of-requires
disk_of-requires g c =
    let of = g.D.Disk in
    let disk = c.args.disk in
    let start : Living _ = record { alloc = c.args.alloc; stage = Waiting disk } in
    let new = c.run_lines-status.new.work in
    whatever (work.Chain (goes of disk stage_of) start 1) (work.Halts (goes of disk stage_of) (stops of disk stage_of) start) (λ s. IsThere (stage_of s)) (there of disk stage_of start refl)
    new (λ script text line halt h. stopped_there of disk stage_of start script text line halt new h) _ _ _ _ _ c.run_lines-status.ensures.leaves

pub returns-clause-leaves : goal.returns-clause-leaves
returns-clause-leaves g c =
    let of = g.D.Disk in
    let disk = c.args.disk in
    let start : Living _ = record { alloc = c.args.alloc; stage = Waiting disk } in
    let new = c.run_lines-status.new.work in
    rw (c.disk_of.ensures disk) (Leaves-as (λ (s : Living _). disk_in disk (stage_of s)) (work.Chain (goes of disk stage_of) start 1) (Lives of disk) (work.Halts (goes of disk stage_of) (stops of disk stage_of) start) (StopsAt of disk) 0 new
    (λ script text s. lives of disk stage_of start refl script text s) (λ script text line halt. stops_at of disk stage_of start refl script text line halt new)
    _ _ _ _ _ c.run_lines-status.ensures.leaves)
