use Rattle.gp_commands.proofs.Entries.{GoesOn-start, GoesOn-next, GoesOn-err, GoesOn-end}
use Rattle.gp_commands.proofs.report.first_bad_entry.Goals as goal

pub loop-place-init : goal.loop-place-init
loop-place-init c = GoesOn-start _ _ c.requires.within

pub loop-place-preserved : goal.loop-place-preserved
loop-place-preserved c = GoesOn-next _ _ _ _ c.loop-place.invariant c.loop-place-test.true c.in-Ok.ensures

pub returns-in-Err : goal.returns-in-Err
returns-in-Err c = GoesOn-err _ _ _ _ c.loop-place.invariant c.loop-place-test.true c.in-Err.ensures

pub returns : goal.returns
returns c = GoesOn-end _ _ _ c.loop-place.invariant c.loop-place-test.false
