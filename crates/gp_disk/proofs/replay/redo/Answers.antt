use Rattle.std.proofs.Common.{◌∙◌, arith, length-drop, length}
use Rattle.std.proofs.lemmas.Grind.{common_steps}
use Rattle.gp_disk.specs.declared.log.Step.TheVariants.{Write}
use Rattle.gp_disk.specs.Step.{is_within}
use Rattle.gp_disk.proofs.Replays.{redo_more, octets_of-first, list_all-first, redo_all}
use Rattle.gp_disk.proofs.replay.redo.Goals as goal

pub redo_step-octets-requires-clause-enough : goal.redo_step-octets-requires-clause-enough
redo_step-octets-requires-clause-enough c =
    omega (arith, octets_of-first c.deref-step-items.result.now c.loop-step.step-index (Write 0 0 0) c.loop-step-test.true, c.loop-step.invariant.enough)

pub loop-step-preserved : goal.loop-step-preserved
loop-step-preserved c = record {
  enough = rw (c.redo_step-octets.ensures.rest, length-drop) (omega (arith, octets_of-first c.deref-step-items.result.now c.loop-step.step-index (Write 0 0 0) c.loop-step-test.true, c.loop-step.invariant.enough));
  within = grind (arith, common_steps, list_all-first (is_within (length c.loop-step.image)) c.deref-step-items.result.now c.loop-step.step-index (Write 0 0 0) c.loop-step-test.true, c.loop-step.invariant.within);
  done = redo_more c.deref-step-items.result.now c.loop-step.step-index (Write 0 0 0) c.loop-step.octets.now c.redo_step-octets.result.now c.loop-step.image c.redo_step-octets.new.image c.loop-step-test.true c.redo_step-octets.ensures.image c.redo_step-octets.ensures.rest ∙ c.loop-step.invariant.done;
}

pub returns : goal.returns
returns c = cc (redo_all c.deref-step-items.result.now c.loop-step.step-index c.loop-step.octets.now c.loop-step.image c.loop-step-test.false, c.loop-step.invariant.done)
