use Rattle.std.proofs.Common.{◌∙◌, arith, length-drop, length}
use Rattle.std.proofs.lemmas.Grind.{common_steps}
use Rattle.gp_disk.specs.declared.log.Step.TheVariants.{Write}
use Rattle.gp_disk.specs.Step.{is_within}
use Rattle.gp_disk.proofs.Replays.{strike_more, octets_of-first, list_all-first, strike_all}
use Rattle.gp_disk.proofs.replay.strike.Goals as goal

pub strike_step-octets-requires-clause-enough : goal.strike_step-octets-requires-clause-enough
strike_step-octets-requires-clause-enough c =
    omega (arith, octets_of-first c.deref-step-items.result.now c.loop-step.step-index (Write 0 0 0) c.loop-step-test.true, c.loop-step.invariant.enough)

pub loop-step-preserved : goal.loop-step-preserved
loop-step-preserved c = record {
  enough = rw (c.strike_step-octets.ensures.rest, length-drop) (omega (arith, octets_of-first c.deref-step-items.result.now c.loop-step.step-index (Write 0 0 0) c.loop-step-test.true, c.loop-step.invariant.enough));
  within = grind (arith, common_steps, list_all-first (is_within (length c.loop-step.image)) c.deref-step-items.result.now c.loop-step.step-index (Write 0 0 0) c.loop-step-test.true, c.loop-step.invariant.within);
  done = strike_more c.args.way c.deref-step-items.result.now c.loop-step.step-index (Write 0 0 0) c.loop-step.octets.now c.strike_step-octets.result.now c.loop-step.image c.strike_step-octets.new.image c.loop-step-test.true c.strike_step-octets.ensures.image c.strike_step-octets.ensures.rest ∙ c.loop-step.invariant.done;
}

pub returns : goal.returns
returns c = cc (strike_all c.args.way c.deref-step-items.result.now c.loop-step.step-index c.loop-step.octets.now c.loop-step.image c.loop-step-test.false, c.loop-step.invariant.done)
