use Rattle.std.proofs.Common.{◌≡◌, true, length, drop}
use Rattle.std.specs.List.{list_all}
use Rattle.gp_disk.specs.Redone.{redone}
use Rattle.gp_disk.specs.Step.{octets_of, events, is_within}
use Rattle.gp_disk.proofs.replay.redo.Given as goal

abbrev pub invariant-loop-step : goal.invariant-loop-step
invariant-loop-step l = record {
  enough : octets_of (drop l.step-index l.step-items) ≡ length l.octets;
  within : list_all (is_within (length l.image)) (drop l.step-index l.step-items) ≡ true;
  done : redone l.image (events (drop l.step-index l.step-items) l.octets) ≡ redone l.initial.image (events l.step-items l.initial.octets);
}
