use Rattle.std.proofs.Common.{◌≡◌, true, length, drop}
use Rattle.std.specs.List.{list_all}
use Rattle.gp_disk.specs.Crash.{struck}
use Rattle.gp_disk.specs.Redone.{ranges_of}
use Rattle.gp_disk.specs.Step.{octets_of, events, is_within}
use Rattle.gp_disk.proofs.replay.strike.Given as goal

abbrev pub invariant-loop-step : goal.invariant-loop-step
invariant-loop-step l = record {
  enough : octets_of (drop l.step-index l.step-items) ≡ length l.octets;
  within : list_all (is_within (length l.image)) (drop l.step-index l.step-items) ≡ true;
  done : struck l.way l.image (ranges_of (events (drop l.step-index l.step-items) l.octets)) ≡ struck l.way l.initial.image (ranges_of (events l.step-items l.initial.octets));
}
