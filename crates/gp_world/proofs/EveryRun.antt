-- Every run has the properties.
use Rattle.std.proofs.Common.{List}
use Rattle.gp_world.specs.Properties.{HasProperties}
use Rattle.gp_world.specs.Run.{Moment, Run}
use Rattle.gp_world.proofs.Airing.{run-exact, run-verified}
use Rattle.gp_world.proofs.Keeping.{run-kept}
use Rattle.gp_world.proofs.Running.{run-rises, run-once}

pub every_run : (moments : List Moment) → Run moments → HasProperties moments
every_run moments run = record {
  rising = run-rises moments run;
  once = run-once moments run;
  exact = run-exact moments run;
  verified = run-verified moments run;
  kept = run-kept moments run;
}
