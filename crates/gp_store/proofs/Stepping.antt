-- A stable write as a step of a run of calls.
use Rattle.std.proofs.Common.{ℕ, ◌+◌, ◌≤◌, List, Result}
use Rattle.gp_disk.specs.Disk.{Moment}
use Rattle.gp_disk.specs.Durable.{MakesCertain}
use Rattle.gp_store.specs.Writes.{Steps}
use Rattle.gp_store.proofs.Counts.{stable_alone, stable_few}

pub stable_steps : {T E : Type 0} (at count : ℕ) (octets : List ℕ) (counted : ℕ) (r : Result T E) (old new : Moment) → MakesCertain at count octets counted r old new → old.tally.writes + 2 ≤ 16 → Steps 2 r old new
stable_steps at count octets counted r old new is few = record {
  quiet = is.quiet;
  told = is.told;
  run = is.run;
  good = is.call.good;
  failed = is.call.failed;
  alone = stable_alone counted old.tally new.tally r is.tally is.tally_failed few;
  few = stable_few counted old.tally new.tally r is.tally is.tally_failed;
}
