-- How a log keeps a history. A reader needn't believe this file: the clauses on the calls of a disk in memory pin what it
-- gives.
use Rattle.std.specs.Prelude.{List}
use Rattle.gp_disk.specs.declared.log.Log.{Log}
use Rattle.gp_disk.specs.History.{Done}
use Rattle.gp_disk.specs.Step.{events}

abbrev pub log_events : Log → List Done
log_events log = events log.steps.items log.octets.items
