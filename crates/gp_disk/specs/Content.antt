-- How a disk in memory keeps its past, and how much of its room is used. A reader needn't believe this file: the clauses
-- on the calls of a disk in memory pin what it gives.
use Rattle.std.specs.Prelude.{ℕ, ◌++◌, length}
use Rattle.gp_disk.specs.declared.content.Content.{Content}
use Rattle.gp_disk.specs.History.{Past}
use Rattle.gp_disk.specs.Log.{log_events}

abbrev pub past_of : Content → Past
past_of content = record { origin = content.origin.items; history = log_events content.settled ++ log_events content.pending; begun = content.begun }

-- how many steps and octets stand in the two logs
pub record Used : Type 0 where
  pub settled_steps : ℕ
  pub settled_octets : ℕ
  pub steps : ℕ
  pub octets : ℕ

abbrev pub used_of : Content → Used
used_of content = record { settled_steps = length content.settled.steps.items; settled_octets = length content.settled.octets.items; steps = length content.pending.steps.items; octets = length content.pending.octets.items }
