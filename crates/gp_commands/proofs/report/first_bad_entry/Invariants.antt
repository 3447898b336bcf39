use Rattle.std.proofs.Common.{◌-◌, length}
use Rattle.gp_commands.proofs.Entries.{GoesOn}
use Rattle.gp_commands.proofs.report.first_bad_entry.Given as goal

abbrev pub invariant-loop-place : goal.invariant-loop-place
invariant-loop-place l = GoesOn l.octets l.initial.place l.place

abbrev pub decreases-loop-place : goal.decreases-loop-place
decreases-loop-place l = length l.octets - l.place
