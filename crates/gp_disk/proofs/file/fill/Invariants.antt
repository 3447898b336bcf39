use Rattle.std.proofs.Common.{◌≤◌, ◌-◌, length}
use Rattle.gp_disk.proofs.file.fill.Given as goal

abbrev pub invariant-loop-place : goal.invariant-loop-place
invariant-loop-place g l = l.place ≤ length l.piece

abbrev pub decreases-loop-place : goal.decreases-loop-place
decreases-loop-place g l = length l.piece - l.place
