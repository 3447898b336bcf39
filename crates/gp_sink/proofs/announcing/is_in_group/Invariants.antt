use Rattle.std.proofs.Common.{ℕ, ◌<◌}
use Rattle.gp_sink.specs.Announced.{IsMember}
use Rattle.gp_sink.proofs.announcing.is_in_group.Given as goal

abbrev pub invariant-loop-at : goal.invariant-loop-at
invariant-loop-at l = (k : ℕ) → k < l.at → IsMember l.table l.group k → ⊥
