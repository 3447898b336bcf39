-- Places of fields.
use Rattle.std.proofs.Common.{ℕ, ◌≤◌, arith}
use Rattle.gp_cluster.specs.Pairing.{extras_end}

pub extras_end_above : (options : ℕ) (place : ℕ) → place ≤ extras_end options place
unfolding extras_end
extras_end_above options place = omega arith
