-- Places of fields.
use Rattle.std.proofs.Common.{ℕ, ◌≤◌, List, arith}
use Rattle.gp_commands.specs.Application.{application_end}

pub application_end_above : (options : ℕ) (b : List ℕ) (place : ℕ) → place ≤ application_end options b place
unfolding application_end
application_end_above options b place = omega arith
