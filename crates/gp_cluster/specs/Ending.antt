-- Faults that the messages have in common, each a test with its reason.
use Rattle.std.specs.Prelude.{ℕ, ◌==◌, Bool, not, nat_lt, List, [], ◌∷◌, length}
use Rattle.gp_cluster.specs.declared.message.ClusterReason.{ClusterReason}
use Rattle.gp_cluster.specs.declared.message.ClusterReason.TheVariants.{Short, AppId, Trailing}
use Rattle.gp_cluster.specs.Options.{application_id}

-- the octets are fewer than so many
abbrev pub missing_line : ℕ → List ℕ → Bool × ClusterReason
missing_line count octets = (nat_lt (length octets) count, Short (length octets))

-- the ApplicationID in the options, which stand at place 3, isn't 0
abbrev pub foreign_line : ℕ → Bool × ClusterReason
foreign_line options = (not (application_id options == 0), AppId 3)

-- the octets end before the last field does, or go on behind it
abbrev pub ending_lines : ℕ → List ℕ → List (Bool × ClusterReason)
ending_lines end octets = missing_line end octets ∷ (nat_lt end (length octets), Trailing end) ∷ []
