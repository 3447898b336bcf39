-- How a history lies in memory: a list of steps, and the octets of its writes one after the other. A reader needn't
-- believe this file: the clauses on the calls of a disk in memory pin what it gives.
use Rattle.std.specs.Prelude.{ℕ, ◌+◌, Bool, true, false, ◌&&◌, nat_le, List, [], ◌∷◌, take, drop}
use Rattle.gp_disk.specs.declared.log.Step.{Step}
use Rattle.gp_disk.specs.declared.log.Step.TheVariants.{Write, Zero, Sync}
use Rattle.gp_disk.specs.History.{Done, Wrote, Synced, written, zeroed}

-- how many octets these steps have
unfoldable pub octets_of : List Step → ℕ
octets_of [] = 0
octets_of (Write at count stored ∷ steps) = count + octets_of steps
octets_of (Zero at count stored ∷ steps) = octets_of steps
octets_of (Sync ∷ steps) = octets_of steps

unfoldable pub events : List Step → List ℕ → List Done
events [] octets = []
events (Write at count stored ∷ steps) octets = Wrote (written at (take count octets) stored) ∷ events steps (drop count octets)
events (Zero at count stored ∷ steps) octets = Wrote (zeroed at count stored) ∷ events steps octets
events (Sync ∷ steps) octets = Synced ∷ events steps octets

-- the step lies within a size, and stores no more than it has
abbrev pub is_within : ℕ → Step → Bool
is_within size (Write at count stored) = nat_le (at + count) size && nat_le stored count
is_within size (Zero at count stored) = nat_le (at + count) size && nat_le stored count
is_within size Sync = true

abbrev pub is_write : Step → Bool
is_write (Write at count stored) = true
is_write (Zero at count stored) = true
is_write Sync = false
