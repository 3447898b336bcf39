use Rattle.std.proofs.Common.{◌≡◌, ℕ, ◌<◌, length, [], slice_index_or}
use Rattle.gp_aes.specs.Columns.{octets_of}
use Rattle.gp_aes.specs.KeyExpansion.{round_key}
use Rattle.gp_aes.proofs.schedule.Schedule.new.Given as goal

abbrev pub invariant-loop-j : goal.invariant-loop-j
invariant-loop-j l = (length l.keys ≡ 11) × ((i : ℕ) → i < l.j → octets_of (slice_index_or l.keys i []) ≡ round_key l.key i)
