use Rattle.std.proofs.Common.{arith}
use Rattle.std.proofs.lemmas.Grind.{common_steps}
use Rattle.gp_disk.proofs.Replays.{map-replicate}
use Rattle.gp_disk.proofs.replay.strike_zeros.Goals as goal

pub returns-in-4 : goal.returns-in-4
returns-in-4 c = grind (arith, common_steps, map-replicate)
