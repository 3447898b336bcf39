use Rattle.std.proofs.Common.{◌≡◌, ◌-◌, take, map}
use Rattle.gp_disk.proofs.replay.complement.Given as goal

abbrev pub invariant-loop-i : goal.invariant-loop-i
invariant-loop-i l = take l.i l.old ≡ map (λ octet. 255 - octet) (take l.i l.octets)
