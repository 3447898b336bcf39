use Rattle.std.proofs.Common.{◌≡◌, ◌++◌, take}
use Rattle.gp_ccm.specs.Blocks.{xor_octets}
use Rattle.gp_ccm.proofs.octets.append_sum.Given as goal

-- the sums of the octets before place i stand behind the list
abbrev pub invariant-loop-i : goal.invariant-loop-i
invariant-loop-i l = l.out ≡ l.initial.out ++ xor_octets (take l.i l.octets) l.block
