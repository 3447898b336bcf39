use Rattle.std.proofs.Common.{◌≡◌, ℕ, ◌<◌, ◌≤◌, length, get_or, bit_xor}
use Rattle.gp_ccm.proofs.octets.with_added.Given as goal

-- the octets before place i have been added
abbrev pub invariant-loop-i : goal.invariant-loop-i
invariant-loop-i l = record {
  block : length l.fn.block ≡ 16;
  whole : length l.sum ≡ 16;
  added : (k : ℕ) → k < l.i → get_or l.sum k 0 ≡ bit_xor (get_or l.fn.block k 0) (get_or l.octets k 0);
  kept : (k : ℕ) → l.i ≤ k → get_or l.sum k 0 ≡ get_or l.fn.block k 0;
}
