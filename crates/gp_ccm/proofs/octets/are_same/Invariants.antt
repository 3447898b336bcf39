use Rattle.std.proofs.Common.{◌≡◌, ℕ, ◌<◌, get_or}
use Rattle.gp_ccm.proofs.octets.are_same.Given as goal

-- no difference so far exactly where the octets before place i are equal
abbrev pub invariant-loop-i : goal.invariant-loop-i
invariant-loop-i l = record {
  same : l.difference ≡ 0 → (k : ℕ) → k < l.i → get_or l.left k 0 ≡ get_or l.right k 0;
  none : ((k : ℕ) → k < l.i → get_or l.left k 0 ≡ get_or l.right k 0) → l.difference ≡ 0;
}
