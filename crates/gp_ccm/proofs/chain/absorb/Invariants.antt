use Rattle.std.proofs.Common.{◌≡◌, ◌+◌, length}
use Rattle.gp_ccm.specs.Blocks.{block_count, blocks_of}
use Rattle.gp_ccm.specs.Ccm.{chain}
use Rattle.gp_ccm.proofs.chain.absorb.Given as goal

-- the chain over what is left is the whole chain, and what is left takes the steps that are left
abbrev pub invariant-loop-rest : goal.invariant-loop-rest
invariant-loop-rest g l = record {
  value : chain l.schedule l.x (blocks_of l.rest) ≡ chain l.schedule l.fn.x (blocks_of l.octets);
  cost : l.steps + block_count (length l.rest) ≡ l.initial.steps + block_count (length l.octets);
}

abbrev pub decreases-loop-rest : goal.decreases-loop-rest
decreases-loop-rest g l = length l.rest
