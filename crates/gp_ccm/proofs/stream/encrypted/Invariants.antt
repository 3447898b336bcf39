use Rattle.std.proofs.Common.{◌≡◌, ◌+◌, ◌≤◌, ◌++◌, length}
use Rattle.gp_ccm.specs.Blocks.{block_count, xor_octets}
use Rattle.gp_ccm.specs.Ccm.{encrypted, key_stream}
use Rattle.gp_ccm.proofs.stream.encrypted.Given as goal

-- what stands, and what is left against the rest of the key stream, is the whole
abbrev pub invariant-loop-rest : goal.invariant-loop-rest
invariant-loop-rest g l = record {
  value : l.out ++ xor_octets l.rest (key_stream l.schedule l.nonce l.i (block_count (length l.rest)))
      ≡ encrypted l.schedule l.nonce l.message;
  cost : l.steps + block_count (length l.rest) ≡ l.initial.steps + block_count (length l.message);
  size : length l.out + length l.rest ≡ length l.message;
  count : l.i + length l.rest ≤ 128;
}

abbrev pub decreases-loop-rest : goal.decreases-loop-rest
decreases-loop-rest g l = length l.rest
