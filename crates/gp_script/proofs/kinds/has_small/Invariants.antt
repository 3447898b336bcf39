use Rattle.std.proofs.Common.{◌≡◌, drop}
use Rattle.gp_script.specs.Kinds as spec
use Rattle.gp_script.proofs.kinds.has_small.Given as goal

abbrev pub invariant-loop-letter : goal.invariant-loop-letter
invariant-loop-letter l = spec.has_small (drop l.letter-index l.word) ≡ spec.has_small l.word
