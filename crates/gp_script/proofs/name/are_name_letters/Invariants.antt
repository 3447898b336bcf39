use Rattle.std.proofs.Common.{◌≡◌, drop}
use Rattle.gp_script.specs.Kinds as spec
use Rattle.gp_script.proofs.name.are_name_letters.Given as goal

abbrev pub invariant-loop-letter : goal.invariant-loop-letter
invariant-loop-letter l = spec.are_name_letters (drop l.letter-index l.letters) ≡ spec.are_name_letters l.letters
