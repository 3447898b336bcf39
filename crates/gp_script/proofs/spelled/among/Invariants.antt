use Rattle.std.proofs.Common.{◌≡◌, drop}
use Rattle.gp_script.specs.Kinds.{among_in}
use Rattle.gp_script.proofs.spelled.among.Given as goal

abbrev pub invariant-loop-value : goal.invariant-loop-value
invariant-loop-value g l = among_in (drop l.value-index l.values) g.T.Spelled.spelling l.word ≡ among_in l.values g.T.Spelled.spelling l.word
