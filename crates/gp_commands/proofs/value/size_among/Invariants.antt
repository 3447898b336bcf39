use Rattle.std.proofs.Common.{◌≡◌, drop}
use Rattle.gp_commands.specs.Values.{size_in}
use Rattle.gp_commands.proofs.value.size_among.Given as goal

abbrev pub invariant-loop-line : goal.invariant-loop-line
invariant-loop-line l = size_in (drop l.line-index l.lines) l.kind l.first ≡ size_in l.lines l.kind l.first
