use Rattle.std.proofs.Common.{◌≡◌, take, map}
use Rattle.gp_translate.specs.Rules.{standard_rule}
use Rattle.gp_translate.proofs.rules.standard_rules.Given as goal

abbrev pub invariant-loop-command : goal.invariant-loop-command
invariant-loop-command l = l.rules.items ≡ map standard_rule (take l.command-index l.commands)
