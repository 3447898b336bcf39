use Rattle.std.proofs.Common.{◌≡◌, ◌≤◌, ◌+◌, ◌++◌, Some, length, drop}
use Rattle.gp_translate.specs.Acts.{identifier, acts_of}
use Rattle.gp_translate.specs.Rules.{how_many}
use Rattle.gp_translate.proofs.translation.acts_among.Given as goal

-- the acts so far and those of the rules that are left are all of them, and there is room for those
abbrev pub invariant-loop-rule : goal.invariant-loop-rule
invariant-loop-rule l = record {
  told : l.acts ++ acts_of (drop l.rule-index l.rules) l.source l.command ≡ acts_of l.rules l.source l.command;
  room : length l.acts + how_many (Some l.source) (identifier l.command) (drop l.rule-index l.rules) ≤ 4;
}
