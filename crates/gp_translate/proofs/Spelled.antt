-- A command has an identifier.
use Rattle.std.proofs.Common.{◌<◌, length, arith}
use Rattle.gp_commands.specs.declared.command.GpdCommand.{GpdCommand}
use Rattle.gp_commands.specs.declared.command.GpdCommand.TheVariants.{Plain, Move, Step, Vector, Report, Commissioning, Reply, ChannelRequest, ChannelConfig, Other}
use Rattle.gp_commands.specs.Command.{spelling}

pub length_spelling : (c : GpdCommand) → 0 < length (spelling c)
unfolding spelling
length_spelling (Plain id rest) = omega arith
length_spelling (Move id rate rest) = omega arith
length_spelling (Step id size time rest) = omega arith
length_spelling (Vector id value rest) = omega arith
length_spelling (Report cluster records) = omega arith
length_spelling (Commissioning c) = omega arith
length_spelling (Reply r) = omega arith
length_spelling (ChannelRequest value rest) = omega arith
length_spelling (ChannelConfig value rest) = omega arith
length_spelling (Other id rest) = omega arith
