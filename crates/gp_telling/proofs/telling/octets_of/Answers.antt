use Rattle.std.proofs.Common.{◌%◌, arith}
use Rattle.gp_telling.proofs.telling.octets_of.Goals as goal

pub encode-requires : goal.encode-requires
encode-requires c = c.requires (c.args.number % 256) (omega arith)
