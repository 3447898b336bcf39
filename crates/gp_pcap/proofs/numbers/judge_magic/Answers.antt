use Rattle.std.proofs.Common.{sym, ◌∙◌}
use Rattle.gp_pcap.proofs.Faults.{magic_refused}
use Rattle.gp_pcap.proofs.numbers.judge_magic.Goals as goal

pub returns-else-is_magic : goal.returns-else-is_magic
returns-else-is_magic c = magic_refused c.args.head.now c.requires (sym c.is_magic.ensures ∙ c.if-is_magic.false)
