use Rattle.std.proofs.Common.{sym, ◌∙◌}
use Rattle.gp_pcap.proofs.Faults.{version_refused}
use Rattle.gp_pcap.proofs.numbers.judge_version.Goals as goal

pub returns-else-is_version : goal.returns-else-is_version
returns-else-is_version c = version_refused c.args.head.now c.requires.part c.requires.magic (sym c.is_version.ensures ∙ c.if-is_version.false)
