use Rattle.gp_pcap.proofs.Unique.{only_end}
use Rattle.gp_pcap.proofs.pcap.Pcap.end.Goals as goal

pub returns-clause-only : goal.returns-clause-only
returns-clause-only c = only_end c.args.self.now c.ending.result c.ending.ensures
