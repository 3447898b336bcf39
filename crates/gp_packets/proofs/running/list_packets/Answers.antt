use Rattle.gp_packets.proofs.Endings.{completes}
use Rattle.gp_packets.proofs.running.list_packets.Goals as goal

pub returns-clause-completes : goal.returns-clause-completes
returns-clause-completes g c = completes c.args.key c.list_all.result _ _ _ _ _ _ _ _ c.list_all.ensures.leaves c.list_all.ensures.counts
