use Rattle.gp_cluster.proofs.Spelling.{pairing_parts}
use Rattle.gp_cluster.proofs.pairing.add_pairing.Goals as goal

pub returns-clause-added : goal.returns-clause-added
returns-clause-added c = rw pairing_parts c.add_parts.ensures.added
