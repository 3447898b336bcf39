use Rattle.gp_commands.proofs.Spelling.{commissioning_parts}
use Rattle.gp_commands.proofs.commissioning.add_commissioning.Goals as goal

pub returns-clause-added : goal.returns-clause-added
returns-clause-added c = rw commissioning_parts c.add_parts.ensures.added
