use Rattle.gp_commands.proofs.Spelling.{reply_parts}
use Rattle.gp_commands.proofs.reply.add_reply.Goals as goal

pub returns-clause-added : goal.returns-clause-added
returns-clause-added c = rw reply_parts c.add_parts.ensures.added
