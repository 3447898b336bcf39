use Rattle.std.proofs.Common.{replicate}
use Rattle.gp_disk.specs.Content.{past_of}
use Rattle.gp_disk.proofs.Pasts.{held-none, same-none}
use Rattle.gp_disk.proofs.memory.MemoryDisk.new.Goals as goal

pub returns-clause-held : goal.returns-clause-held
returns-clause-held c = held-none (past_of c.in-Ok.content) (replicate c.args.size 0) c.in-Ok.ensures.past

pub returns-clause-since : goal.returns-clause-since
returns-clause-since c = same-none (past_of c.in-Ok.content) (replicate c.args.size 0) c.in-Ok.ensures.past
