use Rattle.gp_security.proofs.Notices.{rebuilt-carried}
use Rattle.gp_security.proofs.notice.from_notice.Goals as goal

pub returns-clause-carried : goal.returns-clause-carried
returns-clause-carried c = rw c.rebuild.ensures (rebuilt-carried c.args.notice.now c.requires)
