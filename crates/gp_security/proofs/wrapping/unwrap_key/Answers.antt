use Rattle.gp_security.proofs.Keys.{is_only}
use Rattle.gp_security.proofs.wrapping.unwrap_key.Goals as goal

pub returns-clause-only : goal.returns-clause-only
returns-clause-only g c = is_only c.args.link.now.0 c.args.source.0 c.args.way _ c.unwrap.result c.unwrap.ensures.found
