use Rattle.gp_app.proofs.Completeness.{format_completes}
use Rattle.gp_app.proofs.running.format_disk.Goals as goal

pub returns-clause-completes : goal.returns-clause-completes
returns-clause-completes g c = format_completes g.D.Disk c.formatted.result.0 _ _ c.formatted.ensures.formats
