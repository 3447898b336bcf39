use Rattle.gp_script.proofs.ReportLaws.{read_spelled, read_only}
use Rattle.gp_script.proofs.report.read_entry.Goals as goal

pub returns-clause-spelled : goal.returns-clause-spelled
returns-clause-spelled c = read_spelled c.args.line.now c.read_line.result c.read_line.ensures

pub returns-clause-only : goal.returns-clause-only
returns-clause-only c = read_only c.args.line.now c.read_line.result c.read_line.ensures
