use Rattle.gp_power.proofs.Quiet.{shows_on, shows_off}
use Rattle.gp_power.proofs.power.Powered.rows.Goals as goal

pub returns-in-On-clause-shows : goal.returns-in-On-clause-shows
returns-in-On-clause-shows c = shows_on c.args.self.now c.in-On.sink c.rows.result.now c.in-On.is c.rows.ensures.rows

pub returns-in_default : goal.returns-in_default
returns-in_default c = record { shows = shows_off c.args.self.now c.in_default.not-On; table = tt }
