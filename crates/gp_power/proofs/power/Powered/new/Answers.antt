use Rattle.std.proofs.Common.{refl}
use Rattle.gp_power.proofs.Starting.{new_stands}
use Rattle.gp_power.proofs.power.Powered.new.Goals as goal

pub returns-clause-stands : goal.returns-clause-stands
returns-clause-stands c = new_stands c.args.config _ c.in-Ok.sink refl refl c.in-Ok.ensures
