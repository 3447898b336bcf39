use Rattle.std.proofs.Common.{◌∙◌}
use Rattle.gp_power.proofs.Recovering.{wakes, backs}
use Rattle.gp_power.proofs.waking.wake.Goals as goal

pub returns-in-Ok-clause-up : goal.returns-in-Ok-clause-up
returns-in-Ok-clause-up c = wakes c.args.config c.args.rules.now c.args.disk c.defer.new.self c.in-Ok.sink c.defer.ensures.same c.defer.ensures.fuse c.in-Ok.ensures.recovered c.in-Ok.ensures.set_up.0 (c.in-Ok.ensures.set_up.1 ∙ c.copy.ensures)

pub returns-in-Err-clause-back : goal.returns-in-Err-clause-back
returns-in-Err-clause-back c = backs c.args.disk c.defer.new.self c.in-Err.refused c.begin.new.self c.defer.ensures.same c.defer.ensures.fuse c.in-Err.ensures.refused c.begin.ensures.begins
