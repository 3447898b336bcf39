use Rattle.gp_power.proofs.falling.repeats.Goals as goal

pub returns-in-None-clause-no : goal.returns-in-None-clause-no
returns-in-None-clause-no c = λ e r. c.in-None.ensures.absent c.args.at (r.row, r.newest, r.is_live)
