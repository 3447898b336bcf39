use Rattle.std.proofs.Common.{arith}
use Rattle.std.proofs.lemmas.Result.{on_ok_weaker}
use Rattle.gp_store.proofs.Formatted.{ends_grow, cleared_written}
use Rattle.gp_store.proofs.formatting.clear.Goals as goal

pub returns-clause-since : goal.returns-clause-since
returns-clause-since g c = ends_grow 1 c.args.count _ _ _ c.stable_zero.ensures.since (omega arith) (omega (arith, c.requires.within))

pub returns-clause-written : goal.returns-clause-written
returns-clause-written g c =
    on_ok_weaker c.stable_zero.result
    (cleared_written c.args.count (g.D.Disk.tally c.args.disk.now).size (g.D.Disk.image c.args.disk.now) (g.D.Disk.image c.stable_zero.new.disk) (g.met.D.Disk.fits c.args.disk.now) c.requires.within c.requires.range)
    c.stable_zero.ensures.written
