use Rattle.std.proofs.Common.{refl, arith}
use Rattle.std.proofs.lemmas.Result.{on_ok_weaker}
use Rattle.gp_store.proofs.Formatted.{ends_grow, name_written}
use Rattle.gp_store.proofs.formatting.name.Goals as goal

pub returns-clause-since : goal.returns-clause-since
returns-clause-since g c = ends_grow 1 63 _ _ _ c.stable.ensures.since (omega arith) (omega arith)

pub returns-clause-written : goal.returns-clause-written
returns-clause-written g c =
    on_ok_weaker c.stable.result
    (name_written _ (g.D.Disk.tally c.args.disk.now).size (g.D.Disk.image c.args.disk.now) (g.D.Disk.image c.stable.new.disk) refl refl refl (g.met.D.Disk.fits c.args.disk.now) c.requires.size)
    c.stable.ensures.written
