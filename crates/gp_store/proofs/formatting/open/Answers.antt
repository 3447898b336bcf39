use Rattle.std.proofs.lemmas.Result.{on_ok_weaker}
use Rattle.gp_store.proofs.Formatted.{gate_grows, gate_opened}
use Rattle.gp_store.proofs.formatting.open.Goals as goal

pub returns-clause-since : goal.returns-clause-since
returns-clause-since g c = gate_grows _ _ _ c.stable.ensures.since

pub returns-clause-written : goal.returns-clause-written
returns-clause-written g c =
    on_ok_weaker c.stable.result
    (gate_opened (g.D.Disk.tally c.args.disk.now).size (g.D.Disk.image c.args.disk.now) (g.D.Disk.image c.stable.new.disk) (g.met.D.Disk.fits c.args.disk.now) c.requires.size)
    c.stable.ensures.written
