use Rattle.std.proofs.lemmas.Result.{on_ok_weaker}
use Rattle.gp_disk.specs.Durable.{seen}
use Rattle.gp_store.proofs.Stepping.{stable_steps}
use Rattle.gp_store.proofs.Rewriting.{open_since, open_written}
use Rattle.gp_store.proofs.writing.open.Goals as goal

pub returns-clause-since : goal.returns-clause-since
returns-clause-since g c =
    open_since c.args.slot.row c.args.slot.odd c.requires.row c.gate.result c.gate.ensures.place c.gate.ensures.within (g.D.Disk.image c.args.disk.now) (g.D.Disk.tally c.args.disk.now).size c.requires.size
    (g.met.D.Disk.fits c.args.disk.now) (g.D.Disk.left c.args.disk.now) (g.D.Disk.left c.stable.new.disk) c.stable.ensures.since

pub returns-clause-written : goal.returns-clause-written
returns-clause-written g c =
    on_ok_weaker c.stable.result
    (open_written c.args.slot.row c.args.slot.odd c.requires.row c.gate.result c.gate.ensures.place c.gate.ensures.within (g.D.Disk.image c.args.disk.now) (g.D.Disk.tally c.args.disk.now).size c.requires.size
    (g.met.D.Disk.fits c.args.disk.now) (g.D.Disk.image c.stable.new.disk)) c.stable.ensures.written

pub returns-clause-steps : goal.returns-clause-steps
returns-clause-steps g c = stable_steps _ _ _ _ c.stable.result (seen g.D.Disk c.args.disk.now) (seen g.D.Disk c.stable.new.disk) c.stable.ensures c.requires.calls
