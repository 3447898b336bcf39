use Rattle.std.proofs.Common.{Bool, subst}
use Rattle.std.proofs.lemmas.Result.{on_ok_weaker}
use Rattle.gp_store.specs.Image.{format_1}
use Rattle.gp_store.specs.Writes.{TellsOpen}
use Rattle.gp_disk.specs.Durable.{seen}
use Rattle.gp_store.proofs.Stepping.{stable_steps}
use Rattle.gp_store.proofs.Rewriting.{close_since, close_written}
use Rattle.gp_store.proofs.writing.close.Goals as goal

pub returns-then-is_open-clause-since : goal.returns-then-is_open-clause-since
returns-then-is_open-clause-since g c =
    let tells = subst (λ (b : Bool). TellsOpen format_1 c.args.slot.row c.args.slot.odd b (g.D.Disk.image c.args.disk.now)) c.if-is_open.true c.requires.tells in
    close_since c.args.slot.row c.args.slot.odd c.requires.row c.gate.result c.gate.ensures.place c.gate.ensures.within (g.D.Disk.image c.args.disk.now) (g.D.Disk.tally c.args.disk.now).size c.requires.size
    (g.met.D.Disk.fits c.args.disk.now) (g.D.Disk.left c.args.disk.now) (g.D.Disk.left c.stable.new.disk) tells c.stable.ensures.since

pub returns-then-is_open-clause-written : goal.returns-then-is_open-clause-written
returns-then-is_open-clause-written g c =
    on_ok_weaker c.stable.result
    (close_written c.args.slot.row c.args.slot.odd c.requires.row c.gate.result c.gate.ensures.place c.gate.ensures.within (g.D.Disk.image c.args.disk.now) (g.D.Disk.tally c.args.disk.now).size c.requires.size
    (g.met.D.Disk.fits c.args.disk.now) (g.D.Disk.image c.stable.new.disk)) c.stable.ensures.written

pub returns-then-is_open-clause-steps : goal.returns-then-is_open-clause-steps
returns-then-is_open-clause-steps g c = stable_steps _ _ _ _ c.stable.result (seen g.D.Disk c.args.disk.now) (seen g.D.Disk c.stable.new.disk) c.stable.ensures c.requires.calls
