use Rattle.gp_store.specs.Image.{format_1}
use Rattle.gp_store.specs.Writes.{Rewrites, Closes, Closed, Filled, Opens}
use Rattle.gp_store.proofs.Grows.{grows_weaker, grows_on, becomes_on}
use Rattle.gp_store.proofs.Rewriting.{closes_rewrites, closed_rewrites, filled_after, opens_rewrites}
use Rattle.gp_store.proofs.writing.write_slot.Goals as goal

pub returns-clause-since : goal.returns-clause-since
returns-clause-since g c =
    let row = c.args.slot.row in
    let side = c.args.slot.odd in
    let octets = c.args.octets.now in
    let image = g.D.Disk.image c.args.disk.now in
    let first = grows_weaker (Closes format_1 row side) (Rewrites format_1 row side octets) image (g.D.Disk.left c.args.disk.now) (g.D.Disk.left c.close.new.disk) c.close.ensures.since (λ d e is p. closes_rewrites row side octets d e p) in
    let second = grows_on (Rewrites format_1 row side octets) (Closed format_1 row side) (Closed format_1 row side) image (g.D.Disk.image c.close.new.disk) (g.D.Disk.left c.args.disk.now) (g.D.Disk.left c.close.new.disk) (g.D.Disk.left c.fill.new.disk)
    first c.in-Ok.ensures.written c.fill.ensures.since (closed_rewrites row side octets) in
    let filled = becomes_on (Filled format_1 row side octets) (Closed format_1 row side) (Filled format_1 row side octets) image (g.D.Disk.image c.close.new.disk) (g.D.Disk.image c.fill.new.disk) c.in-Ok.ensures.written c.in-Ok-fill.ensures.written (filled_after row side octets) in
    grows_on (Rewrites format_1 row side octets) (Filled format_1 row side octets) (Opens format_1 row side) image (g.D.Disk.image c.fill.new.disk) (g.D.Disk.left c.args.disk.now) (g.D.Disk.left c.fill.new.disk) (g.D.Disk.left c.open.new.disk)
    second filled c.open.ensures.since (opens_rewrites row side octets)
