use Rattle.gp_store.proofs.Rewriting.{moments_since}
use Rattle.gp_store.proofs.commit.rewrite.Goals as goal

pub returns-clause-moments : goal.returns-clause-moments
returns-clause-moments g c =
    moments_since c.args.slot.row c.args.slot.odd c.args.octets.now (g.D.Disk.image c.args.disk.now) (g.D.Disk.image c.begin.new.self) (g.D.Disk.may_leave c.args.disk.now) (g.D.Disk.may_leave c.begin.new.self) (g.D.Disk.left c.begin.new.self) (g.D.Disk.left c.write_slot.new.disk)
    c.requires.writable.quiet.only c.begin.ensures.image c.begin.ensures.now c.begin.ensures.since c.write_slot.ensures.since
