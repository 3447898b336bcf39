use Rattle.gp_store.proofs.ReadOn.{one_ill, one_finds}
use Rattle.gp_store.proofs.reading.take_one.Goals as goal

pub returns-in-None-clause-reads : goal.returns-in-None-clause-reads
returns-in-None-clause-reads c = λ v here no_other reads.
    one_ill v c.args.at c.args.found.now.table c.args.found.now.stale.items c.args.found.now.older.items c.args.found.now.last reads c.requires.found c.args.odd c.args.octets.now here no_other c.in-None.ensures

pub returns-clause-reads : goal.returns-clause-reads
returns-clause-reads c = λ v here no_other reads.
    c.add.ensures.reads v reads (one_finds v c.args.at c.args.found.now.table c.args.found.now.stale.items c.args.found.now.older.items c.args.found.now.last reads c.requires.found c.args.odd c.args.octets.now here no_other c.in-Some.ensures.0)
