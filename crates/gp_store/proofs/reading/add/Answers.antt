use Rattle.std.proofs.Common.{arith}
use Rattle.gp_store.proofs.NewAmong.{pair_of, order_of, found_more}
use Rattle.gp_store.proofs.ReadOn.{reads_more}
use Rattle.gp_store.proofs.reading.add.Goals as goal

pub put_row-requires-clause-pair : goal.put_row-requires-clause-pair
put_row-requires-clause-pair c = pair_of c.args.found.now.table c.args.found.now.older.items c.args.octets.now c.args.at c.args.row c.requires.found.as_many_older c.requires.judged c.requires.shows

pub put_row-requires-clause-order : goal.put_row-requires-clause-order
put_row-requires-clause-order c = order_of c.args.found.now.table c.args.found.now.older.items c.args.octets.now c.args.at c.args.row c.requires.found.as_many_older c.requires.judged c.requires.shows

pub returns-clause-found : goal.returns-clause-found
returns-clause-found c =
    let numbers = c.requires.judged.formed.numbers in
    let more = found_more c.args.found.now.table c.args.found.now.stale.items c.args.found.now.older.items c.args.found.now.last c.args.row c.args.stale c.args.older c.generation_of-generation.result
    c.requires.found (omega (arith, numbers.order_within, c.requires.shows.has_order, c.generation_of-generation.ensures)) (omega (arith, c.requires.judged.follows))
    (pair_of c.args.found.now.table c.args.found.now.older.items c.args.octets.now c.args.at c.args.row c.requires.found.as_many_older c.requires.judged c.requires.shows)
    (order_of c.args.found.now.table c.args.found.now.older.items c.args.octets.now c.args.at c.args.row c.requires.found.as_many_older c.requires.judged c.requires.shows) in
    rw (c.put_row.ensures, c.put_last.ensures.items, c.put_last-2.ensures.items, c.max-found.ensures) more

pub returns-clause-reads : goal.returns-clause-reads
returns-clause-reads c = λ v reads finds.
    let more = reads_more v c.args.at c.args.found.now.table c.args.found.now.stale.items c.args.found.now.older.items c.args.found.now.last reads c.requires.found c.args.row c.args.octets.now c.args.stale c.args.older c.requires.judged.follows c.requires.shows finds in
    rw (c.put_row.ensures, c.put_last.ensures.items, c.put_last-2.ensures.items, c.max-found.ensures, c.generation_of-generation.ensures) more
