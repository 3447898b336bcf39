use Rattle.std.proofs.Common.{arith, sym, ◌∙◌}
use Rattle.gp_store.proofs.ReadOn.{two_ill_even, two_ill_odd, not_judged_ill, other_pair_ill, same_generation_ill, odd_finds, even_finds}
use Rattle.gp_store.proofs.reading.take_two.Goals as goal

pub returns-in-None-clause-reads : goal.returns-in-None-clause-reads
returns-in-None-clause-reads c = λ v even odd reads. two_ill_even v c.args.at c.args.found.now.table c.args.found.now.stale.items c.args.found.now.older.items c.args.found.now.last reads c.requires.found c.args.even.now c.args.odd.now even odd c.in-None.ensures

pub returns-in-None-judged-clause-reads : goal.returns-in-None-judged-clause-reads
returns-in-None-judged-clause-reads c = λ v even odd reads. two_ill_odd v c.args.at c.args.found.now.table c.args.found.now.stale.items c.args.found.now.older.items c.args.found.now.last reads c.requires.found c.args.even.now c.args.odd.now even odd c.in-Some.ensures.0 (not_judged_ill v c.args.at c.args.found.now.table c.args.found.now.stale.items c.args.found.now.older.items c.args.found.now.last reads c.requires.found c.args.even.now c.args.odd.now even odd c.in-None-judged.ensures)

pub returns-then-not-is_same_pair-clause-reads : goal.returns-then-not-is_same_pair-clause-reads
returns-then-not-is_same_pair-clause-reads c = λ v even odd reads. two_ill_odd v c.args.at c.args.found.now.table c.args.found.now.stale.items c.args.found.now.older.items c.args.found.now.last reads c.requires.found c.args.even.now c.args.odd.now even odd c.in-Some.ensures.0 (other_pair_ill v c.args.at c.args.found.now.table c.args.found.now.stale.items c.args.found.now.older.items c.args.found.now.last reads c.requires.found c.args.even.now c.args.odd.now even odd (λ pair. let same = c.is_same_pair.ensures.1 (c.in-Some.ensures.1.has_source ∙ pair.same_source ∙ sym c.in-Some-judged.ensures.1.has_source, c.in-Some.ensures.1.has_key ∙ pair.same_key ∙ sym c.in-Some-judged.ensures.1.has_key) in cc))

pub returns-then-first_generation-second_generation-clause-reads : goal.returns-then-first_generation-second_generation-clause-reads
returns-then-first_generation-second_generation-clause-reads c = λ v even odd reads.
    two_ill_odd v c.args.at c.args.found.now.table c.args.found.now.stale.items c.args.found.now.older.items c.args.found.now.last reads c.requires.found c.args.even.now c.args.odd.now even odd c.in-Some.ensures.0 (same_generation_ill v c.args.at c.args.found.now.table c.args.found.now.stale.items c.args.found.now.older.items c.args.found.now.last reads c.requires.found c.args.even.now c.args.odd.now even odd (sym c.generation_of-first_generation.ensures ∙ c.if-first_generation-second_generation.true ∙ c.generation_of-second_generation.ensures))

pub returns-then-first_generation-second_generation-2-clause-reads : goal.returns-then-first_generation-second_generation-2-clause-reads
returns-then-first_generation-second_generation-2-clause-reads c = λ v even odd reads.
    c.add.ensures.reads v reads (odd_finds v c.args.at c.args.found.now.table c.args.found.now.stale.items c.args.found.now.older.items c.args.found.now.last reads c.requires.found c.args.even.now c.args.odd.now even odd c.in-Some.ensures.0 c.in-Some-judged.ensures.0 (let same = c.is_same_pair.ensures.0 c.if-not-is_same_pair.false in record { same_source = sym c.in-Some.ensures.1.has_source ∙ same.0 ∙ c.in-Some-judged.ensures.1.has_source; same_key = sym c.in-Some.ensures.1.has_key ∙ same.1 ∙ c.in-Some-judged.ensures.1.has_key }) (λ same. omega (arith, same, c.generation_of-first_generation.ensures, c.generation_of-second_generation.ensures)) (omega (arith, c.generation_of-first_generation.ensures, c.generation_of-second_generation.ensures)) c.in-Some.first.order c.in-Some.ensures.1.has_order)

pub returns-clause-reads : goal.returns-clause-reads
returns-clause-reads c = λ v even odd reads.
    c.add-2.ensures.reads v reads (even_finds v c.args.at c.args.found.now.table c.args.found.now.stale.items c.args.found.now.older.items c.args.found.now.last reads c.requires.found c.args.even.now c.args.odd.now even odd c.in-Some.ensures.0 c.in-Some-judged.ensures.0 (let same = c.is_same_pair.ensures.0 c.if-not-is_same_pair.false in record { same_source = sym c.in-Some.ensures.1.has_source ∙ same.0 ∙ c.in-Some-judged.ensures.1.has_source; same_key = sym c.in-Some.ensures.1.has_key ∙ same.1 ∙ c.in-Some-judged.ensures.1.has_key }) (λ same. omega (arith, same, c.generation_of-first_generation.ensures, c.generation_of-second_generation.ensures)) (omega (arith, c.generation_of-first_generation.ensures, c.generation_of-second_generation.ensures)) c.in-Some-judged.second.order c.in-Some-judged.ensures.1.has_order)
