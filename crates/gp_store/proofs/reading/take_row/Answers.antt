use Rattle.std.proofs.Common.{◌≡◌, ◌+◌, Bool, true, false, Some, None, Option, List, ℕ}
use Rattle.gp_store.specs.Reading.{Reads, EndsIll}
use Rattle.gp_store.proofs.ReadOn.{reads_none, swapped}
use Rattle.gp_store.proofs.reading.take_row.Goals as goal

pub returns-in-true-true-clause-reads : goal.returns-in-true-true-clause-reads
returns-in-true-true-clause-reads c = rw (c.in-true-true.is-0, c.in-true-true.is-1, ← c.deref.ensures.0, ← c.deref-in-true-true.ensures.0) c.take_two.ensures.reads

pub returns-in-true-false-clause-reads : goal.returns-in-true-false-clause-reads
returns-in-true-false-clause-reads c = rw (c.in-true-false.is-0, c.in-true-false.is-1, ← c.deref-in-true-false.ensures.0) c.take_one.ensures.reads

pub returns-in-false-true-clause-reads : goal.returns-in-false-true-clause-reads
returns-in-false-true-clause-reads c = rw (c.in-false-true.is-0, c.in-false-true.is-1, ← c.deref-in-false-true.ensures.0)
    (swapped c.take_one-in-false-true.result (λ v. v c.args.at true ≡ Some c.deref-in-false-true.result.now) (λ v. v c.args.at false ≡ None)
    (λ v. Reads v c.args.at c.args.found.now → Reads v (c.args.at + 1) c.take_one-in-false-true.new.found) (λ s v. Reads v c.args.at c.args.found.now → EndsIll v c.args.at s) c.take_one-in-false-true.ensures.reads)

pub returns-in-false-false-clause-reads : goal.returns-in-false-false-clause-reads
returns-in-false-false-clause-reads c = λ v even odd reads.
    reads_none v c.args.at c.args.found.now.table c.args.found.now.stale.items c.args.found.now.older.items c.args.found.now.last reads c.requires.found
    (closed (v c.args.at) (rw c.in-false-false.is-0 at even) (rw c.in-false-false.is-1 at odd))
  where
    closed : (slots : Bool → Option (List ℕ)) → slots false ≡ None → slots true ≡ None → (s : Bool) → slots s ≡ None
    closed slots e o false = e
    closed slots e o true = o
