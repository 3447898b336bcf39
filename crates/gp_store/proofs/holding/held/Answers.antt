use Rattle.std.proofs.Common.{arith}
use Rattle.gp_store.proofs.OneRow.{row_past, row_is}
use Rattle.gp_store.proofs.holding.held.Goals as goal
use Rattle.gp_store.specs.Image.{HoldsRows}

pub returns-then-at-ge-ROWS-clause-row : goal.returns-then-at-ge-ROWS-clause-row
returns-then-at-ge-ROWS-clause-row g c = λ d is rows h. row_past d rows c.args.at h c.if-at-ge-ROWS.true

pub returns-then-size-lt-SIZE-clause-row : goal.returns-then-size-lt-SIZE-clause-row
unfolding HoldsRows
returns-then-size-lt-SIZE-clause-row g c = λ d is rows h.
    let long = h.size in
    let fits = g.met.D.Disk.fits c.args.disk.now d is in
    absurd (omega (arith, long, fits, c.size.ensures, c.if-size-lt-SIZE.true))

pub returns-clause-row : goal.returns-clause-row
returns-clause-row g c = λ d is rows h.
    row_is d rows c.args.at _ _ c.newest_of.result h (c.in_ok-even.ensures.even d is) (c.in_ok-even.ensures.odd d is) c.newest_of.ensures.none c.newest_of.ensures.some c.newest_of.ensures.there
