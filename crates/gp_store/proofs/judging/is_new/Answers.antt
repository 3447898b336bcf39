use Rattle.std.proofs.Common.{arith, refl}
use Rattle.std.proofs.lemmas.Option.{slice_get_within}
use Rattle.gp_store.proofs.NewAmong.{new_more, new_here}
use Rattle.gp_store.proofs.judging.is_new.Goals as goal

pub returns-then-not-is_other : goal.returns-then-not-is_other
returns-then-not-is_other c = (
  λ h. absurd (cc),
  λ new. let t = c.is_other.ensures.1 (new_here c.args.table.now c.args.older.now c.loop-at.at c.row.result.now c.args.row.now.src.0 c.args.row.now.key.0 c.args.row.now.order c.row.ensures.row c.requires new) in cc,
)

pub loop-at-preserved : goal.loop-at-preserved
loop-at-preserved c =
    new_more c.args.table.now c.args.older.now c.loop-at.at c.row.result.now c.args.row.now.src.0 c.args.row.now.key.0 c.args.row.now.order c.row.ensures.row c.requires c.loop-at.invariant (c.is_other.ensures.0 c.if-not-is_other.false)

pub returns : goal.returns
returns c = (
  λ h k row before is was. c.loop-at.invariant k row before (let w = slice_get_within c.args.table.now k row is in omega (arith, w, c.count-at-end.ensures.count)) is was,
  λ new. refl,
)
