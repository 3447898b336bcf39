use Rattle.std.proofs.Common.{arith}
use Rattle.std.proofs.lemmas.Option.{slice_get_within}
use Rattle.gp_sink.proofs.announcing.is_in_group.Goals as goal

pub returns : goal.returns
returns c = (
  λ e. absurd cc,
  λ m.
      let within = slice_get_within c.args.table.now m.0 m.1.row m.1.there in
      let count = c.count-at-end.ensures.count in
      absurd (c.loop-at.invariant m.0 (omega (arith, within, count, c.loop-at-test.false)) m.1),
)
