use Rattle.std.proofs.Common.{◌-◌, ◌≤◌, ◌+◌, ◌*◌, ◌^◌, length}
use Rattle.gp_rows.specs.Index.{IsHalved}
use Rattle.gp_rows.proofs.index.search.Given as goal

abbrev pub invariant-loop-low : goal.invariant-loop-low
invariant-loop-low g l = record {
  halved : IsHalved (g.P.Probe.answer l.probe) l.rows l.index l.low l.high l.kept;
  rises : l.initial.steps ≤ l.steps;
  cost : 2 ^ (l.steps - l.initial.steps) ≤ 2 * length l.index + 1;
  left : 2 ^ (l.steps - l.initial.steps) * (l.high - l.low) ≤ length l.index;
}

abbrev pub decreases-loop-low : goal.decreases-loop-low
decreases-loop-low g l = l.high - l.low
