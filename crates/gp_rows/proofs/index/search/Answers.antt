use Rattle.std.proofs.Common.{◌+◌, ◌-◌, ◌/◌, ℕ, length, arith}
use Rattle.gp_rows.proofs.Halving.{halved-less, halved-equal, halved-greater, doubled-step}
use Rattle.gp_rows.proofs.index.search.Goals as goal

pub loop-low-preserved-in-Less : goal.loop-low-preserved-in-Less
loop-low-preserved-in-Less g c =
    let low : ℕ = c.loop-low.low in
    let high : ℕ = c.loop-low.high in
    let middle : ℕ = low + (high - low) / 2 in
    let work = doubled-step c.args.steps.now c.loop-low.steps c.counted.new.steps (high - low) (high - (middle + 1)) (length c.args.index.now) c.loop-low.invariant.rises c.counted.ensures.cost (omega arith) (omega arith) c.loop-low.invariant.left in
    record {
      halved = halved-less (g.P.Probe.answer c.args.probe.now) c.args.rows.now c.args.index.now c.requires low high middle c.loop-low.kept c.counted.result c.loop-low.invariant.halved (omega arith) (omega arith) c.counted.ensures.answer c.in-Less.is;
      rises = omega arith;
      cost = work.1;
      left = work.0;
    }

pub loop-low-preserved-in-Equal : goal.loop-low-preserved-in-Equal
loop-low-preserved-in-Equal g c =
    let low : ℕ = c.loop-low.low in
    let high : ℕ = c.loop-low.high in
    let middle : ℕ = low + (high - low) / 2 in
    let work = doubled-step c.args.steps.now c.loop-low.steps c.counted.new.steps (high - low) (high - (middle + 1)) (length c.args.index.now) c.loop-low.invariant.rises c.counted.ensures.cost (omega arith) (omega arith) c.loop-low.invariant.left in
    record {
      halved = halved-equal (g.P.Probe.answer c.args.probe.now) c.args.rows.now c.args.index.now c.requires low high middle c.loop-low.kept c.counted.result c.loop-low.invariant.halved (omega arith) (omega arith) c.counted.ensures.answer c.in-Equal.is;
      rises = omega arith;
      cost = work.1;
      left = work.0;
    }

pub loop-low-preserved : goal.loop-low-preserved
loop-low-preserved g c =
    let low : ℕ = c.loop-low.low in
    let high : ℕ = c.loop-low.high in
    let middle : ℕ = low + (high - low) / 2 in
    let work = doubled-step c.args.steps.now c.loop-low.steps c.counted.new.steps (high - low) (middle - low) (length c.args.index.now) c.loop-low.invariant.rises c.counted.ensures.cost (omega arith) (omega arith) c.loop-low.invariant.left in
    record {
      halved = halved-greater (g.P.Probe.answer c.args.probe.now) c.args.rows.now c.args.index.now c.requires low high middle c.loop-low.kept c.counted.result c.loop-low.invariant.halved (omega arith) (omega arith) c.counted.ensures.answer c.in-Greater.is;
      rises = omega arith;
      cost = work.1;
      left = work.0;
    }
