use Rattle.std.proofs.Common.{◌*◌, sym, ◌∙◌, subst, arith, ℕ}
use Rattle.gp_store.proofs.Counts.{one_went, went_on}
use Rattle.gp_store.specs.Image.{slots, format_1}
use Rattle.gp_store.specs.Reading.{EndsIll}
use Rattle.gp_store.proofs.rows.read_rows.Goals as goal

pub returns-in-Err-clause-rows : goal.returns-in-Err-clause-rows
returns-in-Err-clause-rows g c = λ d is reads row odd e.
    let w = c.in-Err.ensures.rows d (c.loop-at.invariant.kept.same_image ∙ is) (c.loop-at.invariant.rows d is reads) row odd e in
    (omega (arith, w.0), subst (λ (r : ℕ). EndsIll (slots format_1 d) r odd) (sym w.0) w.1)

pub returns-in-Err-clause-fuse_ill : goal.returns-in-Err-clause-fuse_ill
returns-in-Err-clause-fuse_ill g c = λ other.
    let row = one_went 2 (g.D.Disk.fuse c.loop-at.disk) (g.D.Disk.fuse c.read_row.new.disk) c.in-Err.ensures.fuse (c.in-Err.ensures.gone other) in
    went_on (2 * c.loop-at.at) 2 2048 (g.D.Disk.fuse c.args.disk.now) (g.D.Disk.fuse c.loop-at.disk) (g.D.Disk.fuse c.read_row.new.disk) (omega (arith, c.loop-at-test.true)) c.loop-at.invariant.fuse c.loop-at.invariant.gone row
