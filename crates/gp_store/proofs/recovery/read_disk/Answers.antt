use Rattle.std.proofs.Common.{◌≡◌, ◌∙◌, inr, arith, true}
use Rattle.gp_disk.specs.Fuse.{Fuse, lit, burnt, Foretold}
use Rattle.gp_store.specs.Untouched.{GoesOn}
use Rattle.gp_store.proofs.Counts.{one_went, went_on}
use Rattle.gp_store.specs.Image.{slots, format_1}
use Rattle.gp_store.proofs.Recovered.{first_ill}
use Rattle.gp_store.proofs.recovery.read_disk.Goals as goal

pub returns-in-Ok-read_rows-clause-rows : goal.returns-in-Ok-read_rows-clause-rows
returns-in-Ok-read_rows-clause-rows g c = λ d is. (
  (c.in-Ok-true.ensures.header d (c.settle.ensures.image ∙ is)).0 c.in-Ok-true.field-0-test,
  c.in-Ok-read_rows.ensures.rows d (c.read_header.ensures.kept.same_image ∙ c.settle.ensures.image ∙ is) (c.requires.reads d),
)

pub returns-in-Err-Ill-clause-refuses : goal.returns-in-Err-Ill-clause-refuses
returns-in-Err-Ill-clause-refuses g c = (
  c.requires.size,
  λ d is. let ends = c.in-Err-Ill.ensures.rows d (c.read_header.ensures.kept.same_image ∙ c.settle.ensures.image ∙ is) (c.requires.reads d) c.in-Err-Ill.row c.in-Err-Ill.odd c.in-Err-Ill.field-0-is in (
    (c.in-Ok-true.ensures.header d (c.settle.ensures.image ∙ is)).0 c.in-Ok-true.field-0-test,
    first_ill (slots format_1 d) c.in-Err-Ill.row c.in-Err-Ill.odd _ ends.1 c.number.ensures,
  ),
)

-- two calls that have gone through, and then those of the rows
then_rows : (old settled headed new : Fuse) → settled ≡ burnt 1 old → Foretold 1 old true → headed ≡ burnt 1 settled → Foretold 1 settled true → GoesOn 2048 headed new → GoesOn 2050 old new
then_rows old settled headed new first first_told second second_told rows =
    went_on 1 2049 2050 old settled new (omega arith) first (inr first_told) (went_on 1 2048 2049 settled headed new (omega arith) second (inr second_told) rows)

pub returns-in-Ok-false-clause-fuse_refused : goal.returns-in-Ok-false-clause-fuse_refused
returns-in-Ok-false-clause-fuse_refused g c = λ other.
    let read = one_went 1 (g.D.Disk.fuse c.settle.new.disk) (g.D.Disk.fuse c.read_header.new.disk) c.in-Ok-false.ensures.fuse c.in-Ok-false.ensures.foretold in
    went_on 1 1 2050 (lit (g.D.Disk.fuse c.args.disk.now)) (g.D.Disk.fuse c.settle.new.disk) (g.D.Disk.fuse c.read_header.new.disk) (omega arith) c.in-Ok.ensures.fuse (inr c.in-Ok.ensures.foretold) read

pub returns-in-Ok-read_rows-clause-fuse_refused : goal.returns-in-Ok-read_rows-clause-fuse_refused
returns-in-Ok-read_rows-clause-fuse_refused g c = λ other.
    then_rows (lit (g.D.Disk.fuse c.args.disk.now)) (g.D.Disk.fuse c.settle.new.disk) (g.D.Disk.fuse c.read_header.new.disk) (g.D.Disk.fuse c.read_rows.new.disk)
    c.in-Ok.ensures.fuse c.in-Ok.ensures.foretold c.in-Ok-true.ensures.fuse c.in-Ok-true.ensures.foretold (c.in-Ok-read_rows.ensures.fuse_ill (λ h. cc))

pub returns-in-Err-Ill-clause-fuse_refused : goal.returns-in-Err-Ill-clause-fuse_refused
returns-in-Err-Ill-clause-fuse_refused g c = λ other.
    then_rows (lit (g.D.Disk.fuse c.args.disk.now)) (g.D.Disk.fuse c.settle.new.disk) (g.D.Disk.fuse c.read_header.new.disk) (g.D.Disk.fuse c.read_rows.new.disk)
    c.in-Ok.ensures.fuse c.in-Ok.ensures.foretold c.in-Ok-true.ensures.fuse c.in-Ok-true.ensures.foretold (c.in-Err-Ill.ensures.fuse_ill (λ h. let e = c.in-Err-Ill.field-0-is in cc))
