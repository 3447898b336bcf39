use Rattle.std.proofs.Common.{◌≡◌, subst, Bool}
use Rattle.gp_store.specs.Image.{slots, format_1}
use Rattle.gp_store.specs.Reading.{EndsIll}
use Rattle.gp_store.proofs.rows.read_row.Goals as goal

pub returns-in-Some-clause-rows : goal.returns-in-Some-clause-rows
returns-in-Some-clause-rows g c = λ d is reads row odd e.
    let same : row ≡ c.args.at = cc in
    let side : c.in-Some.odd ≡ odd = cc in
    (same, subst (λ (t : Bool). EndsIll (slots format_1 d) c.args.at t) side (c.in-Some.ensures.reads (slots format_1 d) (c.in-Ok.ensures.even d is) (c.in-Ok.ensures.odd d is) reads))

pub returns-in-None-clause-rows : goal.returns-in-None-clause-rows
returns-in-None-clause-rows g c = λ d is reads. c.in-None.ensures.reads (slots format_1 d) (c.in-Ok.ensures.even d is) (c.in-Ok.ensures.odd d is) reads
