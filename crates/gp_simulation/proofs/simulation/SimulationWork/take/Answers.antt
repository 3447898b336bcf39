use Rattle.std.proofs.Common.{◌≡◌, ℕ, false, List, Some, None, Err, refl, sym, ap, ◌∙◌}
use Rattle.std.specs.Result.{result_err}
use Rattle.gp_world.specs.Step.{step}
use Rattle.gp_net.proofs.Stepping.{kept_stands}
use Rattle.gp_net.proofs.Rearming.{bad_kept}
use Rattle.gp_telling.specs.Texts.{report_text}
use Rattle.gp_simulation.specs.Playing.{asked, refusal}
use Rattle.gp_simulation.proofs.simulation.SimulationWork.take.Goals as goal

pub returns-in_default-clause-err : goal.returns-in_default-clause-err
unfolding asked
returns-in_default-clause-err c =
    let none : asked c.args.line.now ≡ None = sym c.in_default.ensures in
    (λ model stands. (ap (refusal model c.args.number) none, stands, refl), refl {A = List ℕ})

pub step-requires-clause-event : goal.step-requires-clause-event
unfolding asked
step-requires-clause-event c = (c.args.line.now, sym c.in-Ok.ensures)

pub returns-in-Err-Bad-clause-err : goal.returns-in-Err-Bad-clause-err
unfolding asked
returns-in-Err-Bad-clause-err c =
    let some : asked c.args.line.now ≡ Some c.in-Ok.event = sym c.in-Ok.ensures in (
      λ model stands.
          let refused : step model c.args.number c.in-Ok.event false ≡ Err c.in-Err-Bad.reason = (rw c.in-Err-Bad.field-0-is at c.in-Err-Bad.ensures.goes model stands) false in
          let kept = bad_kept c.in-Ok.event c.in-Err-Bad.reason _ _ (rw c.in-Err-Bad.field-0-is at c.in-Err-Bad.ensures.kept) in
          (ap (refusal model c.args.number) some ∙ ap result_err refused, kept_stands _ _ model kept stands, kept.bits),
      refl {A = List ℕ},
    )

pub returns-in-Ok-put_report-clause-ok : goal.returns-in-Ok-put_report-clause-ok
unfolding asked
returns-in-Ok-put_report-clause-ok c =
    let some : asked c.args.line.now ≡ Some c.in-Ok.event = sym c.in-Ok.ensures in (
      report_text c.as_slice.result.now,
      c.in-Ok-put_report.ensures,
      (
        c.in-Ok.event,
        some,
        λ model stands.
            let goes = c.in-Ok-step.ensures.goes model stands in
            record { bit = goes.bit; next = goes.next; steps = goes.steps; right = goes.right; takes = goes.takes; text_is = ap report_text (c.as_slice.ensures ∙ goes.told_are); stands = goes.stands },
      ),
    )
