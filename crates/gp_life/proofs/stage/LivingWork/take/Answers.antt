use Rattle.std.proofs.Common.{◌≡◌, Some, None, List, ℕ, [], refl, sym, subst, append-nil, ◌∙◌, ap}
use Rattle.std.specs.Prelude.{option_map}
use Rattle.gp_script.specs.declared.sink_script.SinkEvent.TheVariants.{Nothing, Line}
use Rattle.gp_life.specs.Lived.{asked}
use Rattle.gp_life.proofs.Staging.{acts_err, acts_ok, formless, nothing}
use Rattle.gp_life.proofs.stage.LivingWork.take.Goals as goal

pub returns-in_default-clause-err : goal.returns-in_default-clause-err
unfolding asked
returns-in_default-clause-err g c =
    let none : asked c.args.line.now ≡ None = sym c.in_default.ensures in
    (formless g.D.Disk c.args.self.now.stage c.args.number c.args.line.now none c.requires.awaits, refl {A = List ℕ})

pub returns-in-Nothing-clause-ok : goal.returns-in-Nothing-clause-ok
unfolding asked
returns-in-Nothing-clause-ok g c =
    let none : asked c.args.line.now ≡ Some Nothing = sym c.in-Ok.ensures ∙ ap (λ e. Some e) c.in-Nothing.is in
    ([], sym (append-nil c.args.text.now.items), nothing g.D.Disk c.args.self.now.stage c.args.number c.args.line.now none c.requires.awaits)

pub returns-in-Line-clause-ok : goal.returns-in-Line-clause-ok
unfolding asked
returns-in-Line-clause-ok g c =
    let some : asked c.args.line.now ≡ Some (Line c.in-Line.reading c.in-Line.action) = sym c.in-Ok.ensures ∙ ap (λ e. Some e) c.in-Line.is in
    acts_ok g.D.Disk c.args.self.now.stage c.args.number c.in-Line.reading c.args.line.now c.in-Line.action _ _ c.act.new.self c.act.result some c.act.ensures.acts

pub returns-in-Line-clause-err : goal.returns-in-Line-clause-err
unfolding asked
returns-in-Line-clause-err g c =
    let some : asked c.args.line.now ≡ Some (Line c.in-Line.reading c.in-Line.action) = sym c.in-Ok.ensures ∙ ap (λ e. Some e) c.in-Line.is in
    acts_err g.D.Disk c.args.self.now.stage c.args.number c.in-Line.reading c.args.line.now c.in-Line.action _ _ c.act.new.self c.act.result some c.act.ensures.acts
