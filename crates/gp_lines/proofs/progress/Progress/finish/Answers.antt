use Rattle.std.proofs.Common.{sym, arith}
use Rattle.std.proofs.lemmas.Grind.{common_steps}
use Rattle.std.proofs.lemmas.List.{nil_from_length}
use Rattle.std.proofs.lemmas.Bool.{eqb-true}
use Rattle.gp_lines.proofs.LineLemmas.{lines-last}
use Rattle.gp_lines.proofs.Advancing.{last_none, last_one}
use Rattle.gp_lines.proofs.progress.Progress.finish.Goals as goal

pub returns-then-is_empty-clause-ok : goal.returns-then-is_empty-clause-ok
returns-then-is_empty-clause-ok g c = last_none g.W.Work.goes c.args.self.now.lines c.args.self.now.begun.items c.args.self.now.text.items c.args.work.now (nil_from_length _ (eqb-true _ _ (sym c.if-is_empty.ensures)))

pub returns-in-Ok-clause-ok : goal.returns-in-Ok-clause-ok
returns-in-Ok-clause-ok g c =
    last_one g.W.Work.goes c.args.self.now.lines c.args.self.now.begun.items _ _ _ _ c.requires.begun (grind (arith, common_steps)) (rw c.as_slice.ensures.value at c.in-Ok.ensures.within) (rw c.as_slice.ensures.value at c.in-Ok.ensures.ok)

pub returns-in-Err-clause-err : goal.returns-in-Err-clause-err
returns-in-Err-clause-err g c = (lines-last c.args.self.now.begun.items c.requires.begun (grind (arith, common_steps)), rw c.as_slice.ensures.value at c.in-Err.ensures.err)
