use Rattle.std.proofs.Common.{◌≡◌, drop}
use Rattle.gp_commands.specs.Forms.{form_in}
use Rattle.gp_commands.proofs.form.form_among.Given as goal

abbrev pub invariant-loop-line : goal.invariant-loop-line
invariant-loop-line l = form_in (drop l.line-index l.lines) l.id ≡ form_in l.lines l.id
