use Rattle.std.proofs.Common.{◌≡◌, ◌++◌, length}
use Rattle.gp_telling.specs.Texts.{report_text}
use Rattle.gp_telling.proofs.texts.put_report.Given as goal

abbrev pub invariant-entries : goal.invariant-entries
invariant-entries l = l.text.items ++ report_text l.rest ≡ l.fn.text.items ++ report_text l.report

abbrev pub decreases-entries : goal.decreases-entries
decreases-entries l = length l.rest
