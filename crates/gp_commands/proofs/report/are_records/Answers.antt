use Rattle.std.proofs.Common.{sym, ap, ◌∙◌}
use Rattle.std.specs.Prelude.{is_some}
use Rattle.gp_commands.proofs.Entries.{records_iff}
use Rattle.gp_commands.proofs.report.are_records.Goals as goal

pub returns : goal.returns
returns c = records_iff _ _ (ap is_some (sym c.first_bad_entry.ensures) ∙ c.is_none.ensures)
