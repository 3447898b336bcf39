use Rattle.gp_aes.proofs.ColumnLemmas.{rows_of-read}
use Rattle.gp_aes.proofs.column.last_column.Goals as goal

pub returns : goal.returns
returns c = rows_of-read _ c.args.key _ _ _ _ c.substituted.ensures
