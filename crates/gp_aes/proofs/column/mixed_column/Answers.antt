use Rattle.gp_aes.proofs.ColumnLemmas.{rows_of-mixed}
use Rattle.gp_aes.proofs.column.mixed_column.Goals as goal

pub returns : goal.returns
returns c = rows_of-mixed _ _ _ _ c.args.key _ _ _ _ c.mixed_0.ensures c.mixed_1.ensures c.mixed_2.ensures c.mixed_3.ensures
