use Rattle.gp_aes.proofs.ColumnLemmas.{rows_of-xor, four_columns}
use Rattle.gp_aes.proofs.round.add_key.Goals as goal

pub returns : goal.returns
returns c = four_columns _ _ _ _ _ _ _ _ (rows_of-xor _ _) (rows_of-xor _ _) (rows_of-xor _ _) (rows_of-xor _ _)
