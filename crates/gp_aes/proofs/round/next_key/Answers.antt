use Rattle.std.proofs.Common.{refl}
use Rattle.gp_aes.proofs.ColumnLemmas.{rows_of-sum, four_columns}
use Rattle.gp_aes.proofs.round.next_key.Goals as goal

pub returns : goal.returns
returns c =
    let a = rows_of-sum _ _ _ _ refl (rows_of-sum _ _ _ _ c.turned.ensures c.round_constant.ensures) in
    let b = rows_of-sum _ _ _ _ refl a in
    let w = rows_of-sum _ _ _ _ refl b in
    let d = rows_of-sum _ _ _ _ refl w in
    four_columns _ _ _ _ _ _ _ _ a b w d
