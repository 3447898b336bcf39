use Rattle.gp_store.proofs.NewAmong.{new_as_row}
use Rattle.gp_store.proofs.judging.judge.Goals as goal

pub returns-then-not-is_new : goal.returns-then-not-is_new
returns-then-not-is_new c = λ judged. let t = c.is_new.ensures.1 (new_as_row c.args.table.now c.args.older.now c.args.octets.now c.in_ok-row.row c.in_ok-row.ensures.1 judged.new) in cc
