use Rattle.std.proofs.Common.{◌+◌, ◌∷◌, [], Some, arith, refl, subst}
use Rattle.gp_script.specs.declared.report.Report.{Report}
use Rattle.gp_telling.specs.Telling.{Said}
use Rattle.gp_telling.proofs.Listing.{list_room, listed_on}
use Rattle.gp_telling.proofs.telling.Telling.list.Goals as goal

pub say-requires-in-loop-at : goal.say-requires-in-loop-at
say-requires-in-loop-at c = list_room (Some c.args.name.now) c.loop-at.at c.args.table.now _ c.args.self.now c.loop-at.self c.loop-at.invariant (omega arith) (omega arith)

pub loop-at-preserved : goal.loop-at-preserved
loop-at-preserved c =
    listed_on (Some c.args.name.now) c.loop-at.at (c.loop-at.at + 1) c.args.table.now c.row.result.now _ c.args.self.now c.loop-at.self c.say-in-loop-at.new.self c.row.ensures.row refl c.loop-at.invariant
    (subst (λ (report : Report). Said (Some c.args.name.now) (report ∷ []) c.loop-at.self c.say-in-loop-at.new.self) c.row_report.ensures c.say-in-loop-at.ensures)
