use Rattle.std.proofs.Common.{◌≡◌, ◌∙◌, Some, sym, subst}
use Rattle.gp_rows.specs.declared.row.Row.{Row}
use Rattle.gp_rows.specs.Rows.{IsCurrent}
use Rattle.gp_sink.proofs.announcing.is_member.Goals as goal

pub returns-in-None : goal.returns-in-None
returns-in-None c = (
  λ e. absurd cc,
  λ m.
      let both : Some m.row ≡ Some c.row-row.result.now = sym m.there ∙ c.row-row.ensures.row in
      let same : m.row ≡ c.row-row.result.now = cc in
      absurd (c.in-None.ensures.absent c.args.at (subst (λ (r : Row). IsCurrent c.args.table.now r.src.0 c.args.at) same m.current)),
)
