use Rattle.std.proofs.Common.{ℕ, subst}
use Rattle.gp_rows.specs.Rows.{IsCurrent}
use Rattle.gp_sink.proofs.ruling.rule_secured.Goals as goal

pub returns-in-Some-clause-unknown : goal.returns-in-Some-clause-unknown
returns-in-Some-clause-unknown g c = λ none.
    absurd (none c.in-Some.known.row (subst (λ (source : ℕ). IsCurrent c.args.table.now source c.in-Some.known.row) c.source_in.ensures c.in-Some.ensures.there.current))
