use Rattle.std.proofs.Common.{◌≡◌, ◌∙◌, ℕ, Ok, Err, IfOk, Result, refl, sym, ap, subst}
use Rattle.gp_store.specs.declared.fault.CommitFault.{CommitFault}
use Rattle.gp_store.specs.declared.fault.CommitFault.TheVariants as commits
use Rattle.gp_sink.specs.declared.verdict.Verdict.{Verdict}
use Rattle.gp_sink.specs.declared.verdict.SinkFault.{SinkFault}
use Rattle.gp_sink.specs.Verdict.{verdict_of}
use Rattle.gp_sink.specs.Sink.{SinkState, IsKept, as_commit}
use Rattle.gp_sink.proofs.Keeping.{keeps}
use Rattle.gp_sink.proofs.Going.{goes}
use Rattle.gp_sink.proofs.Moments.{settled}
use Rattle.gp_sink.proofs.sink.Sink.settle.Goals as goal
use Rattle.gp_sink.proofs.sink.Sink.settle.Goals.{in-Ok, in-Err-Worn, in-Err-DiskFault}

pub returns-clause-answers : goal.returns-clause-answers
returns-clause-answers g c =
    let given = λ (r : Result Verdict SinkFault). IfOk r (λ v. verdict_of v ≡ verdict_of c.args.ruling.verdict) in
    let old : SinkState g.row.D.Denot = record { config = c.self.inside.config; rules = c.self.inside.rules; store = c.self.inside.store } in
    let new : SinkState g.row.D.Denot = record { config = c.self.inside.config; rules = c.self.inside.rules; store = c.commit.new.store } in
    elim c.match-commit.branch [
      | in-Ok w ↦ settled g.D.Disk c.args.ruling.verdict c.args.ruling.change c.in-Some.change c.args.self.now old new (Ok tt) c.match-commit.result c.self.view_is c.in-Some.is c.requires.due c.requires.orders
          w.in-Ok.ensures (ap as_commit w.result-is) (subst given (sym w.result-is) refl) refl
      | in-Err-Worn w ↦
          let is : as_commit c.match-commit.result ≡ c.commit.result =
          ap as_commit w.result-is ∙ ap (λ (n : ℕ). Err (commits.Worn n)) w.in-Err-Worn.generation-is ∙ sym (w.in-Err-Worn.is ∙ ap (λ (f : CommitFault). Err f) w.in-Err-Worn.field-0-is) in
          settled g.D.Disk c.args.ruling.verdict c.args.ruling.change c.in-Some.change c.args.self.now old new c.commit.result c.match-commit.result c.self.view_is c.in-Some.is c.requires.due c.requires.orders
          c.commit.ensures is (subst given (sym w.result-is) tt) refl
      | in-Err-DiskFault w ↦
          let is : as_commit c.match-commit.result ≡ c.commit.result =
          ap as_commit w.result-is ∙ sym (w.in-Err-DiskFault.is ∙ ap (λ (f : CommitFault). Err f) w.in-Err-DiskFault.field-0-is) in
          settled g.D.Disk c.args.ruling.verdict c.args.ruling.change c.in-Some.change c.args.self.now old new c.commit.result c.match-commit.result c.self.view_is c.in-Some.is c.requires.due c.requires.orders
          c.commit.ensures is (subst given (sym w.result-is) tt) refl
    ]

pub returns-clause-goes : goal.returns-clause-goes
returns-clause-goes g c =
    let old : SinkState g.row.D.Denot = record { config = c.self.inside.config; rules = c.self.inside.rules; store = c.self.inside.store } in
    let new : SinkState g.row.D.Denot = record { config = c.self.inside.config; rules = c.self.inside.rules; store = c.commit.new.store } in
    elim c.match-commit.branch [
      | in-Ok w ↦ goes g.D.Disk _ c.args.self.now old new (Ok tt) c.match-commit.result c.self.view_is w.in-Ok.ensures refl (λ e. absurd (let is = w.result-is in cc))
      | in-Err-Worn w ↦ goes g.D.Disk _ c.args.self.now old new c.commit.result c.match-commit.result c.self.view_is c.commit.ensures refl (λ e. absurd (let is = w.result-is in cc))
      | in-Err-DiskFault w ↦
          goes g.D.Disk _ c.args.self.now old new c.commit.result c.match-commit.result c.self.view_is c.commit.ensures refl (λ e. w.in-Err-DiskFault.is ∙ ap (λ (f : CommitFault). Err f) w.in-Err-DiskFault.field-0-is)
    ]

pub returns-clause-kept : goal.returns-clause-kept
returns-clause-kept g c =
    let old : SinkState g.row.D.Denot = record { config = c.self.inside.config; rules = c.self.inside.rules; store = c.self.inside.store } in
    let new : SinkState g.row.D.Denot = record { config = c.self.inside.config; rules = c.self.inside.rules; store = c.commit.new.store } in
    let given = λ (r : Result Verdict SinkFault). IfOk r (IsKept g.D.Disk new) in
    elim c.match-commit.branch [
      | in-Ok w ↦ subst given (sym w.result-is) (keeps g.D.Disk c.args.ruling.change c.in-Some.change c.args.self.now old new c.args.ruling.verdict c.self.view_is c.in-Some.is c.requires.due c.requires.agrees w.in-Ok.ensures)
      | in-Err-Worn w ↦ subst given (sym w.result-is) tt
      | in-Err-DiskFault w ↦ subst given (sym w.result-is) tt
    ]
