use Rattle.std.proofs.Common.{◌≡◌, ℕ, max, sym, ◌∙◌, ap, arith, subst, Some}
use Rattle.std.proofs.lemmas.Option.{slice_get_within}
use Rattle.gp_ideal.specs.declared.ledger.Change.TheVariants.{Pair}
use Rattle.gp_ideal.specs.Messages.{pairing_sent}
use Rattle.gp_ideal.specs.Verdict.{Paired, remembers}
use Rattle.gp_sink.specs.Inside.{PairsAt}
use Rattle.gp_sink.proofs.Keeping.{pairs-there, pairs-new}
use Rattle.gp_sink.proofs.Placed.{pairs_in, pairs_full, place_of_pair, place_of_new}
use Rattle.gp_sink.specs.Verdict.{ruling_of}
use Rattle.gp_sink.proofs.pairing.rule_values.Goals as goal

pub returns-in-Some-clause-ruling : goal.returns-in-Some-clause-ruling
returns-in-Some-clause-ruling c = λ ledger f.
    let here = place_of_pair c.args.table.now ledger c.args.values c.in-Some.at c.row.ensures.table f c.in-Some.ensures.found in
    let has = (f.each c.in-Some.at c.row.result.now c.row.ensures.row).has_floor in
    let few = c.row.ensures.table.few in
    let within = slice_get_within c.args.table.now c.in-Some.at c.row.result.now c.row.ensures.row in
    let ideal = pairs_in c.args.config.now ledger c.args.values c.args.counter c.in-Some.at c.row.result.now.floor here has (λ e. omega (arith, few, within)) in
    let is = c.pairs.ensures.ruling in
    is ∙ ap (λ (n : ℕ). remembers (Pair c.args.values c.args.counter) (Paired c.in-Some.at c.args.values.src n (pairing_sent c.args.config.now c.args.values n))) c.max-floor.ensures ∙ sym ideal

pub returns-then-count-eq-ROWS-clause-ruling : goal.returns-then-count-eq-ROWS-clause-ruling
returns-then-count-eq-ROWS-clause-ruling c = λ ledger f.
    let here = place_of_new c.args.table.now ledger c.args.values f c.in-None.ensures.absent in
    ap ruling_of c.says.ensures ∙ sym (pairs_full c.args.config.now ledger c.args.values c.args.counter (here ∙ sym c.count-count.ensures.count ∙ c.if-count-eq-ROWS.true))

pub returns-else-count-eq-ROWS-clause-ruling : goal.returns-else-count-eq-ROWS-clause-ruling
returns-else-count-eq-ROWS-clause-ruling c = λ ledger f.
    let here = place_of_new c.args.table.now ledger c.args.values f c.in-None.ensures.absent in
    let at = here ∙ sym c.count-count.ensures.count in
    let has = f.behind c.count-count.result (let e = c.count-count.ensures.count in omega arith) in
    let ideal = pairs_in c.args.config.now ledger c.args.values c.args.counter c.count-count.result 0 at has (λ e. c.if-count-eq-ROWS.false e) in
    let is = c.pairs-in-None.ensures.ruling in
    let none : c.args.counter ≡ max 0 c.args.counter = omega arith in
    is ∙ ap (λ (n : ℕ). remembers (Pair c.args.values c.args.counter) (Paired c.count-count.result c.args.values.src n (pairing_sent c.args.config.now c.args.values n))) none ∙ sym ideal

pub returns-in-Some-clause-agrees : goal.returns-in-Some-clause-agrees
returns-in-Some-clause-agrees c =
    let told = pairs-there c.args.table.now c.args.values c.args.counter c.in-Some.at c.row.result.now c.row.ensures.table c.in-Some.ensures.found c.row.ensures.row in
    c.pairs.ensures.agrees c.args.table.now (subst (λ (n : ℕ). PairsAt c.args.table.now c.in-Some.at n (Some (Pair c.args.values c.args.counter))) (sym c.max-floor.ensures) told)

pub returns-else-count-eq-ROWS-clause-agrees : goal.returns-else-count-eq-ROWS-clause-agrees
returns-else-count-eq-ROWS-clause-agrees c =
    c.pairs-in-None.ensures.agrees c.args.table.now (pairs-new c.args.table.now c.args.values c.args.counter c.count-count.result c.in-None.ensures.absent c.count-count.ensures.count)
