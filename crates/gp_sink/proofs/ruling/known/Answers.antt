use Rattle.std.proofs.Common.{Some, sym, ap, ◌∙◌}
use Rattle.std.proofs.lemmas.Option.{slice_get_within}
use Rattle.gp_ideal.specs.declared.ledger.Values.{Values}
use Rattle.gp_sink.proofs.Current.{known_is, known_none}
use Rattle.gp_sink.proofs.ruling.known.Goals as goal

pub row-row-requires : goal.row-row-requires
row-row-requires c = let is = c.in-Some.ensures.found in slice_get_within c.args.table.now c.in-Some.at is.0 is.1.there

pub returns-in-Some-clause-known : goal.returns-in-Some-clause-known
returns-in-Some-clause-known c = λ ledger f. let e = known_is c.args.table.now ledger c.args.source.0 c.in-Some.at c.row-row.result.now c.row-row.ensures.table f c.in-Some.ensures.found c.row-row.ensures.row in
    ap (λ (v : Values). Some (record { row = c.in-Some.at; values = v; floor = c.row-row.result.now.floor })) c.values_in.ensures ∙ sym e

pub returns-in-None-clause-known : goal.returns-in-None-clause-known
returns-in-None-clause-known c = λ ledger f. sym (known_none c.args.table.now ledger c.args.source.0 f c.in-None.ensures.absent)
