use Rattle.std.proofs.Common.{◌≡◌, sym, ap, ◌∙◌, arith}
use Rattle.std.specs.Prelude.{decimal}
use Rattle.gp_script.proofs.Numbers.{same, differs, number_refused, number_found, decimal_is_text, decimal_parses}
use Rattle.gp_script.proofs.kinds.number_in.Goals as goal

pub returns-in_default-clause-value : goal.returns-in_default-clause-value
returns-in_default-clause-value c = number_refused c.args.most c.args.word.now (λ n le e. c.in_default.ensures.cases.0 (decimal_is_text n c.args.word.now (omega arith) e))

pub returns-in_default-parse-clause-value : goal.returns-in_default-parse-clause-value
returns-in_default-parse-clause-value c = number_refused c.args.most c.args.word.now (λ n le e.
    let p = decimal_parses n _ c.parse.result (omega arith) (c.in-Ok.ensures.cases.0 ∙ e) c.parse.ensures.value.0 in c.in_default-parse.not-Ok n p)

pub returns-then-ne-clause-value : goal.returns-then-ne-clause-value
returns-then-ne-clause-value c = number_refused c.args.most c.args.word.now (λ n le e.
    let p = decimal_parses n _ c.parse.result (omega arith) (c.in-Ok.ensures.cases.0 ∙ e) c.parse.ensures.value.0 in
    let q : n ≡ c.in-Ok-parse.number = cc in
    differs _ _ (sym c.if-ne.ensures) (c.as_bytes.ensures.value ∙ c.format.ensures.text ∙ ap decimal (sym q) ∙ sym e))

pub returns-then-number-most-clause-value : goal.returns-then-number-most-clause-value
returns-then-number-most-clause-value c = number_refused c.args.most c.args.word.now (λ n le e.
    let p = decimal_parses n _ c.parse.result (omega arith) (c.in-Ok.ensures.cases.0 ∙ e) c.parse.ensures.value.0 in
    let q : n ≡ c.in-Ok-parse.number = cc in omega arith)

pub returns-clause-value : goal.returns-clause-value
returns-clause-value c = number_found c.args.most c.in-Ok-parse.number c.args.word.now (omega arith) (omega arith) (sym (same _ _ (sym c.if-ne.ensures)) ∙ c.as_bytes.ensures.value ∙ c.format.ensures.text)
