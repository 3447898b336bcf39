use Rattle.std.proofs.Common.{◌∙◌, List, length, sym, ap, refl, subst}
use Rattle.gp_rows.specs.declared.row.Row.{Row}
use Rattle.gp_power.specs.Few.{IsSupplyBelow}
use Rattle.gp_power.proofs.Switching.{comes_on, stays_on, stays_dark}
use Rattle.gp_power.proofs.power.Powered.switch_on.Goals as goal

pub returns-in-Ok-clause-comes : goal.returns-in-Ok-clause-comes
returns-in-Ok-clause-comes c = comes_on c.args.self.now _ c.in-Off.rules c.in-Off.disk c.in-Ok.sink c.count-count.result (c.count-count.ensures.count ∙ ap (λ (l : List Row). length l) c.rows.ensures.rows) (sym c.replace.ensures.value ∙ c.in-Off.is) refl refl c.in-Ok.ensures.up

pub returns-in-Err-clause-same : goal.returns-in-Err-clause-same
returns-in-Err-clause-same c = stays_dark c.args.self.now _ c.in-Off.rules c.in-Off.disk c.in-Err.disk (sym c.replace.ensures.value ∙ c.in-Off.is) refl refl c.in-Err.ensures.back

pub returns-in_default : goal.returns-in_default
returns-in_default c = record {
  comes = stays_on c.args.self.now _ (λ rules disk e. c.in_default.not-Off rules disk (c.replace.ensures.value ∙ e)) refl c.replace.ensures.value;
  same = tt;
  few = λ most b. subst (IsSupplyBelow most) (sym c.replace.ensures.value) b;
  config = refl;
}
