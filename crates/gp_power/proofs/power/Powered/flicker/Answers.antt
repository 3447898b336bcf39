use Rattle.std.proofs.Common.{◌∙◌, sym, refl, subst, arith}
use Rattle.gp_world.specs.World as ideal
use Rattle.gp_power.specs.Few.{IsSupplyBelow}
use Rattle.gp_power.proofs.Switching.{is_cut_again, is_armed, never_dark}
use Rattle.gp_power.proofs.power.Powered.flicker.Goals as goal

pub returns-in-Ok-clause-comes : goal.returns-in-Ok-clause-comes
returns-in-Ok-clause-comes c = is_cut_again c.args.self.now _ c.in-Off.rules c.in-Off.disk c.in-Ok.disk (sym c.replace.ensures.value ∙ c.in-Off.is) refl refl c.in-Ok.ensures.cut

pub returns-in-Err-clause-same : goal.returns-in-Err-clause-same
returns-in-Err-clause-same c = is_armed (ideal.ToCut 1 c.args.calls) (omega arith, omega arith) c.args.self.now _ c.in-Off.rules c.in-Off.disk c.in-Err.disk (sym c.replace.ensures.value ∙ c.in-Off.is) refl refl c.in-Err.ensures.armed

pub returns-in_default : goal.returns-in_default
returns-in_default c = record {
  comes = never_dark c.args.self.now _ (λ rules disk e. c.in_default.not-Off rules disk (c.replace.ensures.value ∙ e)) refl c.replace.ensures.value;
  same = tt;
  few = λ most b. subst (IsSupplyBelow most) (sym c.replace.ensures.value) b;
  config = refl;
}
