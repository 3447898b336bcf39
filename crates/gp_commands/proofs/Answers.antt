-- A reason, or a value.
use Rattle.std.proofs.Common.{◌≡◌, ℕ, zero, suc, Option, Some, None, Ok, Err, refl}
use Rattle.gp_base.specs.Table.{answer}

pub answer_ok : {X E : Type 0} (reason : Option E) (value found : X) → Ok found ≡ answer reason value → (reason ≡ None) × (found ≡ value)
answer_ok None value found e = (refl, cc)
answer_ok (Some reason) value found e = absurd cc

pub answer_err : {X E : Type 0} (reason : Option E) (value : X) (found : E) → Err found ≡ answer reason value → reason ≡ Some found
answer_err None value found e = absurd cc
answer_err (Some reason) value found e = cc

abbrev pub pred_of : ℕ → ℕ
pred_of zero = zero
pred_of (suc n) = n
