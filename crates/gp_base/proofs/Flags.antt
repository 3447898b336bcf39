-- Flags: as bits, and two that are the same.
use Rattle.std.proofs.Common.{◌≡◌, ℕ, zero, suc, ◌<◌, Bool, true, false, eqb, refl, arith}
use Rattle.gp_base.specs.Field.{flag, agree}

-- a bit as a flag, and back
pub flag_is : (n : ℕ) → n < 2 → flag (eqb n 1) ≡ n
flag_is zero h = refl
flag_is (suc zero) h = refl
flag_is (suc (suc n)) h = absurd (omega arith)

pub agree_is : (a b : Bool) → agree a b ≡ true → a ≡ b
agree_is true true e = refl
agree_is true false e = absurd cc
agree_is false true e = absurd cc
agree_is false false e = refl

pub agree_same : (a b : Bool) → a ≡ b → agree a b ≡ true
agree_same true true e = refl
agree_same true false e = absurd cc
agree_same false true e = absurd cc
agree_same false false e = refl
