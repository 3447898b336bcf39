-- A search by halving has few steps.
use Rattle.std.proofs.Common.{ℕ, ◌+◌, ◌*◌, ◌-◌, ◌^◌, ◌≤◌, inl, inr, arith}
use Rattle.std.proofs.lemmas.Bool.{cases_lt}
use Rattle.std.proofs.Math.Pow.{pow_mono}

pub few_steps : (k n : ℕ) → n ≤ 1024 → 2 ^ k ≤ 2 * n + 1 → k ≤ 11
few_steps k n h p =
    elim (cases_lt 11 k) [
      | inl lt ↦ let big : 4096 ≤ 2 ^ k = pow_mono {i = 12} {j = k} lt in absurd (omega (arith, big, h, p))
      | inr le ↦ le
    ]

pub within_few : (old new n : ℕ) → n ≤ 1024 → 2 ^ (new - old) ≤ 2 * n + 1 → new ≤ old + 11
within_few old new n h p = let few = few_steps (new - old) n h p in omega (arith, few)
