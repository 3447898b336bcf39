-- One round more, and one round key more.
use Rattle.std.proofs.Common.{◌≡◌, ℕ, zero, suc, ◌-◌, ◌≤◌, List, length, refl, ap, arith}
use Rattle.gp_aes.specs.KeyExpansion.{next_round_key, round_key}
use Rattle.gp_aes.specs.Cipher.{add_round_key, mix_columns, shift_rows, sub_bytes, after_rounds, cipher}

pub round_key-first : (key : List ℕ) → round_key key 0 ≡ key
unfolding round_key
round_key-first key = refl

pub round_key-next : (key : List ℕ) (j : ℕ) → 1 ≤ j → next_round_key j (round_key key (j - 1)) ≡ round_key key j
unfolding round_key
round_key-next key zero h = absurd (omega arith)
round_key-next key (suc n) h =
    let e : suc n - 1 ≡ n = omega arith in
    ap (λ m. next_round_key (suc n) (round_key key m)) e

pub after_rounds-first : (key block : List ℕ) → add_round_key block key ≡ after_rounds key block 0
unfolding after_rounds round_key
after_rounds-first key block = refl

pub after_rounds-next : (key block : List ℕ) (j : ℕ) → 1 ≤ j →
    add_round_key (mix_columns (shift_rows (sub_bytes (after_rounds key block (j - 1))))) (round_key key j) ≡ after_rounds key block j
unfolding after_rounds
after_rounds-next key block zero h = absurd (omega arith)
after_rounds-next key block (suc n) h =
    let e : suc n - 1 ≡ n = omega arith in
    ap (λ m. add_round_key (mix_columns (shift_rows (sub_bytes (after_rounds key block m)))) (round_key key (suc n))) e

pub cipher-last : (key block : List ℕ) →
    add_round_key (shift_rows (sub_bytes (after_rounds key block 9))) (round_key key 10) ≡ cipher key block
unfolding cipher
cipher-last key block = refl

pub length-cipher : (key block : List ℕ) → length (cipher key block) ≡ 16
unfolding cipher
length-cipher key block = refl
