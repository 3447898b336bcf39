-- Move and Step at their places, and spelled out.
use Rattle.std.proofs.Common.{◌≡◌, ℕ, ◌+◌, ◌^◌, ◌<◌, ◌≤◌, Bool, true, false, leb, List, ◌∷◌, ◌++◌, length, drop, Option, Some, None, refl, sym, subst, arith, length-drop}
use Rattle.std.specs.Prelude.{IfSome}
use Rattle.std.specs.Int.{w16, to_le_bytes}
use Rattle.std.proofs.lemmas.Bool.{leb-true, leb-false, le-leb, lt-leb}
use Rattle.std.proofs.lemmas.List.{nil_from_length}
use Rattle.gp_commands.specs.declared.command.GpdCommand.TheVariants.{Move, Step}
use Rattle.gp_base.specs.Field.{IsOctets, optional, two_at, octet, octet_at, size_if, value_if}
use Rattle.gp_commands.specs.Level.{HasMoveRest, HasStepRest, move_at, step_at}
use Rattle.gp_base.proofs.Codec.{optional_codec, octet_codec, number16_codec}

-- ---- a Move

pub move_found : (there : Bool) (b : List ℕ) → IsOctets b → 1 ≤ length b → leb 2 (length b) ≡ there
    → (drop 1 b ≡ optional octet (value_if there (octet_at b 1)) ++ drop (1 + size_if there 1) b) × HasMoveRest (value_if there (octet_at b 1)) (drop (1 + size_if there 1) b)
move_found true b bytes within e = (((optional_codec _ _ _ _ octet_codec true).split b 1 bytes (leb-true 2 (length b) e)).0, tt)
move_found false b bytes within e = (
  ((optional_codec _ _ _ _ octet_codec false).split b 1 bytes within).0,
  nil_from_length (drop 1 b) (omega (arith, length-drop 1 b, leb-false 2 (length b) e)),
)

pub move_again : (id : ℕ) (rate : Option ℕ) (rest : List ℕ) → HasMoveRest rate rest → move_at (id ∷ (optional octet rate ++ rest)) ≡ Move id rate rest
move_again id None rest e = subst (λ (r : List ℕ). move_at (id ∷ r) ≡ Move id None r) (sym e) refl
move_again id (Some rate) rest e =
    let there : leb 2 (length (id ∷ rate ∷ rest)) ≡ true = le-leb _ _ (omega arith) in
    rw there refl

-- ---- a Step

pub step_found : (there : Bool) (b : List ℕ) → IsOctets b → 2 ≤ length b → leb 4 (length b) ≡ there
    → (drop 2 b ≡ optional (to_le_bytes w16) (value_if there (two_at b 2)) ++ drop (2 + size_if there 2) b)
    × HasStepRest (value_if there (two_at b 2)) (drop (2 + size_if there 2) b) × IfSome (value_if there (two_at b 2)) (λ n. n < 2 ^ 16)
step_found true b bytes within e =
    let field = (optional_codec _ _ _ _ number16_codec true).split b 2 bytes (leb-true 4 (length b) e) in
    (field.0, tt, field.1.fit)
step_found false b bytes within e =
    let field = (optional_codec _ _ _ _ number16_codec false).split b 2 bytes within in
    (field.0, omega (arith, length-drop 2 b, leb-false 4 (length b) e), tt)

pub step_again : (id size : ℕ) (time : Option ℕ) (rest : List ℕ) → HasStepRest time rest → IfSome time (λ n. n < 2 ^ 16)
    → step_at (id ∷ size ∷ (optional (to_le_bytes w16) time ++ rest)) ≡ Step id size time rest
step_again id size None rest h width =
    let there : leb 4 (length (id ∷ size ∷ rest)) ≡ false = lt-leb _ _ (omega arith) in
    rw there refl
step_again id size (Some time) rest h width =
    let b : List ℕ = id ∷ size ∷ (to_le_bytes w16 time ++ rest) in
    let there : leb 4 (length b) ≡ true = le-leb _ _ (omega arith) in
    let field = number16_codec.again b 2 time rest (record { rest = refl; within = omega arith }) width in
    rw (there, field.0, field.1.rest) refl
