-- The last two lines of each table of reasons: the octets end where the last field ends.
use Rattle.std.proofs.Common.{◌≡◌, ℕ, ◌-◌, ◌≤◌, false, cond, ltb, List, [], ◌++◌, length, drop, Option, Some, None, refl, sym, ap, ◌∙◌, append-nil, length-drop, arith}
use Rattle.std.proofs.lemmas.Bool.{ltb-false, le-ltb}
use Rattle.std.proofs.lemmas.List.{drop_all}
use Rattle.gp_base.proofs.Codec.{At}
use Rattle.gp_base.proofs.Tables.{first_none}
use Rattle.gp_cluster.specs.declared.message.ClusterReason.{ClusterReason}
use Rattle.gp_cluster.specs.declared.message.ClusterReason.TheVariants.{Short, Trailing}

abbrev pub end_fault : List ℕ → ℕ → Option ClusterReason
end_fault b end = cond (ltb (length b) end) (Some (Short (length b))) (cond (ltb end (length b)) (Some (Trailing end)) None)

pub exact_end : (b : List ℕ) (end : ℕ) → end_fault b end ≡ None → length b ≡ end
exact_end b end h =
    let one = first_none (ltb (length b) end) (Short (length b)) _ h in
    let two = first_none (ltb end (length b)) (Trailing end) None one.1 in
    let above : end ≤ length b = ltb-false _ _ one.0 in
    let below : length b ≤ end = ltb-false _ _ two.0 in
    omega (arith, above, below)

pub no_fault : (b : List ℕ) (end : ℕ) → length b ≡ end → end_fault b end ≡ None
no_fault b end e =
    let one : ltb (length b) end ≡ false = le-ltb _ _ (omega (arith, e)) in
    let two : ltb end (length b) ≡ false = le-ltb _ _ (omega (arith, e)) in
    rw (one, two) refl

pub at_end : (b : List ℕ) (p end : ℕ) (xs : List ℕ) → length b ≡ end → drop p b ≡ xs ++ drop end b → drop p b ≡ xs
at_end b p end xs e h = h ∙ ap (λ (l : List ℕ). xs ++ l) (drop_all end b (omega (arith, e))) ∙ append-nil xs

pub with_end : (b : List ℕ) (p : ℕ) (xs ys : List ℕ) → xs ++ [] ≡ ys → At b p xs → At b p ys
with_end b p xs ys e at = record { rest = at.rest ∙ sym (append-nil xs) ∙ e; within = at.within }

pub end_met : (b : List ℕ) (p : ℕ) → At b p [] → length b ≡ p
end_met b p at =
    let len : length b - p ≡ 0 = sym (length-drop p b) ∙ ap length at.rest in
    omega (arith, len, at.within)
