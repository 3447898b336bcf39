use Rattle.std.proofs.Common.{◌≡◌, ◌∙◌, length, get_or, ap, arith, bit_xor, bit_or, below_more, eq-eqb}
use Rattle.std.specs.Int.Bits.{xor_self}
use Rattle.std.proofs.lemmas.List.{ext_get_or}
use Rattle.std.proofs.lemmas.Bool.{eqb-true}
use Rattle.gp_ccm.proofs.XorLemmas.{or_zero_left, or_zero_right, same_from_xor}
use Rattle.gp_ccm.proofs.octets.are_same.Goals as goal

pub loop-i-preserved : goal.loop-i-preserved
loop-i-preserved c =
    let i = c.loop-i.i in
    let left = get_or c.args.left.now i 0 in
    let right = get_or c.args.right.now i 0 in
    record {
      same = λ e.
          below_more _ i
          (c.loop-i.invariant.same (or_zero_left c.loop-i.difference (bit_xor left right) e))
          (same_from_xor left right (or_zero_right c.loop-i.difference (bit_xor left right) e));
      none = λ equal.
          let before : c.loop-i.difference ≡ 0 = c.loop-i.invariant.none (λ k h. equal k (omega arith)) in
          let here : left ≡ right = equal i (omega arith) in
          ap (λ d. bit_or d (bit_xor left right)) before
          ∙ ap (λ x. bit_xor x right) here
          ∙ xor_self right;
    }

pub returns : goal.returns
returns c =
    let left = c.args.left.now in
    let right = c.args.right.now in
    let all : length left ≡ c.loop-i.i = omega (arith, c.loop-i.auto.i-end) in (
      λ t. ext_get_or 0 left right c.requires (λ k h. c.loop-i.invariant.same (eqb-true _ 0 t) k (omega arith)),
      λ e. eq-eqb _ 0 (c.loop-i.invariant.none (λ k h. ap (λ l. get_or l k 0) e)),
    )
