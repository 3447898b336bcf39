use Rattle.std.proofs.Common.{◌≡◌, ◌<◌, ◌∙◌, length, get_or, sym, ap, arith, bit_xor, inl, inr}
use Rattle.std.specs.Int.Bits.{xor_zero_r}
use Rattle.std.proofs.lemmas.List.{ext_get_or}
use Rattle.std.proofs.lemmas.Bool.{cases_lt}
use Rattle.gp_ccm.specs.Blocks.{padded, xor_octets}
use Rattle.gp_ccm.proofs.XorLemmas.{length-xor_octets, get_or-xor_octets}
use Rattle.gp_ccm.proofs.BlockLemmas.{length-padded, get_or-padded_inside, get_or-padded_past}
use Rattle.gp_ccm.proofs.octets.with_added.Goals as goal

pub returns : goal.returns
returns c =
    let block = c.args.block in
    let octets = c.args.octets.now in
    let sum = c.loop-i.sum in
    let all : c.loop-i.i ≡ length octets = omega (arith, c.loop-i.auto.i-end) in
    let whole : length block ≡ 16 = c.loop-i.invariant.block in
    let size : length (padded octets) ≡ 16 = length-padded octets c.requires in
    let same_size : length sum ≡ length (xor_octets block (padded octets)) =
    omega (arith, c.loop-i.invariant.whole, length-xor_octets block (padded octets)) in
    ext_get_or 0 sum (xor_octets block (padded octets)) same_size
    (λ k h.
    let inside : k < 16 = omega (arith, c.loop-i.invariant.whole) in
    elim (cases_lt k (length octets)) [
      | inl a ↦
          c.loop-i.invariant.added k (omega arith)
          ∙ ap (bit_xor (get_or block k 0)) (sym (get_or-padded_inside octets k a))
          ∙ sym (get_or-xor_octets block (padded octets) k (omega arith) (omega arith))
      | inr b ↦
          c.loop-i.invariant.kept k (omega arith)
          ∙ sym (xor_zero_r (get_or block k 0))
          ∙ ap (bit_xor (get_or block k 0)) (sym (get_or-padded_past octets k b))
          ∙ sym (get_or-xor_octets block (padded octets) k (omega arith) (omega arith))
    ])
