use Rattle.std.proofs.Common.{◌≡◌, ◌<◌, ◌∙◌, [], ◌∷◌, ◌++◌, length, take, get_or, sym, ap, arith, bit_xor, add-one, append_assoc, length-append, length-take, if◌then◌else◌}
use Rattle.std.proofs.lemmas.List.{take_all}
use Rattle.gp_ccm.specs.Blocks.{xor_octets}
use Rattle.gp_ccm.proofs.XorLemmas.{length-xor_octets, xor_octets-take_more}
use Rattle.gp_ccm.proofs.octets.append_sum.Goals as goal

pub loop-i-preserved : goal.loop-i-preserved
loop-i-preserved c =
    let i = c.loop-i.i in
    let before = c.args.out.now in
    let octets = c.args.octets.now in
    let block = c.args.block.now in
    let value = bit_xor (get_or octets i 0) (get_or block i 0) in
    let here : i < length octets = c.loop-i-test.true in
    let in_block : i < length block = omega (arith, c.told-block, c.requires.piece) in
    let size : length c.loop-i.out < 127 = omega (
      arith,
      ap length c.loop-i.invariant,
      length-append before (xor_octets (take i octets) block),
      length-xor_octets (take i octets) block,
      length-take i octets,
    ) in
    c.push.ensures.after
    ∙ ap (λ r. if r then c.loop-i.out ++ value ∷ [] else c.loop-i.out) (c.push.ensures.told.1 size)
    ∙ ap (λ l. l ++ value ∷ []) c.loop-i.invariant
    ∙ append_assoc before (xor_octets (take i octets) block) (value ∷ [])
    ∙ ap (λ l. before ++ l) (sym (rw add-one (xor_octets-take_more octets block i here in_block)))

pub returns : goal.returns
returns c =
    let all : c.loop-i.i ≡ length c.args.octets.now = omega (arith, c.loop-i.auto.i-end) in
    c.loop-i.invariant ∙ ap (λ l. c.args.out.now ++ xor_octets l c.args.block.now) (take_all c.loop-i.i c.args.octets.now (omega arith))
