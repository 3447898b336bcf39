use Rattle.std.proofs.Common.{◌≡◌, ◌∙◌, length, sym, ap, arith}
use Rattle.gp_ccm.specs.Ccm.{encrypted, tag_of}
use Rattle.gp_ccm.proofs.CcmLemmas.{expected, opened, refused, length-encrypted}
use Rattle.gp_ccm.proofs.sealing.unseal.Goals as goal

pub are_same-requires : goal.are_same-requires
are_same-requires g c = ap length c.as_slice-2.ensures.value ∙ c.tag_of-expected.ensures.size ∙ c.of.ensures

pub returns-then-are_same-clause-opened : goal.returns-then-are_same-clause-opened
returns-then-are_same-clause-opened g c =
    let key = c.args.key.now.0 in
    let nonce = c.args.nonce.now in
    let aad = c.args.aad.now in
    let text = c.args.cipher.now in
    let tag = c.args.tag.now in
    let plain : c.encrypted-message.result ≡ encrypted key nonce text =
    c.encrypted-message.ensures.value ∙ ap (λ k. encrypted k nonce text) c.new-schedule.ensures in
    let right = expected key nonce aad text tag _ _ _ _ _ _ c.new-schedule.ensures c.encrypted-message.ensures.value
    c.as_slice.ensures.value c.tag_of-expected.ensures.value c.as_slice-2.ensures.value c.of.ensures in
    opened key nonce aad text tag c.encrypted-message.result plain
    (sym (c.are_same.ensures.0 c.if-are_same.true) ∙ right ∙ ap (λ m. tag_of key nonce aad m (length tag)) (sym plain))

pub returns-else-are_same-clause-refused : goal.returns-else-are_same-clause-refused
returns-else-are_same-clause-refused g c =
    let key = c.args.key.now.0 in
    let nonce = c.args.nonce.now in
    let aad = c.args.aad.now in
    let text = c.args.cipher.now in
    let tag = c.args.tag.now in
    let right = expected key nonce aad text tag _ _ _ _ _ _ c.new-schedule.ensures c.encrypted-message.ensures.value
    c.as_slice.ensures.value c.tag_of-expected.ensures.value c.as_slice-2.ensures.value c.of.ensures in
    refused key nonce aad text tag (λ e. let same = c.are_same.ensures.1 (right ∙ sym e) in let differ = c.if-are_same.false in cc)

pub returns-then-are_same-clause-cost : goal.returns-then-are_same-clause-cost
returns-then-are_same-clause-cost g c =
    let size : length c.as_slice.result.now ≡ length c.args.cipher.now =
    ap length (c.as_slice.ensures.value ∙ c.encrypted-message.ensures.value)
    ∙ length-encrypted c.new-schedule.result c.args.nonce.now c.args.cipher.now in
    omega (arith, size, c.encrypted-message.ensures.cost, c.tag_of-expected.ensures.cost)

pub returns-else-are_same-clause-cost : goal.returns-else-are_same-clause-cost
returns-else-are_same-clause-cost g c =
    let size : length c.as_slice.result.now ≡ length c.args.cipher.now =
    ap length (c.as_slice.ensures.value ∙ c.encrypted-message.ensures.value)
    ∙ length-encrypted c.new-schedule.result c.args.nonce.now c.args.cipher.now in
    omega (arith, size, c.encrypted-message.ensures.cost, c.tag_of-expected.ensures.cost)
