use Rattle.std.proofs.Common.{◌∙◌, ap}
use Rattle.gp_ccm.specs.Ccm.{encrypted, octets_in, tag_of}
use Rattle.gp_ccm.proofs.CcmLemmas.{pair_of}
use Rattle.gp_ccm.proofs.sealing.seal.Goals as goal

pub returns-clause-value : goal.returns-clause-value
returns-clause-value g c =
    let nonce = c.args.nonce.now in
    let message = c.args.message.now in
    pair_of _ _ _ _
    (c.encrypted-cipher.ensures.value ∙ ap (λ k. encrypted k nonce message) c.new-schedule.ensures)
    (c.tag_of-tag.ensures.value ∙ ap (λ k. tag_of k nonce c.args.aad.now message (octets_in c.args.size)) c.new-schedule.ensures)
