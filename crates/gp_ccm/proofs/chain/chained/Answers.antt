use Rattle.std.proofs.Common.{◌∙◌, sym, ap}
use Rattle.gp_aes.specs.Cipher.{cipher}
use Rattle.gp_ccm.specs.Blocks.{blocks_of}
use Rattle.gp_ccm.specs.Ccm.{chain, header_blocks}
use Rattle.gp_ccm.proofs.CcmLemmas.{chain-append}
use Rattle.gp_ccm.proofs.chain.chained.Goals as goal

pub returns-clause-value : goal.returns-clause-value
returns-clause-value g c =
    let key = c.args.schedule.now in
    let header = header_blocks c.args.aad.now in
    let message = blocks_of c.args.message.now in
    c.absorb.ensures.value
    ∙ ap (λ x. chain key x message)
    (c.absorb_header-header.ensures.value
    ∙ ap (λ x. chain key x header) (c.encrypt-first.ensures.value ∙ ap (cipher key) c.first_block.ensures))
    ∙ sym (chain-append key _ header message)
