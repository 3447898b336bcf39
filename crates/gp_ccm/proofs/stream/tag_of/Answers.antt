use Rattle.std.proofs.Common.{◌∙◌, ap, take}
use Rattle.gp_ccm.specs.Blocks.{xor_octets}
use Rattle.gp_ccm.specs.Ccm.{octets_in, stream_block, tag_of}
use Rattle.gp_ccm.proofs.stream.tag_of.Goals as goal

pub returns-clause-value : goal.returns-clause-value
unfolding tag_of
returns-clause-value g c =
    c.tag_from.ensures.value
    ∙ ap (λ x. take (octets_in c.args.size) (xor_octets x (stream_block c.args.schedule.now c.args.nonce.now 0))) c.chained-x.ensures.value
