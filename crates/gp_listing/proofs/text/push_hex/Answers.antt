use Rattle.std.proofs.Common.{sym, ◌∙◌, append_assoc}
use Rattle.std.proofs.lemmas.List.{drop_more, drop_all, append-nil}
use Rattle.hex.specs.Hex.{encode_with}
use Rattle.gp_listing.proofs.text.push_hex.Goals as goal

pub loop-octet-preserved : goal.loop-octet-preserved
unfolding encode_with
loop-octet-preserved c =
    let next = drop_more c.args.octets.now c.loop-octet.octet-index 0 c.loop-octet-test.true in
    rw (c.in_ok-push-2.ensures.items, c.in_ok-push.ensures.items) (simp append_assoc (rw next at c.loop-octet.invariant))

pub returns : goal.returns
unfolding encode_with
returns c =
    let ended = drop_all c.loop-octet.octet-index c.args.octets.now c.loop-octet-test.false in
    sym (append-nil c.loop-octet.text.items) ∙ rw ended at c.loop-octet.invariant
