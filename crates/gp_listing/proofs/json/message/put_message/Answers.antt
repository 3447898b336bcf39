use Rattle.gp_listing.proofs.MessageTexts.{message_is_utf8}
use Rattle.gp_listing.proofs.json.message.put_message.Goals as goal

pub unreachable-requires : goal.unreachable-requires
unreachable-requires c =
    c.in_default.ensures.cases.0
    (rw (c.as_slice.ensures.value, c.in_ok-push_message.ensures, c.new-listed.ensures.items) (message_is_utf8 c.args.zcl.now c.requires))
