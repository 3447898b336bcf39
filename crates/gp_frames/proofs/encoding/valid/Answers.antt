use Rattle.std.proofs.Common.{sym, ◌∙◌}
use Rattle.std.proofs.lemmas.Bool.{OnTrue_at}
use Rattle.gp_frames.proofs.Validity.{is_valid, valid_back}
use Rattle.gp_frames.proofs.encoding.valid.Goals as goal

pub returns-then-has_the_fields : goal.returns-then-has_the_fields
returns-then-has_the_fields c = (
  λ t. is_valid c.args.mpdu.now (sym c.has_the_fields.ensures.value ∙ c.if-has_the_fields.true) (c.has_room.ensures.room.0 t) (OnTrue_at t c.has_room.ensures.octets) (OnTrue_at t c.has_room.ensures.widths),
  λ h. c.has_room.ensures.room.1 (valid_back c.args.mpdu.now h).1,
)

pub returns-else-has_the_fields : goal.returns-else-has_the_fields
returns-else-has_the_fields c = (
  λ t. absurd (let f = c.if-has_the_fields.false in cc),
  λ h. c.has_the_fields.ensures.value ∙ (valid_back c.args.mpdu.now h).0,
)
