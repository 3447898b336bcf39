-- What `decode` says of its answer, by what reading gives.
use Rattle.std.proofs.Common.{◌≡◌, ℕ, List, Option, Some, Result, Ok, Err, ap, ◌∙◌}
use Rattle.std.specs.Prelude.{IfOk, IfErr}
use Rattle.gp_base.specs.Field.{IsOctets}
use Rattle.gp_base.specs.Table.{answer}
use Rattle.gp_base.proofs.Tables.{answer_finds, answer_refuses}
use Rattle.gp_frames.specs.declared.frame.Mpdu.{Mpdu}
use Rattle.gp_frames.specs.declared.frame.FrameReason.{FrameReason}
use Rattle.gp_frames.specs.Frame.{Frame}
use Rattle.gp_frames.specs.Reasons.{first_reason}
use Rattle.gp_frames.specs.Reading.{value_at, reading}
use Rattle.gp_frames.proofs.Spelled.{is_spelled}
use Rattle.gp_frames.proofs.Again.{is_read}

pub found : (b : List ℕ) (r : Result Mpdu FrameReason) → IsOctets b → r ≡ reading b → IfOk r (λ v. Frame v b)
unfolding reading
found b r bytes e = answer_finds (first_reason b) (value_at b) (λ v. Frame v b) r (is_spelled b bytes) e

pub only : (b : List ℕ) (r : Result Mpdu FrameReason) → r ≡ reading b → (v : Mpdu) → Frame v b → r ≡ Ok v
only b r e v h = e ∙ is_read v b h

pub refused : (b : List ℕ) (r : Result Mpdu FrameReason) → r ≡ reading b → IfErr r (λ reason. first_reason b ≡ Some reason)
unfolding reading
refused b r e = answer_refuses (first_reason b) (value_at b) r e

pub reason_of : (b : List ℕ) (r : Result Mpdu FrameReason) → r ≡ reading b → (reason : FrameReason) → first_reason b ≡ Some reason → r ≡ Err reason
unfolding reading
reason_of b r e reason h = e ∙ ap (λ (o : Option FrameReason). answer o (value_at b)) h
