-- A fresh frame passes each test, and octets that pass are a fresh frame.
use Rattle.std.proofs.Common.{◌≡◌, ℕ, Bool, true, false, not, ◌==◌, List, Option, Some, None, Result, Ok, Err, refl, ap, ◌∙◌, subst}
use Rattle.std.specs.Prelude.{IsTrue, IfOk, is_some}
use Rattle.std.specs.Result.{result_ok}
use Rattle.std.proofs.lemmas.Bool.{eqb-true, eq-eqb}
use Rattle.gp_base.specs.Field.{IsOctets}
use Rattle.gp_base.specs.Identity.{is_individual, level_number}
use Rattle.gp_frames.specs.declared.frame.Gpdf.{Gpdf}
use Rattle.gp_frames.specs.declared.frame.Mpdu.{Mpdu}
use Rattle.gp_frames.specs.declared.frame.FrameReason.{FrameReason}
use Rattle.gp_frames.specs.Frame.{Frame, IsFrame, level_of, is_secured}
use Rattle.gp_frames.specs.Reading.{reading}
use Rattle.gp_frames.proofs.Again.{is_read}
use Rattle.gp_frames.proofs.DecodeClauses.{found}
use Rattle.gp_security.specs.Protection.{Good, opened}
use Rattle.gp_security.proofs.Opening.{is_only, opened_good}
use Rattle.gp_ideal.specs.declared.ledger.Change.{Change}
use Rattle.gp_ideal.specs.declared.ledger.Known.{Known}
use Rattle.gp_ideal.specs.Fresh.{Fresh}
use Rattle.gp_ideal.specs.Heard.{key_bit}
use Rattle.gp_ideal.proofs.Passing.{Passes}
use Rattle.gp_ideal.proofs.Tests.{not-true, not-false_is, differ-same, same-differ, below, not_below}

-- ---- what is carried is opened

abbrev as_answer : Option (List ℕ) → Result (List ℕ) (Unit {0})
as_answer None = Err tt
as_answer (Some command) = Ok command

answer-back : (o : Option (List ℕ)) → result_ok (as_answer o) ≡ o
answer-back None = refl
answer-back (Some command) = refl

answered : (o : Option (List ℕ)) (command : List ℕ) → as_answer o ≡ Ok command → o ≡ Some command
answered None command e = absurd cc
answered (Some other) command e = let same : other ≡ command = cc in ap (λ (c : List ℕ). Some c) same

opens : (key : List ℕ) (frame : Gpdf) (command : List ℕ) → Good key frame command → opened key frame ≡ Some command
opens key frame command good =
    answered (opened key frame) command (is_only key frame (as_answer (opened key frame)) (answer-back (opened key frame)) command good)

-- ---- a fresh frame passes

level-test : (a b : ℕ) → a ≡ b → not (a == b) ≡ false
level-test a b e = not-true (a == b) (eq-eqb a b e)

pub fresh-passes : (ledger : List Change) (octets : List ℕ) (k : Known) (counter : ℕ) (command : List ℕ) → Fresh ledger octets k counter command → Passes ledger octets k counter command
fresh-passes ledger octets k counter command f = record {
  mpdu = f.mpdu;
  reads = is_read f.mpdu octets f.spelled;
  from_device = f.from_device;
  secure = not-true (is_secured f.mpdu.frame) f.secured;
  pairing = f.pairing;
  kind = differ-same (key_bit f.mpdu.frame) (is_individual k.values.kind) f.kind;
  level = level-test (level_of f.mpdu.frame) (level_number k.values.level) f.level;
  opens = opens k.values.key.0 f.mpdu.frame command f.carried;
  counts = f.counts;
  above = not_below counter k.floor f.above;
}

-- ---- what passes is fresh

is_spelled_so : (octets : List ℕ) (mpdu : Mpdu) → IsOctets octets → reading octets ≡ Ok mpdu → Frame mpdu octets
is_spelled_so octets mpdu bytes e = subst (λ (r : Result Mpdu FrameReason). IfOk r (λ v. Frame v octets)) e (found octets (reading octets) bytes refl)

has_mic : (mic : Option (List ℕ)) → is_some mic ≡ true → (m : List ℕ) × (mic ≡ Some m)
has_mic None e = absurd cc
has_mic (Some m) e = (m, refl)

is_true : (b : Bool) → b ≡ true → IsTrue b
is_true b e = e

carries : (key : List ℕ) (frame : Gpdf) (command : List ℕ) → IsFrame frame → is_secured frame ≡ true → opened key frame ≡ Some command → Good key frame command
carries key frame command framed secured e =
    let mic = has_mic frame.mic (framed.mic ∙ secured) in
    opened_good key frame mic.0 command framed (is_true (is_secured frame) secured) mic.1 e

pub passes-fresh : (ledger : List Change) (octets : List ℕ) (k : Known) (counter : ℕ) (command : List ℕ) → IsOctets octets → Passes ledger octets k counter command → Fresh ledger octets k counter command
passes-fresh ledger octets k counter command bytes p =
    let spelled = is_spelled_so octets p.mpdu bytes p.reads in
    let secured = not-false_is (is_secured p.mpdu.frame) p.secure in
    record {
      mpdu = p.mpdu;
      spelled = spelled;
      from_device = p.from_device;
      secured = secured;
      pairing = p.pairing;
      kind = same-differ (key_bit p.mpdu.frame) (is_individual k.values.kind) p.kind;
      level = eqb-true (level_of p.mpdu.frame) (level_number k.values.level) (not-false_is (level_of p.mpdu.frame == level_number k.values.level) p.level);
      carried = carries k.values.key.0 p.mpdu.frame command spelled.frame secured p.opens;
      counts = p.counts;
      above = below counter k.floor p.above;
    }
