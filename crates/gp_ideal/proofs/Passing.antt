-- A frame is taken exactly where it passes each line of the table.
use Rattle.std.proofs.Common.{◌≡◌, ℕ, Bool, true, false, not, nat_le, ◌==◌, cond, List, [], ◌∷◌, Option, Some, None, Result, Ok, Err, refl, sym, ◌∙◌, ap, subst}
use Rattle.gp_base.specs.Identity.{is_individual, level_number}
use Rattle.gp_base.specs.Table.{by_table, let_else, let_ok}
use Rattle.gp_frames.specs.declared.frame.Gpdf.{Gpdf}
use Rattle.gp_frames.specs.declared.frame.Mpdu.{Mpdu}
use Rattle.gp_frames.specs.declared.frame.FrameReason.{FrameReason}
use Rattle.gp_frames.specs.Frame.{level_of, is_secured}
use Rattle.gp_frames.specs.Reading.{reading}
use Rattle.gp_security.specs.Protection.{opened, counter_of, source_of, is_to_device}
use Rattle.gp_script.specs.declared.report.Cause.TheVariants.{ToDevice, Unsecured, Unknown, KeyBit, LevelOther, BadTag}
use Rattle.gp_script.specs.declared.report.Dropped.TheVariants.{Stale}
use Rattle.gp_script.specs.declared.report.Refusal.TheVariants.{NotListening}
use Rattle.gp_translate.specs.declared.rule.Rule.{Rule}
use Rattle.gp_ideal.specs.declared.ledger.Change.{Change}
use Rattle.gp_ideal.specs.declared.ledger.Known.{Known}
use Rattle.gp_ideal.specs.Faults.{malformed}
use Rattle.gp_ideal.specs.Heard.{id_of, counted, judged, secured, of_frame, heard, clear, leave_lines, acted, unpaired, key_bit, differ}
use Rattle.gp_ideal.specs.Ledger.{known}
use Rattle.gp_ideal.specs.Verdict.{Verdict, Acted, Paired, Unpaired, Refused, Full, Dropped, Ruling, says, drops}
use Rattle.gp_ideal.proofs.Tests.{by_table-skip}

-- the row and the counter that a verdict takes
abbrev pub taken_by : Verdict → Option (ℕ × ℕ)
taken_by (Acted row source counter command acts) = Some (row, counter)
taken_by (Paired row source floor message) = None
taken_by (Unpaired row source counter message) = Some (row, counter)
taken_by (Refused reason) = None
taken_by Full = None
taken_by (Dropped cause) = None

-- the octets read as a frame that passes each test
pub record Passes (ledger : List Change) (octets : List ℕ) (k : Known) (counter : ℕ) (command : List ℕ) : Type 0 where
  pub mpdu : Mpdu
  pub reads : reading octets ≡ Ok mpdu
  pub from_device : is_to_device mpdu.frame ≡ false
  pub secure : not (is_secured mpdu.frame) ≡ false
  pub pairing : known ledger (source_of mpdu.frame) ≡ Some k
  pub kind : differ (key_bit mpdu.frame) (is_individual k.values.kind) ≡ false
  pub level : not (level_of mpdu.frame == level_number k.values.level) ≡ false
  pub opens : opened k.values.key.0 mpdu.frame ≡ Some command
  pub counts : counter_of mpdu.frame ≡ counter
  pub above : nat_le counter k.floor ≡ false

-- what is answered to a frame that passes
abbrev pub passed : List Rule → Known → ℕ → List ℕ → Ruling
passed rules k counter command = by_table (leave_lines k counter command) (acted rules k counter command)

-- ---- a frame that passes is answered so

counted-passes : (rules : List Rule) (k : Known) (counter : ℕ) (command : List ℕ) → nat_le counter k.floor ≡ false → counted rules k counter command ≡ passed rules k counter command
unfolding counted
counted-passes rules k counter command above = by_table-skip (nat_le counter k.floor) (says (Dropped (Stale k.floor))) [] (passed rules k counter command) above

judged-passes : (rules : List Rule) (k : Known) (frame : Gpdf) (command : List ℕ) → differ (key_bit frame) (is_individual k.values.kind) ≡ false →
    not (level_of frame == level_number k.values.level) ≡ false → opened k.values.key.0 frame ≡ Some command → nat_le (counter_of frame) k.floor ≡ false →
    judged rules k frame ≡ passed rules k (counter_of frame) command
unfolding judged
judged-passes rules k frame command kind level opens above =
    let rest = let_else (opened k.values.key.0 frame) (drops BadTag) (λ (c : List ℕ). counted rules k (counter_of frame) c) in
    by_table-skip (differ (key_bit frame) (is_individual k.values.kind)) (drops KeyBit) ((not (level_of frame == level_number k.values.level), drops LevelOther) ∷ []) rest kind
    ∙ by_table-skip (not (level_of frame == level_number k.values.level)) (drops LevelOther) [] rest level
    ∙ ap (λ (o : Option (List ℕ)). let_else o (drops BadTag) (λ (c : List ℕ). counted rules k (counter_of frame) c)) opens
    ∙ counted-passes rules k (counter_of frame) command above

secured-passes : (rules : List Rule) (ledger : List Change) (frame : Gpdf) (k : Known) → known ledger (source_of frame) ≡ Some k → secured rules ledger frame ≡ judged rules k frame
unfolding secured
secured-passes rules ledger frame k e = ap (λ (o : Option Known). let_else o (drops Unknown) (λ (found : Known). judged rules found frame)) e

frame-passes : (rules : List Rule) (ledger : List Change) (frame : Gpdf) → is_to_device frame ≡ false → not (is_secured frame) ≡ false → of_frame rules ledger frame ≡ secured rules ledger frame
unfolding of_frame
frame-passes rules ledger frame from secure =
    by_table-skip (is_to_device frame) (drops ToDevice) ((not (is_secured frame), clear frame.body) ∷ []) (secured rules ledger frame) from
    ∙ by_table-skip (not (is_secured frame)) (clear frame.body) [] (secured rules ledger frame) secure

heard-reads : (rules : List Rule) (ledger : List Change) (octets : List ℕ) (mpdu : Mpdu) → reading octets ≡ Ok mpdu → heard rules ledger octets ≡ of_frame rules ledger mpdu.frame
unfolding heard
heard-reads rules ledger octets mpdu e = ap (λ (r : Result Mpdu FrameReason). let_ok r (λ (reason : FrameReason). says (Dropped (malformed reason))) (λ (m : Mpdu). of_frame rules ledger m.frame)) e

pub heard-passes : (rules : List Rule) (ledger : List Change) (octets : List ℕ) (k : Known) (counter : ℕ) (command : List ℕ) → Passes ledger octets k counter command →
    heard rules ledger octets ≡ passed rules k counter command
heard-passes rules ledger octets k counter command p =
    let frame = p.mpdu.frame in
    let above : nat_le (counter_of frame) k.floor ≡ false = subst (λ (n : ℕ). nat_le n k.floor ≡ false) (sym p.counts) p.above in
    heard-reads rules ledger octets p.mpdu p.reads
    ∙ frame-passes rules ledger frame p.from_device p.secure
    ∙ secured-passes rules ledger frame k p.pairing
    ∙ judged-passes rules k frame command p.kind p.level p.opens above
    ∙ ap (λ (n : ℕ). passed rules k n command) p.counts

-- ---- only a frame that passes is taken

pub record Passing (ledger : List Change) (octets : List ℕ) (row counter : ℕ) : Type 0 where
  pub k : Known
  pub command : List ℕ
  pub passes : Passes ledger octets k counter command
  pub row_is : k.row ≡ row

-- a line that takes nothing isn't the one that answers
skipped : (test : Bool) (x : Ruling) (lines : List (Bool × Ruling)) (otherwise : Ruling) (row counter : ℕ) → taken_by x.verdict ≡ None →
    taken_by (by_table ((test, x) ∷ lines) otherwise).verdict ≡ Some (row, counter) → (test ≡ false) × (taken_by (by_table lines otherwise).verdict ≡ Some (row, counter))
skipped true x lines otherwise row counter none e = absurd cc
skipped false x lines otherwise row counter none e = (refl, e)

-- what is taken where a frame passes
passed-takes : (rules : List Rule) (k : Known) (counter : ℕ) (command : List ℕ) → taken_by (passed rules k counter command).verdict ≡ Some (k.row, counter)
passed-takes rules k counter command = go (id_of command == 0xE1)
  where
    go : (b : Bool) → taken_by (cond b (unpaired k counter) (acted rules k counter command)).verdict ≡ Some (k.row, counter)
    go true = refl
    go false = refl

one_pair : (a b c d : ℕ) → ◌≡◌ {A = Option (ℕ × ℕ)} (Some (a, b)) (Some (c, d)) → ◌≡◌ {A = ℕ × ℕ} (a, b) (c, d)
one_pair a b c d e = cc

counted-takes : (rules : List Rule) (k : Known) (counter : ℕ) (command : List ℕ) (row c : ℕ) → taken_by (counted rules k counter command).verdict ≡ Some (row, c) →
    (nat_le counter k.floor ≡ false) × (k.row ≡ row) × (counter ≡ c)
unfolding counted
counted-takes rules k counter command row c e =
    let past = skipped (nat_le counter k.floor) (says (Dropped (Stale k.floor))) [] (passed rules k counter command) row c refl e in
    let same = one_pair k.row counter row c (sym (passed-takes rules k counter command) ∙ past.1) in
    (past.0, ap (λ (p : ℕ × ℕ). p.0) same, ap (λ (p : ℕ × ℕ). p.1) same)

pub record Judged (frame : Gpdf) (k : Known) (row c : ℕ) : Type 0 where
  pub kind : differ (key_bit frame) (is_individual k.values.kind) ≡ false
  pub level : not (level_of frame == level_number k.values.level) ≡ false
  pub command : List ℕ
  pub opens : opened k.values.key.0 frame ≡ Some command
  pub above : nat_le (counter_of frame) k.floor ≡ false
  pub row_is : k.row ≡ row
  pub counts : counter_of frame ≡ c

judged-takes : (rules : List Rule) (k : Known) (frame : Gpdf) (row c : ℕ) → taken_by (judged rules k frame).verdict ≡ Some (row, c) → Judged frame k row c
unfolding judged
judged-takes rules k frame row c e =
    let rest = let_else (opened k.values.key.0 frame) (drops BadTag) (λ (command : List ℕ). counted rules k (counter_of frame) command) in
    let one = skipped (differ (key_bit frame) (is_individual k.values.kind)) (drops KeyBit) ((not (level_of frame == level_number k.values.level), drops LevelOther) ∷ []) rest row c refl e in
    let two = skipped (not (level_of frame == level_number k.values.level)) (drops LevelOther) [] rest row c refl one.1 in
    go one.0 two.0 (opened k.values.key.0 frame) refl two.1
  where
    go : differ (key_bit frame) (is_individual k.values.kind) ≡ false → not (level_of frame == level_number k.values.level) ≡ false →
        (o : Option (List ℕ)) → opened k.values.key.0 frame ≡ o →
        taken_by (let_else o (drops BadTag) (λ (command : List ℕ). counted rules k (counter_of frame) command)).verdict ≡ Some (row, c) → Judged frame k row c
    go kind level None opens t = absurd cc
    go kind level (Some command) opens t =
        let its = counted-takes rules k (counter_of frame) command row c t in
        record { kind = kind; level = level; command = command; opens = opens; above = its.0; row_is = its.1; counts = its.2 }

secured-takes : (rules : List Rule) (ledger : List Change) (frame : Gpdf) (row c : ℕ) → taken_by (secured rules ledger frame).verdict ≡ Some (row, c) →
    (k : Known) × (known ledger (source_of frame) ≡ Some k) × Judged frame k row c
unfolding secured
secured-takes rules ledger frame row c e = go (known ledger (source_of frame)) refl e
  where
    go : (o : Option Known) → known ledger (source_of frame) ≡ o → taken_by (let_else o (drops Unknown) (λ (k : Known). judged rules k frame)).verdict ≡ Some (row, c) →
        (k : Known) × (known ledger (source_of frame) ≡ Some k) × Judged frame k row c
    go None is t = absurd cc
    go (Some k) is t = (k, is, judged-takes rules k frame row c t)

clear-takes : (body : List ℕ) → taken_by (clear body).verdict ≡ None
unfolding clear
clear-takes body = go (id_of body == 0xE0)
  where
    go : (b : Bool) → taken_by (cond b (says (Refused NotListening)) (drops Unsecured)).verdict ≡ None
    go true = refl
    go false = refl

frame-takes : (rules : List Rule) (ledger : List Change) (frame : Gpdf) (row c : ℕ) → taken_by (of_frame rules ledger frame).verdict ≡ Some (row, c) →
    (is_to_device frame ≡ false) × (not (is_secured frame) ≡ false) × (taken_by (secured rules ledger frame).verdict ≡ Some (row, c))
unfolding of_frame
frame-takes rules ledger frame row c e =
    let one = skipped (is_to_device frame) (drops ToDevice) ((not (is_secured frame), clear frame.body) ∷ []) (secured rules ledger frame) row c refl e in
    let two = skipped (not (is_secured frame)) (clear frame.body) [] (secured rules ledger frame) row c (clear-takes frame.body) one.1 in
    (one.0, two.0, two.1)

pub heard-takes : (rules : List Rule) (ledger : List Change) (octets : List ℕ) (row c : ℕ) → taken_by (heard rules ledger octets).verdict ≡ Some (row, c) → Passing ledger octets row c
unfolding heard
heard-takes rules ledger octets row c e = go (reading octets) refl e
  where
    go : (r : Result Mpdu FrameReason) → reading octets ≡ r →
        taken_by (let_ok r (λ (reason : FrameReason). says (Dropped (malformed reason))) (λ (mpdu : Mpdu). of_frame rules ledger mpdu.frame)).verdict ≡ Some (row, c) → Passing ledger octets row c
    go (Err reason) is t = absurd cc
    go (Ok mpdu) is t =
        let framed = frame-takes rules ledger mpdu.frame row c t in
        let its = secured-takes rules ledger mpdu.frame row c framed.2 in
        record {
          k = its.0;
          command = its.2.command;
          passes = record {
            mpdu = mpdu;
            reads = is;
            from_device = framed.0;
            secure = framed.1;
            pairing = its.1;
            kind = its.2.kind;
            level = its.2.level;
            opens = its.2.opens;
            counts = its.2.counts;
            above = subst (λ (n : ℕ). nat_le n its.0.floor ≡ false) its.2.counts its.2.above;
          };
          row_is = its.2.row_is;
        }
