-- Messages at their places, and spelled out; and the clauses of the calls.
use Rattle.std.proofs.Common.{◌≡◌, ℕ, ◌≤◌, true, false, not, ltb, List, [], ◌∷◌, length, drop, Option, Some, None, Result, Ok, Err, refl, sym, ap, subst, ◌∙◌, arith}
use Rattle.std.specs.Prelude.{IfOk, IfErr}
use Rattle.std.proofs.lemmas.Bool.{not-false, ltb-false, le-ltb}
use Rattle.gp_base.specs.Field.{IsOctets, has_bit, octet_at}
use Rattle.gp_base.specs.Table.{let_else, or_else}
use Rattle.gp_base.proofs.Codec.{At, At-after, At-octet, split_octet}
use Rattle.gp_base.proofs.Tables.{first_none, answer_finds, answer_refuses}
use Rattle.gp_cluster.specs.declared.kind.Kind.{Kind}
use Rattle.gp_cluster.specs.declared.kind.Kind.TheVariants as kinds
use Rattle.gp_cluster.specs.declared.message.Zcl.{Zcl}
use Rattle.gp_cluster.specs.declared.message.Cluster.{Cluster}
use Rattle.gp_cluster.specs.declared.message.Cluster.TheVariants.{Notification, CommissioningNotice, Pairing, ProxyMode, Response}
use Rattle.gp_cluster.specs.declared.message.ClusterReason.{ClusterReason}
use Rattle.gp_cluster.specs.declared.message.ClusterReason.TheVariants.{Short, HeaderForm, CommandUnknown, Long}
use Rattle.gp_cluster.specs.Kind.{kind_in, kind_of, is_from_sink, command_number}
use Rattle.gp_cluster.specs.Message.{control, body, spelling, fields_agree, HasWidths, Message, IsValid, has_header_form, header_reason, kind_at, body_reason, body_at, message_at, first_reason, reading}
use Rattle.gp_cluster.proofs.Headers.{SaysControl, says_control, control_again, is_kind, kind_again}
use Rattle.gp_cluster.proofs.Notices.{notification_found, notification_again, notice_found, notice_again}
use Rattle.gp_cluster.proofs.Pairings.{pairing_found, pairing_again}
use Rattle.gp_cluster.proofs.Modes.{mode_found, mode_again}
use Rattle.gp_cluster.proofs.Responses.{response_found, response_again}

-- ---- what is read is spelled so

-- octets of a kind
abbrev message_of : Kind → List ℕ → Zcl
message_of k b = record { quiet = has_bit (octet_at b 0) 16; sequence = octet_at b 1; body = body_at k b }

record Spells (c : Cluster) (b : List ℕ) : Type 0 where
  parts : drop 3 b ≡ body c
  fields : fields_agree c ≡ true
  widths : HasWidths c

body_found : (k : Kind) (b : List ℕ) → IsOctets b → body_reason k b ≡ None → Spells (body_at k b) b
body_found kinds.Notification b bytes h = let f = notification_found b bytes h in record { parts = f.0; fields = f.1; widths = f.2 }
body_found kinds.CommissioningNotice b bytes h = let f = notice_found b bytes h in record { parts = f.0; fields = f.1; widths = f.2 }
body_found kinds.Pairing b bytes h = let f = pairing_found b bytes h in record { parts = f.0; fields = f.1; widths = f.2 }
body_found kinds.ProxyMode b bytes h = let f = mode_found b bytes h in record { parts = f.0; fields = f.1; widths = f.2 }
body_found kinds.Response b bytes h = let f = response_found b bytes h in record { parts = f.0; fields = f.1; widths = f.2 }

kind_in-body_at : (k : Kind) (b : List ℕ) → kind_in (body_at k b) ≡ k
kind_in-body_at kinds.Notification b = refl
kind_in-body_at kinds.CommissioningNotice b = refl
kind_in-body_at kinds.Pairing b = refl
kind_in-body_at kinds.ProxyMode b = refl
kind_in-body_at kinds.Response b = refl

-- a header without fault
record IsHeader (b : List ℕ) : Type 0 where
  limit : length b ≤ 127
  long : 3 ≤ length b
  form : has_header_form (octet_at b 0) ≡ true

is_header : (b : List ℕ) → header_reason b ≡ None → IsHeader b
is_header b h =
    let one = first_none (ltb 127 (length b)) (Long 127) _ h in
    let two = first_none (ltb (length b) 3) (Short (length b)) _ one.1 in
    let three = first_none (not (has_header_form (octet_at b 0))) (HeaderForm 0) None two.1 in
    record { limit = ltb-false _ _ one.0; long = ltb-false _ _ two.0; form = not-false _ three.0 }

three_first : (b : List ℕ) → 3 ≤ length b → b ≡ octet_at b 0 ∷ octet_at b 1 ∷ octet_at b 2 ∷ drop 3 b
three_first b long =
    split_octet b 0 (omega (arith, long))
    ∙ ap (λ (l : List ℕ). octet_at b 0 ∷ l) (split_octet b 1 (omega (arith, long)) ∙ ap (λ (l : List ℕ). octet_at b 1 ∷ l) (split_octet b 2 (omega (arith, long))))

spelled : (k : Kind) (b : List ℕ) → IsOctets b → IsHeader b → kind_at b ≡ Some k → Spells (body_at k b) b → b ≡ spelling (message_of k b)
unfolding spelling
spelled k b bytes header is spells =
    let kind = is_kind (has_bit (octet_at b 0) 8) (octet_at b 2) k is in
    let same = kind_in-body_at k b in
    let first : octet_at b 0 ≡ control (is_from_sink (kind_in (body_at k b))) (has_bit (octet_at b 0) 16) =
    sym (control_again (octet_at b 0) (bytes 0) header.form) ∙ ap (λ d. control d (has_bit (octet_at b 0) 16)) (kind.direction ∙ ap is_from_sink (sym same)) in
    let third : octet_at b 2 ≡ command_number (kind_in (body_at k b)) = kind.number ∙ ap command_number (sym same) in
    three_first b header.long
    ∙ ap (λ (x : ℕ). x ∷ octet_at b 1 ∷ octet_at b 2 ∷ drop 3 b) first
    ∙ ap (λ (x : ℕ). control (is_from_sink (kind_in (body_at k b))) (has_bit (octet_at b 0) 16) ∷ octet_at b 1 ∷ x ∷ drop 3 b) third
    ∙ ap (λ (l : List ℕ). control (is_from_sink (kind_in (body_at k b))) (has_bit (octet_at b 0) 16) ∷ octet_at b 1 ∷ command_number (kind_in (body_at k b)) ∷ l) spells.parts

found : (k : Kind) (b : List ℕ) → IsOctets b → header_reason b ≡ None → kind_at b ≡ Some k → body_reason k b ≡ None → Message (message_of k b) b
found k b bytes none is fine =
    let header = is_header b none in
    let spells = body_found k b bytes fine in
    record {
      spelled = spelled k b bytes header is spells;
      fields = spells.fields;
      widths = spells.widths;
      limit = header.limit;
      are_octets = bytes;
    }

-- ---- what is spelled so is read

record Reads (c : Cluster) (b : List ℕ) : Type 0 where
  fine : body_reason (kind_in c) b ≡ None
  value : body_at (kind_in c) b ≡ c

body_again : (c : Cluster) (b : List ℕ) → At b 3 (body c) → fields_agree c ≡ true → HasWidths c → Reads c b
body_again (Notification m) b at fields widths = let a = notification_again b m at fields widths in record { fine = a.0; value = ap (λ x. Notification x) a.1 }
body_again (CommissioningNotice m) b at fields widths = let a = notice_again b m at fields widths in record { fine = a.0; value = ap (λ x. CommissioningNotice x) a.1 }
body_again (Pairing m) b at fields widths = let a = pairing_again b m at fields widths in record { fine = a.0; value = ap (λ x. Pairing x) a.1 }
body_again (ProxyMode m) b at fields widths = let a = mode_again b m at fields widths in record { fine = a.0; value = ap (λ x. ProxyMode x) a.1 }
body_again (Response m) b at fields widths = let a = response_again b m at fields widths in record { fine = a.0; value = ap (λ x. Response x) a.1 }

record Heads (z : Zcl) (b : List ℕ) : Type 0 where
  first : octet_at b 0 ≡ control (is_from_sink (kind_in z.body)) z.quiet
  second : octet_at b 1 ≡ z.sequence
  third : octet_at b 2 ≡ command_number (kind_in z.body)
  behind : At b 3 (body z.body)

heads : (z : Zcl) (b : List ℕ) → b ≡ spelling z → Heads z b
unfolding spelling
heads z b e =
    let first = control (is_from_sink (kind_in z.body)) z.quiet in
    let third = command_number (kind_in z.body) in
    let at0 : At b 0 (first ∷ z.sequence ∷ third ∷ body z.body) = record { rest = e; within = omega arith } in
    let at1 = At-after b 0 (first ∷ []) _ at0 in
    let at2 = At-after b 1 (z.sequence ∷ []) _ at1 in
    record {
      first = At-octet b 0 first _ at0;
      second = At-octet b 1 z.sequence _ at1;
      third = At-octet b 2 third _ at2;
      behind = At-after b 2 (third ∷ []) _ at2;
    }

reading_of : (k : Kind) (b : List ℕ) (z : Zcl) → header_reason b ≡ None → kind_at b ≡ Some k → body_reason k b ≡ None → message_of k b ≡ z → reading b ≡ Ok z
unfolding reading first_reason
reading_of k b z none is fine value = rw (none, is, fine) (ap (λ (x : Zcl). Ok x) value)

pub again : (z : Zcl) (b : List ℕ) → Message z b → reading b ≡ Ok z
again z b h =
    let head = heads z b h.spelled in
    let kind = kind_in z.body in
    let says : SaysControl (octet_at b 0) (is_from_sink kind) z.quiet = subst (λ (x : ℕ). SaysControl x (is_from_sink kind) z.quiet) (sym head.first) (says_control (is_from_sink kind) z.quiet) in
    let limit : ltb 127 (length b) ≡ false = le-ltb _ _ h.limit in
    let long : ltb (length b) 3 ≡ false = le-ltb _ _ head.behind.within in
    let none : header_reason b ≡ None = rw (limit, long, says.form) refl in
    let is : kind_at b ≡ Some kind = ap (λ d. kind_of d (octet_at b 2)) says.from_sink_is ∙ ap (λ (x : ℕ). kind_of (is_from_sink kind) x) head.third ∙ kind_again kind in
    let reads = body_again z.body b head.behind h.fields h.widths in
    let value : message_of kind b ≡ z = rw (says.quiet_is, head.second, reads.value) refl in
    reading_of kind b z none is reads.fine value

-- ---- answers and reasons

-- no fault of the header, a kind, and no fault of a message of that kind
record Faultless (b : List ℕ) : Type 0 where
  header : header_reason b ≡ None
  kind : Kind
  is : kind_at b ≡ Some kind
  fine : body_reason kind b ≡ None

faultless_by : (b : List ℕ) (h : Option ClusterReason) (k : Option Kind) → header_reason b ≡ h → kind_at b ≡ k
    → or_else h (let_else k (Some (CommandUnknown 2)) (λ kind. body_reason kind b)) ≡ None → Faultless b
faultless_by b (Some a) k eh ek e = absurd cc
faultless_by b None None eh ek e = absurd cc
faultless_by b None (Some kind) eh ek e = record { header = eh; kind = kind; is = ek; fine = e }

faultless : (b : List ℕ) → first_reason b ≡ None → Faultless b
unfolding first_reason
faultless b e = faultless_by b (header_reason b) (kind_at b) refl refl e

found_at : (b : List ℕ) → IsOctets b → first_reason b ≡ None → Message (message_at b) b
found_at b bytes e =
    let f = faultless b e in
    let same : message_of f.kind b ≡ message_at b = rw f.is refl in
    subst (λ (z : Zcl). Message z b) same (found f.kind b bytes f.header f.is f.fine)

pub is_found : (b : List ℕ) (r : Result Zcl ClusterReason) → IsOctets b → r ≡ reading b → IfOk r (λ z. Message z b)
unfolding reading
is_found b r bytes e = answer_finds (first_reason b) (message_at b) (λ z. Message z b) r (found_at b bytes) e

pub is_refused : (b : List ℕ) (r : Result Zcl ClusterReason) → r ≡ reading b → IfErr r (λ reason. first_reason b ≡ Some reason)
unfolding reading
is_refused b r e = answer_refuses (first_reason b) (message_at b) r e

pub refuses : (b : List ℕ) (reason : ClusterReason) → first_reason b ≡ Some reason → reading b ≡ Err reason
unfolding reading
refuses b reason e = rw e refl

-- ---- which messages have a spelling

pub is_valid : (z : Zcl) → fields_agree z.body ≡ true → length (spelling z) ≤ 127 → IsOctets (spelling z) → HasWidths z.body → IsValid z
is_valid z fields room octets widths = (spelling z, record { spelled = refl; fields = fields; widths = widths; limit = room; are_octets = octets })

pub valid_back : (z : Zcl) → IsValid z → (fields_agree z.body ≡ true) × (length (spelling z) ≤ 127)
valid_back z h = (h.1.fields, subst (λ (xs : List ℕ). length xs ≤ 127) h.1.spelled h.1.limit)

pub encoded : (z : Zcl) (octets : List ℕ) → IsValid z → octets ≡ spelling z → Message z octets
encoded z octets h e = subst (λ (xs : List ℕ). Message z xs) (h.1.spelled ∙ sym e) h.1
