-- Commands at their places, and spelled out.
use Rattle.std.proofs.Common.{◌≡◌, ℕ, ◌<◌, ◌≤◌, false, leb, ltb, eqb, List, ◌∷◌, ◌++◌, length, drop, Some, None, Result, Ok, Err, refl, sym, ap, subst, ◌∙◌, arith}
use Rattle.std.specs.Prelude.{IfOk, IfErr}
use Rattle.std.specs.Int.{w16, to_le_bytes}
use Rattle.std.proofs.lemmas.Bool.{ltb-false, le-ltb, eqb-false, ne_eqb}
use Rattle.gp_commands.specs.declared.form.Form.{Form}
use Rattle.gp_commands.specs.declared.form.Form.TheVariants as forms
use Rattle.gp_commands.specs.declared.command.GpdCommand.{GpdCommand}
use Rattle.gp_commands.specs.declared.command.GpdCommand.TheVariants.{Plain, Move, Step, Vector, Report, Commissioning, Reply, ChannelRequest, ChannelConfig, Other}
use Rattle.gp_commands.specs.declared.command.CommandReason.{CommandReason}
use Rattle.gp_commands.specs.declared.command.CommandReason.TheVariants.{Empty, Short}
use Rattle.gp_base.specs.Field.{IsOctets, two_at, octet_at}
use Rattle.gp_commands.specs.Forms.{report_id, commissioning_id, channel_request_id, reply_id, channel_config_id, form_of}
use Rattle.gp_commands.specs.Report.{entries_reason}
use Rattle.gp_commands.specs.Commissioning.{commissioning, commissioning_at}
use Rattle.gp_commands.specs.Reply.{reply, reply_at}
use Rattle.gp_commands.specs.Command.{spelling, HasForm, HasWidths, Command, ends_before, payload_reason, payload_at, first_reason, reading}
use Rattle.gp_base.proofs.Tables.{first_none, answer_finds, answer_refuses}
use Rattle.gp_base.proofs.Codec.{number16_codec, split_octet}
use Rattle.gp_commands.proofs.Commissioned.{fields_from, fields_tested, commissioning_found, commissioning_again}
use Rattle.gp_commands.proofs.Entries.{records_from, no_reason}
use Rattle.gp_commands.proofs.Identifiers.{is_report, is_commissioning, is_reply, is_request, is_config, report_form, commissioning_form, reply_form, request_form, config_form}
use Rattle.gp_commands.proofs.Levels.{move_found, move_again, step_found, step_again}
use Rattle.gp_commands.proofs.Replied.{reply_fields_from, reply_fields_tested, reply_found, reply_again}

-- ---- what is read is spelled so

-- a command's octets, form and widths
pub record Spells (c : GpdCommand) (b : List ℕ) : Type 0 where
  pub parts : b ≡ spelling c
  pub form : HasForm c
  pub widths : HasWidths c

two_octets : (b : List ℕ) → 2 ≤ length b → b ≡ octet_at b 0 ∷ octet_at b 1 ∷ drop 2 b
two_octets b h = split_octet b 0 (omega arith) ∙ ap (λ (l : List ℕ). octet_at b 0 ∷ l) (split_octet b 1 (omega arith))

two_within : (b : List ℕ) → ends_before 2 b ≡ None → 2 ≤ length b
two_within b h = ltb-false _ _ (first_none (ltb (length b) 2) (Short (length b)) None h).0

found_as : (f : Form) (b : List ℕ) → IsOctets b → 0 < length b → form_of (octet_at b 0) ≡ f → payload_reason f b ≡ None → Spells (payload_at f b) b
unfolding spelling
found_as forms.Plain b bytes lt e h = record { parts = split_octet b 0 lt; form = e; widths = tt }
found_as forms.Move b bytes lt e h =
    let found = move_found (leb 2 (length b)) b bytes lt refl in
    record { parts = split_octet b 0 lt ∙ ap (λ (l : List ℕ). octet_at b 0 ∷ l) found.0; form = (e, found.1); widths = tt }
found_as forms.Step b bytes lt e h =
    let within = two_within b h in
    let found = step_found (leb 4 (length b)) b bytes within refl in
    record { parts = two_octets b within ∙ ap (λ (l : List ℕ). octet_at b 0 ∷ octet_at b 1 ∷ l) found.0; form = (e, found.1); widths = found.2 }
found_as forms.Vector b bytes lt e h = record { parts = two_octets b (two_within b h); form = e; widths = tt }
found_as forms.Report b bytes lt e h =
    let tests = first_none (ltb (length b) 3) (Short (length b)) (entries_reason (length b) b 3) h in
    let within : 3 ≤ length b = ltb-false _ _ tests.0 in
    let cluster = number16_codec.split b 1 bytes within in
    let id = is_report (octet_at b 0) (bytes 0) e in
    record {
      parts = split_octet b 0 lt ∙ ap (λ (l : List ℕ). octet_at b 0 ∷ l) cluster.0 ∙ ap (λ (x : ℕ). x ∷ (to_le_bytes w16 (two_at b 1) ++ drop 3 b)) id;
      form = records_from (length b) b 3 (omega arith) within tests.1;
      widths = cluster.1;
    }
found_as forms.Commissioning b bytes lt e h =
    let found = commissioning_found b bytes h in
    let tested = fields_tested (commissioning_at b) found.1 in
    let id = is_commissioning (octet_at b 0) (bytes 0) e in
    record {
      parts = split_octet b 0 lt ∙ ap (λ (l : List ℕ). octet_at b 0 ∷ l) found.0 ∙ ap (λ (x : ℕ). x ∷ commissioning (commissioning_at b)) id;
      form = tested.0;
      widths = tested.1;
    }
found_as forms.Reply b bytes lt e h =
    let found = reply_found b bytes h in
    let tested = reply_fields_tested (reply_at b) found.1 in
    let id = is_reply (octet_at b 0) (bytes 0) e in
    record {
      parts = split_octet b 0 lt ∙ ap (λ (l : List ℕ). octet_at b 0 ∷ l) found.0 ∙ ap (λ (x : ℕ). x ∷ reply (reply_at b)) id;
      form = tested.0;
      widths = tested.1;
    }
found_as forms.ChannelRequest b bytes lt e h =
    record { parts = two_octets b (two_within b h) ∙ ap (λ (x : ℕ). x ∷ octet_at b 1 ∷ drop 2 b) (is_request (octet_at b 0) (bytes 0) e); form = tt; widths = tt }
found_as forms.ChannelConfig b bytes lt e h =
    record { parts = two_octets b (two_within b h) ∙ ap (λ (x : ℕ). x ∷ octet_at b 1 ∷ drop 2 b) (is_config (octet_at b 0) (bytes 0) e); form = tt; widths = tt }
found_as forms.Other b bytes lt e h = record { parts = split_octet b 0 lt; form = e; widths = tt }

pub found : (b : List ℕ) → IsOctets b → length b ≤ 117 → first_reason b ≡ None → Command (payload_at (form_of (octet_at b 0)) b) b
unfolding first_reason
found b bytes room h =
    let tests = first_none (eqb (length b) 0) Empty _ h in
    let lt : 0 < length b = omega (arith, eqb-false (length b) 0 tests.0) in
    let spells = found_as (form_of (octet_at b 0)) b bytes lt refl tests.1 in
    record { spelled = spells.parts; form = spells.form; widths = spells.widths; limit = room; are_octets = bytes }

-- ---- what is spelled so is read

two_fine : (x y : ℕ) (rest : List ℕ) → ends_before 2 (x ∷ y ∷ rest) ≡ None
two_fine x y rest =
    let fine : ltb (length (x ∷ y ∷ rest)) 2 ≡ false = le-ltb _ _ (omega arith) in
    rw fine refl

-- what reading by a form gives
pub record Reads (f : Form) (b : List ℕ) (c : GpdCommand) : Type 0 where
  pub form : form_of (octet_at b 0) ≡ f
  pub fine : payload_reason f b ≡ None
  pub value : payload_at f b ≡ c
  pub filled : 0 < length b

reads : (c : GpdCommand) → HasForm c → HasWidths c → (f : Form) × Reads f (spelling c) c
unfolding spelling
reads (Plain id rest) form widths = (forms.Plain, record { form = form; fine = refl; value = refl; filled = omega arith })
reads (Move id rate rest) form widths = (forms.Move, record { form = form.0; fine = refl; value = move_again id rate rest form.1; filled = omega arith })
reads (Step id size time rest) form widths = (forms.Step, record { form = form.0; fine = two_fine id size _; value = step_again id size time rest form.1 widths; filled = omega arith })
reads (Vector id value rest) form widths = (forms.Vector, record { form = form; fine = two_fine id value rest; value = refl; filled = omega arith })
reads (Report cluster records) form widths =
    let b : List ℕ = report_id ∷ (to_le_bytes w16 cluster ++ records) in
    let field = number16_codec.again b 1 cluster records (record { rest = refl; within = omega arith }) widths in
    let within : ltb (length b) 3 ≡ false = le-ltb _ _ field.1.within in
    let entries = no_reason form.entries (length b) b 3 form.each (record { rest = field.1.rest ∙ form.parts; within = field.1.within }) (omega arith) in
    (forms.Report, record { form = report_form; fine = rw within entries; value = rw (field.0, field.1.rest) refl; filled = omega arith })
reads (Commissioning c) form widths =
    let again = commissioning_again (commissioning_id ∷ commissioning c) c (record { rest = refl; within = omega arith }) (fields_from c form widths) in
    (forms.Commissioning, record { form = commissioning_form; fine = again.0; value = ap (λ x. Commissioning x) again.1; filled = omega arith })
reads (Reply r) form widths =
    let again = reply_again (reply_id ∷ reply r) r (record { rest = refl; within = omega arith }) (reply_fields_from r form widths) in
    (forms.Reply, record { form = reply_form; fine = again.0; value = ap (λ x. Reply x) again.1; filled = omega arith })
reads (ChannelRequest value rest) form widths = (forms.ChannelRequest, record { form = request_form; fine = two_fine channel_request_id value rest; value = refl; filled = omega arith })
reads (ChannelConfig value rest) form widths = (forms.ChannelConfig, record { form = config_form; fine = two_fine channel_config_id value rest; value = refl; filled = omega arith })
reads (Other id rest) form widths = (forms.Other, record { form = form; fine = refl; value = refl; filled = omega arith })

reading_of : (f : Form) (b : List ℕ) (c : GpdCommand) → Reads f b c → reading b ≡ Ok c
unfolding reading first_reason
reading_of f b c r =
    let filled : eqb (length b) 0 ≡ false = ne_eqb (length b) 0 (λ e. omega (arith, r.filled)) in
    rw (filled, r.form, r.fine, r.value) refl

pub again : (c : GpdCommand) (b : List ℕ) → Command c b → reading b ≡ Ok c
again c b command =
    let r = reads c command.form command.widths in
    subst (λ (l : List ℕ). reading l ≡ Ok c) (sym command.spelled) (reading_of r.0 (spelling c) c r.1)

-- ---- the clauses of the calls

pub is_found : (b : List ℕ) (r : Result GpdCommand CommandReason) → IsOctets b → length b ≤ 117 → r ≡ reading b → IfOk r (λ command. Command command b)
unfolding reading
is_found b r bytes room e = answer_finds (first_reason b) (payload_at (form_of (octet_at b 0)) b) (λ command. Command command b) r (found b bytes room) e

pub is_refused : (b : List ℕ) (r : Result GpdCommand CommandReason) → r ≡ reading b → IfErr r (λ reason. first_reason b ≡ Some reason)
unfolding reading
is_refused b r e = answer_refuses (first_reason b) (payload_at (form_of (octet_at b 0)) b) r e

pub refuses : (b : List ℕ) (reason : CommandReason) → first_reason b ≡ Some reason → reading b ≡ Err reason
unfolding reading
refuses b reason e = rw e refl
