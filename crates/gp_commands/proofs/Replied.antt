-- A Reply at its places, and spelled out.
use Rattle.std.proofs.Common.{◌≡◌, ℕ, ◌^◌, ◌<◌, ◌≤◌, true, false, eqb, ltb, List, ◌++◌, length, drop, None, refl, sym, ap, subst, ◌∙◌, append_assoc, arith}
use Rattle.std.specs.Prelude.{◌||◌, is_none}
use Rattle.std.specs.Int.{w16, to_le_bytes}
use Rattle.std.proofs.lemmas.Bool.{and_parts, and_from, ltb-false, le-ltb}
use Rattle.gp_base.specs.Field.{IsOctets, has_bit, optional, octet, octet_at}
use Rattle.gp_commands.specs.Inside.{keying_octets}
use Rattle.gp_commands.specs.declared.command.Reply.{Reply}
use Rattle.gp_commands.specs.declared.command.CommandReason.TheVariants.{Short, ReservedLevel, ReservedKeyKind}
use Rattle.gp_commands.specs.Keying.{Keying}
use Rattle.gp_commands.specs.Keying.{reserved}
use Rattle.gp_commands.specs.Reply.{reply_level, reply_key_kind, reply_wanted, reply, reply_fields_agree, HasReplyWidths, reply_keying_place, reply_rest_place, reply_reason, reply_at}
use Rattle.gp_base.proofs.Tables.{first_none}
use Rattle.gp_base.proofs.Codec.{At, IsField, field_from, field_agrees, optional_codec, octet_codec, number16_codec, join}
use Rattle.gp_commands.proofs.Commissioned.{none_of_test, not_reserved, free_tests}
use Rattle.gp_commands.proofs.Keyed.{HasKeying, keying_codec}

abbrev pub reply_keying_of : Reply → Keying
reply_keying_of r = record { key = r.key; mic = r.key_mic; counter = r.counter }

pub record HasReplyFields (r : Reply) : Type 0 where
  pub pan : IsField (has_bit r.options 1) (λ n. n < 2 ^ 16) r.pan
  pub free : reserved (reply_level r.options) (reply_key_kind r.options) ≡ None
  pub keying : HasKeying (reply_wanted r.options) (reply_keying_of r)

pub reply_fields_from : (r : Reply) → reply_fields_agree r ≡ true → HasReplyWidths r → HasReplyFields r
reply_fields_from r e widths =
    let s1 = and_parts _ _ e in
    let s2 = and_parts _ _ s1.0 in
    let s3 = and_parts _ _ s2.0 in
    let s4 = and_parts _ _ s3.0 in
    record {
      pan = field_from _ _ _ s4.0 widths.pan;
      free = none_of_test _ s4.1;
      keying = record {
        key = field_from _ _ _ s3.1 widths.key;
        mic = field_from _ _ _ s2.1 widths.mic;
        counter = field_from _ _ _ s1.1 widths.counter;
      };
    }

pub reply_fields_tested : (r : Reply) → HasReplyFields r → (reply_fields_agree r ≡ true) × HasReplyWidths r
reply_fields_tested r has =
    let pan = field_agrees _ _ _ has.pan in
    let free = ap is_none has.free in
    let key = field_agrees _ _ _ has.keying.key in
    let mic = field_agrees _ _ _ has.keying.mic in
    let counter = field_agrees _ _ _ has.keying.counter in (
      and_from _ _ (and_from _ _ (and_from _ _ (and_from _ _ pan free) key) mic) counter,
      record {
        pan = has.pan.fit;
        key = has.keying.key.fit;
        mic = has.keying.mic.fit;
        counter = has.keying.counter.fit;
      },
    )

pub reply_in_order : (r : Reply) (rest : List ℕ) → r.rest ≡ rest → reply r ≡ octet r.options ++ (optional (to_le_bytes w16) r.pan ++ (keying_octets (reply_keying_of r) ++ rest))
unfolding reply keying_octets
reply_in_order r rest e = simp append_assoc (ap (λ (l : List ℕ). reply (record r { rest = l })) e)

pub reply_found : (b : List ℕ) → IsOctets b → reply_reason b ≡ None → (drop 1 b ≡ reply (reply_at b)) × HasReplyFields (reply_at b)
reply_found b bytes h =
    let opts = octet_at b 1 in
    let one = first_none (ltb (length b) 2) (Short (length b)) _ h in
    let two = first_none (eqb (reply_level opts) 1) ReservedLevel _ one.1 in
    let three = first_none ((eqb (reply_key_kind opts) 5) || (eqb (reply_key_kind opts) 6)) ReservedKeyKind _ two.1 in
    let four = first_none (ltb (length b) (reply_rest_place b)) (Short (length b)) _ three.1 in
    let first_fits : 2 ≤ length b = ltb-false _ _ one.0 in
    let all_fits : reply_rest_place b ≤ length b = ltb-false _ _ four.0 in
    let pan_fits : reply_keying_place b ≤ length b = omega (arith, all_fits) in
    let options = octet_codec.split b 1 bytes first_fits in
    let pan = (optional_codec _ _ _ _ number16_codec (has_bit opts 1)).split b 2 bytes pan_fits in
    let keying = (keying_codec (reply_wanted opts)).split b (reply_keying_place b) bytes all_fits in
    let all = join b 1 2 (octet opts) _ options.0 (join b 2 (reply_keying_place b) _ _ pan.0 keying.0) in (
      all ∙ sym (reply_in_order (reply_at b) (drop (reply_rest_place b) b) refl),
      record {
        pan = pan.1;
        free = not_reserved (reply_level opts) (reply_key_kind opts) two.0 three.0;
        keying = keying.1;
      },
    )

pub reply_again : (b : List ℕ) (r : Reply) → At b 1 (reply r) → HasReplyFields r → (reply_reason b ≡ None) × (reply_at b ≡ r)
reply_again b r at has =
    let opts = octet_at b 1 in
    let start : At b 1 (octet r.options ++ (optional (to_le_bytes w16) r.pan ++ (keying_octets (reply_keying_of r) ++ r.rest))) =
    record { rest = at.rest ∙ reply_in_order r r.rest refl; within = at.within } in
    let options = octet_codec.again b 1 r.options _ start tt in
    let back = sym options.0 in
    let pan = (optional_codec _ _ _ _ number16_codec (has_bit opts 1)).again b 2 r.pan _ options.1
    (subst (λ (x : ℕ). IsField (has_bit x 1) (λ n. n < 2 ^ 16) r.pan) back has.pan) in
    let keying = (keying_codec (reply_wanted opts)).again b (reply_keying_place b) (reply_keying_of r) r.rest pan.1
    (subst (λ (x : ℕ). HasKeying (reply_wanted x) (reply_keying_of r)) back has.keying) in
    let tests = free_tests (reply_level opts) (reply_key_kind opts) (subst (λ (x : ℕ). reserved (reply_level x) (reply_key_kind x) ≡ None) back has.free) in
    let one : ltb (length b) 2 ≡ false = le-ltb _ _ options.1.within in
    let four : ltb (length b) (reply_rest_place b) ≡ false = le-ltb _ _ keying.1.within in
    let value : reply_at b ≡ r = rw (pan.0, keying.0, keying.1.rest, options.0) refl in
    (rw (one, tests.0, tests.1, four) refl, value)
