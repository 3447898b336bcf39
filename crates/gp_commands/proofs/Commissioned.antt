-- A Commissioning at its places, and spelled out.
use Rattle.std.proofs.Common.{◌≡◌, ℕ, ◌+◌, ◌≤◌, Bool, true, false, eqb, ltb, List, ◌++◌, length, drop, Option, Some, None, refl, sym, ap, subst, ◌∙◌, append_assoc, arith}
use Rattle.std.specs.Prelude.{◌||◌, is_none, IfSome, unwrap_or}
use Rattle.std.proofs.lemmas.Bool.{and_parts, and_from, ltb-false, le-ltb, eqb-true, eq-eqb}
use Rattle.gp_base.specs.Field.{IsOctets, has_bit, optional, octet, octet_at}
use Rattle.gp_commands.specs.Inside.{keying_octets}
use Rattle.gp_commands.specs.declared.application.Application.{Application}
use Rattle.gp_commands.specs.declared.command.Commissioning.{Commissioning}
use Rattle.gp_commands.specs.declared.command.CommandReason.TheVariants.{Short, ReservedLevel, ReservedKeyKind}
use Rattle.gp_commands.specs.Keying.{Keying}
use Rattle.gp_commands.specs.Keying.{reserved}
use Rattle.gp_commands.specs.Application.{clusters_size, clusters_agree}
use Rattle.gp_commands.specs.Commissioning.{level, key_kind, wanted_by, commissioning, security_agrees, application_agrees, fields_agree, HasCommissioningWidths, extended_at, keying_place, application_place, rest_place, commissioning_reason, commissioning_at}
use Rattle.gp_base.proofs.Tables.{first_none}
use Rattle.gp_commands.proofs.Applied.{HasApplication, information_octets, unwrap-value_if, application_split, application_again}
use Rattle.gp_base.proofs.Codec.{At, IsField, field_from, field_agrees, anything, optional_codec, octet_codec, join}
use Rattle.gp_commands.proofs.Keyed.{HasKeying, keying_codec}
use Rattle.gp_commands.proofs.Places.{application_end_above}

-- ---- what the tests of its fields say

abbrev pub keying_of : Commissioning → Keying
keying_of c = record { key = c.key; mic = c.key_mic; counter = c.counter }

abbrev pub application_of : Commissioning → Application
application_of c = record { information = c.application; manufacturer = c.manufacturer; model = c.model; commands = c.commands; clusters = c.clusters }

abbrev pub extended_of : Commissioning → ℕ
extended_of c = unwrap_or c.extended 0

pub record HasFields (c : Commissioning) : Type 0 where
  pub extended : IsField (has_bit c.options 128) (λ _. Unit {0}) c.extended
  pub free : reserved (level (extended_of c)) (key_kind (extended_of c)) ≡ None
  pub keying : HasKeying (wanted_by (extended_of c)) (keying_of c)
  pub application : HasApplication c.options (application_of c)

pub none_of_test : {X : Type 0} (o : Option X) → is_none o ≡ true → o ≡ None
none_of_test None e = refl
none_of_test (Some x) e = absurd cc

clusters_fit : (o : Option (List ℕ)) → clusters_agree o ≡ true → IfSome o (λ clusters. length clusters ≡ 1 + clusters_size (octet_at clusters 0))
clusters_fit None e = tt
clusters_fit (Some clusters) e = eqb-true _ _ e

clusters_tested : (o : Option (List ℕ)) → IfSome o (λ clusters. length clusters ≡ 1 + clusters_size (octet_at clusters 0)) → clusters_agree o ≡ true
clusters_tested None e = refl
clusters_tested (Some clusters) e = eq-eqb _ _ e

pub fields_from : (c : Commissioning) → fields_agree c ≡ true → HasCommissioningWidths c → HasFields c
fields_from c e widths =
    let both = and_parts (security_agrees c) (application_agrees c) e in
    let s1 = and_parts _ _ both.0 in
    let s2 = and_parts _ _ s1.0 in
    let s3 = and_parts _ _ s2.0 in
    let s4 = and_parts _ _ s3.0 in
    let a1 = and_parts _ _ both.1 in
    let a2 = and_parts _ _ a1.0 in
    let a3 = and_parts _ _ a2.0 in
    let a4 = and_parts _ _ a3.0 in
    let a5 = and_parts _ _ a4.0 in
    record {
      extended = field_from _ _ _ s4.0 (anything c.extended);
      free = none_of_test _ s4.1;
      keying = record {
        key = field_from _ _ _ s3.1 widths.key;
        mic = field_from _ _ _ s2.1 widths.mic;
        counter = field_from _ _ _ s1.1 widths.counter;
      };
      application = record {
        information = field_from _ _ _ a5.0 (anything c.application);
        manufacturer = field_from _ _ _ a5.1 widths.manufacturer;
        model = field_from _ _ _ a4.1 widths.model;
        commands = field_from _ _ _ a3.1 (anything c.commands);
        clusters = field_from _ _ _ a2.1 (clusters_fit c.clusters a1.1);
      };
    }

pub fields_tested : (c : Commissioning) → HasFields c → (fields_agree c ≡ true) × HasCommissioningWidths c
fields_tested c has =
    let extended = field_agrees _ _ _ has.extended in
    let free = ap is_none has.free in
    let key = field_agrees _ _ _ has.keying.key in
    let mic = field_agrees _ _ _ has.keying.mic in
    let counter = field_agrees _ _ _ has.keying.counter in
    let information = field_agrees _ _ _ has.application.information in
    let manufacturer = field_agrees _ _ _ has.application.manufacturer in
    let model = field_agrees _ _ _ has.application.model in
    let commands = field_agrees _ _ _ has.application.commands in
    let clusters = field_agrees _ _ _ has.application.clusters in
    let security : security_agrees c ≡ true = and_from _ _ (and_from _ _ (and_from _ _ (and_from _ _ extended free) key) mic) counter in
    let application : application_agrees c ≡ true =
    and_from _ _ (and_from _ _ (and_from _ _ (and_from _ _ (and_from _ _ information manufacturer) model) commands) clusters) (clusters_tested c.clusters has.application.clusters.fit) in (
      and_from _ _ security application,
      record {
        key = has.keying.key.fit;
        mic = has.keying.mic.fit;
        counter = has.keying.counter.fit;
        manufacturer = has.application.manufacturer.fit;
        model = has.application.model.fit;
      },
    )

-- ---- in its parts

pub in_parts : (c : Commissioning) (r : List ℕ) → c.rest ≡ r → commissioning c ≡ octet c.device ++ (octet c.options ++ (optional octet c.extended ++ (keying_octets (keying_of c) ++ (information_octets (application_of c) ++ r))))
unfolding commissioning keying_octets information_octets
in_parts c r e = simp append_assoc (ap (λ (l : List ℕ). commissioning (record c { rest = l })) e)

pub not_reserved : (l k : ℕ) → eqb l 1 ≡ false → ((eqb k 5) || (eqb k 6)) ≡ false → reserved l k ≡ None
not_reserved l k e f = rw (e, f) refl

pub free_tests : (l k : ℕ) → reserved l k ≡ None → (eqb l 1 ≡ false) × (((eqb k 5) || (eqb k 6)) ≡ false)
free_tests l k h =
    let one = first_none (eqb l 1) ReservedLevel _ h in
    let two = first_none ((eqb k 5) || (eqb k 6)) ReservedKeyKind _ one.1 in
    (one.0, two.0)

-- ---- both ways

pub commissioning_found : (b : List ℕ) → IsOctets b → commissioning_reason b ≡ None → (drop 1 b ≡ commissioning (commissioning_at b)) × HasFields (commissioning_at b)
commissioning_found b bytes h =
    let one = first_none (ltb (length b) (keying_place b)) (Short (length b)) _ h in
    let two = first_none (eqb (level (extended_at b)) 1) ReservedLevel _ one.1 in
    let three = first_none ((eqb (key_kind (extended_at b)) 5) || (eqb (key_kind (extended_at b)) 6)) ReservedKeyKind _ two.1 in
    let four = first_none (ltb (length b) (rest_place b)) (Short (length b)) _ three.1 in
    let header_fits : keying_place b ≤ length b = ltb-false _ _ one.0 in
    let all_fits : rest_place b ≤ length b = ltb-false _ _ four.0 in
    let keying_fits : application_place b ≤ length b = omega (arith, application_end_above (octet_at b 2) b (application_place b), all_fits) in
    let device = octet_codec.split b 1 bytes (omega arith) in
    let options = octet_codec.split b 2 bytes (omega arith) in
    let extended = (optional_codec _ _ _ _ octet_codec (has_bit (octet_at b 2) 128)).split b 3 bytes header_fits in
    let keying = (keying_codec (wanted_by (extended_at b))).split b (keying_place b) bytes keying_fits in
    let application = application_split (octet_at b 2) b (application_place b) bytes all_fits in
    let same : extended_at b ≡ extended_of (commissioning_at b) = sym (unwrap-value_if (has_bit (octet_at b 2) 128) (octet_at b 3) 0) in
    let all = join b 1 2 (octet (octet_at b 1)) _ device.0 (join b 2 3 (octet (octet_at b 2)) _ options.0 (join b 3 (keying_place b) _ _ extended.0 (join b (keying_place b) (application_place b) _ _ keying.0 application.0))) in
    let free = not_reserved (level (extended_at b)) (key_kind (extended_at b)) two.0 three.0 in (
      all ∙ sym (in_parts (commissioning_at b) (drop (rest_place b) b) refl),
      record {
        extended = extended.1;
        free = subst (λ (x : ℕ). reserved (level x) (key_kind x) ≡ None) same free;
        keying = subst (λ (x : ℕ). HasKeying (wanted_by x) (keying_of (commissioning_at b))) same keying.1;
        application = application.1;
      },
    )

pub commissioning_again : (b : List ℕ) (c : Commissioning) → At b 1 (commissioning c) → HasFields c → (commissioning_reason b ≡ None) × (commissioning_at b ≡ c)
commissioning_again b c at has =
    let start : At b 1 (octet c.device ++ (octet c.options ++ (optional octet c.extended ++ (keying_octets (keying_of c) ++ (information_octets (application_of c) ++ c.rest))))) =
    record { rest = at.rest ∙ in_parts c c.rest refl; within = at.within } in
    let device = octet_codec.again b 1 c.device _ start tt in
    let options = octet_codec.again b 2 c.options _ device.1 tt in
    let flag : has_bit c.options 128 ≡ has_bit (octet_at b 2) 128 = ap (λ (x : ℕ). has_bit x 128) (sym options.0) in
    let extended = (optional_codec _ _ _ _ octet_codec (has_bit (octet_at b 2) 128)).again b 3 c.extended _ options.1
    (subst (λ (t : Bool). IsField t (λ _. Unit {0}) c.extended) flag has.extended) in
    let same : extended_of c ≡ extended_at b =
    ap (λ (o : Option ℕ). unwrap_or o 0) (sym extended.0) ∙ unwrap-value_if (has_bit (octet_at b 2) 128) (octet_at b 3) 0 in
    let keying = (keying_codec (wanted_by (extended_at b))).again b (keying_place b) (keying_of c) _ extended.1
    (subst (λ (x : ℕ). HasKeying (wanted_by x) (keying_of c)) same has.keying) in
    let application = application_again (octet_at b 2) b (application_place b) (application_of c) c.rest keying.1
    (subst (λ (x : ℕ). HasApplication x (application_of c)) (sym options.0) has.application) in
    let tests = free_tests (level (extended_at b)) (key_kind (extended_at b)) (subst (λ (x : ℕ). reserved (level x) (key_kind x) ≡ None) same has.free) in
    let one : ltb (length b) (keying_place b) ≡ false = le-ltb _ _ extended.1.within in
    let four : ltb (length b) (rest_place b) ≡ false = le-ltb _ _ application.1.within in
    let value : commissioning_at b ≡ c = rw (device.0, extended.0, keying.0, application.0, application.1.rest, options.0) refl in
    (rw (one, tests.0, tests.1, four) refl, value)
