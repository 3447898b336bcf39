-- A Pairing at its places, and spelled out.
use Rattle.std.proofs.Common.{◌≡◌, ℕ, ◌^◌, ◌<◌, ◌≤◌, true, false, not, eqb, ltb, List, [], ◌++◌, length, drop, None, refl, sym, ap, subst, ◌∙◌, append_assoc, arith}
use Rattle.std.specs.Prelude.{is_some}
use Rattle.std.specs.Int.{w16, w32, to_le_bytes}
use Rattle.std.proofs.lemmas.Bool.{not-true, not-false, and_parts, and_from, ltb-false, le-ltb, ltb-true, lt-ltb}
use Rattle.gp_base.specs.Field.{IsOctets, agree, octet, four_at, optional, key_octets}
use Rattle.gp_base.proofs.Codec.{At, IsField, field_from, field_agrees, anything, src_codec, octet_codec, number16_codec, number32_codec, key_codec, optional_codec, join}
use Rattle.gp_cluster.specs.declared.message.Pairing.{Pairing}
use Rattle.gp_cluster.specs.declared.message.ClusterReason.TheVariants.{Short, AppId, Mode}
use Rattle.gp_cluster.specs.Pairing.{Route}
use Rattle.gp_cluster.specs.Pairing.{Extras}
use Rattle.gp_cluster.specs.Fields.{three_octets, three_at, sink_octets}
use Rattle.gp_cluster.specs.Options.{application_id, adds_sink, lacks_mode, has_sink, has_group, has_counter, has_key, has_alias, has_radius}
use Rattle.gp_cluster.specs.Inside.{route_octets, extras_octets, route_of, extras_of}
use Rattle.gp_cluster.specs.Pairing.{pairing, route_agrees, extras_agree, pairing_agrees, HasPairingWidths, group_place, device_place, route_end, route_at, key_place, alias_place, radius_place, extras_end, extras_at, pairing_end, pairing_reason, pairing_at}
use Rattle.gp_base.proofs.Tables.{first_none}
use Rattle.gp_cluster.proofs.Endings.{exact_end, no_fault, at_end, with_end, end_met}
use Rattle.gp_cluster.proofs.FieldCodecs.{number24_codec, sink_codec}
use Rattle.gp_cluster.proofs.Places.{extras_end_above}

-- ---- the device, and where its frames go

record HasRoute (options : ℕ) (r : Route) : Type 0 where
  src : r.src.0 < 2 ^ 32
  sink : IsField (has_sink options) (λ sink. (sink.0 < 2 ^ 64) × (sink.1 < 2 ^ 16)) r.sink
  group : IsField (has_group options) (λ n. n < 2 ^ 16) r.group
  device : IsField (adds_sink options) (λ _. Unit {0}) r.device

route_in_order : (r : Route) (rest : List ℕ) → route_octets r ++ rest ≡ to_le_bytes w32 r.src.0 ++ (optional sink_octets r.sink ++ (optional (to_le_bytes w16) r.group ++ (optional octet r.device ++ rest)))
unfolding route_octets
route_in_order r rest = simp append_assoc

route_split : (options : ℕ) (b : List ℕ) → IsOctets b → route_end options ≤ length b
    → (drop 6 b ≡ route_octets (route_at options b) ++ drop (route_end options) b) × HasRoute options (route_at options b)
unfolding route_end route_at
route_split options b bytes h =
    let before : device_place options ≤ length b = omega (arith, h) in
    let earlier : group_place options ≤ length b = omega (arith, before) in
    let src = src_codec.split b 6 bytes (omega (arith, earlier)) in
    let sink = (optional_codec _ _ _ _ sink_codec (has_sink options)).split b 10 bytes earlier in
    let group = (optional_codec _ _ _ _ number16_codec (has_group options)).split b (group_place options) bytes before in
    let device = (optional_codec _ _ _ _ octet_codec (adds_sink options)).split b (device_place options) bytes h in
    let all = join b 6 10 (to_le_bytes w32 (four_at b 6)) _ src.0 (join b 10 (group_place options) _ _ sink.0 (join b (group_place options) (device_place options) _ _ group.0 device.0)) in
    (all ∙ sym (route_in_order (route_at options b) (drop (route_end options) b)), record { src = src.1; sink = sink.1; group = group.1; device = device.1 })

route_again : (options : ℕ) (b : List ℕ) (r : Route) (rest : List ℕ) → At b 6 (route_octets r ++ rest) → HasRoute options r
    → (route_at options b ≡ r) × At b (route_end options) rest
unfolding route_end route_at
route_again options b r rest at has =
    let start : At b 6 (to_le_bytes w32 r.src.0 ++ (optional sink_octets r.sink ++ (optional (to_le_bytes w16) r.group ++ (optional octet r.device ++ rest)))) =
    record { rest = at.rest ∙ route_in_order r rest; within = at.within } in
    let src = src_codec.again b 6 r.src _ start has.src in
    let sink = (optional_codec _ _ _ _ sink_codec (has_sink options)).again b 10 r.sink _ src.1 has.sink in
    let group = (optional_codec _ _ _ _ number16_codec (has_group options)).again b (group_place options) r.group _ sink.1 has.group in
    let device = (optional_codec _ _ _ _ octet_codec (adds_sink options)).again b (device_place options) r.device rest group.1 has.device in
    (rw (src.0, sink.0, group.0, device.0) refl, device.1)

-- ---- counter, key, alias and radius

record HasExtras (options : ℕ) (e : Extras) : Type 0 where
  counter : IsField (has_counter options) (λ n. n < 2 ^ 32) e.counter
  key : IsField (has_key options) (λ key. length (key_octets key) ≡ 16) e.key
  alias : IsField (has_alias options) (λ n. n < 2 ^ 16) e.alias
  radius : IsField (has_radius options) (λ _. Unit {0}) e.radius

extras_in_order : (e : Extras) (rest : List ℕ) → extras_octets e ++ rest ≡ optional (to_le_bytes w32) e.counter ++ (optional key_octets e.key ++ (optional (to_le_bytes w16) e.alias ++ (optional octet e.radius ++ rest)))
unfolding extras_octets
extras_in_order e rest = simp append_assoc

extras_split : (options : ℕ) (b : List ℕ) (p : ℕ) → IsOctets b → extras_end options p ≤ length b
    → (drop p b ≡ extras_octets (extras_at options b p) ++ drop (extras_end options p) b) × HasExtras options (extras_at options b p)
unfolding extras_end extras_at
extras_split options b p bytes h =
    let third : radius_place options p ≤ length b = omega (arith, h) in
    let second : alias_place options p ≤ length b = omega (arith, third) in
    let first : key_place options p ≤ length b = omega (arith, second) in
    let counter = (optional_codec _ _ _ _ number32_codec (has_counter options)).split b p bytes first in
    let key = (optional_codec _ _ _ _ key_codec (has_key options)).split b (key_place options p) bytes second in
    let alias = (optional_codec _ _ _ _ number16_codec (has_alias options)).split b (alias_place options p) bytes third in
    let radius = (optional_codec _ _ _ _ octet_codec (has_radius options)).split b (radius_place options p) bytes h in
    let all = join b p (key_place options p) _ _ counter.0 (join b (key_place options p) (alias_place options p) _ _ key.0 (join b (alias_place options p) (radius_place options p) _ _ alias.0 radius.0)) in
    (all ∙ sym (extras_in_order (extras_at options b p) (drop (extras_end options p) b)), record { counter = counter.1; key = key.1; alias = alias.1; radius = radius.1 })

extras_again : (options : ℕ) (b : List ℕ) (p : ℕ) (e : Extras) (rest : List ℕ) → At b p (extras_octets e ++ rest) → HasExtras options e
    → (extras_at options b p ≡ e) × At b (extras_end options p) rest
unfolding extras_end extras_at
extras_again options b p e rest at has =
    let start : At b p (optional (to_le_bytes w32) e.counter ++ (optional key_octets e.key ++ (optional (to_le_bytes w16) e.alias ++ (optional octet e.radius ++ rest)))) =
    record { rest = at.rest ∙ extras_in_order e rest; within = at.within } in
    let counter = (optional_codec _ _ _ _ number32_codec (has_counter options)).again b p e.counter _ start has.counter in
    let key = (optional_codec _ _ _ _ key_codec (has_key options)).again b (key_place options p) e.key _ counter.1 has.key in
    let alias = (optional_codec _ _ _ _ number16_codec (has_alias options)).again b (alias_place options p) e.alias _ key.1 has.alias in
    let radius = (optional_codec _ _ _ _ octet_codec (has_radius options)).again b (radius_place options p) e.radius rest alias.1 has.radius in
    (rw (counter.0, key.0, alias.0, radius.0) refl, radius.1)

-- ---- what the tests of its fields say

record HasFields (m : Pairing) : Type 0 where
  application : eqb (application_id m.options) 0 ≡ true
  mode : lacks_mode m.options ≡ false
  small : m.options < 2 ^ 24
  route : HasRoute m.options (route_of m)
  extras : HasExtras m.options (extras_of m)

fields_from : (m : Pairing) → pairing_agrees m ≡ true → HasPairingWidths m → HasFields m
fields_from m e widths =
    let all = and_parts _ (extras_agree m) e in
    let front = and_parts (ltb m.options (2 ^ 24)) (route_agrees m) all.0 in
    let r1 = and_parts _ (agree (is_some m.device) (adds_sink m.options)) front.1 in
    let r2 = and_parts _ (agree (is_some m.group) (has_group m.options)) r1.0 in
    let r3 = and_parts _ (agree (is_some m.sink) (has_sink m.options)) r2.0 in
    let r4 = and_parts (eqb (application_id m.options) 0) (not (lacks_mode m.options)) r3.0 in
    let e1 = and_parts _ (agree (is_some m.radius) (has_radius m.options)) all.1 in
    let e2 = and_parts _ (agree (is_some m.alias) (has_alias m.options)) e1.0 in
    let e3 = and_parts _ (agree (is_some m.key) (has_key m.options)) e2.0 in
    record {
      application = r4.0;
      mode = not-true _ r4.1;
      small = ltb-true _ _ front.0;
      route = record {
        src = widths.src;
        sink = field_from _ _ _ r3.1 widths.sink;
        group = field_from _ _ _ r2.1 widths.group;
        device = field_from _ _ _ r1.1 (anything m.device);
      };
      extras = record {
        counter = field_from _ _ _ e3.0 widths.counter;
        key = field_from _ _ _ e3.1 widths.key;
        alias = field_from _ _ _ e2.1 widths.alias;
        radius = field_from _ _ _ e1.1 (anything m.radius);
      };
    }

fields_tested : (m : Pairing) → HasFields m → (pairing_agrees m ≡ true) × HasPairingWidths m
fields_tested m has =
    let sink = field_agrees _ _ _ has.route.sink in
    let group = field_agrees _ _ _ has.route.group in
    let device = field_agrees _ _ _ has.route.device in
    let counter = field_agrees _ _ _ has.extras.counter in
    let key = field_agrees _ _ _ has.extras.key in
    let alias = field_agrees _ _ _ has.extras.alias in
    let radius = field_agrees _ _ _ has.extras.radius in
    let route : route_agrees m ≡ true = and_from _ _ (and_from _ _ (and_from _ _ (and_from _ _ has.application (ap not has.mode)) sink) group) device in
    let extras : extras_agree m ≡ true = and_from _ _ (and_from _ _ (and_from _ _ counter key) alias) radius in (
      and_from _ _ (and_from _ _ (lt-ltb _ _ has.small) route) extras,
      record {
        src = has.route.src;
        sink = has.route.sink.fit;
        group = has.route.group.fit;
        counter = has.extras.counter.fit;
        key = has.extras.key.fit;
        alias = has.extras.alias.fit;
      },
    )

-- ---- both ways

pairing_in_order : (m : Pairing) (rest : List ℕ) → pairing m ++ rest ≡ three_octets m.options ++ (route_octets (route_of m) ++ (extras_octets (extras_of m) ++ rest))
unfolding pairing route_octets extras_octets
pairing_in_order m rest = simp append_assoc

pub pairing_found : (b : List ℕ) → IsOctets b → pairing_reason b ≡ None
    → (drop 3 b ≡ pairing (pairing_at b)) × (pairing_agrees (pairing_at b) ≡ true) × HasPairingWidths (pairing_at b)
pairing_found b bytes h =
    let opts = three_at b 3 in
    let end = pairing_end b in
    let one = first_none (ltb (length b) 6) (Short (length b)) _ h in
    let two = first_none (not (eqb (application_id opts) 0)) (AppId 3) _ one.1 in
    let three = first_none (lacks_mode opts) (Mode 3) _ two.1 in
    let total : length b ≡ end = exact_end b end three.1 in
    let long : 6 ≤ length b = ltb-false _ _ one.0 in
    let fits : end ≤ length b = omega (arith, total) in
    let before : route_end opts ≤ length b = omega (arith, fits, extras_end_above opts (route_end opts)) in
    let options = number24_codec.split b 3 bytes long in
    let route = route_split opts b bytes before in
    let extras = extras_split opts b (route_end opts) bytes fits in
    let all = join b 3 6 (three_octets opts) _ options.0 (join b 6 (route_end opts) _ _ route.0 extras.0) in
    let tested = fields_tested (pairing_at b) (record { application = not-false _ two.0; mode = three.0; small = options.1; route = route.1; extras = extras.1 }) in
    (at_end b 3 end _ total (all ∙ sym (pairing_in_order (pairing_at b) (drop end b))), tested.0, tested.1)

pub pairing_again : (b : List ℕ) (m : Pairing) → At b 3 (pairing m) → pairing_agrees m ≡ true → HasPairingWidths m
    → (pairing_reason b ≡ None) × (pairing_at b ≡ m)
pairing_again b m at agrees widths =
    let opts = three_at b 3 in
    let has = fields_from m agrees widths in
    let start = with_end b 3 _ _ (pairing_in_order m []) at in
    let options = number24_codec.again b 3 m.options _ start has.small in
    let route = route_again opts b (route_of m) _ options.1 (subst (λ (x : ℕ). HasRoute x (route_of m)) (sym options.0) has.route) in
    let extras = extras_again opts b (route_end opts) (extras_of m) [] route.1 (subst (λ (x : ℕ). HasExtras x (extras_of m)) (sym options.0) has.extras) in
    let one : ltb (length b) 6 ≡ false = le-ltb _ _ options.1.within in
    let two : eqb (application_id opts) 0 ≡ true = ap (λ (x : ℕ). eqb (application_id x) 0) options.0 ∙ has.application in
    let three : lacks_mode opts ≡ false = ap lacks_mode options.0 ∙ has.mode in
    let last = no_fault b (pairing_end b) (end_met b _ extras.1) in
    (rw (one, two, three) last, rw (route.0, extras.0, options.0) refl)
