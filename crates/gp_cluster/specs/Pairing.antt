-- Pairing (Zigbee PRO Green Power, A.3.3.5).
use Rattle.std.specs.Prelude.{◌≡◌, ℕ, ◌+◌, ◌<◌, ◌^◌, ◌==◌, Bool, not, ◌&&◌, nat_lt, List, [], ◌∷◌, ◌++◌, length, Option, is_some, IfSome}
use Rattle.std.specs.Int.{w16, w32, to_le_bytes}
use Rattle.gp_base.specs.Field.{agree, joined, octet, octet_at, optional, two_at, four_at, key_octets, key_at, size_if, value_if, src_octets, src_at}
use Rattle.gp_base.specs.Table.{first_of}
use Rattle.gp_cluster.specs.declared.message.Pairing.{Pairing}
use Rattle.gp_cluster.specs.declared.message.ClusterReason.{ClusterReason}
use Rattle.gp_cluster.specs.declared.message.ClusterReason.TheVariants.{Mode}
use Rattle.gp_base.specs.declared.identity.Src.{Src}
use Rattle.gp_base.specs.declared.identity.Key.{Key}
use Rattle.gp_cluster.specs.Ending.{ending_lines, foreign_line, missing_line}
use Rattle.gp_cluster.specs.Options.{application_id, adds_sink, lacks_mode, has_sink, has_group, has_counter, has_key, has_alias, has_radius}
use Rattle.gp_cluster.specs.Fields.{three_octets, three_at, sink_octets, sink_at}

-- its octets after the header
unfoldable pub pairing : Pairing → List ℕ
pairing m =
    joined
    (three_octets m.options
    ∷ src_octets m.src
    ∷ optional sink_octets m.sink
    ∷ optional (to_le_bytes w16) m.group
    ∷ optional octet m.device
    ∷ optional (to_le_bytes w32) m.counter
    ∷ optional key_octets m.key
    ∷ optional (to_le_bytes w16) m.alias
    ∷ optional octet m.radius
    ∷ [])

-- The ApplicationID is 0, without RemoveGPD there is a mode, and where the frames of the device go is there exactly
-- where the options say so.
abbrev pub route_agrees : Pairing → Bool
route_agrees m =
    (application_id m.options == 0)
    && not (lacks_mode m.options)
    && agree (is_some m.sink) (has_sink m.options)
    && agree (is_some m.group) (has_group m.options)
    && agree (is_some m.device) (adds_sink m.options)

-- So are counter, key, alias and radius.
abbrev pub extras_agree : Pairing → Bool
extras_agree m =
    agree (is_some m.counter) (has_counter m.options)
    && agree (is_some m.key) (has_key m.options)
    && agree (is_some m.alias) (has_alias m.options)
    && agree (is_some m.radius) (has_radius m.options)

-- The options fit three octets.
abbrev pub pairing_agrees : Pairing → Bool
pairing_agrees m = nat_lt m.options (2 ^ 24) && route_agrees m && extras_agree m

-- Each other field fits its octets.
pub record HasPairingWidths (m : Pairing) : Type 0 where
  pub src : m.src.0 < 2 ^ 32
  pub sink : IfSome m.sink (λ sink. (sink.0 < 2 ^ 64) × (sink.1 < 2 ^ 16))
  pub group : IfSome m.group (λ n. n < 2 ^ 16)
  pub counter : IfSome m.counter (λ n. n < 2 ^ 32)
  pub key : IfSome m.key (λ key. length (key_octets key) ≡ 16)
  pub alias : IfSome m.alias (λ n. n < 2 ^ 16)

-- ---- its two parts

-- the device, and where its frames are to go
pub record Route : Type 0 where
  pub src : Src
  pub sink : Option (ℕ × ℕ)
  pub group : Option ℕ
  pub device : Option ℕ

-- what a Pairing may tell besides
pub record Extras : Type 0 where
  pub counter : Option ℕ
  pub key : Option Key
  pub alias : Option ℕ
  pub radius : Option ℕ

-- ---- places

-- behind the SrcID, the sink, the group and the DeviceID
abbrev pub group_place : ℕ → ℕ
group_place options = 10 + size_if (has_sink options) 10

abbrev pub device_place : ℕ → ℕ
device_place options = group_place options + size_if (has_group options) 2

unfoldable pub route_end : ℕ → ℕ
route_end options = device_place options + size_if (adds_sink options) 1

unfoldable pub route_at : ℕ → List ℕ → Route
route_at options octets = record {
  src = src_at octets 6;
  sink = value_if (has_sink options) (sink_at octets 10);
  group = value_if (has_group options) (two_at octets (group_place options));
  device = value_if (adds_sink options) (octet_at octets (device_place options));
}

-- behind the counter, the key, the alias and the radius, which stand from a place on
abbrev pub key_place : ℕ → ℕ → ℕ
key_place options place = place + size_if (has_counter options) 4

abbrev pub alias_place : ℕ → ℕ → ℕ
alias_place options place = key_place options place + size_if (has_key options) 16

abbrev pub radius_place : ℕ → ℕ → ℕ
radius_place options place = alias_place options place + size_if (has_alias options) 2

unfoldable pub extras_end : ℕ → ℕ → ℕ
extras_end options place = radius_place options place + size_if (has_radius options) 1

unfoldable pub extras_at : ℕ → List ℕ → ℕ → Extras
extras_at options octets place = record {
  counter = value_if (has_counter options) (four_at octets place);
  key = value_if (has_key options) (key_at octets (key_place options place));
  alias = value_if (has_alias options) (two_at octets (alias_place options place));
  radius = value_if (has_radius options) (octet_at octets (radius_place options place));
}

-- where it ends
abbrev pub pairing_end : List ℕ → ℕ
pairing_end octets = extras_end (three_at octets 3) (route_end (three_at octets 3))

-- the faults of its options
abbrev pub options_lines : ℕ → List (Bool × ClusterReason)
options_lines options = foreign_line options ∷ (lacks_mode options, Mode 3) ∷ []

abbrev pub options_reason : ℕ → Option ClusterReason
options_reason options = first_of (options_lines options)

-- its first fault
abbrev pub pairing_reason : List ℕ → Option ClusterReason
pairing_reason octets =
    first_of
    (missing_line 6 octets ∷ (options_lines (three_at octets 3) ++ ending_lines (pairing_end octets) octets))

-- what stands at its places
abbrev pub pairing_at : List ℕ → Pairing
pairing_at octets =
    let options = three_at octets 3 in
    let route = route_at (three_at octets 3) octets in
    let extras = extras_at (three_at octets 3) octets (route_end (three_at octets 3)) in
    record {
      options = options;
      src = route.src;
      sink = route.sink;
      group = route.group;
      device = route.device;
      counter = extras.counter;
      key = extras.key;
      alias = extras.alias;
      radius = extras.radius;
    }
