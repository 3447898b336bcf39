-- The Commissioning command (Zigbee PRO Green Power, A.4.2.1.1).
use Rattle.std.specs.Prelude.{◌≡◌, ℕ, ◌+◌, ◌/◌, ◌%◌, ◌<◌, ◌^◌, nat_lt, Bool, if◌then◌else◌, ◌&&◌, List, [], ◌∷◌, ◌++◌, length, drop, Option, is_some, is_none, unwrap_or, IfSome}
use Rattle.std.specs.Int.{w16, w32, to_le_bytes}
use Rattle.gp_base.specs.Field.{has_bit, optional, agree, octet, key_octets, counted, joined, octet_at, size_if, value_if}
use Rattle.gp_base.specs.Table.{first_of}
use Rattle.gp_commands.specs.declared.command.Commissioning.{Commissioning}
use Rattle.gp_commands.specs.declared.command.CommandReason.{CommandReason}
use Rattle.gp_commands.specs.declared.command.CommandReason.TheVariants.{Short}
use Rattle.gp_commands.specs.Application.{clusters_agree, application_end, application_at}
use Rattle.gp_commands.specs.Keying.{Wanted}
use Rattle.gp_commands.specs.Keying.{reserved, reserved_lines, keying_size, keying_at}

-- ---- flags

-- the level, bits 0 and 1 of the extended options
abbrev pub level : ℕ → ℕ
level extended = extended % 4

-- the kind of key, bits 2 to 4
abbrev pub key_kind : ℕ → ℕ
key_kind extended = extended / 4 % 8

-- the key by bit 5, its MIC by bits 5 and 6, the counter by bit 7
abbrev pub wanted_by : ℕ → Wanted
wanted_by extended = record { key = has_bit extended 32; mic = has_bit extended 32 && has_bit extended 64; counter = has_bit extended 128 }

-- ---- what a Commissioning is

-- its octets after the identifier
unfoldable pub commissioning : Commissioning → List ℕ
commissioning c =
    joined
    (octet c.device
    ∷ octet c.options
    ∷ optional octet c.extended
    ∷ optional key_octets c.key
    ∷ optional (λ mic. mic) c.key_mic
    ∷ optional (to_le_bytes w32) c.counter
    ∷ optional octet c.application
    ∷ optional (to_le_bytes w16) c.manufacturer
    ∷ optional (to_le_bytes w16) c.model
    ∷ optional counted c.commands
    ∷ optional (λ clusters. clusters) c.clusters
    ∷ c.rest
    ∷ [])

-- The extended options, the key, its MIC and the counter are there exactly where their flags say so, and neither
-- the level nor the kind of key is reserved.
abbrev pub security_agrees : Commissioning → Bool
security_agrees c =
    let wanted = wanted_by (unwrap_or c.extended 0) in
    agree (is_some c.extended) (has_bit c.options 128)
    && is_none (reserved (level (unwrap_or c.extended 0)) (key_kind (unwrap_or c.extended 0)))
    && agree (is_some c.key) wanted.key
    && agree (is_some c.key_mic) wanted.mic
    && agree (is_some c.counter) wanted.counter

-- So are the application information and its fields, and the clusters are as many as their first octet says.
abbrev pub application_agrees : Commissioning → Bool
application_agrees c =
    let flags = unwrap_or c.application 0 in
    agree (is_some c.application) (has_bit c.options 4)
    && agree (is_some c.manufacturer) (has_bit flags 1)
    && agree (is_some c.model) (has_bit flags 2)
    && agree (is_some c.commands) (has_bit flags 4)
    && agree (is_some c.clusters) (has_bit flags 8)
    && clusters_agree c.clusters

abbrev pub fields_agree : Commissioning → Bool
fields_agree c = security_agrees c && application_agrees c

-- Keys have 16 octets and MICs 4, and numbers fit two or four octets.
pub record HasCommissioningWidths (c : Commissioning) : Type 0 where
  pub key : IfSome c.key (λ key. length (key_octets key) ≡ 16)
  pub mic : IfSome c.key_mic (λ mic. length mic ≡ 4)
  pub counter : IfSome c.counter (λ n. n < 2 ^ 32)
  pub manufacturer : IfSome c.manufacturer (λ n. n < 2 ^ 16)
  pub model : IfSome c.model (λ n. n < 2 ^ 16)

-- ---- places

-- the octet with the level and the kind of key, 0 where it is absent
abbrev pub extended_at : List ℕ → ℕ
extended_at octets = if has_bit (octet_at octets 2) 128 then octet_at octets 3 else 0

-- where the key would stand
abbrev pub keying_place : List ℕ → ℕ
keying_place octets = 3 + size_if (has_bit (octet_at octets 2) 128) 1

-- where the application information would stand
abbrev pub application_place : List ℕ → ℕ
application_place octets = keying_place octets + keying_size (wanted_by (extended_at octets))

-- where the rest begins
abbrev pub rest_place : List ℕ → ℕ
rest_place octets = application_end (octet_at octets 2) octets (application_place octets)

-- the first fault of a Commissioning
abbrev pub commissioning_reason : List ℕ → Option CommandReason
commissioning_reason octets =
    first_of
    ((nat_lt (length octets) (keying_place octets), Short (length octets))
    ∷ (reserved_lines (level (extended_at octets)) (key_kind (extended_at octets))
    ++ ((nat_lt (length octets) (rest_place octets), Short (length octets)) ∷ [])))

-- what stands at the places
abbrev pub commissioning_at : List ℕ → Commissioning
commissioning_at octets =
    let keying = keying_at (wanted_by (extended_at octets)) octets (keying_place octets) in
    let application = application_at (octet_at octets 2) octets (application_place octets) in
    record {
      device = octet_at octets 1;
      options = octet_at octets 2;
      extended = value_if (has_bit (octet_at octets 2) 128) (octet_at octets 3);
      key = keying.key;
      key_mic = keying.mic;
      counter = keying.counter;
      application = application.information;
      manufacturer = application.manufacturer;
      model = application.model;
      commands = application.commands;
      clusters = application.clusters;
      rest = drop (rest_place octets) octets;
    }
