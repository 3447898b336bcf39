-- Application information of a Commissioning (Zigbee PRO Green Power, A.4.2, Commissioning command).
use Rattle.std.specs.Prelude.{ℕ, ◌+◌, ◌*◌, ◌/◌, ◌%◌, Bool, true, List, length, ◌==◌, Option, Some, None, if◌then◌else◌}
use Rattle.gp_commands.specs.declared.application.Application.{Application}
use Rattle.gp_base.specs.Field.{has_bit, part, two_at, octet_at, size_if, value_if}

-- how many octets clusters take after their first one, which counts those of servers in its bits 0 to 3 and
-- those of clients in its bits 4 to 7
abbrev pub clusters_size : ℕ → ℕ
clusters_size counts = 2 * (counts % 16 + counts / 16)

-- clusters are as many as their first octet says
abbrev pub clusters_agree : Option (List ℕ) → Bool
clusters_agree None = true
clusters_agree (Some clusters) = length clusters == 1 + clusters_size (octet_at clusters 0)

-- The places of its fields, where its first octet would stand at a place, and is there by bit 2 of the options.
-- What a field's flags and counts say is read at its place; a missing octet counts as 0.

-- the octet with the flags, 0 where it is absent
abbrev pub flags_at : ℕ → List ℕ → ℕ → ℕ
flags_at options octets place = if has_bit options 4 then octet_at octets place else 0

abbrev pub manufacturer_place : ℕ → ℕ → ℕ
manufacturer_place options place = place + size_if (has_bit options 4) 1

abbrev pub model_place : ℕ → List ℕ → ℕ → ℕ
model_place options octets place = manufacturer_place options place + size_if (has_bit (flags_at options octets place) 1) 2

abbrev pub commands_place : ℕ → List ℕ → ℕ → ℕ
commands_place options octets place = model_place options octets place + size_if (has_bit (flags_at options octets place) 2) 2

-- behind the list of commands, which stands behind its count
abbrev pub clusters_place : ℕ → List ℕ → ℕ → ℕ
clusters_place options octets place =
    let here = commands_place options octets place in
    here + size_if (has_bit (flags_at options octets place) 4) (1 + octet_at octets here)

-- behind it all
unfoldable pub application_end : ℕ → List ℕ → ℕ → ℕ
application_end options octets place =
    let here = clusters_place options octets place in
    here + size_if (has_bit (flags_at options octets place) 8) (1 + clusters_size (octet_at octets here))

-- what stands there
unfoldable pub application_at : ℕ → List ℕ → ℕ → Application
application_at options octets place =
    let flags = flags_at options octets place in
    let commands = commands_place options octets place in
    let clusters = clusters_place options octets place in
    record {
      information = value_if (has_bit options 4) (octet_at octets place);
      manufacturer = value_if (has_bit flags 1) (two_at octets (manufacturer_place options place));
      model = value_if (has_bit flags 2) (two_at octets (model_place options octets place));
      commands = value_if (has_bit flags 4) (part octets (commands + 1) (octet_at octets commands));
      clusters = value_if (has_bit flags 8) (part octets clusters (1 + clusters_size (octet_at octets clusters)));
    }
