-- Attribute reports (Zigbee PRO Green Power, A.4.2; Zigbee Cluster Library, 2.5.11).
use Rattle.std.specs.Prelude.{◌≡◌, ℕ, zero, suc, ◌+◌, ◌==◌, nat_lt, List, [], ◌∷◌, ◌++◌, length, drop, Option, Some, None, is_none, unwrap_or, if◌then◌else◌}
use Rattle.std.specs.List.{flat_map, AllByRecursion}
use Rattle.gp_base.specs.Field.{two_at, octet_at}
use Rattle.gp_base.specs.Table.{first_of, or_else}
use Rattle.gp_commands.specs.declared.command.GpdCommand.{GpdCommand}
use Rattle.gp_commands.specs.declared.command.GpdCommand.TheVariants as commands
use Rattle.gp_commands.specs.declared.command.CommandReason.{CommandReason}
use Rattle.gp_commands.specs.declared.command.CommandReason.TheVariants.{Short, ValueKind}
use Rattle.gp_commands.specs.Values.{value_size}

-- ---- what a report is

-- an attribute, a type and a value
pub record Entry : Type 0 where
  pub attribute : List ℕ
  pub kind : ℕ
  pub value : List ℕ

-- its octets
abbrev pub entry : Entry → List ℕ
entry e = e.attribute ++ e.kind ∷ e.value

-- The attribute has two octets, and the value as many as its type gives.
pub record IsEntry (e : Entry) : Type 0 where
  pub attribute : length e.attribute ≡ 2
  pub value : value_size e.kind (octet_at e.value 0) ≡ Some (length e.value)

-- The records of a report are entries, one after another.
pub record AreRecords (records : List ℕ) : Type 0 where
  pub entries : List Entry
  pub each : AllByRecursion IsEntry entries
  pub parts : records ≡ flat_map entry entries

-- ---- the first fault

-- the size of the value of an entry that begins at a place
abbrev pub value_size_at : List ℕ → ℕ → Option ℕ
value_size_at octets place = value_size (octet_at octets (place + 2)) (octet_at octets (place + 3))

-- where the next entry begins
abbrev pub next_place : List ℕ → ℕ → ℕ
next_place octets place = place + 3 + unwrap_or (value_size_at octets place) 0

-- the first fault of the entry that begins at a place
abbrev pub entry_reason : List ℕ → ℕ → Option CommandReason
entry_reason octets place =
    first_of
    ((nat_lt (length octets) (place + 3), Short (length octets))
    ∷ (is_none (value_size_at octets place), ValueKind (place + 2))
    ∷ (nat_lt (length octets) (next_place octets place), Short (length octets))
    ∷ [])

-- the first fault of the entries from a place on. So many of them are looked at, and octets hold fewer entries than
-- octets.
unfoldable pub entries_reason : ℕ → List ℕ → ℕ → Option CommandReason
entries_reason zero octets place = None
entries_reason (suc more) octets place =
    if length octets == place then None
    else or_else (entry_reason octets place) (entries_reason more octets (next_place octets place))

-- the first fault of a report: its cluster, and its entries from octet 3 on
abbrev pub report_reason : List ℕ → Option CommandReason
report_reason octets = if nat_lt (length octets) 3 then Some (Short (length octets)) else entries_reason (length octets) octets 3

abbrev pub report_at : List ℕ → GpdCommand
report_at octets = commands.Report (two_at octets 1) (drop 3 octets)
