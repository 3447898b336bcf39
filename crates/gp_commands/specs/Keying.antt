-- A key, its MIC and a counter, each there or not, as Commissioning and its reply carry them
-- (Zigbee PRO Green Power, A.4.2, Commissioning and Commissioning Reply commands).
use Rattle.std.specs.Prelude.{ℕ, ◌+◌, ◌==◌, ◌||◌, Bool, List, ◌∷◌, [], Option}
use Rattle.gp_base.specs.Field.{four_at, part, key_at, size_if, value_if}
use Rattle.gp_base.specs.Table.{first_of}
use Rattle.gp_base.specs.declared.identity.Key.{Key}
use Rattle.gp_commands.specs.declared.command.CommandReason.{CommandReason}
use Rattle.gp_commands.specs.declared.command.CommandReason.TheVariants.{ReservedLevel, ReservedKeyKind}

-- which of the three are there
pub record Wanted : Type 0 where
  pub key : Bool
  pub mic : Bool
  pub counter : Bool

-- the three, as far as they are there
pub record Keying : Type 0 where
  pub key : Option Key
  pub mic : Option (List ℕ)
  pub counter : Option ℕ

-- level 1, and the kinds of key 5 and 6, are reserved
abbrev pub reserved_lines : ℕ → ℕ → List (Bool × CommandReason)
reserved_lines level kind = (level == 1, ReservedLevel) ∷ ((kind == 5) || (kind == 6), ReservedKeyKind) ∷ []

abbrev pub reserved : ℕ → ℕ → Option CommandReason
reserved level kind = first_of (reserved_lines level kind)

-- how many octets they take
unfoldable pub keying_size : Wanted → ℕ
keying_size wanted = size_if wanted.key 16 + size_if wanted.mic 4 + size_if wanted.counter 4

-- what stands from a place on
unfoldable pub keying_at : Wanted → List ℕ → ℕ → Keying
keying_at wanted octets place = record {
  key = value_if wanted.key (key_at octets place);
  mic = value_if wanted.mic (part octets (place + size_if wanted.key 16) 4);
  counter = value_if wanted.counter (four_at octets (place + size_if wanted.key 16 + size_if wanted.mic 4));
}
