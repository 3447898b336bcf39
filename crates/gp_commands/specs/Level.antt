-- Level control, Move and Step (Zigbee PRO Green Power, A.4.2).
use Rattle.std.specs.Prelude.{◌≡◌, ℕ, ◌+◌, ◌≤◌, nat_le, List, [], length, drop, Option, IfNone}
use Rattle.gp_commands.specs.declared.command.GpdCommand.{GpdCommand}
use Rattle.gp_commands.specs.declared.command.GpdCommand.TheVariants.{Move, Step}
use Rattle.gp_base.specs.Field.{two_at, octet_at, size_if, value_if}

-- without a rate there is no rest
abbrev pub HasMoveRest : Option ℕ → List ℕ → Type 0
HasMoveRest rate rest = IfNone rate (rest ≡ [])

-- without a time there is at most one octet of rest
abbrev pub HasStepRest : Option ℕ → List ℕ → Type 0
HasStepRest time rest = IfNone time (length rest ≤ 1)

-- Move: the rate is there where an octet is left
abbrev pub move_at : List ℕ → GpdCommand
move_at octets = Move (octet_at octets 0) (value_if (nat_le 2 (length octets)) (octet_at octets 1)) (drop (1 + size_if (nat_le 2 (length octets)) 1) octets)

-- Step: the time is there where two octets are left after the size
abbrev pub step_at : List ℕ → GpdCommand
step_at octets =
    Step (octet_at octets 0) (octet_at octets 1) (value_if (nat_le 4 (length octets)) (two_at octets 2))
    (drop (2 + size_if (nat_le 4 (length octets)) 2) octets)
