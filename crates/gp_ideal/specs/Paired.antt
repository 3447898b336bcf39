-- What a sink answers where a device is to be paired (Zigbee PRO Green Power, A.3.3.2.2).
use Rattle.std.specs.Prelude.{ℕ, max, Bool, not, nat_le, ◌==◌, ◌&&◌, List, [], ◌∷◌}
use Rattle.gp_base.specs.declared.identity.Key.{Key}
use Rattle.gp_base.specs.declared.identity.KeyKind.{KeyKind}
use Rattle.gp_base.specs.declared.identity.Level.{Level}
use Rattle.gp_base.specs.declared.identity.Src.{Src}
use Rattle.gp_base.specs.Table.{by_table}
use Rattle.gp_script.specs.declared.report.Refusal.TheVariants.{BadSource, CounterEnd}
use Rattle.gp_ideal.specs.declared.config.Config.{Config}
use Rattle.gp_ideal.specs.declared.ledger.Values.{Values}
use Rattle.gp_ideal.specs.declared.ledger.Change.{Change}
use Rattle.gp_ideal.specs.declared.ledger.Change.TheVariants.{Pair}
use Rattle.gp_ideal.specs.Ledger.{pairing_of, place, rows, floor}
use Rattle.gp_ideal.specs.Messages.{group_for, pairing_sent}
use Rattle.gp_ideal.specs.Verdict.{Ruling, Paired, Refused, Full, says, remembers}

-- the values of a row: what is offered, with the sink's mode and the group of that mode
abbrev pub offered : Config → Src → Key → KeyKind → Level → ℕ → Values
offered config source key kind level device = record {
  src = source;
  key = key;
  kind = kind;
  level = level;
  mode = config.mode;
  group = group_for config.mode config.group source.0;
  device = device;
}

-- a device may be paired under this SrcID
abbrev pub is_pairable : ℕ → Bool
is_pairable source = nat_le 1 source && nat_le source 0xFFFFFFF8

-- a device that has no counter left isn't paired
abbrev pub offer_lines : Values → ℕ → List (Bool × Ruling)
offer_lines values counter =
    (not (is_pairable values.src.0), says (Refused BadSource))
    ∷ (counter == 0xFFFFFFFF, says (Refused CounterEnd))
    ∷ []

-- a new pair of SrcID and key needs a row: there are at most 1,024
abbrev pub room_lines : List Change → Values → List (Bool × Ruling)
room_lines ledger values = (place (pairing_of values) (rows ledger) == 1024, says Full) ∷ []

-- the row, old or new, takes these values; its floor never falls
abbrev pub pairs : Config → List Change → Values → ℕ → Ruling
pairs config ledger values counter =
    let row = place (pairing_of values) (rows ledger) in
    let kept = max (floor ledger row) counter in
    remembers (Pair values counter) (Paired row values.src kept (pairing_sent config values kept))

unfoldable pub paired : Config → List Change → Values → ℕ → Ruling
paired config ledger values counter =
    by_table (offer_lines values counter) (by_table (room_lines ledger values) (pairs config ledger values counter))
