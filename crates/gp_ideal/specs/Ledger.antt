-- The memory of the ideal sink (Zigbee PRO Green Power, A.3.3.2.2): a ledger of changes, the newest one first.
use Rattle.std.specs.Prelude.{ℕ, suc, max, Bool, true, false, ◌&&◌, ◌==◌, if◌then◌else◌, List, [], ◌∷◌, length, Option, Some, None, option_map}
use Rattle.std.specs.Str.{bytes_eq}
use Rattle.gp_ideal.specs.declared.ledger.Values.{Values}
use Rattle.gp_ideal.specs.declared.ledger.Change.{Change}
use Rattle.gp_ideal.specs.declared.ledger.Change.TheVariants.{Pair, Accept, Retire}
use Rattle.gp_ideal.specs.declared.ledger.Known.{Known}

-- a SrcID and a key: what a row is of
abbrev pub Pairing : Type 0
Pairing = ℕ × List ℕ

abbrev pub pairing_of : Values → Pairing
pairing_of v = (v.src.0, v.key.0)

abbrev pub is_same : Pairing → Pairing → Bool
is_same one other = (one.0 == other.0) && bytes_eq one.1 other.1

-- the place of a pairing among these, or behind them
abbrev pub place : Pairing → List Pairing → ℕ
place pairing [] = 0
place pairing (other ∷ others) = if is_same pairing other then 0 else suc (place pairing others)

-- these pairings, and this one behind them where it isn't among them
abbrev pub with_pairing : Pairing → List Pairing → List Pairing
with_pairing pairing [] = pairing ∷ []
with_pairing pairing (other ∷ others) = if is_same pairing other then other ∷ others else other ∷ with_pairing pairing others

-- the rows: the distinct SrcIDs with keys that were paired, in order of their first appearance
unfoldable pub rows : List Change → List Pairing
rows [] = []
rows (Pair values counter ∷ ledger) = with_pairing (pairing_of values) (rows ledger)
rows (Accept at counter ∷ ledger) = rows ledger
rows (Retire at counter ∷ ledger) = rows ledger

-- the number of the row that a change of this ledger concerns
abbrev pub row_of : Change → List Change → ℕ
row_of (Pair values counter) ledger = place (pairing_of values) (rows ledger)
row_of (Accept at counter) ledger = at
row_of (Retire at counter) ledger = at

-- the counter of a change
abbrev pub counter_in : Change → ℕ
counter_in (Pair values counter) = counter
counter_in (Accept at counter) = counter
counter_in (Retire at counter) = counter

-- the values of a row: those of its last Pair change
unfoldable pub values_of : List Change → ℕ → Option Values
values_of [] at = None
values_of (Pair values counter ∷ ledger) at = if row_of (Pair values counter) ledger == at then Some values else values_of ledger at
values_of (Accept row counter ∷ ledger) at = values_of ledger at
values_of (Retire row counter ∷ ledger) at = values_of ledger at

-- a row is live where no Retire of it follows its last Pair change
unfoldable pub live : List Change → ℕ → Bool
live [] at = false
live (Pair values counter ∷ ledger) at = if row_of (Pair values counter) ledger == at then true else live ledger at
live (Accept row counter ∷ ledger) at = live ledger at
live (Retire row counter ∷ ledger) at = if row == at then false else live ledger at

-- the floor of a row: the greatest counter in all its changes
unfoldable pub floor : List Change → ℕ → ℕ
floor [] at = 0
floor (change ∷ ledger) at = if row_of change ledger == at then max (floor ledger at) (counter_in change) else floor ledger at

-- when a row was last paired, as the number of that change; 0 where it wasn't
unfoldable pub paired_at : List Change → ℕ → ℕ
paired_at [] at = 0
paired_at (Pair values counter ∷ ledger) at = if row_of (Pair values counter) ledger == at then suc (length ledger) else paired_at ledger at
paired_at (Accept row counter ∷ ledger) at = paired_at ledger at
paired_at (Retire row counter ∷ ledger) at = paired_at ledger at

-- the row of the last Pair change with this SrcID, and its values
unfoldable pub last_row : List Change → ℕ → Option (ℕ × Values)
last_row [] source = None
last_row (Pair values counter ∷ ledger) source = if values.src.0 == source then Some (row_of (Pair values counter) ledger, values) else last_row ledger source
last_row (Accept row counter ∷ ledger) source = last_row ledger source
last_row (Retire row counter ∷ ledger) source = last_row ledger source

-- that row, where it is live
abbrev pub where_live : List Change → Option (ℕ × Values) → Option (ℕ × Values)
where_live ledger None = None
where_live ledger (Some found) = if live ledger found.0 then Some found else None

-- the current pairing of a SrcID: its row and its values
unfoldable pub current : List Change → ℕ → Option (ℕ × Values)
current ledger source = where_live ledger (last_row ledger source)

-- what is known of the current pairing of a SrcID
abbrev pub known : List Change → ℕ → Option Known
known ledger source = option_map (λ found. record { row = found.0; values = found.1; floor = floor ledger found.0 }) (current ledger source)

-- the ledger with a change, where there is one
abbrev pub with_change : Option Change → List Change → List Change
with_change None ledger = ledger
with_change (Some change) ledger = change ∷ ledger
