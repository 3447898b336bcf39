-- What private functions say: of the current row of a SrcID, of a verdict and its change, and of numbers that fit their fields.
-- No public clause cites this file.
use Rattle.std.specs.Prelude.{◌≡◌, ◌<◌, ◌^◌, ℕ, List, length, slice_get, Option, Some, IfSome}
use Rattle.gp_base.specs.Field.{IsOctets}
use Rattle.gp_base.specs.declared.identity.Src.{Src}
use Rattle.gp_rows.specs.declared.row.Row.{Row}
use Rattle.gp_rows.specs.Rows.{IsCurrent}
use Rattle.gp_rows.specs.Changes.{place_of, paired_row}
use Rattle.gp_ideal.specs.declared.config.Config.{Config}
use Rattle.gp_ideal.specs.declared.ledger.Change.{Change}
use Rattle.gp_ideal.specs.declared.ledger.Change.TheVariants.{Pair, Accept, Retire}
use Rattle.gp_ideal.specs.declared.ledger.Known.{Known}
use Rattle.gp_ideal.specs.declared.ledger.Values.{Values}
use Rattle.gp_sink.specs.declared.verdict.Verdict.{Verdict}
use Rattle.gp_sink.specs.declared.verdict.Verdict.TheVariants.{Acted, Paired, Unpaired}
use Rattle.gp_sink.specs.Stored.{row_with}

-- the row with this floor is there, and is the current one of the SrcID
pub record HasFloor (rows : List Row) (source : ℕ) (k : Known) : Type 0 where
  pub row : Row
  pub there : slice_get rows k.row ≡ Some row
  pub has_floor : row.floor ≡ k.floor
  pub current : IsCurrent rows source k.row

-- a change of a frame raises the floor of this row
abbrev pub IsAbove : Known → Change → Type 0
IsAbove k (Pair values counter) = ⊥
IsAbove k (Accept at counter) = (at ≡ k.row) × (k.floor < counter)
IsAbove k (Retire at counter) = (at ≡ k.row) × (k.floor < counter)

-- a pairing of this SrcID
abbrev pub IsOfSource : Src → Change → Type 0
IsOfSource source (Pair values counter) = values.src ≡ source
IsOfSource source other = ⊥

-- A pairing's row is at this number, and takes this floor.
abbrev pub PairsAt : List Row → ℕ → ℕ → Option Change → Type 0
PairsAt rows at floor (Some (Pair values counter)) =
    (at ≡ place_of values.src.0 values.key.0 rows) × (floor ≡ (paired_row (row_with values counter) (slice_get rows at)).floor)
PairsAt rows at floor other = ⊥

-- the change is the one that the verdict tells
abbrev pub Agrees : List Row → Verdict → Option Change → Type 0
Agrees rows (Acted row source counter command acts) change = change ≡ Some (Accept row counter)
Agrees rows (Paired row source floor message) change = PairsAt rows row floor change × IfSome change (IsOfSource source)
Agrees rows (Unpaired row source counter message) change = change ≡ Some (Retire row counter)
Agrees rows other change = Unit {0}

-- what a pairing tells fits its octets
pub record AreWide (config : Config) (v : Values) (floor : ℕ) : Type 0 where
  pub source : v.src.0 < 2 ^ 32
  pub ieee : config.ieee < 2 ^ 64
  pub address : config.address < 2 ^ 16
  pub group : v.group < 2 ^ 16
  pub device : v.device < 2 ^ 8
  pub floor_fits : floor < 2 ^ 32
  pub key : IsOctets v.key.0
  pub key_size : length v.key.0 ≡ 16
