-- What a verdict is to the rows, before anything is remembered.
use Rattle.std.specs.Prelude.{◌≤◌, ℕ, List, Result, Ok, Err}
use Rattle.gp_frames.specs.declared.frame.Mpdu.{Mpdu}
use Rattle.gp_frames.specs.declared.frame.FrameReason.{FrameReason}
use Rattle.gp_security.specs.Protection.{source_of}
use Rattle.gp_rows.specs.declared.row.Row.{Row}
use Rattle.gp_rows.specs.Rows.{IsBelow, IsCurrent}
use Rattle.gp_rows.specs.Changes.{Pairs, HasNoRoom}
use Rattle.gp_ideal.specs.declared.ledger.Change.{Change}
use Rattle.gp_ideal.specs.declared.ledger.Change.TheVariants.{Pair, Accept, Retire}
use Rattle.gp_sink.specs.Stored.{row_with}

-- A change that a sink makes: it pairs a SrcID that may be, and there is room; or it raises the floor of a row that is there.
abbrev pub MayMake : List Row → Change → Type 0
MayMake rows (Pair values counter) = (1 ≤ values.src.0) × (values.src.0 ≤ 0xFFFFFFF8) × (HasNoRoom (Pairs (row_with values counter)) rows → ⊥)
MayMake rows (Accept at counter) = IsBelow rows at counter
MayMake rows (Retire at counter) = IsBelow rows at counter

-- the rows have no current pairing of this SrcID
abbrev pub HasNoneCurrent : List Row → ℕ → Type 0
HasNoneCurrent rows source = (at : ℕ) → IsCurrent rows source at → ⊥

-- octets that read as a frame are of a SrcID without a current pairing
abbrev pub IsOfUnknown : List Row → Result Mpdu FrameReason → Type 0
IsOfUnknown rows (Ok mpdu) = HasNoneCurrent rows (source_of mpdu.frame)
IsOfUnknown rows (Err reason) = Unit {0}
