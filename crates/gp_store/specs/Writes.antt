-- What one slot's rewriting leaves of an image, at each moment of it and at its end. No public clause cites this
-- file.
use Rattle.std.specs.Prelude.{◌≡◌, ◌≤◌, ◌⊎◌, ◌+◌, ℕ, Bool, true, false, List, Option, Some, None, Result, Ok, Err, OnOk, OnErr, is_some}
use Rattle.gp_base.specs.Outside.{one_more}
use Rattle.gp_disk.specs.Disk.{Moment, Tally, IsQuiet, SameRun, after_write, after_sync, part, Outside}
use Rattle.gp_rows.specs.declared.row.Row.{Row}
use Rattle.gp_store.specs.declared.commit.Marks.{Marks}
use Rattle.gp_store.specs.declared.fault.CommitFault.{CommitFault}
use Rattle.gp_store.specs.declared.fault.CommitFault.TheVariants.{Worn, DiskFault}
use Rattle.gp_store.specs.Commit.{next_generation}
use Rattle.gp_store.specs.Slot.{Spelled}
use Rattle.gp_store.specs.Image.{IMAGE_SIZE, Layout, format_1, gate_at, slots}

-- two images that agree outside the octets of this slot, so that the header and each other slot are the same
pub record OnlyAt (layout : Layout) (row : ℕ) (side : Bool) (old new : List ℕ) : Type 0 where
  pub outside : Outside (gate_at layout row side) (layout.behind + 1) old new
  pub header : part 0 8 new ≡ part 0 8 old
  pub others : (r : ℕ) (s : Bool) → ((r ≡ row) × (s ≡ side) → ⊥) → slots layout new r s ≡ slots layout old r s

-- this slot alone may have changed: it is as before, or closed, or open with these octets
pub record Rewrites (layout : Layout) (row : ℕ) (side : Bool) (octets old new : List ℕ) : Type 0 where
  pub only : OnlyAt layout row side old new
  pub here : (slots layout new row side ≡ slots layout old row side) ⊎ (slots layout new row side ≡ None) ⊎ (slots layout new row side ≡ Some octets)

-- this slot alone has changed, and is closed
pub record Closed (layout : Layout) (row : ℕ) (side : Bool) (old new : List ℕ) : Type 0 where
  pub only : OnlyAt layout row side old new
  pub here : slots layout new row side ≡ None

-- this slot alone has changed, and is open with these octets
pub record Rewritten (layout : Layout) (row : ℕ) (side : Bool) (octets old new : List ℕ) : Type 0 where
  pub only : OnlyAt layout row side old new
  pub here : slots layout new row side ≡ Some octets

-- the images since the last `begin` grow only by images that stand so to what a read gave
pub record GrowsBy (P : List ℕ → List ℕ → Type 0) (image : Option (List ℕ)) (old new : List ℕ → Type 0) : Type 0 where
  pub kept : (c : List ℕ) → old c → new c
  pub none : (c : List ℕ) → new c → old c ⊎ ((d : List ℕ) × (image ≡ Some d) × P d c)

-- where a read's image is told, it has become one that stands so to it
abbrev pub Becomes : (List ℕ → List ℕ → Type 0) → Option (List ℕ) → Option (List ℕ) → Type 0
Becomes P None None = Unit {0}
Becomes P None (Some e) = ⊥
Becomes P (Some d) None = ⊥
Becomes P (Some d) (Some e) = P d e

-- this slot alone may have changed: it is as before or closed
pub record Closes (layout : Layout) (row : ℕ) (side : Bool) (old new : List ℕ) : Type 0 where
  pub only : OnlyAt layout row side old new
  pub here : (slots layout new row side ≡ slots layout old row side) ⊎ (slots layout new row side ≡ None)

-- this slot alone has changed, and is closed, with these octets behind its gate
pub record Filled (layout : Layout) (row : ℕ) (side : Bool) (octets old new : List ℕ) : Type 0 where
  pub closed : Closed layout row side old new
  pub behind : part (gate_at layout row side + 1) layout.behind new ≡ octets

-- this slot alone may have changed: it is closed, or open with the octets behind its gate
pub record Opens (layout : Layout) (row : ℕ) (side : Bool) (old new : List ℕ) : Type 0 where
  pub only : OnlyAt layout row side old new
  pub here : (slots layout new row side ≡ None) ⊎ (slots layout new row side ≡ Some (part (gate_at layout row side + 1) layout.behind old))

-- this slot alone has changed, and is open with the octets behind its gate
pub record IsOpened (layout : Layout) (row : ℕ) (side : Bool) (old new : List ℕ) : Type 0 where
  pub only : OnlyAt layout row side old new
  pub here : slots layout new row side ≡ Some (part (gate_at layout row side + 1) layout.behind old)

-- where a read's image is told, it tells whether this slot is open
abbrev pub TellsOpen : Layout → ℕ → Bool → Bool → Option (List ℕ) → Type 0
TellsOpen layout row side is_open None = Unit {0}
TellsOpen layout row side is_open (Some image) = is_some (slots layout image row side) ≡ is_open

-- so many device calls at most of a run, each write followed by its sync: what they leave of a disk by their answer
pub record Steps {T E : Type 0} (most : ℕ) (result : Result T E) (old new : Moment) : Type 0 where
  pub quiet : OnOk result (IsQuiet new.tally new.image new.may_leave)
  pub told : is_some new.image ≡ is_some old.image
  pub run : SameRun old.tally new.tally
  pub good : OnOk result (new.faults ≡ old.faults)
  pub failed : OnErr result (new.faults ≡ one_more old.faults)
  pub alone : old.tally.calls ≡ old.tally.writes → new.tally.calls ≡ new.tally.writes
  pub few : new.tally.writes ≤ old.tally.writes + most

-- the counts after a stable write of so many octets
abbrev pub after_stable : ℕ → Tally → Tally
after_stable count t = after_sync (after_write count t)

-- the counts after a gate was closed, where it was open
abbrev pub after_closing : Bool → Tally → Tally
after_closing false t = t
after_closing true t = after_stable 1 t

-- the counts after a slot was rewritten, with or without a gate to close
abbrev pub after_rewrite : Bool → Tally → Tally
after_rewrite was_open t = after_stable 1 (after_stable 63 (after_closing was_open t))

-- how many calls that makes
abbrev pub rewrite_calls : Bool → ℕ
rewrite_calls false = 4
rewrite_calls true = 6

-- a row can be written into this slot: the disk is large enough and at rest, and tells whether the slot is open
pub record IsWritable (tally : Tally) (image : Option (List ℕ)) (may_leave : List ℕ → Type 0) (row : ℕ) (side is_open : Bool) : Type 0 where
  pub size : IMAGE_SIZE ≤ tally.size
  pub quiet : IsQuiet tally image may_leave
  pub tells : TellsOpen format_1 row side is_open image

-- since the last `begin` a crash leaves the image from before, with this slot as it was, closed, or with the octets
abbrev pub LeavesRewritten : ℕ → Bool → List ℕ → Option (List ℕ) → (List ℕ → Type 0) → Type 0
LeavesRewritten row side octets image left = (c : List ℕ) → left c → (d : List ℕ) × (image ≡ Some d) × Rewrites format_1 row side octets d c

-- what is known beside the rows after the commit of these values: the next generation, or that the store is halted
abbrev pub marks_after : Result (Unit {0}) CommitFault → Marks → ℕ → Row → Marks
marks_after (Ok value) marks at row = record marks { last = next_generation marks.last }
marks_after (Err DiskFault) marks at row = record marks { halted = true; undecided = Some (at, row) }
marks_after (Err (Worn generation)) marks at row = record marks { halted = true }
marks_after (Err fault) marks at row = marks

-- the slot is rewritten with octets that spell this row under this generation, at each moment and where it is done
pub record Writes (row : ℕ) (side : Bool) (value : Row) (number : ℕ) (image new : Option (List ℕ)) (left : List ℕ → Type 0) (is_done : Bool) : Type 0 where
  pub octets : List ℕ
  pub spelled : Spelled octets value number
  pub moments : LeavesRewritten row side octets image left
  pub done : is_done ≡ true → Becomes (Rewritten format_1 row side octets) image new
