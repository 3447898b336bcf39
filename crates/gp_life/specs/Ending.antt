-- How a life of one sink ends, whatever its status: the counts of faults, what a crash then leaves, and that a life which nothing
-- stops comes to its end.
use Rattle.std.specs.Prelude.{◌≡◌, ◌≤◌, ◌^◌, ◌-◌, ◌⊎◌, ℕ, List, ◌++◌, length, Option, Some, None, Ok, IsOk}
use Rattle.std.specs.Io.KnownBytes.{Appends, Consumes}
use Rattle.std.specs.Str.Lines.{lines}
use Rattle.gp_base.specs.Outside.{one_more, Rose}
use Rattle.gp_disk.specs.declared.device.Disk.{Ghosts}
use Rattle.gp_rows.specs.declared.row.Row.{Row}
use Rattle.gp_store.specs.Image.{HoldsRows, HasLast}
use Rattle.gp_telling.specs.Texts.{report_text}
use Rattle.gp_lines.specs.declared.status.Status.{Status}
use Rattle.gp_lines.specs.declared.status.Status.TheVariants as ending
use Rattle.gp_lines.specs.Leaves.{AreFirst, HaveCome, IsFront, Settles}
use Rattle.gp_lines.specs.Lines.{AreWithin}
use Rattle.gp_world.specs.Life.{Life, Lived}
use Rattle.gp_life.specs.Lived.{life_of}
use Rattle.gp_life.specs.Living.{AllFit, EachFits, IsAsBefore}

-- the disk's count of faults rose by one where the status names it, and else stands
abbrev pub DiskCounts : Status → ℕ → ℕ → Type 0
DiskCounts ending.DiskFault before after = after ≡ one_more before
DiskCounts other before after = after ≡ before

-- the lines of the input begin with these, whatever comes after what was read
abbrev pub Begin : Option (List ℕ) → List ℕ → List (List ℕ) → Type 0
Begin left read taken = Settles left read (AreFirst taken) ⊎ HaveCome left read taken

-- where the sink is set up, the image holds these rows
abbrev pub StartsFrom : List ℕ → List Row → Option Life → Type 0
StartsFrom image rows None = Unit {0}
StartsFrom image rows (Some life) = HoldsRows image rows

module _ {D : Type 0} (of : Ghosts D) (disk : D) where
  -- What a crash leaves of the disk, where the one is what was reported, and the other what one line more made of it: before the sink is
  -- set up what it may have left of the disk as it was handed in, and else rows that fit the one ledger or the other.
  abbrev pub Survives : Option Life → Option Life → D → Type 0
  Survives before None new = IsAsBefore of disk new
  Survives None (Some life) new = AllFit of life.sink.ledger new
  Survives (Some before) (Some after) new = EachFits of before.sink.ledger after.sink.ledger new

  -- Where this is the image of the disk as it is handed in, and so much was read and written: these lines were lived and reported, after
  -- them at most one line more, whose report may be missing, and this is what a crash leaves.
  pub record IsRemembered (image : List ℕ) (left : Option (List ℕ)) (read written : List ℕ) (new : D) : Type 0 where
    pub taken : List (List ℕ)
    pub last : List (List ℕ)
    pub at_most_one : length last ≤ 1
    pub begin : Begin left read (taken ++ last)
    pub rows : List Row
    pub before : Lived
    pub after : Lived
    pub lived_before : life_of rows taken ≡ Ok before
    pub lived_after : life_of rows (taken ++ last) ≡ Ok after
    pub starts : StartsFrom image rows after.life
    pub reported : IsFront (report_text before.told) written
    pub no_more : IsFront written (report_text after.told)
    pub survives : Survives before.life after.life new

  -- and so whatever the status
  pub record Remembers (left_before left_after written_before written_after : Option (List ℕ)) (new : D) (image : List ℕ) : Type 0 where
    pub read : List ℕ
    pub written : List ℕ
    pub consumed : Consumes left_before left_after read
    pub appended : Appends written_before written_after written
    pub remembered : IsRemembered image left_after read written new

  -- Where the disk holds rows with a last generation of at most 2^64 - 2,000,001, the lines of the whole input are within the limits,
  -- each is played and no count of faults rises, the life is done, or memory wasn't found.
  abbrev pub Completes : Status → Option (List ℕ) → ℕ → ℕ → ℕ → ℕ → D → Type 0
  Completes status left source_before source_after out_before out_after new =
      (input image : List ℕ) (rows : List Row) (last : ℕ) → left ≡ Some input → of.image disk ≡ Some image → HoldsRows image rows → HasLast image last → last ≤ 2 ^ 64 - 1 - 2000000
      → AreWithin (lines input) → IsOk (life_of rows (lines input))
      → (Rose source_before source_after → ⊥) → (Rose out_before out_after → ⊥) → (Rose (of.faults disk) (of.faults new) → ⊥) → (status ≡ ending.Done) ⊎ (status ≡ ending.NoMemory)
