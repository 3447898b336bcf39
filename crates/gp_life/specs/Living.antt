-- A life of one sink over a disk that is handed in.
use Rattle.std.specs.Prelude.{◌≡◌, ◌<◌, ◌^◌, ◌-◌, ◌⊎◌, ℕ, ◌+◌, List, [], ◌∷◌, ◌++◌, length, Option, Some, None, Ok, Err}
use Rattle.gp_base.specs.Outside.{one_more}
use Rattle.gp_disk.specs.declared.device.Disk.{Ghosts}
use Rattle.gp_rows.specs.declared.row.Row.{Row}
use Rattle.gp_store.specs.declared.fault.StoreFault.{StoreFault}
use Rattle.gp_store.specs.declared.fault.StoreFault.TheVariants as store
use Rattle.gp_store.specs.Image.{HasLast, HoldsRows}
use Rattle.gp_store.specs.Recovery.{HasRows, Refuses, Told}
use Rattle.gp_script.specs.declared.sink_script.SinkEvent.{SinkEvent}
use Rattle.gp_ideal.specs.declared.ledger.Change.{Change}
use Rattle.gp_world.specs.Life.{Life, Lived}
use Rattle.gp_sink.specs.Fits.{ImageFits}
use Rattle.gp_telling.specs.Texts.{report_text}
use Rattle.gp_lines.specs.declared.status.DiskReason.{DiskReason}
use Rattle.gp_lines.specs.declared.status.DiskReason.TheVariants as reasons
use Rattle.gp_lines.specs.declared.work.Halt.{Halt}
use Rattle.gp_lines.specs.declared.work.Halt.TheVariants.{Bad, DiskFault, DiskRefused, Worn, NoMemory}
use Rattle.gp_life.specs.Exact.{HasProperties}
use Rattle.gp_life.specs.Opening.{opening}
use Rattle.gp_life.specs.Lived.{asked, life_of, next_line, change_at, IsConfig}

-- a reason of a disk, as the store gives it
abbrev pub as_store : DiskReason → StoreFault
as_store reasons.DiskShort = store.DiskShort
as_store reasons.NotFormatted = store.NotFormatted
as_store reasons.AlreadyFormatted = store.AlreadyFormatted
as_store (reasons.SlotForm slot) = store.SlotForm slot

-- a change is due
abbrev pub IsDue : Option Life → Option SinkEvent → Type 0
IsDue None event = ⊥
IsDue (Some life) event = (change : Change) × (change_at life event ≡ Some change)

-- the line sets the sink up, which isn't yet
abbrev pub SetsUp : Option Life → Option SinkEvent → Type 0
SetsUp None event = IsConfig event
SetsUp (Some life) event = ⊥

module _ {D : Type 0} (of : Ghosts D) where
  -- each image that a crash of the disk may leave holds rows that fit the ledger, or for each the one or the other
  abbrev pub AllFit : List Change → D → Type 0
  AllFit ledger new = (c : List ℕ) → of.may_leave new c → ImageFits ledger c

  abbrev pub EachFits : List Change → List Change → D → Type 0
  EachFits before after new = (c : List ℕ) → of.may_leave new c → ImageFits before c ⊎ ImageFits after c

  -- each image that a crash may leave is one that a crash as it was handed in may leave
  abbrev pub IsAsBefore : D → D → Type 0
  IsAsBefore disk new = (c : List ℕ) → of.may_leave new c → of.may_leave disk c

  -- The sink lives over the disk that was handed in with these rows and this last generation, where it tells its image: what a
  -- crash may leave fits the ledger, each change has taken one generation, and no call has failed.
  pub record Holds (disk : D) (rows : List Row) (last : ℕ) (life : Life) (new : D) : Type 0 where
    pub on_disk : Told (of.image disk) (λ image. HasRows image rows last)
    pub fit : AllFit life.sink.ledger new
    pub generation : (c : List ℕ) → of.may_leave new c → HasLast c (last + (length life.sink.ledger - length (opening rows)))
    pub good : of.faults new ≡ of.faults disk

  -- before the sink is set up the disk is as it was handed in
  abbrev pub Stands : D → List Row → ℕ → Option Life → D → Type 0
  Stands disk rows last None new = new ≡ disk
  Stands disk rows last (Some life) new = Holds disk rows last life new

  -- These lines are a life over the rows of the disk, the text is that of its report, and it stands so on the disk.
  pub record Lives (disk : D) (script : List (List ℕ)) (text : List ℕ) (new : D) : Type 0 where
    pub rows : List Row
    pub last : ℕ
    pub lived : Lived
    pub is_life : life_of rows script ≡ Ok lived
    pub text_is : text ≡ report_text lived.told
    pub stands : Stands disk rows last lived.life new
    pub properties : HasProperties rows script lived.told

  -- A call of the disk failed: where the sink is set up, and a crash leaves what it may have left; or in the commit of a change,
  -- which each image has or hasn't.
  abbrev pub FailsAt : D → Option Life → Option SinkEvent → D → Type 0
  FailsAt disk None event new = IsConfig event × IsAsBefore disk new
  FailsAt disk (Some life) event new = (change : Change) × (change_at life event ≡ Some change) × EachFits life.sink.ledger (change ∷ life.sink.ledger) new

  -- Why the line of this number stops a life, and what the disk then is. A line is refused, and the disk stays; the disk is refused
  -- where the sink is set up; a change is due and the last generation is the greatest number, to which each line has added one at
  -- most; a call of the disk failed; or memory wasn't found, before the line did anything or behind it.
  abbrev pub Ends : (disk : D) (rows : List Row) (last : ℕ) (lived : Lived) (number : ℕ) (event : Option SinkEvent) (halt : Halt) (before new : D) → Type 0
  Ends disk rows last lived number event (Bad reason) before new = (next_line rows lived number event ≡ Err reason) × (new ≡ before)
  Ends disk rows last lived number event (DiskRefused reason) before new =
      SetsUp lived.life event × Refuses (as_store reason) (of.tally disk).size (of.image disk) × IsAsBefore disk new × (of.faults new ≡ of.faults disk)
  Ends disk rows last lived number event (Worn generation) before new =
      IsDue lived.life event × (generation ≡ 2 ^ 64 - 1) × (generation < last + number) × (new ≡ before)
  Ends disk rows last lived number event DiskFault before new = FailsAt disk lived.life event new × (of.faults new ≡ one_more (of.faults disk))
  Ends disk rows last lived number event NoMemory before new =
      (new ≡ before) ⊎ ((made : Lived) × (next_line rows lived number event ≡ Ok made) × Stands disk rows last made.life new)

  -- behind these lines of a life, whose text this is, this line stops it for this cause
  pub record StopsAt (disk : D) (script : List (List ℕ)) (text line : List ℕ) (halt : Halt) (new : D) : Type 0 where
    pub before : D
    pub lives : Lives disk script text before
    pub ends : Ends disk lives.rows lives.last lives.lived (length script + 1) (asked line) halt before new
