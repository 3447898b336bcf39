-- One line of a life on the stage that it has come to. No clause of a public call cites this file: nothing in it has to be believed.
use Rattle.std.specs.Prelude.{◌≡◌, ◌<◌, ℕ, false, List, [], ◌++◌, Option, Some, None, Result, Ok, Err}
use Rattle.gp_base.specs.Outside.{one_more}
use Rattle.gp_disk.specs.declared.device.Disk.{Ghosts}
use Rattle.gp_store.specs.declared.fault.StoreFault.{StoreFault}
use Rattle.gp_store.specs.declared.fault.StoreFault.TheVariants as store
use Rattle.gp_store.specs.Recovery.{Recovered, Refuses}
use Rattle.gp_translate.specs.Rules.{standard}
use Rattle.gp_script.specs.declared.reason.LineReason.TheVariants.{Form}
use Rattle.gp_script.specs.declared.report.Entry.{Entry}
use Rattle.gp_script.specs.declared.sink_script.SinkAction.{SinkAction}
use Rattle.gp_script.specs.declared.sink_script.SinkAction.TheVariants.{Config}
use Rattle.gp_script.specs.declared.sink_script.SinkEvent.{SinkEvent}
use Rattle.gp_script.specs.declared.sink_script.SinkEvent.TheVariants.{Nothing, Line}
use Rattle.gp_ideal.specs.declared.config.Config as ideal
use Rattle.gp_world.specs.Life.{Life}
use Rattle.gp_world.specs.Step.{config_of}
use Rattle.gp_telling.specs.Texts.{report_text}
use Rattle.gp_lines.specs.declared.status.DiskReason.TheVariants as reasons
use Rattle.gp_lines.specs.declared.work.Halt.{Halt}
use Rattle.gp_lines.specs.declared.work.Halt.TheVariants.{Bad, DiskFault, DiskRefused, Worn, NoMemory}
use Rattle.gp_life.specs.declared.awake.Awake.{Awake}
use Rattle.gp_life.specs.declared.stage.Stage.{Stage}
use Rattle.gp_life.specs.declared.stage.Stage.TheVariants as stages
use Rattle.gp_life.specs.Inside.{GoesOn, IsLifeOf, Plays, PlayEnds}
use Rattle.gp_life.specs.Lived.{asked}
use Rattle.gp_life.specs.Living.{IsAsBefore, as_store}

-- why a disk that is refused ends a life
abbrev pub halt_by : StoreFault → Halt
halt_by store.DiskFault = DiskFault
halt_by store.DiskShort = DiskRefused reasons.DiskShort
halt_by store.NotFormatted = DiskRefused reasons.NotFormatted
halt_by store.AlreadyFormatted = DiskRefused reasons.AlreadyFormatted
halt_by (store.SlotForm slot) = DiskRefused (reasons.SlotForm slot)
halt_by store.NoMemory = NoMemory

-- ---- the stage alone

abbrev pub IsWaiting : {D : Type 0} → Stage D → Type 0
IsWaiting (stages.Waiting disk) = Unit {0}
IsWaiting other = ⊥

abbrev pub IsMoved : {D : Type 0} → Stage D → Type 0
IsMoved stages.Moved = Unit {0}
IsMoved other = ⊥

abbrev pub IsThere : {D : Type 0} → Stage D → Type 0
IsThere stages.Moved = ⊥
IsThere other = Unit {0}

-- the disk of a stage, and another one where it was moved
abbrev pub disk_in : {D : Type 0} → D → Stage D → D
disk_in other (stages.Waiting disk) = disk
disk_in other (stages.Awake awake) = awake.sink.store.disk
disk_in other stages.Moved = other

-- before the line of this number the sink runs, and fewer messages were sent
abbrev pub Awaits : {D : Type 0} → Stage D → ℕ → Type 0
Awaits (stages.Waiting disk) number = Unit {0}
Awaits (stages.Awake awake) number = (awake.sink.store.halted ≡ false) × (awake.sent < number)
Awaits stages.Moved number = ⊥

module _ {D : Type 0} (of : Ghosts D) where
  -- ---- the sink is set up

  -- a sink that was started over this disk
  pub record IsBegun (config : ideal.Config) (disk : D) (awake : Awake D) : Type 0 where
    pub recovered : Recovered of disk awake.sink.store
    pub set_up : awake.sink.config ≡ config
    pub rules : awake.sink.rules ≡ standard
    pub none_sent : awake.sent ≡ 0

  -- why it wasn't, and the disk then
  abbrev pub Unbegun : D → Halt → D → Type 0
  Unbegun disk (DiskRefused reason) new = Refuses (as_store reason) (of.tally disk).size (of.image disk) × IsAsBefore of disk new × (of.faults new ≡ of.faults disk)
  Unbegun disk DiskFault new = IsAsBefore of disk new × (of.faults new ≡ one_more (of.faults disk))
  Unbegun disk NoMemory new = new ≡ disk
  Unbegun disk other new = ⊥

  abbrev pub Begins : ideal.Config → D → Stage D → Result (Unit {0}) Halt → Type 0
  Begins config disk (stages.Awake awake) (Ok value) = IsBegun config disk awake
  Begins config disk (stages.Waiting new) (Err halt) = Unbegun disk halt new
  Begins config disk other result = ⊥

  -- an action sets it up, or is refused
  abbrev pub Wakes : D → SinkAction → Stage D → Result (Unit {0}) Halt → Type 0
  Wakes disk (Config address ieee mode channel link shared) new result = Begins (config_of address ieee mode channel link shared) disk new result
  Wakes disk other new result = (result ≡ Err (Bad Form)) × (new ≡ stages.Waiting disk)

  abbrev pub WakesAt : Stage D → SinkAction → Stage D → Result (Unit {0}) Halt → Type 0
  WakesAt (stages.Waiting disk) action new result = Wakes disk action new result
  WakesAt other action new result = ⊥

  -- ---- an action at any stage

  abbrev pub Acts : Stage D → ℕ → SinkAction → List ℕ → List ℕ → Stage D → Result (Unit {0}) Halt → Type 0
  Acts (stages.Waiting disk) number action before after new result = Wakes disk action new result × (after ≡ before)
  Acts (stages.Awake old) number action before after (stages.Awake new) result = Plays of number action old new before after result
  Acts old number action before after new result = ⊥

  -- ---- a line

  -- an action sets the sink up
  abbrev pub SetsUp : SinkAction → D → Awake D → Type 0
  SetsUp (Config address ieee mode channel link shared) disk awake = IsBegun (config_of address ieee mode channel link shared) disk awake
  SetsUp other disk awake = ⊥

  abbrev pub GoesBy : Option SinkEvent → Stage D → ℕ → List ℕ → Stage D → Type 0
  GoesBy (Some Nothing) (stages.Waiting disk) number text (stages.Waiting new) = (text ≡ []) × (new ≡ disk)
  GoesBy (Some Nothing) (stages.Awake awake) number text (stages.Awake new) = (text ≡ []) × (new ≡ awake)
  GoesBy (Some (Line reading action)) (stages.Waiting disk) number text (stages.Awake new) = (text ≡ []) × SetsUp action disk new
  GoesBy (Some (Line reading action)) (stages.Awake old) number text (stages.Awake new) =
      (told : List Entry) × (text ≡ report_text told) × ((life : Life) → IsLifeOf of old life → GoesOn of life number action told old new)
  GoesBy event old number text new = ⊥

  abbrev pub Goes : Stage D → ℕ → List ℕ → List ℕ → Stage D → Type 0
  Goes old number line text new = GoesBy (asked line) old number text new

  -- a line that doesn't set the sink up
  abbrev pub StopsWaiting : SinkAction → D → Halt → D → Type 0
  StopsWaiting (Config address ieee mode channel link shared) disk halt new = Unbegun disk halt new
  StopsWaiting other disk halt new = (halt ≡ Bad Form) × (new ≡ disk)

  abbrev pub StopsBy : Option SinkEvent → Stage D → ℕ → Halt → Stage D → Type 0
  StopsBy None old number halt new = (halt ≡ Bad Form) × (new ≡ old) × IsThere new
  StopsBy (Some Nothing) old number halt new = ⊥
  StopsBy (Some (Line reading action)) (stages.Waiting disk) number halt (stages.Waiting new) = StopsWaiting action disk halt new
  StopsBy (Some (Line reading action)) (stages.Awake old) number halt (stages.Awake new) = (life : Life) → IsLifeOf of old life → PlayEnds of life number action old new halt
  StopsBy event old number halt new = ⊥

  abbrev pub Stops : Stage D → ℕ → List ℕ → Halt → Stage D → Type 0
  Stops old number line halt new = StopsBy (asked line) old number halt new
