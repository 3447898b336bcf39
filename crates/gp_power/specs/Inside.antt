-- What the calls below an event say of one another. No clause of a public call cites this file: nothing in it has to be believed.
use Rattle.std.specs.Prelude.{◌≡◌, ◌≤◌, ℕ, Bool, true, false, List, [], ◌∷◌, ◌++◌, Option, Some, None, IfSome, Result, Ok, Err, is_some, unwrap_or}
use Rattle.gp_disk.specs.declared.memory.MemoryDisk.{MemoryDisk}
use Rattle.gp_disk.specs.Disk.{Only}
use Rattle.gp_disk.specs.Fuse.{Fuse, Foretold, Running, Unarmed, crashed, is_due, has_stopped}
use Rattle.gp_disk.specs.declared.device.Disk.{Ghosts}
use Rattle.gp_disk.specs.Memory.{memory_fuse, memory_image, memory_may_leave, memory_left, memory_tally, memory_faults}
use Rattle.gp_rows.specs.declared.row.Row.{Row}
use Rattle.gp_rows.specs.Rows.{IsNewest}
use Rattle.gp_script.specs.declared.report.Report.TheVariants as reports
use Rattle.gp_script.specs.declared.report.RuleAnswer.{RuleAnswer}
use Rattle.gp_script.specs.declared.report.RuleAnswer.TheVariants.{Added, Form, Full, Many}
use Rattle.gp_store.specs.Image.{IMAGE_SIZE, HoldsRows}
use Rattle.gp_store.specs.State.{State}
use Rattle.gp_translate.specs.declared.rule.Rule.{Rule}
use Rattle.gp_translate.specs.declared.rule.RuleReason.TheVariants as reasons
use Rattle.gp_translate.specs.Rules.{standard, refusal}
use Rattle.gp_ideal.specs.declared.config.Config.{Config}
use Rattle.gp_ideal.specs.declared.ledger.Change.{Change}
use Rattle.gp_sink.specs.declared.verdict.Verdict.{Verdict}
use Rattle.gp_sink.specs.declared.verdict.SinkFault.{SinkFault}
use Rattle.gp_sink.specs.Fits.{Fits, ImageFits}
use Rattle.gp_sink.specs.Sink.{SinkState}
use Rattle.gp_world.specs.World as ideal
use Rattle.gp_power.specs.declared.answer.Answer.{Answer}
use Rattle.gp_power.specs.declared.answer.Answer.TheVariants as answers
use Rattle.gp_power.specs.declared.power.Supply.{Supply}
use Rattle.gp_power.specs.declared.power.Supply.TheVariants.{On, Off, Moved}
use Rattle.gp_power.specs.Stands.{AllFit, IsOpen, IsAhead, arming_of}
use Rattle.gp_power.specs.Few.{AreBelow, IsBelow}

-- a disk in memory, as one
abbrev pub in_memory : Ghosts MemoryDisk
in_memory = record { image = memory_image; may_leave = memory_may_leave; left = memory_left; tally = memory_tally; faults = memory_faults; fuse = memory_fuse }

-- ---- crashes

-- no call of the disk is to fail
abbrev pub IsCalm : Fuse → Type 0
IsCalm fuse = (count : ℕ) → Foretold count fuse false → ⊥

-- what a crash leaves of a disk: one of the images that it may leave, and no other
pub record IsCrashed (old new : MemoryDisk) : Type 0 where
  pub image : IfSome (memory_image new) (memory_may_leave old)
  pub only : Only (memory_image new) (memory_may_leave new)
  pub fuse : memory_fuse new ≡ crashed (memory_fuse old)

-- ---- the bit of an open change

-- two rows are the same in all but order
pub record IsAlike (row value : Row) : Type 0 where
  pub src : row.src.0 ≡ value.src.0
  pub key : row.key.0 ≡ value.key.0
  pub kind : row.kind ≡ value.kind
  pub level : row.level ≡ value.level
  pub mode : row.mode ≡ value.mode
  pub group : row.group ≡ value.group
  pub device : row.device ≡ value.device
  pub live : row.live ≡ value.live
  pub floor : row.floor ≡ value.floor

-- the row at this place is the current one of its SrcID, and has these values in all but order
pub record Repeats (rows : List Row) (at : ℕ) (value : Row) : Type 0 where
  pub row : Row
  pub newest : IsNewest rows value.src.0 at row
  pub is_live : row.live ≡ true
  pub same : IsAlike row value

-- the ledger with the change, where the bit is yes
abbrev pub with_bit : Bool → Change → List Change → List Change
with_bit false change ledger = ledger
with_bit true change ledger = change ∷ ledger

-- The image holds rows that fit the ledger as the bit has it; where it is no, none that fit the ledger with the change.
pub record DecidesOf (bit : Bool) (change : Change) (ledger : List Change) (image : List ℕ) : Type 0 where
  pub chosen : ImageFits (with_bit bit change ledger) image
  pub exactly : bit ≡ false → ImageFits (change ∷ ledger) image → ⊥

-- the bit decides whatever is open; where nothing is undecided there is none
abbrev pub Settles : State MemoryDisk → MemoryDisk → Option Bool → Type 0
Settles store disk None = store.undecided ≡ None
Settles store disk (Some bit) = (ledger : List Change) (change : Change) → IsOpen store ledger change → IfSome (memory_image disk) (DecidesOf bit change ledger)

-- ---- behind the answer of a sink

-- the power is to be cut: a verdict in the armed commit, or a fault because the disk has stopped
abbrev pub is_cut : Result Verdict SinkFault → Fuse → Bool
is_cut (Ok verdict) fuse = is_due fuse
is_cut (Err fault) fuse = has_stopped fuse

abbrev pub said_by : Result Verdict SinkFault → Answer
said_by (Ok verdict) = answers.Verdict verdict
said_by (Err fault) = answers.Other reports.Halted

-- The power of a sink goes: its rules stay, its disk has crashed, and the bit decides what wasn't.
pub record Falls (sink : SinkState MemoryDisk) (supply : Supply) (bit : Option Bool) : Type 0 where
  pub disk : MemoryDisk
  pub supply_is : supply ≡ Off sink.rules disk
  pub crashed_is : IsCrashed sink.store.disk disk
  pub settles : Settles sink.store disk bit
  pub there : is_some bit ≡ is_some sink.store.undecided

-- the same in an event: where nothing was undecided the bit is yes
pub record IsCut (sink : SinkState MemoryDisk) (supply : Supply) (said : Answer) (took : Option Bool) : Type 0 where
  pub bit : Option Bool
  pub falls : Falls sink supply bit
  pub said_is : said ≡ answers.Other reports.Cut
  pub took_is : took ≡ Some (unwrap_or bit true)

-- what comes of a sink that has answered so
pub record IsAfter (sink : SinkState MemoryDisk) (answer : Result Verdict SinkFault) (supply : Supply) (said : Answer) (took : Option Bool) : Type 0 where
  pub cut : is_cut answer (memory_fuse sink.store.disk) ≡ true → IsCut sink supply said took
  pub stays : is_cut answer (memory_fuse sink.store.disk) ≡ false → (supply ≡ On sink) × (said ≡ said_by answer) × (took ≡ None)

-- of a sink with power this holds
abbrev pub IfOn : Supply → (SinkState MemoryDisk → Type 0) → Type 0
IfOn (On sink) P = P sink
IfOn other P = Unit {0}

-- it isn't moved
abbrev pub IsThere : Supply → Type 0
IsThere Moved = ⊥
IsThere other = Unit {0}

-- ---- starts

-- A disk that was formatted: every image that a crash may leave holds no rows, and nothing is to fail.
pub record IsEmptyDisk (disk : MemoryDisk) : Type 0 where
  pub large : IMAGE_SIZE ≤ (memory_tally disk).size
  pub empty : (c : List ℕ) → memory_may_leave disk c → HoldsRows c []
  pub fuse : memory_fuse disk ≡ Running Unarmed

-- a new sink: it runs, with the standard rules, and has no rows
pub record IsNewSink (config : Config) (sink : SinkState MemoryDisk) : Type 0 where
  pub set_up : sink.config ≡ config
  pub rules : sink.rules ≡ standard
  pub runs : sink.store.halted ≡ false
  pub decided : sink.store.undecided ≡ None
  pub rows : sink.store.rows ≡ []
  pub images : (c : List ℕ) → memory_may_leave sink.store.disk c → HoldsRows c []
  pub fuse : memory_fuse sink.store.disk ≡ Running Unarmed
  pub few : IsBelow 0 sink.store

-- A sink that has started over the disk of a dark one: for each ledger that this fits it runs, and what is armed stays so.
pub record IsUp (config : Config) (rules : List Rule) (disk : MemoryDisk) (sink : SinkState MemoryDisk) : Type 0 where
  pub set_up : sink.config ≡ config
  pub rules_are : sink.rules ≡ rules
  pub runs : sink.store.halted ≡ false
  pub decided : sink.store.undecided ≡ None
  pub fits : (ledger : List Change) → AllFit (memory_may_leave disk) ledger → Fits sink.store.rows ledger × AllFit (memory_may_leave sink.store.disk) ledger
  pub fuse : (armed : ideal.Armed) → memory_fuse disk ≡ Running (arming_of armed) → IsAhead armed → memory_fuse sink.store.disk ≡ Running (arming_of armed)
  pub few : (most : ℕ) → AreBelow most (memory_may_leave disk) → IsBelow most sink.store

-- A start that was refused leaves no other images, and what is armed.
pub record IsBack (disk new : MemoryDisk) : Type 0 where
  pub images : (c : List ℕ) → memory_may_leave new c → memory_may_leave disk c
  pub fuse : (armed : ideal.Armed) (ledger : List Change) → memory_fuse disk ≡ Running (arming_of armed) → IsAhead armed → AllFit (memory_may_leave disk) ledger → memory_fuse new ≡ Running (arming_of armed)

-- A recovery that was cut leaves no other images, and nothing armed.
pub record IsCutAgain (disk new : MemoryDisk) : Type 0 where
  pub images : (c : List ℕ) → memory_may_leave new c → memory_may_leave disk c
  pub fuse : (armed : ideal.Armed) (ledger : List Change) → memory_fuse disk ≡ Running (arming_of armed) → AllFit (memory_may_leave disk) ledger → memory_fuse new ≡ Running Unarmed

-- A recovery that wanted memory leaves the same images, and this armed.
pub record IsArmed (armed : ideal.Armed) (disk new : MemoryDisk) : Type 0 where
  pub images : (c : List ℕ) → memory_may_leave new c → memory_may_leave disk c
  pub fuse : (before : ideal.Armed) → memory_fuse disk ≡ Running (arming_of before) → memory_fuse new ≡ Running (arming_of armed)

-- ---- rules

-- A rule is added behind the others, or refused for the first reason that holds.
abbrev pub IsRuled : Rule → List Rule → List Rule → RuleAnswer → Type 0
IsRuled rule old new Added = (refusal old rule ≡ None) × (new ≡ old ++ rule ∷ [])
IsRuled rule old new Form = (refusal old rule ≡ Some reasons.Form) × (new ≡ old)
IsRuled rule old new Full = (refusal old rule ≡ Some reasons.Full) × (new ≡ old)
IsRuled rule old new Many = (refusal old rule ≡ Some reasons.Many) × (new ≡ old)
