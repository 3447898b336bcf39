-- How a sink with its power stands for an ideal one.
use Rattle.std.specs.Prelude.{◌≡◌, ◌⊎◌, ◌≤◌, ◌<◌, ◌^◌, ◌-◌, ℕ, min, true, false, List, [], ◌∷◌, length, Some, None}
use Rattle.gp_disk.specs.declared.memory.MemoryDisk.{MemoryDisk}
use Rattle.gp_disk.specs.Fuse.{Arming, Waits, Stop, Fault, Running, undue}
use Rattle.gp_disk.specs.Fuse as fuses
use Rattle.gp_disk.specs.Memory.{memory_fuse, memory_may_leave}
use Rattle.gp_rows.specs.declared.row.Row.{Row}
use Rattle.gp_rows.specs.Changes.{with_row}
use Rattle.gp_translate.specs.declared.rule.Rule.{Rule}
use Rattle.gp_store.specs.Image.{HoldsRows}
use Rattle.gp_store.specs.State.{State}
use Rattle.gp_ideal.specs.declared.config.Config.{Config}
use Rattle.gp_ideal.specs.declared.ledger.Change.{Change}
use Rattle.gp_ideal.specs.Ledger.{row_of}
use Rattle.gp_sink.specs.Fits.{Fits, ImageFits}
use Rattle.gp_sink.specs.Ruled.{MayMake}
use Rattle.gp_world.specs.World.{Armed, Unarmed, ToCut, ToFail, Phase, Runs, Dark, Halted}
use Rattle.gp_world.specs.World as ideal
use Rattle.gp_power.specs.declared.power.Powered.{Powered}
use Rattle.gp_power.specs.declared.power.Supply.{Supply}
use Rattle.gp_power.specs.declared.power.Supply.TheVariants.{On, Off, Moved}

-- ---- what is armed

-- The disk waits for the `begin` of that commit. A cut comes once so many of its device calls have gone through, a fault at one of
-- the first four, which every commit has.
abbrev pub arming_of : Armed → Arming
arming_of Unarmed = fuses.Unarmed
arming_of (ToCut commit calls) = Waits commit calls Stop
arming_of (ToFail commit calls) = Waits commit (min calls 3) Fault

-- the armed commit is still to come
abbrev pub IsToCome : ℕ → Type 0
IsToCome commit = (1 ≤ commit) × (commit < 2 ^ 64 - 1)

abbrev pub IsAhead : Armed → Type 0
IsAhead Unarmed = Unit {0}
IsAhead (ToCut commit calls) = IsToCome commit
IsAhead (ToFail commit calls) = IsToCome commit

-- ---- what its disk holds

-- every one of these images holds rows that fit the ledger
abbrev pub AllFit : (List ℕ → Type 0) → List Change → Type 0
AllFit images ledger = (c : List ℕ) → images c → ImageFits ledger c

-- A change is open: its commit has failed. The store keeps its row with the values that it gives it; the rows fit the ledger, those
-- with that row fit the ledger with the change, and each image that a crash may leave holds the ones or the others.
pub record IsOpen (store : State MemoryDisk) (ledger : List Change) (change : Change) : Type 0 where
  pub at : ℕ
  pub value : Row
  pub told : store.undecided ≡ Some (at, value)
  pub place : at ≡ row_of change ledger
  pub within : at ≤ length store.rows
  pub due : MayMake store.rows change
  pub before : Fits store.rows ledger
  pub after : Fits (with_row store.rows at value) (change ∷ ledger)
  pub images : (c : List ℕ) → memory_may_leave store.disk c → HoldsRows c store.rows ⊎ HoldsRows c (with_row store.rows at value)

-- ---- its power

-- It runs: its rows fit the ledger, and so do those of every image that a crash may leave.
pub record RunsAs (ledger : List Change) (armed : Armed) (store : State MemoryDisk) : Type 0 where
  pub running : store.halted ≡ false
  pub decided : store.undecided ≡ None
  pub fits : Fits store.rows ledger
  pub images : AllFit (memory_may_leave store.disk) ledger
  pub fuse : memory_fuse store.disk ≡ Running (arming_of armed)
  pub ahead : IsAhead armed

-- It has no power: what its disk holds fits the ledger.
pub record IsDarkAs (ledger : List Change) (armed : Armed) (disk : MemoryDisk) : Type 0 where
  pub images : AllFit (memory_may_leave disk) ledger
  pub fuse : memory_fuse disk ≡ Running (arming_of armed)
  pub ahead : IsAhead armed

-- It is halted, and the change is open. What is armed is what a crash would leave so.
pub record IsHaltedAs (ledger : List Change) (change : Change) (armed : Armed) (store : State MemoryDisk) : Type 0 where
  pub halted : store.halted ≡ true
  pub undecided : IsOpen store ledger change
  pub now : Arming
  pub fuse : memory_fuse store.disk ≡ Running now
  pub kept : undue now ≡ arming_of armed
  pub ahead : IsAhead armed

abbrev pub StandsIn : Phase → List Change → Armed → Supply → Type 0
StandsIn Runs ledger armed (On sink) = RunsAs ledger armed sink.store
StandsIn Dark ledger armed (Off rules disk) = IsDarkAs ledger armed disk
StandsIn (Halted change) ledger armed (On sink) = IsHaltedAs ledger change armed sink.store
StandsIn _ ledger armed supply = ⊥

-- ---- the whole

-- its rules, which it has without power too
abbrev pub rules_of : Supply → List Rule
rules_of (On sink) = sink.rules
rules_of (Off rules disk) = rules
rules_of Moved = []

-- a sink with power is set up so
abbrev pub IsSetUp : Config → Supply → Type 0
IsSetUp config (On sink) = sink.config ≡ config
IsSetUp config other = Unit {0}

-- configuration and rules are those of the ideal sink, and its rows or its disk stand for the ledger in the phase that it is in
pub record StandsFor (powered : Powered) (model : ideal.Powered) : Type 0 where
  pub config : powered.config ≡ model.sink.config
  pub set_up : IsSetUp powered.config powered.supply
  pub rules : rules_of powered.supply ≡ model.sink.rules
  pub phase : StandsIn model.phase model.sink.ledger model.armed powered.supply

-- it stands for the ideal sink, but for what is armed there
abbrev pub StandsButArmed : Powered → ideal.Powered → Type 0
StandsButArmed powered model = (armed : Armed) × StandsFor powered (record model { armed = armed })
