-- How a world stands for an ideal one, and what a line comes to.
use Rattle.std.specs.Prelude.{◌≡◌, ◌≢◌, ◌⊎◌, ℕ, Bool, true, false, List, ◌++◌, Result, Ok, Err}
use Rattle.gp_script.specs.declared.report.Entry.{Entry}
use Rattle.gp_script.specs.declared.script.Action.TheVariants.{On, OnCut}
use Rattle.gp_script.specs.declared.script.Event.{Event}
use Rattle.gp_script.specs.declared.script.Event.TheVariants.{Line}
use Rattle.gp_world.specs.Run.{IsRight, bit_taken}
use Rattle.gp_world.specs.Step.{step}
use Rattle.gp_world.specs.World as ideal
use Rattle.gp_world.specs.World.{Armed}
use Rattle.gp_net.specs.declared.fault.NetFault.{NetFault}
use Rattle.gp_net.specs.declared.fault.NetFault.TheVariants.{NoMemory, Bad}
use Rattle.gp_net.specs.declared.world.World.{World}
use Rattle.gp_net.specs.Net.{IsNetOf, IsSameNet, rearmed}

-- the number of the last line that was played
abbrev pub line_of : World → ℕ
line_of world = world.line

-- the bits that the lines took
abbrev pub bits_of : World → List Bool
bits_of world = world.bits.items

-- A world stands for an ideal one: the same frames are on the air, as many messages were sent, and each node stands for the
-- ideal one of its name. Every image that a crash of a sink's disk may leave holds rows that fit its ledger; while a change of a
-- halted sink is open, the ledger or the ledger with it.
abbrev pub Stands : World → ideal.World → Type 0
Stands world model = IsNetOf world.net model

-- The line is one step of the ideal network, by a bit that is right: its entries, and the next world. Where the line takes a bit, the
-- world keeps it behind the others; and it is no only where the world doesn't stand for what the step comes to with yes.
pub record Steps (model : ideal.World) (line : ℕ) (event : Event) (old new : World) (told : List Entry) : Type 0 where
  pub bit : Bool
  pub next : ideal.Next
  pub steps : step model line event bit ≡ Ok next
  pub right : IsRight next.choice bit
  pub takes : bits_of new ≡ bits_of old ++ bit_taken next.choice bit
  pub exact : next.choice ≢ ideal.Fixed → bit ≡ false → (other : ideal.Next) → step model line event true ≡ Ok other → Stands new other.world → ⊥
  pub told_are : told ≡ next.told
  pub stands : Stands new next.world

-- A line is one step; or it is refused for the reason of the step, whatever the bit. Want of memory is free.
abbrev pub Goes : ideal.World → ℕ → Event → World → World → Result (List Entry) NetFault → Type 0
Goes model line event old new (Ok told) = Steps model line event old new told
Goes model line event old new (Err (Bad reason)) = (bit : Bool) → step model line event bit ≡ Err reason
Goes model line event old new (Err NoMemory) = Unit {0}

-- The world is as it was, but for memory that it may have set aside.
pub record IsSame (old new : World) : Type 0 where
  pub line : new.line ≡ old.line
  pub bits : bits_of new ≡ bits_of old
  pub net : IsSameNet old.net new.net

-- The same, but that another cut or fault may be armed at the sink of this name.
pub record IsRearmed (name : List ℕ) (old new : World) : Type 0 where
  pub line : new.line ≡ old.line
  pub bits : bits_of new ≡ bits_of old
  pub net : (model : ideal.World) → Stands old model → (armed : Armed) × Stands new (rearmed name armed model)

-- Behind a line that isn't played the world is as it was. Where memory wasn't found to switch a sink on, its arming may be another.
abbrev pub IsKept : Event → NetFault → World → World → Type 0
IsKept (Line reading (On name)) NoMemory old new = IsSame old new ⊎ IsRearmed name old new
IsKept (Line reading (OnCut name calls way)) NoMemory old new = IsSame old new ⊎ IsRearmed name old new
IsKept event fault old new = IsSame old new
