-- What the calls below a step say of one another. No clause of a public call cites this file: nothing in it has to be believed.
use Rattle.std.specs.Prelude.{◌≡◌, ◌<◌, ◌≤◌, ◌⊎◌, ℕ, suc, Bool, true, false, not, ◌==◌, if◌then◌else◌, List, [], ◌∷◌, ◌++◌, length, slice_get, vec_capacity, Option, Some, None, option_map, Result, Ok, Err}
use Rattle.std.specs.Str.{bytes_eq}
use Rattle.gp_script.specs.declared.reason.LineReason.{LineReason}
use Rattle.gp_script.specs.declared.report.Entry.{Entry}
use Rattle.gp_script.specs.declared.script.Action.{Action}
use Rattle.gp_script.specs.declared.script.Action.TheVariants.{Sink, Device, Pair, Rule, Announce, Press, Table, Cut, Fault, On, OnCut, Off}
use Rattle.gp_script.specs.declared.script.Event.{Event}
use Rattle.gp_script.specs.declared.script.Event.TheVariants.{Nothing, Line}
use Rattle.gp_world.specs.World as ideal
use Rattle.gp_net.specs.declared.fault.NetFault.{NetFault}
use Rattle.gp_net.specs.declared.fault.NetFault.TheVariants.{NoMemory, Bad}
use Rattle.gp_net.specs.declared.net.Net.{Net}
use Rattle.gp_net.specs.declared.node.Kind.{Kind}
use Rattle.gp_net.specs.declared.node.Kind.TheVariants as kinds
use Rattle.gp_net.specs.declared.node.Node.{Node}
use Rattle.gp_telling.specs.declared.telling.Telling.{Telling}
use Rattle.gp_net.specs.Steady.{IsSteadyNet}
use Rattle.gp_world.specs.Run.{IsRight}
use Rattle.gp_net.specs.Made.{bit_told}
use Rattle.gp_net.specs.Net.{IsNetOf, rearmed}

-- ---- nodes by their names and kinds

-- the place of the first node of this name
abbrev pub place : List ℕ → List (List ℕ × Node) → Option ℕ
place name [] = None
place name (node ∷ nodes) = if bytes_eq node.0 name then Some 0 else option_map suc (place name nodes)

abbrev pub is_sink_kind : Kind → Bool
is_sink_kind (kinds.Sink sink) = true
is_sink_kind (kinds.Device device) = false

abbrev pub is_kind_at : ℕ → Kind → Bool
is_kind_at address (kinds.Sink powered) = powered.config.address == address
is_kind_at address (kinds.Device device) = false

-- a node under its name that is a sink, a device, or has this address
unfoldable pub is_a_sink : List ℕ × Node → Bool
is_a_sink node = is_sink_kind node.1.kind

unfoldable pub is_a_device : List ℕ × Node → Bool
is_a_device node = not (is_sink_kind node.1.kind)

unfoldable pub is_at : ℕ → List ℕ × Node → Bool
is_at address node = is_kind_at address node.1.kind

-- the first node of this name is at this place, and is of the kind that is asked for: a sink, or a device
pub record IsPlaceOf (sink : Bool) (nodes : List (List ℕ × Node)) (name : List ℕ) (at : ℕ) : Type 0 where
  pub first : place name nodes ≡ Some at
  pub node : List ℕ × Node
  pub there : slice_get nodes at ≡ Some node
  pub kind : is_sink_kind node.1.kind ≡ sink
  pub below : at < length nodes

-- there is no node of this name, or it is of another kind
abbrev pub HasNone : Bool → List (List ℕ × Node) → List ℕ → Type 0
HasNone sink nodes name =
    (place name nodes ≡ None) ⊎ ((at : ℕ) × (node : List ℕ × Node) × (place name nodes ≡ Some at) × (slice_get nodes at ≡ Some node) × (is_sink_kind node.1.kind ≡ sink → ⊥))

-- ---- what a line comes to

-- there is room for one more frame, and one more node
pub record HasRoom (net : Net) : Type 0 where
  pub air : length net.air.items < vec_capacity net.air
  pub nodes : length net.nodes.items < vec_capacity net.nodes

-- A line can be played: it is behind those that were, there is room for what it makes, and nothing is told yet.
pub record IsReady (net : Net) (telling : Telling) : Type 0 where
  pub before : ℕ
  pub follows : before < telling.line
  pub within : telling.line ≤ 1000000000
  pub steady : IsSteadyNet before net
  pub room : HasRoom net
  pub untold : telling.entries.items ≡ []
  pub entries : 6 ≤ vec_capacity telling.entries

-- these entries were told
pub record Told (told : List Entry) (old new : Telling) : Type 0 where
  pub line : new.line ≡ old.line
  pub entries : new.entries.items ≡ old.entries.items ++ told

-- The line went through as the ideal step, by a bit that is right; it took this one. Where that is no, the network doesn't stand for
-- what the step comes to with yes.
pub record Went (step : Bool → Result ideal.Next LineReason) (net : Net) (old new : Telling) (took : Option Bool) : Type 0 where
  pub bit : Bool
  pub next : ideal.Next
  pub steps : step bit ≡ Ok next
  pub takes : took ≡ bit_told next.choice bit
  pub right : IsRight next.choice bit
  pub exact : took ≡ Some false → (other : ideal.Next) → step true ≡ Ok other → IsNetOf net other.world → ⊥
  pub stands : IsNetOf net next.world
  pub told : Told next.told old new

-- The line comes to what the ideal step comes to: it goes through, or is refused for the same reason, whatever the bit.
abbrev pub ComesTo : (Bool → Result ideal.Next LineReason) → Net → Telling → Telling → Result (Option Bool) LineReason → Type 0
ComesTo step net old new (Ok took) = Went step net old new took
ComesTo step net old new (Err reason) = (bit : Bool) → step bit ≡ Err reason

-- a node joins as it joins in the ideal step; want of memory is free
abbrev pub Joins : Result ideal.Next LineReason → Net → Result (Unit {0}) NetFault → Type 0
Joins (Ok next) net (Ok value) = IsNetOf net next.world × (next.told ≡ []) × (next.choice ≡ ideal.Fixed)
Joins (Ok next) net (Err NoMemory) = Unit {0}
Joins (Err reason) net (Err (Bad other)) = other ≡ reason
Joins _ net result = ⊥

-- a line of any kind comes to what the ideal step comes to
abbrev pub ComesOf : (Bool → Result ideal.Next LineReason) → Net → Telling → Telling → Result (Option Bool) NetFault → Type 0
ComesOf step net old new (Ok took) = Went step net old new took
ComesOf step net old new (Err NoMemory) = Unit {0}
ComesOf step net old new (Err (Bad reason)) = (bit : Bool) → step bit ≡ Err reason

-- Behind a line that doesn't go through the network is as it was; but where memory wasn't found to switch a sink on, its arming may
-- be another.
abbrev pub MayRearm : List ℕ → Net → Net → Type 0
MayRearm name old new = (model : ideal.World) → IsNetOf old model → (armed : ideal.Armed) × IsNetOf new (rearmed name armed model)

abbrev pub IsLeftBy : List ℕ → NetFault → Net → Net → Type 0
IsLeftBy name NoMemory old new = MayRearm name old new
IsLeftBy name (Bad reason) old new = new ≡ old

abbrev pub IsLeft : Action → NetFault → Net → Net → Type 0
IsLeft (On name) NoMemory old new = MayRearm name old new
IsLeft (OnCut name calls way) NoMemory old new = MayRearm name old new
IsLeft action fault old new = new ≡ old

-- a command of a press isn't empty, and fits a frame; a commit is counted from 1, and a disk crashes in one of five ways
abbrev pub IsAction : Action → Type 0
IsAction (Press device command) = (0 < length command) × (length command ≤ 104)
IsAction (Cut sink commit calls way) = (1 ≤ commit) × (commit ≤ 1000000) × (way ≤ 4)
IsAction (Fault sink commit calls) = (1 ≤ commit) × (commit ≤ 1000000)
IsAction (OnCut sink calls way) = way ≤ 4
IsAction other = Unit {0}

abbrev pub IsEvent : Event → Type 0
IsEvent Nothing = Unit {0}
IsEvent (Line reading action) = IsAction action

-- a line that makes no node, and switches none on
abbrev pub MakesNoNode : Action → Type 0
MakesNoNode (Sink name address ieee mode channel link shared) = ⊥
MakesNoNode (Device name source key kind level device counter) = ⊥
MakesNoNode (On name) = ⊥
MakesNoNode (OnCut name calls way) = ⊥
MakesNoNode other = Unit {0}

-- a line in which a sink takes part that is there, and that switches none on
abbrev pub IsAtSink : Action → Type 0
IsAtSink (Pair sink source key kind level device counter) = Unit {0}
IsAtSink (Rule sink source command endpoint form) = Unit {0}
IsAtSink (Announce sink source) = Unit {0}
IsAtSink (Cut sink commit calls way) = Unit {0}
IsAtSink (Fault sink commit calls) = Unit {0}
IsAtSink (Off sink) = Unit {0}
IsAtSink other = ⊥

-- a list of rows has at most 1,025 entries
abbrev pub NeedsRoom : Action → ℕ → Type 0
NeedsRoom (Table sink) room = 1025 ≤ room
NeedsRoom other room = Unit {0}

abbrev pub NeedsRoomFor : Event → ℕ → Type 0
NeedsRoomFor Nothing room = Unit {0}
NeedsRoomFor (Line reading action) room = NeedsRoom action room

abbrev pub IsLeftAt : Event → NetFault → Net → Net → Type 0
IsLeftAt Nothing fault old new = new ≡ old
IsLeftAt (Line reading action) fault old new = IsLeft action fault old new
