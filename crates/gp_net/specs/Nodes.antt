-- How nodes stand for ideal ones.
use Rattle.std.specs.Prelude.{◌≡◌, ℕ, List, [], ◌∷◌}
use Rattle.gp_power.specs.Stands.{StandsFor}
use Rattle.gp_world.specs.World as ideal
use Rattle.gp_world.specs.World.{Armed, IsSink, IsDevice}
use Rattle.gp_net.specs.declared.node.Kind.{Kind}
use Rattle.gp_net.specs.declared.node.Kind.TheVariants as kinds
use Rattle.gp_net.specs.declared.node.Node.{Node}
use Rattle.gp_net.specs.Devices.{IsDeviceOf}

-- ---- what a node stands for

abbrev pub IsKindOf : Kind → ideal.Kind → Type 0
IsKindOf (kinds.Sink powered) (IsSink model) = StandsFor powered model
IsKindOf (kinds.Sink powered) (IsDevice model) = ⊥
IsKindOf (kinds.Device device) (IsSink model) = ⊥
IsKindOf (kinds.Device device) (IsDevice model) = IsDeviceOf device model

pub record IsNodeOf (node : Node) (model : ideal.Node) : Type 0 where
  pub kind : IsKindOf node.kind model.kind
  pub time : node.time ≡ model.time

-- the same names in the same order, each of a node that stands for the ideal one
abbrev pub AreNodesOf : List (List ℕ × Node) → List (List ℕ × ideal.Node) → Type 0
AreNodesOf [] [] = Unit {0}
AreNodesOf [] (model ∷ models) = ⊥
AreNodesOf (node ∷ nodes) [] = ⊥
AreNodesOf (node ∷ nodes) (model ∷ models) = (node.0 ≡ model.0) × IsNodeOf node.1 model.1 × AreNodesOf nodes models

-- a sink with another cut or fault armed
abbrev pub armed_so : Armed → ideal.Kind → ideal.Kind
armed_so armed (IsSink powered) = IsSink (record powered { armed = armed })
armed_so armed (IsDevice device) = IsDevice device
