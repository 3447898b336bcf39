-- What a line makes of a network, in terms of the ideal one.
use Rattle.std.specs.Prelude.{◌≡◌, ℕ, List, length}
use Rattle.gp_base.specs.Table.{let_else}
use Rattle.gp_world.specs.World as ideal
use Rattle.gp_world.specs.World.{Armed, named, replaced}
use Rattle.gp_net.specs.declared.net.Net.{Net}
use Rattle.gp_net.specs.Nodes.{AreNodesOf, armed_so}

-- The same frames are on the air, as many messages were sent, and each node stands for the ideal one.
pub record IsNetOf (net : Net) (model : ideal.World) : Type 0 where
  pub air : net.air.items ≡ model.air
  pub sent : net.sent ≡ length model.messages
  pub nodes : AreNodesOf net.nodes.items model.nodes

-- the same frames, messages and nodes, and perhaps more memory
pub record IsSameNet (old new : Net) : Type 0 where
  pub air : new.air.items ≡ old.air.items
  pub sent : new.sent ≡ old.sent
  pub nodes : new.nodes.items ≡ old.nodes.items

-- the first node of this name with another cut or fault armed
abbrev pub rearmed : List ℕ → Armed → ideal.World → ideal.World
rearmed name armed model = let_else (named name model.nodes) model
    (λ node. record model { nodes = replaced name (record node { kind = armed_so armed node.kind }) model.nodes })
