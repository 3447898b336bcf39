-- What holds of every world, whatever was played on it: the struct carries it. No clause of a public call cites this file.
use Rattle.std.specs.Prelude.{◌≡◌, ◌≤◌, ◌*◌, ℕ, List, length}
use Rattle.std.specs.List.{All}
use Rattle.std.proofs.Props.{props}
use Rattle.gp_power.specs.declared.power.Supply.{Supply}
use Rattle.gp_power.specs.declared.power.Supply.TheVariants.{On, Off, Moved}
use Rattle.gp_power.specs.Few.{AreFew as AreFewAt, IsSupplyBelow}
use Rattle.gp_net.specs.declared.net.Net.{Net}
use Rattle.gp_net.specs.declared.node.Kind.{Kind}
use Rattle.gp_net.specs.declared.node.Kind.TheVariants as kinds
use Rattle.gp_net.specs.declared.node.Node.{Node}

-- the last generation of a sink is at most this number, on its disk too
abbrev pub IsFewKind : ℕ → Kind → Type 0
IsFewKind most (kinds.Sink powered) = AreFewAt most powered
IsFewKind most (kinds.Device device) = Unit {0}

-- so it is of every node
abbrev pub AreFew : ℕ → List (List ℕ × Node) → Type 0
AreFew most nodes = All (λ node. IsFewKind most node.1.kind) nodes

-- There are no more messages than lines were played, and each line took at most two generations of a sink
pub record IsSteadyNet (line : ℕ) (net : Net) : Type 0 where
  pub sent : net.sent ≤ line
  pub nodes : AreFew (2 * line) net.nodes.items

-- it is a fact: there is at most one proof of it
supply_prop : (most : ℕ) (supply : Supply) → IsProp (IsSupplyBelow most supply)
supply_prop most (On sink) = hlevel props
supply_prop most (Off rules disk) = hlevel props
supply_prop most Moved = hlevel props

few_prop : (most : ℕ) (kind : Kind) → IsProp (IsFewKind most kind)
few_prop most (kinds.Sink powered) = supply_prop most powered.supply
few_prop most (kinds.Device device) = hlevel props

pub steady_prop : (line : ℕ) (net : Net) → IsProp (IsSteadyNet line net)
steady_prop line net = hlevel (props, few_prop)
