use Rattle.std.proofs.Common.{◌≡◌, drop}
use Rattle.gp_net.specs.Inside.{place}
use Rattle.gp_net.proofs.Places.{behind_by}
use Rattle.gp_net.proofs.net.place_of.Given as goal

abbrev pub invariant-loop-node : goal.invariant-loop-node
invariant-loop-node l = (l.at ≡ l.node-index) × (place l.name l.nodes ≡ behind_by l.node-index (place l.name (drop l.node-index l.nodes)))
