use Rattle.std.proofs.Common.{◌≡◌, take}
use Rattle.std.specs.List.{count_by}
use Rattle.gp_net.specs.Inside.{is_a_sink}
use Rattle.gp_net.proofs.net.sinks_among.Given as goal

abbrev pub invariant-loop-node : goal.invariant-loop-node
invariant-loop-node l = l.count ≡ count_by is_a_sink (take l.node-index l.nodes)
