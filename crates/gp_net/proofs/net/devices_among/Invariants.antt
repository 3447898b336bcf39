use Rattle.std.proofs.Common.{◌≡◌, take}
use Rattle.std.specs.List.{count_by}
use Rattle.gp_net.specs.Inside.{is_a_device}
use Rattle.gp_net.proofs.net.devices_among.Given as goal

abbrev pub invariant-loop-node : goal.invariant-loop-node
invariant-loop-node l = l.count ≡ count_by is_a_device (take l.node-index l.nodes)
