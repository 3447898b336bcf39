-- Spellings in the parts that the code adds.
use Rattle.std.proofs.Common.{◌≡◌, append_assoc}
use Rattle.gp_cluster.specs.Inside.{route_octets, extras_octets, pairing_in_parts}
use Rattle.gp_cluster.specs.declared.message.Pairing.{Pairing}
use Rattle.gp_cluster.specs.Pairing.{pairing}

pub pairing_parts : (m : Pairing) → pairing m ≡ pairing_in_parts m
unfolding pairing route_octets extras_octets
pairing_parts m = simp append_assoc
