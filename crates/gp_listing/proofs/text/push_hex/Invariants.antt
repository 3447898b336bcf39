use Rattle.std.proofs.Common.{◌≡◌, ◌++◌, drop}
use Rattle.hex.specs.Hex.{encode_upper}
use Rattle.gp_listing.proofs.text.push_hex.Given as goal

abbrev pub invariant-loop-octet : goal.invariant-loop-octet
invariant-loop-octet l = l.text.items ++ encode_upper (drop l.octet-index l.octets) ≡ l.fn.text.items ++ encode_upper l.octets
