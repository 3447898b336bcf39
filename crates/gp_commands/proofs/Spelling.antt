-- Spellings in the parts that the code adds.
use Rattle.std.proofs.Common.{◌≡◌, append_assoc}
use Rattle.gp_commands.specs.Inside.{commissioning_in_parts, header_octets, application_octets, reply_in_parts, reply_header_octets, keying_octets}
use Rattle.gp_commands.specs.declared.command.Commissioning.{Commissioning}
use Rattle.gp_commands.specs.declared.command.Reply.{Reply}
use Rattle.gp_commands.specs.Commissioning.{commissioning}
use Rattle.gp_commands.specs.Reply.{reply}

pub commissioning_parts : (c : Commissioning) → commissioning c ≡ commissioning_in_parts c
unfolding commissioning header_octets keying_octets application_octets
commissioning_parts c = simp append_assoc

pub reply_parts : (r : Reply) → reply r ≡ reply_in_parts r
unfolding reply reply_header_octets keying_octets
reply_parts r = simp append_assoc
