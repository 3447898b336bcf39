-- What is listed of the packets of a capture file.
use Rattle.std.specs.Prelude.{ℕ, ◌+◌, List, [], ◌∷◌, ◌++◌, Option, codes, decimal}
use Rattle.gp_base.specs.declared.identity.Key.{Key}
use Rattle.gp_frames.specs.Reading.{reading}
use Rattle.gp_pcap.specs.declared.packet.Packet.{Packet}
use Rattle.gp_listing.specs.Listing.{air_text}

-- the number of a packet and its time
unfoldable pub stamp_text : ℕ → Packet → List ℕ
stamp_text number packet = decimal number ++ codes " " ++ decimal packet.seconds ++ codes " " ++ decimal packet.fraction ++ codes " "

-- the line of a packet: its number and its time, and the listing of its frame; the key, where one is given, opens secured frames
unfoldable pub packet_text : Option Key → ℕ → Packet → List ℕ
packet_text key number packet = stamp_text number packet ++ air_text key (reading packet.frame) ++ codes "\n"

-- the lines of packets, the first of them with this number
abbrev pub packets_text : Option Key → ℕ → List Packet → List ℕ
packets_text key number [] = []
packets_text key number (packet ∷ packets) = packet_text key number packet ++ packets_text key (number + 1) packets
