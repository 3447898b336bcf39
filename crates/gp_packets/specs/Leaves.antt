-- What comes of a capture file whose packets are listed, and what a run over a source leaves, by its status.
use Rattle.std.specs.Prelude.{◌≡◌, ◌⊎◌, ℕ, ◌<◌, ◌≤◌, List, ◌∷◌, ◌++◌, length, Option, Some}
use Rattle.std.specs.Io.KnownBytes.{Appends, Consumes, IsAtEnd}
use Rattle.gp_base.specs.Outside.{Rose}
use Rattle.gp_base.specs.declared.identity.Key.{Key}
use Rattle.gp_pcap.specs.declared.packet.Packet.{Packet}
use Rattle.gp_pcap.specs.declared.packet.PcapReason.TheVariants.{Cut}
use Rattle.gp_pcap.specs.Capture.{IsFile, IsBad}
use Rattle.gp_lines.specs.declared.status.Status.{Status}
use Rattle.gp_lines.specs.declared.status.Status.TheVariants.{Done, BadPcap, TooLong, ReadFault, WriteFault, NoMemory}
use Rattle.gp_lines.specs.Leaves.{IsFront}
use Rattle.gp_listing.specs.Packets.{packets_text}

-- the greatest number of packets
abbrev pub packet_limit : ℕ
packet_limit = 1000000

-- behind a file of as many packets stands an octet
abbrev pub IsBeyond : List ℕ → List Packet → Type 0
IsBeyond octets packets =
    (file : List ℕ) × (octet : ℕ) × (rest : List ℕ) × (octets ≡ file ++ octet ∷ rest) × IsFile file packets × (length packets ≡ packet_limit)

-- What comes of octets, by the status: which packets are listed. They are a whole file of these packets; or behind these packets they
-- are bad; or behind as many as there may be another one begins.
abbrev pub Comes : List ℕ → List Packet → Status → Type 0
Comes octets packets Done = IsFile octets packets × (length packets ≤ packet_limit)
Comes octets packets (BadPcap place reason) = IsBad octets packets (place, reason) × (length packets < packet_limit)
Comes octets packets TooLong = IsBeyond octets packets
Comes octets packets _ = ⊥

-- So far all is well: the octets are a whole file, or one that is cut at their end.
abbrev pub IsOpen : List ℕ → List Packet → Type 0
IsOpen octets packets = Comes octets packets Done ⊎ Comes octets packets (BadPcap (length octets) Cut)

-- the octets that were read decide what comes of them, whatever comes behind them or since none is left
abbrev pub Decides : Option (List ℕ) → List ℕ → List Packet → Status → Type 0
Decides left read packets status = ((rest : List ℕ) → Comes (read ++ rest) packets status) ⊎ (IsAtEnd left × Comes read packets status)

-- a front of the text of packets that stand whole in what was read
abbrev pub IsPart : Option Key → List ℕ → List ℕ → Type 0
IsPart key read written =
    (packets : List Packet) × (front : List ℕ) × (rest : List ℕ) × (read ≡ front ++ rest) × IsOpen front packets × IsFront written (packets_text key 0 packets)

-- the text of these packets is written
abbrev pub IsListed : Option Key → List ℕ → (List Packet → Type 0) → Type 0
IsListed key written Asked = (packets : List Packet) × Asked packets × (written ≡ packets_text key 0 packets)

-- What was written, by the status: of what was read, and of what is left.
abbrev pub Fits : Option Key → Status → Option (List ℕ) → List ℕ → List ℕ → Type 0
Fits key Done left read written = IsAtEnd left × IsListed key written (λ packets. Comes read packets Done)
Fits key (BadPcap place reason) left read written = IsListed key written (λ packets. Decides left read packets (BadPcap place reason))
Fits key TooLong left read written = IsListed key written (λ packets. Decides left read packets TooLong)
Fits key ReadFault left read written = IsListed key written (λ packets. IsOpen read packets)
Fits key WriteFault left read written = IsPart key read written
Fits key NoMemory left read written = IsPart key read written
Fits key _ left read written = ⊥

-- Some octets were read and some written, and they fit the status.
pub record Leaves (key : Option Key) (status : Status) (left_before left_after written_before written_after : Option (List ℕ)) : Type 0 where
  pub read : List ℕ
  pub written : List ℕ
  pub consumed : Consumes left_before left_after read
  pub appended : Appends written_before written_after written
  pub fits : Fits key status left_after read written

-- Where no count of faults rises, what comes of the whole input comes, or memory wasn't found.
abbrev pub Completes : Status → Option (List ℕ) → ℕ → ℕ → ℕ → ℕ → Type 0
Completes status left source_before source_after out_before out_after =
    (input : List ℕ) (packets : List Packet) (told : Status) → left ≡ Some input → Comes input packets told
    → (Rose source_before source_after → ⊥) → (Rose out_before out_after → ⊥) → (status ≡ told) ⊎ (status ≡ NoMemory)
