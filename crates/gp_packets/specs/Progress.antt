-- How far a capture file has been listed, and why it goes no further. No clause of a public call cites this file: nothing in it has
-- to be believed.
use Rattle.std.specs.Prelude.{◌≡◌, ℕ, ◌+◌, List, ◌++◌, length, take, Option, Result, Ok, Err}
use Rattle.std.specs.Io.KnownBytes.{Appends}
use Rattle.gp_base.specs.Outside.{one_more}
use Rattle.gp_base.specs.declared.identity.Key.{Key}
use Rattle.gp_pcap.specs.declared.packet.Packet.{Packet}
use Rattle.gp_pcap.specs.Reading.{Progress, Stands}
use Rattle.gp_lines.specs.declared.status.Status.{Status}
use Rattle.gp_lines.specs.declared.status.Status.TheVariants as ending
use Rattle.gp_lines.specs.Leaves.{IsFront}
use Rattle.gp_listing.specs.Packets.{packet_text, packets_text}
use Rattle.gp_packets.specs.declared.stop.Stop.{Stop}
use Rattle.gp_packets.specs.declared.stop.Stop.TheVariants.{TooLong, Bad, WriteFault, NoMemory}
use Rattle.gp_packets.specs.Leaves.{Comes, IsOpen}

-- a place in a file: the reader, how many packets were listed, the text that waits, and what is written
pub record Place : Type 0 where
  pub reader : Progress
  pub count : ℕ
  pub waiting : List ℕ
  pub written : Option (List ℕ)

abbrev pub place : Progress → ℕ → List ℕ → Option (List ℕ) → Place
place reader count waiting written = record { reader = reader; count = count; waiting = waiting; written = written }

-- These octets were fed, and the text of their packets is written or waits; before the first of them this was written.
pub record IsAt (key : Option Key) (before : Option (List ℕ)) (fed : List ℕ) (now : Place) : Type 0 where
  pub given : List Packet
  pub told : List ℕ
  pub stands : Stands fed given now.reader
  pub is_open : IsOpen fed given
  pub counted : length given ≡ now.count
  pub appended : Appends before now.written told
  pub texts : packets_text key 0 given ≡ told ++ now.waiting

-- the octets decide what comes of them, and the text of the packets, which stand whole in them, is written or waits
pub record IsDecided (key : Option Key) (before : Option (List ℕ)) (octets : List ℕ) (status : Status) (now : Place) : Type 0 where
  pub packets : List Packet
  pub told : List ℕ
  pub front : List ℕ
  pub rest : List ℕ
  pub parts : octets ≡ front ++ rest
  pub is_open : IsOpen front packets
  pub comes : (rest : List ℕ) → Comes (octets ++ rest) packets status
  pub appended : Appends before now.written told
  pub texts : packets_text key 0 packets ≡ told ++ now.waiting

-- a front of the text of packets that stand whole in the octets is written
pub record IsLost (key : Option Key) (before : Option (List ℕ)) (octets : List ℕ) (now : Place) : Type 0 where
  pub packets : List Packet
  pub told : List ℕ
  pub front : List ℕ
  pub rest : List ℕ
  pub parts : octets ≡ front ++ rest
  pub is_open : IsOpen front packets
  pub appended : Appends before now.written told
  pub is_front : IsFront told (packets_text key 0 packets)

-- why it goes no further than these octets
abbrev pub IsStopped : Option Key → Option (List ℕ) → List ℕ → Stop → Place → Type 0
IsStopped key before octets TooLong now = IsDecided key before octets ending.TooLong now
IsStopped key before octets (Bad place reason) now = IsDecided key before octets (ending.BadPcap place reason) now
IsStopped key before octets WriteFault now = IsLost key before octets now
IsStopped key before octets NoMemory now = IsLost key before octets now

-- octets were fed: from each place to which it came, it came to this one, or stopped
abbrev pub Goes : Option Key → Place → List ℕ → Result (Unit {0}) Stop → Place → Type 0
Goes key old octets (Ok _) new = (before : Option (List ℕ)) (fed : List ℕ) → IsAt key before fed old → IsAt key before (fed ++ octets) new
Goes key old octets (Err stop) new = (before : Option (List ℕ)) (fed : List ℕ) → IsAt key before fed old → IsStopped key before (fed ++ octets) stop new

-- a packet with this number was listed: its line is added to the text, a front of which may be written
abbrev pub Lists : Option Key → Packet → Place → Result (Unit {0}) Stop → Place → Type 0
Lists key packet old (Ok _) new =
    (new.count ≡ old.count + 1) × ((told : List ℕ) × Appends old.written new.written told × (old.waiting ++ packet_text key old.count packet ≡ told ++ new.waiting))
Lists key packet old (Err WriteFault) new = (count : ℕ) × Appends old.written new.written (take count (old.waiting ++ packet_text key old.count packet))
Lists key packet old (Err NoMemory) new = new.written ≡ old.written
Lists key packet old (Err stop) new = ⊥

-- the output's count rose by one where a write failed, and else stands
abbrev pub OutCounts : Result (Unit {0}) Stop → ℕ → ℕ → Type 0
OutCounts (Err WriteFault) before after = after ≡ one_more before
OutCounts _ before after = after ≡ before
