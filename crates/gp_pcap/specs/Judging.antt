-- What one octet more makes of a header, of the head of a packet and of a reader. No clause of a public call cites this file: nothing in it has
-- to be believed.
use Rattle.std.specs.Prelude.{◌≡◌, ℕ, ◌<◌, ◌≤◌, Bool, List, [], ◌∷◌, ◌++◌, length, Option, Some, None, Result, Ok, Err}
use Rattle.gp_pcap.specs.declared.packet.Packet.{Packet}
use Rattle.gp_pcap.specs.declared.packet.PcapReason.{PcapReason}
use Rattle.gp_pcap.specs.declared.pcap.Phase.TheVariants.{Head, Refused}
use Rattle.gp_pcap.specs.declared.numbers.HeaderStep.{HeaderStep}
use Rattle.gp_pcap.specs.declared.numbers.HeaderStep.TheVariants as header
use Rattle.gp_pcap.specs.declared.numbers.HeadStep.{HeadStep}
use Rattle.gp_pcap.specs.declared.numbers.HeadStep.TheVariants as head
use Rattle.gp_pcap.specs.Capture.{IsHeader, header_fault, included_of, original_of, kept_size}
use Rattle.gp_pcap.specs.Reading.{IsBegun, Progress, Stands, given_by}

-- a header that has one octet more: it goes on, is whole, or is refused whatever comes behind it
abbrev pub IsJudged : List ℕ → HeaderStep → Type 0
IsJudged octets (header.On most) = IsBegun most octets
IsJudged octets (header.Whole most checked) = IsHeader most checked octets
IsJudged octets (header.Refused place reason) = (rest : List ℕ) → header_fault (octets ++ rest) ≡ Some (place, reason)

-- the head of a packet that has one octet more: it goes on, is whole and of no octet or of some, or names too many
abbrev pub IsHeadJudged : Bool → Bool → List ℕ → HeadStep → Type 0
IsHeadJudged most checked octets head.On = (length octets < 16) × (12 ≤ length octets → included_of most octets ≤ 65535)
IsHeadJudged most checked octets head.TooLong = (length octets ≡ 12) × (65535 < included_of most octets)
IsHeadJudged most checked octets head.Empty = (length octets ≡ 16) × (included_of most octets ≡ 0)
IsHeadJudged most checked octets (head.Includes count size) =
    (length octets ≡ 16) × (included_of most octets ≡ count) × (0 < count) × (count ≤ 65535) × (size ≡ kept_size checked (included_of most octets) (original_of most octets))

-- the reader stands behind an octet more
abbrev pub Moves : Progress → ℕ → Result (Option Packet) (ℕ × PcapReason) → Progress → Type 0
Moves old octet result new = (fed : List ℕ) (given : List Packet) → Stands fed given old → Stands (fed ++ octet ∷ []) (given ++ given_by result) new

-- the answer tells whether a packet has ended, and whether something is refused
abbrev pub IsTold : Result (Option Packet) (ℕ × PcapReason) → Progress → Type 0
IsTold (Ok (Some packet)) now = (now.phase ≡ Head) × (now.head ≡ [])
IsTold (Ok None) now = (place : ℕ) (reason : PcapReason) → now.phase ≡ Refused place reason → ⊥
IsTold (Err fault) now = now.phase ≡ Refused fault.0 fault.1
