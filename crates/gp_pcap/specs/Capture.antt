-- Capture files of the pcap kind, as libpcap writes them (pcap-savefile(5)): a header of 24 octets, then packets, each a head of
-- 16 octets and what was captured. Frames are those of IEEE 802.15.4 (7.2), with their FCS or without it.
use Rattle.std.specs.Prelude.{◌≡◌, ◌⊎◌, ℕ, ◌+◌, ◌-◌, ◌%◌, ◌<◌, ◌≤◌, ◌==◌, ◌||◌, nat_le, nat_lt, min, not, Bool, true, false, List, [], ◌∷◌, ◌++◌, length, take, drop, slice_index, if◌then◌else◌, Option, Some, None}
use Rattle.std.specs.Int.{w16, w32, from_le_bytes}
use Rattle.gp_base.specs.Field.{octet_at, two_at, four_at}
use Rattle.gp_base.specs.Table.{first_of}
use Rattle.gp_pcap.specs.declared.packet.Packet.{Packet}
use Rattle.gp_pcap.specs.declared.packet.PcapReason.{PcapReason}
use Rattle.gp_pcap.specs.declared.packet.PcapReason.TheVariants.{Magic, Version, Link, Length, Cut}

-- the number in two octets, and in four, from a place on: most significant octet first, or last
abbrev pub two_of : Bool → List ℕ → ℕ → ℕ
two_of true octets at = from_le_bytes w16 (slice_index octets (at + 1) ∷ slice_index octets at ∷ [])
two_of false octets at = two_at octets at

abbrev pub four_of : Bool → List ℕ → ℕ → ℕ
four_of true octets at = from_le_bytes w32 (slice_index octets (at + 3) ∷ slice_index octets (at + 2) ∷ slice_index octets (at + 1) ∷ slice_index octets at ∷ [])
four_of false octets at = four_at octets at

-- the order of a file's numbers: most significant octet first where its first octet is A1
abbrev pub is_most_first : List ℕ → Bool
is_most_first octets = octet_at octets 0 == 0xA1

-- the magic number of a file whose fractions are microseconds, and of one whose fractions are nanoseconds
abbrev pub magic_of : List ℕ → ℕ
magic_of octets = four_of (is_most_first octets) octets 0

abbrev pub is_magic : List ℕ → Bool
is_magic octets = (magic_of octets == 0xA1B2C3D4) || (magic_of octets == 0xA1B23C4D)

-- the major version
abbrev pub is_version : List ℕ → Bool
is_version octets = two_of (is_most_first octets) octets 4 == 2

-- the link type: IEEE 802.15.4 with an FCS, or without one
abbrev pub link_of : List ℕ → ℕ
link_of octets = four_of (is_most_first octets) octets 20 % 65536

abbrev pub has_check : List ℕ → Bool
has_check octets = link_of octets == 195

abbrev pub is_link : List ℕ → Bool
is_link octets = has_check octets || (link_of octets == 230)

-- why octets don't begin with a header: the first of these conditions, with its place. The other fields are unread.
unfoldable pub header_lines : List ℕ → List (Bool × (ℕ × PcapReason))
header_lines octets =
    (nat_lt (length octets) 4, (length octets, Cut))
    ∷ (not (is_magic octets), (0, Magic))
    ∷ (nat_lt (length octets) 6, (length octets, Cut))
    ∷ (not (is_version octets), (4, Version))
    ∷ (nat_lt (length octets) 24, (length octets, Cut))
    ∷ (not (is_link octets), (20, Link))
    ∷ []

abbrev pub header_fault : List ℕ → Option (ℕ × PcapReason)
header_fault octets = first_of (header_lines octets)

-- a header, the order of its numbers, and whether frames have an FCS
pub record IsHeader (most checked : Bool) (octets : List ℕ) : Type 0 where
  pub size : length octets ≡ 24
  pub good : header_fault octets ≡ None
  pub order : most ≡ is_most_first octets
  pub check : checked ≡ has_check octets

-- how many octets a packet includes, and how many it had before it was cut
abbrev pub included_of : Bool → List ℕ → ℕ
included_of most packet = four_of most packet 8

abbrev pub original_of : Bool → List ℕ → ℕ
original_of most packet = four_of most packet 12

-- how many of the included octets are the frame's: all; of a frame with an FCS all but its last two, where they are included
abbrev pub frame_size : Bool → ℕ → ℕ → ℕ
frame_size false included original = included
frame_size true included original = if nat_le original included then included - 2 else min included (original - 2)

-- how many of them are kept: a frame is cut to 126 octets, which are one more than the longest frame has
abbrev pub kept_size : Bool → ℕ → ℕ → ℕ
kept_size checked included original = min 126 (frame_size checked included original)

-- a whole packet
pub record IsPacket (most checked : Bool) (octets : List ℕ) (packet : Packet) : Type 0 where
  pub short : included_of most octets ≤ 65535
  pub whole : length octets ≡ 16 + included_of most octets
  pub seconds : packet.seconds ≡ four_of most octets 0
  pub fraction : packet.fraction ≡ four_of most octets 4
  pub frame : packet.frame ≡ take (kept_size checked (included_of most octets) (original_of most octets)) (drop 16 octets)

-- whole packets, one behind the other
pub data ArePackets (most checked : Bool) : List ℕ → List Packet → Type 0 where
  none : ArePackets most checked [] []
  more : (octets rest : List ℕ) (packet : Packet) (packets : List Packet) → IsPacket most checked octets packet → ArePackets most checked rest packets → ArePackets most checked (octets ++ rest) (packet ∷ packets)

-- a header, whole packets, and what has begun behind them
pub record Holds (most checked : Bool) (octets : List ℕ) (packets : List Packet) (begun : List ℕ) : Type 0 where
  pub header : List ℕ
  pub whole : List ℕ
  pub is : octets ≡ header ++ whole ++ begun
  pub is_header : IsHeader most checked header
  pub are_packets : ArePackets most checked whole packets

-- why octets, which begin at this place, don't begin with a whole packet: the first of these conditions
unfoldable pub packet_lines : Bool → ℕ → List ℕ → List (Bool × (ℕ × PcapReason))
packet_lines most at octets =
    (nat_lt (length octets) 12, (at + length octets, Cut))
    ∷ (nat_lt 65535 (included_of most octets), (at + 8, Length))
    ∷ (nat_lt (length octets) (16 + included_of most octets), (at + length octets, Cut))
    ∷ []

abbrev pub packet_fault : Bool → ℕ → List ℕ → Option (ℕ × PcapReason)
packet_fault most at octets = first_of (packet_lines most at octets)

-- a whole file: a header and packets
abbrev pub IsFile : List ℕ → List Packet → Type 0
IsFile octets packets = (most : Bool) × (checked : Bool) × Holds most checked octets packets []

-- Octets that are no whole file, for a reason at a place: no header, or behind a header and these packets no whole packet.
abbrev pub IsBad : List ℕ → List Packet → ℕ × PcapReason → Type 0
IsBad octets packets fault =
    ((header_fault octets ≡ Some fault) × (packets ≡ []))
    ⊎ ((most : Bool) × (checked : Bool) × (begun : List ℕ) × (at : ℕ) × Holds most checked octets packets begun
    × (0 < length begun) × (length octets ≡ at + length begun) × (packet_fault most at begun ≡ Some fault))

-- Octets that may go on: a whole file of these packets, or one that is cut at its end.
abbrev pub MayGoOn : List ℕ → List Packet → Type 0
MayGoOn octets packets = IsFile octets packets ⊎ IsBad octets packets (length octets, Cut)

-- Whatever comes behind them, they are refused.
abbrev pub IsRefused : List ℕ → List Packet → ℕ × PcapReason → Type 0
IsRefused octets packets fault = (rest : List ℕ) → IsBad (octets ++ rest) packets fault
