-- How far a capture file has been read.
use Rattle.std.specs.Prelude.{◌≡◌, ℕ, ◌+◌, ◌<◌, ◌≤◌, Bool, true, List, [], ◌∷◌, ◌++◌, length, take, Option, Some, None, Result, Ok, Err, MatchResult}
use Rattle.gp_pcap.specs.declared.packet.Packet.{Packet}
use Rattle.gp_pcap.specs.declared.packet.PcapReason.{PcapReason}
use Rattle.gp_pcap.specs.declared.pcap.Phase.{Phase}
use Rattle.gp_pcap.specs.declared.pcap.Phase.TheVariants.{Header, Head, Body, Refused}
use Rattle.gp_pcap.specs.Capture.{is_most_first, is_magic, is_version, Holds, IsFile, IsBad, MayGoOn, IsRefused, included_of, original_of, kept_size}

-- what a reader keeps: how many octets it was fed, in which part it is, the order and link type of the file, the octets of the
-- header or head that has begun, how many octets of the packet are to come, how many are wanted, and those that came
pub record Progress : Type 0 where
  pub fed : ℕ
  pub phase : Phase
  pub most : Bool
  pub checked : Bool
  pub head : List ℕ
  pub left : ℕ
  pub size : ℕ
  pub frame : List ℕ

-- a header that has begun, and is good so far
pub record IsBegun (most : Bool) (head : List ℕ) : Type 0 where
  pub part : length head < 24
  pub order : 4 ≤ length head → most ≡ is_most_first head
  pub magic : 4 ≤ length head → is_magic head ≡ true
  pub version : 6 ≤ length head → is_version head ≡ true

-- what the octets fed and the packets given are, in each part
abbrev pub StandsIn : Phase → List ℕ → List Packet → Progress → Type 0
StandsIn Header fed given now = (fed ≡ now.head) × (given ≡ [])
StandsIn Head fed given now = Holds now.most now.checked fed given now.head
StandsIn Body fed given now =
    (body : List ℕ) × Holds now.most now.checked fed given (now.head ++ body) × (length body + now.left ≡ included_of now.most now.head) × (now.frame ≡ take now.size body)
StandsIn (Refused place reason) fed given now = IsRefused fed given (place, reason)

-- what is kept in each part, whatever was fed
abbrev pub IsKeptIn : Phase → Progress → Type 0
IsKeptIn Header now = IsBegun now.most now.head
IsKeptIn Head now = (length now.head < 16) × (length now.head ≤ now.fed) × (12 ≤ length now.head → included_of now.most now.head ≤ 65535)
IsKeptIn Body now =
    (length now.head ≡ 16) × (included_of now.most now.head ≤ 65535) × (0 < now.left) × (now.size ≡ kept_size now.checked (included_of now.most now.head) (original_of now.most now.head))
IsKeptIn (Refused place reason) now = Unit {0}

abbrev pub IsKept : Progress → Type 0
IsKept now = IsKeptIn now.phase now

-- The reader stands where it does after these octets, of which it gave these packets.
pub record Stands (fed : List ℕ) (given : List Packet) (now : Progress) : Type 0 where
  pub count : length fed ≡ now.fed
  pub part : StandsIn now.phase fed given now
  pub kept : IsKept now

-- the packets that an answer gives: one, or none
abbrev pub packets_in : Option Packet → List Packet
packets_in (Some packet) = packet ∷ []
packets_in None = []

abbrev pub given_by : {E : Type 0} → Result (Option Packet) E → List Packet
given_by (Ok ended) = packets_in ended
given_by (Err fault) = []

-- What is answered to the last of these octets: it ends a packet, and with it they are a whole file of one packet more; or it ends
-- none, and they may go on; or they are refused.
abbrev pub Answers : List ℕ → List Packet → Result (Option Packet) (ℕ × PcapReason) → Type 0
Answers fed given (Ok (Some packet)) = IsFile fed (given ++ packet ∷ [])
Answers fed given (Ok None) = MayGoOn fed given
Answers fed given (Err fault) = IsRefused fed given fault

-- An octet was fed: the reader stands behind it, and answers so.
abbrev pub Feeds : Progress → ℕ → Result (Option Packet) (ℕ × PcapReason) → Progress → Type 0
Feeds old octet result new =
    (fed : List ℕ) (given : List Packet) → Stands fed given old → Stands (fed ++ octet ∷ []) (given ++ given_by result) new × Answers (fed ++ octet ∷ []) given result

-- What is answered at the end: whether the octets are a whole file of the packets that were given.
abbrev pub Ends : Progress → Result (Unit {0}) (ℕ × PcapReason) → Type 0
Ends now result = (fed : List ℕ) (given : List Packet) → Stands fed given now → MatchResult result (λ _. IsFile fed given) (λ fault. IsBad fed given fault)

-- No other packets and no other refusal are those of the octets fed.
abbrev pub IsOnly : Progress → Result (Unit {0}) (ℕ × PcapReason) → Type 0
IsOnly now result =
    (fed : List ℕ) (given packets : List Packet) → Stands fed given now
    → (IsFile fed packets → (result ≡ Ok tt) × (packets ≡ given)) × ((fault : ℕ × PcapReason) → IsBad fed packets fault → (result ≡ Err fault) × (packets ≡ given))
