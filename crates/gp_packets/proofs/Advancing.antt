-- How a listing goes on from place to place in a file, and what it leaves where it stops.
use Rattle.std.proofs.Common.{◌≡◌, inl, inr, ℕ, ◌+◌, ◌<◌, ◌≤◌, List, [], ◌∷◌, ◌++◌, length, take, Option, Some, None, Result, Ok, Err, refl, sym, ap, subst, ◌∙◌, arith, append_assoc, length-append}
use Rattle.std.specs.Prelude.{IsTrue, true, false}
use Rattle.std.specs.Io.KnownBytes.{Appends}
use Rattle.std.proofs.lemmas.List.{append-nil}
use Rattle.gp_base.specs.declared.identity.Key.{Key}
use Rattle.gp_pcap.specs.declared.packet.Packet.{Packet}
use Rattle.gp_pcap.specs.declared.packet.PcapReason.{PcapReason}
use Rattle.gp_pcap.specs.Capture.{IsFile, MayGoOn, header_lines}
use Rattle.gp_pcap.specs.Reading.{Progress, Stands, Feeds}
use Rattle.gp_pcap.proofs.Faults.{split}
use Rattle.gp_pcap.proofs.Unique.{may_go_on_size}
use Rattle.gp_lines.specs.declared.status.Status.{Status}
use Rattle.gp_lines.specs.declared.status.Status.TheVariants as ending
use Rattle.gp_lines.specs.Leaves.{IsFront}
use Rattle.gp_lines.proofs.Streams.{Appends-then, Appends-nothing, front_is}
use Rattle.gp_listing.specs.Packets.{packet_text, packets_text}
use Rattle.gp_packets.specs.declared.stop.Stop.{Stop}
use Rattle.gp_packets.specs.declared.stop.Stop.TheVariants as stop
use Rattle.gp_packets.specs.Leaves.{Comes, IsOpen}
use Rattle.gp_packets.specs.Progress.{Place, place, IsAt, IsDecided, IsLost, IsStopped, Goes, Lists}

-- packets, and one behind them
pub packets_text-push : (key : Option Key) (n : ℕ) (packets : List Packet) (packet : Packet) → packets_text key n (packets ++ packet ∷ []) ≡ packets_text key n packets ++ packet_text key (n + length packets) packet
packets_text-push key n [] packet = append-nil (packet_text key n packet) ∙ ap (λ (m : ℕ). packet_text key m packet) (omega arith)
packets_text-push key n (first ∷ packets) packet =
    ap (λ (xs : List ℕ). packet_text key n first ++ xs) (packets_text-push key (n + 1) packets packet ∙ ap (λ (m : ℕ). packets_text key (n + 1) packets ++ packet_text key m packet) (omega arith))
    ∙ sym (append_assoc (packet_text key n first) (packets_text key (n + 1) packets) (packet_text key (n + length (first ∷ packets)) packet))

-- fewer packets than there may be
pub few_of : (count : ℕ) → (1000000 ≤ count → IsTrue false) → count < 1000000
few_of count full = elim (split count 1000000) as (λ _. count < 1000000) [ inl few ↦ few | inr many ↦ absurd (let both : false ≡ true = full many in cc) ]

-- what may go on behind few packets is open
open_of : (octets : List ℕ) (packets : List Packet) → MayGoOn octets packets → length packets < 1000000 → IsOpen octets packets
open_of octets packets (inl file) few = inl (file, omega (arith, few))
open_of octets packets (inr bad) few = inr (bad, few)

pub open_few : (octets : List ℕ) (packets : List Packet) → IsOpen octets packets → length packets ≤ 1000000
open_few octets packets (inl done) = done.1
open_few octets packets (inr cut) = omega (arith, cut.1)

may_go_on : (octets : List ℕ) (packets : List Packet) → IsOpen octets packets → MayGoOn octets packets
may_go_on octets packets (inl done) = inl done.0
may_go_on octets packets (inr cut) = inr cut.0

-- a place in a file is never far from its beginning
pub fed_size : (key : Option Key) (before : Option (List ℕ)) (fed : List ℕ) (now : Place) → IsAt key before fed now → (now.reader.fed ≤ 65551065575) × (now.count ≤ 1000000)
fed_size key before fed now h =
    let few = open_few fed h.given h.is_open in
    (omega (arith, may_go_on_size fed h.given (may_go_on fed h.given h.is_open), h.stands.count, few), omega (arith, few, h.counted))

pub start : (key : Option Key) (before : Option (List ℕ)) (reader : Progress) (count : ℕ) (waiting : List ℕ) → Stands [] [] reader → count ≡ 0 → waiting ≡ [] → IsAt key before [] (place reader count waiting before)
unfolding header_lines
start key before reader count waiting stands zero empty = record {
  given = [];
  told = [];
  stands = stands;
  is_open = inr (inl (refl, refl), omega arith);
  counted = sym zero;
  appended = Appends-nothing before;
  texts = sym empty;
}

-- an octet that ends no packet
pub fed_nothing : (key : Option Key) (old : Place) (octet : ℕ) (new : Progress) → old.count < 1000000 → Feeds old.reader octet (Ok None) new
    → (before : Option (List ℕ)) (fed : List ℕ) → IsAt key before fed old → IsAt key before (fed ++ octet ∷ []) (record old { reader = new })
fed_nothing key old octet new few feeds before fed h =
    let f = feeds fed h.given h.stands in
    record {
      given = h.given;
      told = h.told;
      stands = subst (λ (g : List Packet). Stands (fed ++ octet ∷ []) g new) (append-nil h.given) f.0;
      is_open = open_of (fed ++ octet ∷ []) h.given f.1 (omega (arith, h.counted, few));
      counted = h.counted;
      appended = h.appended;
      texts = h.texts;
    }

-- one that ends a packet, which is listed
line_behind : (key : Option Key) (given : List Packet) (packet : Packet) (told waiting : List ℕ) (count : ℕ) → packets_text key 0 given ≡ told ++ waiting → length given ≡ count
    → packets_text key 0 (given ++ packet ∷ []) ≡ told ++ (waiting ++ packet_text key count packet)
line_behind key given packet told waiting count texts counted =
    packets_text-push key 0 given packet ∙ ap (λ (m : ℕ). packets_text key 0 given ++ packet_text key m packet) (omega (arith, counted))
    ∙ ap (λ (xs : List ℕ). xs ++ packet_text key count packet) texts ∙ append_assoc told waiting (packet_text key count packet)

pub fed_packet : (key : Option Key) (old : Place) (octet : ℕ) (packet : Packet) (mid : Progress) (new : Place) → old.count < 1000000 → Feeds old.reader octet (Ok (Some packet)) mid → Lists key packet (record old { reader = mid }) (Ok tt) new
    → new.reader ≡ mid → (before : Option (List ℕ)) (fed : List ℕ) → IsAt key before fed old → IsAt key before (fed ++ octet ∷ []) new
fed_packet key old octet packet mid new few feeds lists same before fed h =
    let f = feeds fed h.given h.stands in
    let size = length-append h.given (packet ∷ []) in
    let line = line_behind key h.given packet h.told old.waiting old.count h.texts h.counted in
    record {
      given = h.given ++ packet ∷ [];
      told = h.told ++ lists.1.0;
      stands = subst (λ (r : Progress). Stands (fed ++ octet ∷ []) (h.given ++ packet ∷ []) r) (sym same) f.0;
      is_open = inl (f.1, omega (arith, size, h.counted, few));
      counted = omega (arith, size, h.counted, lists.0);
      appended = Appends-then before old.written new.written h.told lists.1.0 h.appended lists.1.1;
      texts = line ∙ ap (λ (xs : List ℕ). h.told ++ xs) lists.1.2 ∙ sym (append_assoc h.told lists.1.0 new.waiting);
    }

-- or isn't listed whole
pub fed_lost : (key : Option Key) (old : Place) (octet : ℕ) (packet : Packet) (mid : Progress) (new : Place) (stop : Stop) → old.count < 1000000 → Feeds old.reader octet (Ok (Some packet)) mid → Lists key packet (record old { reader = mid }) (Err stop) new
    → (before : Option (List ℕ)) (fed : List ℕ) → IsAt key before fed old → IsStopped key before (fed ++ octet ∷ []) stop new
fed_lost key old octet packet mid new stop.TooLong few feeds lists before fed h = absurd lists
fed_lost key old octet packet mid new (stop.Bad place reason) few feeds lists before fed h = absurd lists
fed_lost key old octet packet mid new stop.WriteFault few feeds lists before fed h =
    let f = feeds fed h.given h.stands in
    let size = length-append h.given (packet ∷ []) in
    let line = line_behind key h.given packet h.told old.waiting old.count h.texts h.counted in
    let all : List ℕ = old.waiting ++ packet_text key old.count packet in
    record {
      packets = h.given ++ packet ∷ [];
      told = h.told ++ take lists.0 all;
      front = fed ++ octet ∷ [];
      rest = [];
      parts = sym (append-nil (fed ++ octet ∷ []));
      is_open = inl (f.1, omega (arith, size, h.counted, few));
      appended = Appends-then before old.written new.written h.told (take lists.0 all) h.appended lists.1;
      is_front = subst (λ (xs : List ℕ). IsFront (h.told ++ take lists.0 all) xs) (append_assoc h.told old.waiting (packet_text key old.count packet) ∙ sym line) (front_is (h.told ++ old.waiting) h.told old.waiting (packet_text key old.count packet) lists.0 refl);
    }
fed_lost key old octet packet mid new stop.NoMemory few feeds lists before fed h = record {
  packets = h.given;
  told = h.told;
  front = fed;
  rest = octet ∷ [];
  parts = refl;
  is_open = h.is_open;
  appended = subst (λ (w : Option (List ℕ)). Appends before w h.told) (sym lists) h.appended;
  is_front = (old.waiting, h.texts);
}

pub fed_listed : (key : Option Key) (old : Place) (octet : ℕ) (packet : Packet) (mid : Progress) (new : Place) (result : Result (Unit {0}) Stop) → old.count < 1000000 → Feeds old.reader octet (Ok (Some packet)) mid
    → Lists key packet (record old { reader = mid }) result new → new.reader ≡ mid → Goes key old (octet ∷ []) result new
fed_listed key old octet packet mid new (Ok done) few feeds lists same = fed_packet key old octet packet mid new few feeds lists same
fed_listed key old octet packet mid new (Err why) few feeds lists same = fed_lost key old octet packet mid new why few feeds lists

-- one that is refused
pub fed_refused : (key : Option Key) (old : Place) (octet place : ℕ) (reason : PcapReason) (new : Progress) → old.count < 1000000 → Feeds old.reader octet (Err (place, reason)) new
    → (before : Option (List ℕ)) (fed : List ℕ) → IsAt key before fed old → IsStopped key before (fed ++ octet ∷ []) (stop.Bad place reason) (record old { reader = new })
fed_refused key old octet place reason new few feeds before fed h =
    let f = feeds fed h.given h.stands in
    record {
      packets = h.given;
      told = h.told;
      front = fed;
      rest = octet ∷ [];
      parts = refl;
      is_open = h.is_open;
      comes = λ rest. (f.1 rest, omega (arith, h.counted, few));
      appended = h.appended;
      texts = h.texts;
    }

-- one behind as many packets as there may be
pub fed_beyond : (key : Option Key) (old : Place) (octet : ℕ) → 1000000 ≤ old.count → (before : Option (List ℕ)) (fed : List ℕ) → IsAt key before fed old → IsStopped key before (fed ++ octet ∷ []) stop.TooLong old
fed_beyond key old octet many before fed h = record {
  packets = h.given;
  told = h.told;
  front = fed;
  rest = octet ∷ [];
  parts = refl;
  is_open = h.is_open;
  comes = λ rest. (fed, octet, rest, append_assoc fed (octet ∷ []) rest, is_file h.is_open, omega (arith, open_few fed h.given h.is_open, h.counted, many));
  appended = h.appended;
  texts = h.texts;
}
  where
    is_file : IsOpen fed h.given → IsFile fed h.given
    is_file (inl done) = done.0
    is_file (inr cut) = absurd (omega (arith, cut.1, h.counted, many))

decided_more : (key : Option Key) (before : Option (List ℕ)) (octets more : List ℕ) (status : Status) (now : Place) → IsDecided key before octets status now → IsDecided key before (octets ++ more) status now
decided_more key before octets more status now h = record {
  packets = h.packets;
  told = h.told;
  front = h.front;
  rest = h.rest ++ more;
  parts = ap (λ (xs : List ℕ). xs ++ more) h.parts ∙ append_assoc h.front h.rest more;
  is_open = h.is_open;
  comes = λ rest. subst (λ (l : List ℕ). Comes l h.packets status) (sym (append_assoc octets more rest)) (h.comes (more ++ rest));
  appended = h.appended;
  texts = h.texts;
}

lost_more : (key : Option Key) (before : Option (List ℕ)) (octets more : List ℕ) (now : Place) → IsLost key before octets now → IsLost key before (octets ++ more) now
lost_more key before octets more now h = record {
  packets = h.packets;
  told = h.told;
  front = h.front;
  rest = h.rest ++ more;
  parts = ap (λ (xs : List ℕ). xs ++ more) h.parts ∙ append_assoc h.front h.rest more;
  is_open = h.is_open;
  appended = h.appended;
  is_front = h.is_front;
}

-- what stops it stops it with more octets behind
pub stopped_more : (key : Option Key) (before : Option (List ℕ)) (octets more : List ℕ) (stop : Stop) (now : Place) → IsStopped key before octets stop now → IsStopped key before (octets ++ more) stop now
stopped_more key before octets more stop.TooLong now h = decided_more key before octets more ending.TooLong now h
stopped_more key before octets more (stop.Bad place reason) now h = decided_more key before octets more (ending.BadPcap place reason) now h
stopped_more key before octets more stop.WriteFault now h = lost_more key before octets more now h
stopped_more key before octets more stop.NoMemory now h = lost_more key before octets more now h

-- a piece was taken so far
abbrev pub Went : Option Key → Place → List ℕ → List ℕ → Place → Type 0
Went key old piece rest now = (front : List ℕ) × (piece ≡ front ++ rest) × Goes key old front (Ok tt) now

pub went_start : (key : Option Key) (old : Place) (piece : List ℕ) → Went key old piece piece old
went_start key old piece = ([], refl, λ before fed h. subst (λ (l : List ℕ). IsAt key before l old) (sym (append-nil fed)) h)

pub went_more : (key : Option Key) (old mid new : Place) (piece all rest : List ℕ) (octet : ℕ) → Went key old piece all mid → all ≡ octet ∷ rest → Goes key mid (octet ∷ []) (Ok tt) new → Went key old piece rest new
went_more key old mid new piece all rest octet w e goes = (
  w.0 ++ octet ∷ [],
  w.1 ∙ ap (λ (l : List ℕ). w.0 ++ l) e ∙ sym (append_assoc w.0 (octet ∷ []) rest),
  λ before fed h. subst (λ (l : List ℕ). IsAt key before l new) (append_assoc fed w.0 (octet ∷ [])) (goes before (fed ++ w.0) (w.2 before fed h)),
)

pub went_all : (key : Option Key) (old new : Place) (piece : List ℕ) → Went key old piece [] new → Goes key old piece (Ok tt) new
went_all key old new piece w = λ before fed h. subst (λ (l : List ℕ). IsAt key before (fed ++ l) new) (sym (w.1 ∙ append-nil w.0)) (w.2 before fed h)

pub went_stop : (key : Option Key) (old mid new : Place) (piece all rest : List ℕ) (octet : ℕ) (stop : Stop) → Went key old piece all mid → all ≡ octet ∷ rest → Goes key mid (octet ∷ []) (Err stop) new → Goes key old piece (Err stop) new
went_stop key old mid new piece all rest octet stop w e goes = λ before fed h.
    subst (λ (l : List ℕ). IsStopped key before l stop new)
    (append_assoc (fed ++ w.0) (octet ∷ []) rest ∙ append_assoc fed w.0 (octet ∷ rest) ∙ ap (λ (l : List ℕ). fed ++ l) (sym (w.1 ∙ ap (λ (l : List ℕ). w.0 ++ l) e)))
    (stopped_more key before ((fed ++ w.0) ++ octet ∷ []) rest stop new (goes before (fed ++ w.0) (w.2 before fed h)))
