-- What an octet makes of what was read.
use Rattle.std.proofs.Common.{◌≡◌, inl, inr, ℕ, ◌+◌, ◌<◌, List, [], ◌∷◌, ◌++◌, length, Bool, Option, Some, None, Result, Ok, Err, refl, sym, ◌∙◌, ap, subst, arith, append-nil, append_assoc, length-append, take, drop, ◌-◌, ◌≤◌}
use Rattle.std.proofs.Math.Seq.{drop-append_seam, take-nil}
use Rattle.gp_pcap.specs.declared.packet.Packet.{Packet}
use Rattle.gp_pcap.specs.declared.packet.PcapReason.{PcapReason}
use Rattle.gp_pcap.specs.declared.packet.PcapReason.TheVariants.{Length, Cut}
use Rattle.gp_pcap.specs.declared.pcap.Phase.{Phase}
use Rattle.gp_pcap.specs.declared.pcap.Phase.TheVariants.{Header, Head, Body, Refused}
use Rattle.gp_pcap.specs.Capture.{IsHeader, ArePackets, IsPacket, Holds, IsBad, MayGoOn, IsRefused, header_fault, packet_fault, four_of, included_of, original_of, kept_size}
use Rattle.gp_pcap.specs.Capture.ArePackets.{none, more}
use Rattle.gp_pcap.specs.Reading.{Progress, Stands, StandsIn, IsKeptIn, Answers, Feeds, given_by}
use Rattle.gp_pcap.specs.Judging.{Moves, IsTold}
use Rattle.gp_pcap.proofs.Faults.{begun_fault, cut_fault, long_refused, four_of-append}

-- packets, and one behind them
ArePackets-push : (most checked : Bool) (octets : List ℕ) (packets : List Packet) (last : List ℕ) (packet : Packet) → ArePackets most checked octets packets → IsPacket most checked last packet → ArePackets most checked (octets ++ last) (packets ++ packet ∷ [])
ArePackets-push most checked _ _ last packet none h = subst (λ l. ArePackets most checked l (packet ∷ [])) (append-nil last) (more last [] packet [] h none)
ArePackets-push most checked _ _ last packet (more octets rest first packets p ps) h =
    subst (λ l. ArePackets most checked l (first ∷ packets ++ packet ∷ [])) (sym (append_assoc octets rest last))
    (more octets (rest ++ last) first (packets ++ packet ∷ []) p (ArePackets-push most checked rest packets last packet ps h))

-- what stands where the part is known
pub stands-part : (fed : List ℕ) (given : List Packet) (now : Progress) (phase : Phase) → now.phase ≡ phase → Stands fed given now → StandsIn phase fed given now
stands-part fed given now phase e h = subst (λ (p : Phase). StandsIn p fed given now) e h.part

pub kept-part : (now : Progress) (phase : Phase) → now.phase ≡ phase → IsKeptIn now.phase now → IsKeptIn phase now
kept-part now phase e h = subst (λ (p : Phase). IsKeptIn p now) e h

pub counted : (fed : List ℕ) (n octet : ℕ) → length fed ≡ n → length (fed ++ octet ∷ []) ≡ n + 1
counted fed n octet h = omega (arith, length-append fed (octet ∷ []))

-- a header is whole
pub header-whole : (most checked : Bool) (fed : List ℕ) (given : List Packet) (octet : ℕ) (old pushed head : List ℕ) → fed ≡ old → given ≡ [] → pushed ≡ old ++ octet ∷ [] → head ≡ [] → IsHeader most checked pushed
    → Holds most checked (fed ++ octet ∷ []) (given ++ []) head
header-whole most checked fed given octet old pushed head f g p e h = record {
  header = pushed;
  whole = [];
  is = ap (λ (l : List ℕ). l ++ octet ∷ []) f ∙ sym p ∙ sym (append-nil pushed) ∙ sym (append-nil (pushed ++ [])) ∙ ap (λ (l : List ℕ). (pushed ++ []) ++ l) (sym e);
  is_header = h;
  are_packets = subst (λ (l : List Packet). ArePackets most checked [] l) (sym (ap (λ (l : List Packet). l ++ []) g)) none;
}

-- a header is refused
pub header-refused : (fed : List ℕ) (given : List Packet) (octet : ℕ) (old pushed : List ℕ) (place : ℕ) (reason : PcapReason) → fed ≡ old → given ≡ [] → pushed ≡ old ++ octet ∷ []
    → ((rest : List ℕ) → header_fault (pushed ++ rest) ≡ Some (place, reason)) → IsRefused (fed ++ octet ∷ []) (given ++ []) (place, reason)
header-refused fed given octet old pushed place reason f g p h = λ rest.
    let same : pushed ≡ fed ++ octet ∷ [] = p ∙ ap (λ (l : List ℕ). l ++ octet ∷ []) (sym f) in
    inl (subst (λ (l : List ℕ). header_fault (l ++ rest) ≡ Some (place, reason)) same (h rest), append-nil given ∙ g)

-- what has begun goes on
pub holds-more : (most checked : Bool) (fed : List ℕ) (given : List Packet) (tail : List ℕ) (old new : List ℕ) → Holds most checked fed given old → new ≡ old ++ tail → Holds most checked (fed ++ tail) given new
holds-more most checked fed given tail old new w p = record {
  header = w.header;
  whole = w.whole;
  is = ap (λ (l : List ℕ). l ++ tail) w.is ∙ append_assoc (w.header ++ w.whole) old tail ∙ ap (λ (l : List ℕ). (w.header ++ w.whole) ++ l) (sym p);
  is_header = w.is_header;
  are_packets = w.are_packets;
}

-- what has begun is a whole packet
pub holds-packet : (most checked : Bool) (fed : List ℕ) (given : List Packet) (packet : Packet) (begun head : List ℕ) → Holds most checked fed given begun → IsPacket most checked begun packet → head ≡ [] → Holds most checked fed (given ++ packet ∷ []) head
holds-packet most checked fed given packet begun head w h e = record {
  header = w.header;
  whole = w.whole ++ begun;
  is = w.is ∙ append_assoc w.header w.whole begun ∙ sym (append-nil (w.header ++ (w.whole ++ begun))) ∙ ap (λ (l : List ℕ). (w.header ++ (w.whole ++ begun)) ++ l) (sym e);
  is_header = w.is_header;
  are_packets = ArePackets-push most checked w.whole given begun packet w.are_packets h;
}

-- a head and as many octets as it names
pub is_packet : (most checked : Bool) (head body : List ℕ) (packet : Packet) (size : ℕ) → length head ≡ 16 → included_of most head ≤ 65535 → length body ≡ included_of most head → size ≡ kept_size checked (included_of most head) (original_of most head)
    → packet.seconds ≡ four_of most head 0 → packet.fraction ≡ four_of most head 4 → packet.frame ≡ take size body → IsPacket most checked (head ++ body) packet
is_packet most checked head body packet size n short m k s f frame =
    let all = length-append head body in
    let included = four_of-append most head body 8 (omega arith) in
    let original = four_of-append most head body 12 (omega arith) in
    let left : drop 16 (head ++ body) ≡ body = ap (λ k. drop k (head ++ body)) (sym n) ∙ drop-append_seam head body in
    record {
      short = omega (arith, included);
      whole = omega (arith, included, all);
      seconds = s ∙ sym (four_of-append most head body 0 (omega arith));
      fraction = f ∙ sym (four_of-append most head body 4 (omega arith));
      frame = frame ∙ ap (λ k. take k body) k ∙ ap (λ i. take (kept_size checked i (four_of most head 12)) body) (sym included) ∙ ap (λ o. take (kept_size checked (four_of most (head ++ body) 8) o) body) (sym original) ∙ ap (λ l. take (kept_size checked (four_of most (head ++ body) 8) (four_of most (head ++ body) 12)) l) (sym left);
    }

pub is_empty_packet : (most checked : Bool) (head : List ℕ) (packet : Packet) → length head ≡ 16 → included_of most head ≡ 0 → packet.seconds ≡ four_of most head 0 → packet.fraction ≡ four_of most head 4 → packet.frame ≡ []
    → IsPacket most checked head packet
is_empty_packet most checked head packet n e s f frame =
    subst (λ l. IsPacket most checked l packet) (append-nil head)
    (is_packet most checked head [] packet (kept_size checked (included_of most head) (original_of most head)) n (omega arith) (sym e) refl s f (frame ∙ sym (take-nil (kept_size checked (four_of most head 8) (four_of most head 12)))))

-- a packet names too many
pub head-refused : (most checked : Bool) (fed : List ℕ) (given : List Packet) (octet n : ℕ) (old pushed : List ℕ) → Holds most checked fed given old → pushed ≡ old ++ octet ∷ [] → length pushed ≡ 12 → 65535 < included_of most pushed → length fed ≡ n
    → IsRefused (fed ++ octet ∷ []) (given ++ []) (n + 1 - 4, Length)
head-refused most checked fed given octet n old pushed w p l long count = λ rest.
    let begun = holds-more most checked fed given (octet ∷ []) old pushed w p in
    let size : length (fed ++ octet ∷ []) ≡ length (begun.header ++ begun.whole) + length pushed = ap length begun.is ∙ length-append (begun.header ++ begun.whole) pushed in
    let first = length-append fed (octet ∷ []) in
    let all = length-append (fed ++ octet ∷ []) rest in
    let tail = length-append pushed rest in
    let at : n + 1 - 4 ≡ length (begun.header ++ begun.whole) + 8 = omega (arith, size, first) in
    inr (
      most,
      checked,
      pushed ++ rest,
      length (begun.header ++ begun.whole),
      subst (λ (g : List Packet). Holds most checked ((fed ++ octet ∷ []) ++ rest) g (pushed ++ rest)) (sym (append-nil given)) (holds-more most checked (fed ++ octet ∷ []) given rest pushed (pushed ++ rest) begun refl),
      omega (arith, tail),
      omega (arith, all, tail, size),
      subst (λ (place : ℕ). packet_fault most (length (begun.header ++ begun.whole)) (pushed ++ rest) ≡ Some (place, Length)) (sym at) (long_refused most (length (begun.header ++ begun.whole)) pushed l long rest),
    )

-- what is refused stays so
pub refused-more : (fed : List ℕ) (given : List Packet) (octet : ℕ) (fault : ℕ × PcapReason) → IsRefused fed given fault → IsRefused (fed ++ octet ∷ []) (given ++ []) fault
refused-more fed given octet fault h = λ rest.
    subst (λ (g : List Packet). IsBad ((fed ++ octet ∷ []) ++ rest) g fault) (sym (append-nil given)) (subst (λ (l : List ℕ). IsBad l given fault) (sym (append_assoc fed (octet ∷ []) rest)) (h (octet ∷ rest)))

-- the octets of a packet begin
pub begins-body : (most checked : Bool) (fed : List ℕ) (given : List Packet) (head : List ℕ) (left size : ℕ) (frame : List ℕ) → Holds most checked fed given head → included_of most head ≡ left → frame ≡ []
    → (body : List ℕ) × Holds most checked fed (given ++ []) (head ++ body) × (length body + left ≡ included_of most head) × (frame ≡ take size body)
begins-body most checked fed given head left size frame w e f = (
  [],
  subst (λ (g : List Packet). Holds most checked fed g (head ++ [])) (sym (append-nil given)) (subst (λ (l : List ℕ). Holds most checked fed given l) (sym (append-nil head)) w),
  omega arith,
  f ∙ sym (take-nil size),
)

-- the head is empty again
pub cleared : (head : List ℕ) (fed : ℕ) (most : Bool) → head ≡ [] → (length head < 16) × (length head ≤ fed) × (12 ≤ length head → included_of most head ≤ 65535)
cleared head fed most e = (omega (arith, ap length e), omega (arith, ap length e), λ h. absurd (omega (arith, ap length e, h)))

-- a packet that has begun is cut
cut_behind : (most checked : Bool) (fed : List ℕ) (given : List Packet) (begun : List ℕ) → Holds most checked fed given begun → 0 < length begun → length begun < 16 + included_of most begun → (12 ≤ length begun → included_of most begun ≤ 65535)
    → IsBad fed given (length fed, Cut)
cut_behind most checked fed given begun w some part short =
    let size : length fed ≡ length (w.header ++ w.whole) + length begun = ap length w.is ∙ length-append (w.header ++ w.whole) begun in
    inr (
      most,
      checked,
      begun,
      length (w.header ++ w.whole),
      w,
      some,
      size,
      subst (λ (place : ℕ). packet_fault most (length (w.header ++ w.whole)) begun ≡ Some (place, Cut)) (sym size) (cut_fault most (length (w.header ++ w.whole)) begun part short),
    )

-- what the octets are, by the part: they may go on, or are refused
abbrev pub Reached : Phase → List ℕ → List Packet → Type 0
Reached (Refused place reason) fed given = IsRefused fed given (place, reason)
Reached _ fed given = MayGoOn fed given

within_head : (most checked : Bool) (fed : List ℕ) (given : List Packet) (head : List ℕ) → length head < 16 → (12 ≤ length head → included_of most head ≤ 65535) → Holds most checked fed given head → MayGoOn fed given
within_head most checked fed given [] part short w = inl (most, checked, w)
within_head most checked fed given (octet ∷ head) part short w = inr (cut_behind most checked fed given (octet ∷ head) w (omega arith) (omega (arith, part)) short)

within_body : (most checked : Bool) (fed : List ℕ) (given : List Packet) (head body : List ℕ) (left : ℕ) → length head ≡ 16 → included_of most head ≤ 65535 → 0 < left → length body + left ≡ included_of most head
    → Holds most checked fed given (head ++ body) → IsBad fed given (length fed, Cut)
within_body most checked fed given head body left n short some size w =
    let all = length-append head body in
    let same = four_of-append most head body 8 (omega arith) in
    cut_behind most checked fed given (head ++ body) w (omega (arith, all, n)) (omega (arith, all, n, same, size, some)) (λ long. omega (arith, same, short))

pub reached : (fed : List ℕ) (given : List Packet) (now : Progress) (phase : Phase) → length fed ≡ now.fed → StandsIn phase fed given now → IsKeptIn phase now → Reached phase fed given
reached fed given now Header count part kept =
    let fault : header_fault fed ≡ Some (length fed, Cut) = subst (λ (l : List ℕ). header_fault l ≡ Some (length l, Cut)) (sym part.0) (begun_fault now.most now.head kept) in
    inr (inl (fault, part.1))
reached fed given now Head count part kept = within_head now.most now.checked fed given now.head kept.0 kept.2 part
reached fed given now Body count part kept = inr (within_body now.most now.checked fed given now.head part.0 now.left kept.0 kept.1 kept.2 part.2 part.1)
reached fed given now (Refused place reason) count part kept = part

may_go_on : (fed : List ℕ) (given : List Packet) (phase : Phase) → ((place : ℕ) (reason : PcapReason) → phase ≡ Refused place reason → ⊥) → Reached phase fed given → MayGoOn fed given
may_go_on fed given Header told h = h
may_go_on fed given Head told h = h
may_go_on fed given Body told h = h
may_go_on fed given (Refused place reason) told h = absurd (told place reason refl)

-- so an answer that tells what has ended tells what the octets are
answers : (fed : List ℕ) (given : List Packet) (result : Result (Option Packet) (ℕ × PcapReason)) (now : Progress) → IsTold result now → Stands fed (given ++ given_by result) now → Answers fed given result
answers fed given (Ok (Some packet)) now told h =
    let holds = stands-part fed (given ++ packet ∷ []) now Head told.0 h in
    (now.most, now.checked, subst (λ (l : List ℕ). Holds now.most now.checked fed (given ++ packet ∷ []) l) told.1 holds)
answers fed given (Ok None) now told h =
    subst (λ (g : List Packet). MayGoOn fed g) (append-nil given) (may_go_on fed (given ++ []) now.phase told (reached fed (given ++ []) now now.phase h.count h.part h.kept))
answers fed given (Err fault) now told h =
    let refused : IsRefused fed (given ++ []) (fault.0, fault.1) = stands-part fed (given ++ []) now (Refused fault.0 fault.1) told h in
    subst (λ (g : List Packet). IsRefused fed g fault) (append-nil given) refused

pub feeds : (old : Progress) (octet : ℕ) (result : Result (Option Packet) (ℕ × PcapReason)) (new : Progress) → Moves old octet result new → IsTold result new → Feeds old octet result new
feeds old octet result new moves told = λ fed given h.
    let s = moves fed given h in
    (s, answers (fed ++ octet ∷ []) given result new told s)

-- what is answered at the end
pub ends_refused : (fed : List ℕ) (given : List Packet) (now : Progress) (place : ℕ) (reason : PcapReason) → now.phase ≡ Refused place reason → Stands fed given now → IsBad fed given (place, reason)
ends_refused fed given now place reason e h =
    let refused = stands-part fed given now (Refused place reason) e h in
    subst (λ (l : List ℕ). IsBad l given (place, reason)) (append-nil fed) (refused [])

pub ends_header : (fed : List ℕ) (given : List Packet) (now : Progress) → now.phase ≡ Header → Stands fed given now → IsBad fed given (now.fed, Cut)
ends_header fed given now e h =
    let part = stands-part fed given now Header e h in
    let kept = kept-part now Header e h.kept in
    let fault : header_fault fed ≡ Some (length fed, Cut) = subst (λ (l : List ℕ). header_fault l ≡ Some (length l, Cut)) (sym part.0) (begun_fault now.most now.head kept) in
    subst (λ (n : ℕ). IsBad fed given (n, Cut)) h.count (inl (fault, part.1))

pub ends_head : (fed : List ℕ) (given : List Packet) (now : Progress) → now.phase ≡ Head → 0 < length now.head → Stands fed given now → IsBad fed given (now.fed, Cut)
ends_head fed given now e some h =
    let part = stands-part fed given now Head e h in
    let kept = kept-part now Head e h.kept in
    subst (λ (n : ℕ). IsBad fed given (n, Cut)) h.count (cut_behind now.most now.checked fed given now.head part some (omega (arith, kept.0)) kept.2)

pub ends_body : (fed : List ℕ) (given : List Packet) (now : Progress) → now.phase ≡ Body → Stands fed given now → IsBad fed given (now.fed, Cut)
ends_body fed given now e h =
    let part = stands-part fed given now Body e h in
    let kept = kept-part now Body e h.kept in
    subst (λ (n : ℕ). IsBad fed given (n, Cut)) h.count (within_body now.most now.checked fed given now.head part.0 now.left kept.0 kept.1 kept.2 part.2 part.1)

-- what is refused is refused again
refused_again : (fed : List ℕ) (given : List Packet) (now : Progress) (octet place : ℕ) (reason : PcapReason) → now.phase ≡ Refused place reason → Stands fed given now → Stands (fed ++ octet ∷ []) (given ++ []) (record now { fed = now.fed + 1 })
refused_again fed given now octet place reason e h = record {
  count = counted fed now.fed octet h.count;
  part = subst (λ (p : Phase). StandsIn p (fed ++ octet ∷ []) (given ++ []) (record now { fed = now.fed + 1 })) (sym e) (refused-more fed given octet (place, reason) (stands-part fed given now (Refused place reason) e h));
  kept = subst (λ (p : Phase). IsKeptIn p (record now { fed = now.fed + 1 })) (sym e) tt;
}

pub feeds_again : (now : Progress) (octet place : ℕ) (reason : PcapReason) → now.phase ≡ Refused place reason → Feeds now octet (Err (place, reason)) (record now { fed = now.fed + 1 })
feeds_again now octet place reason e = feeds now octet (Err (place, reason)) (record now { fed = now.fed + 1 }) (λ fed given h. refused_again fed given now octet place reason e h) e
