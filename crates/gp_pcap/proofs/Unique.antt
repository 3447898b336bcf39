-- Octets have one reading.
use Rattle.std.proofs.Common.{◌≡◌, ◌⊎◌, inl, inr, ℕ, suc, ◌+◌, ◌*◌, ◌<◌, ◌≤◌, List, [], ◌++◌, length, Bool, Option, Some, None, Result, Ok, Err, refl, sym, ◌∙◌, ap, subst, arith, append_assoc, length-append, take, drop}
use Rattle.std.proofs.Math.Seq.{drop-append_seam, take-append_seam}
use Rattle.gp_pcap.specs.declared.packet.Packet.{Packet}
use Rattle.gp_pcap.specs.declared.packet.PcapReason.{PcapReason}
use Rattle.gp_pcap.specs.declared.packet.PcapReason.TheVariants.{Cut}
use Rattle.gp_pcap.specs.Capture.{Holds, IsFile, IsBad, MayGoOn, IsHeader, ArePackets, IsPacket, header_fault, packet_fault, four_of, kept_size}
use Rattle.gp_pcap.specs.Capture.ArePackets.{none, more}
use Rattle.gp_pcap.specs.Reading.{Progress, Ends, IsOnly}
use Rattle.gp_pcap.proofs.Faults.{four_of-append, header_fault-append, packet_is_good, cut_is_short, cut_header_is_short}
use Rattle.gp_pcap.proofs.Standing.{holds-more}

-- two splits of a list at one place
same_parts : (a b x y : List ℕ) → length a ≡ length b → a ++ x ≡ b ++ y → (a ≡ b) × (x ≡ y)
same_parts a b x y n e = (
  sym (take-append_seam a x) ∙ ap (λ k. take k (a ++ x)) n ∙ ap (λ l. take (length b) l) e ∙ take-append_seam b y,
  sym (drop-append_seam a x) ∙ ap (λ k. drop k (a ++ x)) n ∙ ap (λ l. drop (length b) l) e ∙ drop-append_seam b y,
)

-- the first packet of octets is one packet
same_packet : (most checked : Bool) (a b x y : List ℕ) (p q : Packet) → IsPacket most checked a p → IsPacket most checked b q → a ++ x ≡ b ++ y → (a ≡ b) × (x ≡ y) × (p ≡ q)
same_packet most checked a b x y p q h k e =
    let left = four_of-append most a x 8 (omega (arith, h.whole)) in
    let right = four_of-append most b y 8 (omega (arith, k.whole)) in
    let same = ap (λ l. four_of most l 8) e in
    let parts = same_parts a b x y (omega (arith, h.whole, k.whole, left, right, same)) e in
    (parts.0, parts.1, one parts.0)
  where
    one : a ≡ b → p ≡ q
    one s =
        let seconds : p.seconds ≡ q.seconds = h.seconds ∙ ap (λ l. four_of most l 0) s ∙ sym k.seconds in
        let fraction : p.fraction ≡ q.fraction = h.fraction ∙ ap (λ l. four_of most l 4) s ∙ sym k.fraction in
        let frame : p.frame ≡ q.frame = h.frame ∙ ap (λ l. take (kept_size checked (four_of most l 8) (four_of most l 12)) (drop 16 l)) s ∙ sym k.frame in
        λ i. record { seconds = seconds i; fraction = fraction i; frame = frame i }

-- what is left behind whole packets: nothing, or octets that are refused
abbrev pub IsLeft : Bool → ℕ → List ℕ → Option (ℕ × PcapReason) → Type 0
IsLeft most at begun None = begun ≡ []
IsLeft most at begun (Some fault) = (0 < length begun) × (packet_fault most at begun ≡ Some fault)

-- it isn't a packet
packet_is_left : (most checked : Bool) (at : ℕ) (octets rest begun : List ℕ) (packet : Packet) (fault : Option (ℕ × PcapReason)) → IsPacket most checked octets packet → begun ≡ octets ++ rest → IsLeft most at begun fault → ⊥
packet_is_left most checked at octets rest begun packet None h e left = omega (arith, ap length (sym e ∙ left), length-append octets rest, h.whole)
packet_is_left most checked at octets rest begun packet (Some fault) h e left =
    let good : packet_fault most at begun ≡ None = subst (λ (l : List ℕ). packet_fault most at l ≡ None) (sym e) (packet_is_good most checked at octets rest packet h) in
    let both : Some fault ≡ None = sym left.1 ∙ good in
    cc

same_left : (most : Bool) (at bt : ℕ) (begun : List ℕ) (f g : Option (ℕ × PcapReason)) → at ≡ bt → IsLeft most at begun f → IsLeft most bt begun g → f ≡ g
same_left most at bt begun None None e h k = refl
same_left most at bt begun None (Some g) e h k = absurd (omega (arith, ap length h, k.0))
same_left most at bt begun (Some f) None e h k = absurd (omega (arith, ap length k, h.0))
same_left most at bt begun (Some f) (Some g) e h k = sym h.1 ∙ ap (λ (n : ℕ). packet_fault most n begun) e ∙ k.1

same_reading : (most checked : Bool) (at bt : ℕ) (xs ys ls ms : List ℕ) (ps qs : List Packet) (f g : Option (ℕ × PcapReason)) → ArePackets most checked xs ps → ArePackets most checked ys qs → xs ++ ls ≡ ys ++ ms
    → IsLeft most at ls f → IsLeft most bt ms g → at + length ls ≡ bt + length ms → (ps ≡ qs) × (f ≡ g)
same_reading most checked at bt _ _ ls ms _ _ f g none none e h k n =
    (refl, same_left most at bt ls f g (omega (arith, ap length e, n)) h (subst (λ (l : List ℕ). IsLeft most bt l g) (sym e) k))
same_reading most checked at bt _ _ ls ms _ _ f g none (more b y q qs k ks) e h l n = absurd (packet_is_left most checked at b (y ++ ms) ls q f k (e ∙ append_assoc b y ms) h)
same_reading most checked at bt _ _ ls ms _ _ f g (more a x p ps h hs) none e l k n = absurd (packet_is_left most checked bt a (x ++ ls) ms p g h (sym e ∙ append_assoc a x ls) k)
same_reading most checked at bt _ _ ls ms _ _ f g (more a x p ps h hs) (more b y q qs k ks) e l m n =
    let first = same_packet most checked a b (x ++ ls) (y ++ ms) p q h k (sym (append_assoc a x ls) ∙ e ∙ append_assoc b y ms) in
    let packet : p ≡ q = first.2 in
    let rest = same_reading most checked at bt x y ls ms ps qs f g hs ks first.1 l m n in
    let others : ps ≡ qs = rest.0 in
    (cc, rest.1)

-- a reading behind a header
pub record Parts (octets : List ℕ) (packets : List Packet) (fault : Option (ℕ × PcapReason)) : Type 0 where
  pub most : Bool
  pub checked : Bool
  pub begun : List ℕ
  pub at : ℕ
  pub holds : Holds most checked octets packets begun
  pub left : IsLeft most at begun fault
  pub size : length octets ≡ at + length begun

abbrev file_parts : (octets : List ℕ) (packets : List Packet) → IsFile octets packets → Parts octets packets None
file_parts octets packets f = record { most = f.0; checked = f.1; begun = []; at = length octets; holds = f.2; left = refl; size = omega arith }

header_is_good : (most checked : Bool) (octets : List ℕ) (packets : List Packet) (begun : List ℕ) → Holds most checked octets packets begun → header_fault octets ≡ None
header_is_good most checked octets packets begun w =
    subst (λ (l : List ℕ). header_fault l ≡ None) (sym (w.is ∙ append_assoc w.header w.whole begun)) (header_fault-append most checked w.header (w.whole ++ begun) w.is_header)

same : (octets : List ℕ) (ps qs : List Packet) (f g : Option (ℕ × PcapReason)) → Parts octets ps f → Parts octets qs g → (ps ≡ qs) × (f ≡ g)
same octets ps qs f g h k =
    let w = h.holds in
    let v = k.holds in
    let parts = same_parts w.header v.header (w.whole ++ h.begun) (v.whole ++ k.begun) (w.is_header.size ∙ sym v.is_header.size) (sym (w.is ∙ append_assoc w.header w.whole h.begun) ∙ (v.is ∙ append_assoc v.header v.whole k.begun)) in
    let order : k.most ≡ h.most = v.is_header.order ∙ ap (λ (l : List ℕ). Rattle.gp_pcap.specs.Capture.is_most_first l) (sym parts.0) ∙ sym w.is_header.order in
    let check : k.checked ≡ h.checked = v.is_header.check ∙ ap (λ (l : List ℕ). Rattle.gp_pcap.specs.Capture.has_check l) (sym parts.0) ∙ sym w.is_header.check in
    let packets = subst (λ (c : Bool). ArePackets h.most c v.whole qs) check (subst (λ (m : Bool). ArePackets m k.checked v.whole qs) order v.are_packets) in
    let left = subst (λ (m : Bool). IsLeft m k.at k.begun g) order k.left in
    same_reading h.most h.checked h.at k.at w.whole v.whole h.begun k.begun ps qs f g w.are_packets packets parts.1 h.left left (sym h.size ∙ k.size)

-- so no octets are a file of two lists of packets, or a file and refused, or refused in two ways
pub file_is_one : (octets : List ℕ) (ps qs : List Packet) → IsFile octets ps → IsFile octets qs → ps ≡ qs
file_is_one octets ps qs h k = (same octets ps qs None None (file_parts octets ps h) (file_parts octets qs k)).0

pub file_is_good : (octets : List ℕ) (ps qs : List Packet) (fault : ℕ × PcapReason) → IsFile octets ps → IsBad octets qs fault → ⊥
file_is_good octets ps qs fault h (inl k) =
    let both : Some fault ≡ None = sym k.0 ∙ header_is_good h.0 h.1 octets ps [] h.2 in
    cc
file_is_good octets ps qs fault h (inr k) =
    let both : None ≡ Some fault = (same octets ps qs None (Some fault) (file_parts octets ps h) (record { most = k.0; checked = k.1; begun = k.2; at = k.3; holds = k.4; left = (k.5, k.7); size = k.6 })).1 in
    cc

one_fault : (f g : ℕ × PcapReason) → Some f ≡ Some g → f ≡ g
one_fault f g e = cc

pub bad_is_one : (octets : List ℕ) (ps qs : List Packet) (f g : ℕ × PcapReason) → IsBad octets ps f → IsBad octets qs g → (ps ≡ qs) × (f ≡ g)
bad_is_one octets ps qs f g (inl h) (inl k) = (h.1 ∙ sym k.1, one_fault f g (sym h.0 ∙ k.0))
bad_is_one octets ps qs f g (inl h) (inr k) =
    absurd (let both : Some f ≡ None = sym h.0 ∙ header_is_good k.0 k.1 octets qs k.2 k.4 in cc)
bad_is_one octets ps qs f g (inr h) (inl k) =
    absurd (let both : Some g ≡ None = sym k.0 ∙ header_is_good h.0 h.1 octets ps h.2 h.4 in cc)
bad_is_one octets ps qs f g (inr h) (inr k) =
    let both = same octets ps qs (Some f) (Some g) (record { most = h.0; checked = h.1; begun = h.2; at = h.3; holds = h.4; left = (h.5, h.7); size = h.6 }) (record { most = k.0; checked = k.1; begun = k.2; at = k.3; holds = k.4; left = (k.5, k.7); size = k.6 }) in
    (both.0, one_fault f g both.1)

-- the answer at the end is the only one
pub only_end : (now : Progress) (result : Result (Unit {0}) (ℕ × PcapReason)) → Ends now result → IsOnly now result
only_end now (Ok end) ends = λ fed given packets h. (
  λ file. (refl, file_is_one fed packets given file (ends fed given h)),
  λ fault bad. absurd (file_is_good fed given packets fault (ends fed given h) bad),
)
only_end now (Err refusal) ends = λ fed given packets h. (
  λ file. absurd (file_is_good fed packets given refusal file (ends fed given h)),
  λ fault bad.
      let both = bad_is_one fed packets given fault refusal bad (ends fed given h) in
      (ap (λ (f : ℕ × PcapReason). Err f) (sym both.1), both.0),
)

-- whole packets in front of whole packets, and octets behind them that aren't all of them: then there are more packets
more_packets : (most checked : Bool) (bt : ℕ) (xs ys ls ms : List ℕ) (ps qs : List Packet) (g : Option (ℕ × PcapReason)) → ArePackets most checked xs ps → ArePackets most checked ys qs → xs ++ ls ≡ ys ++ ms
    → IsLeft most bt ms g → (length ps < length qs) ⊎ ((length ps ≡ length qs) × (ls ≡ ms))
more_packets most checked bt _ _ ls ms _ _ g none none e m = inr (refl, e)
more_packets most checked bt _ _ ls ms _ _ g none (more b y q qs k ks) e m = inl (omega arith)
more_packets most checked bt _ _ ls ms _ _ g (more a x p ps h hs) none e m = absurd (packet_is_left most checked bt a (x ++ ls) ms p g h (sym e ∙ append_assoc a x ls) m)
more_packets most checked bt _ _ ls ms _ _ g (more a x p ps h hs) (more b y q qs k ks) e m =
    let first = same_packet most checked a b (x ++ ls) (y ++ ms) p q h k (sym (append_assoc a x ls) ∙ e ∙ append_assoc b y ms) in
    elim (more_packets most checked bt x y ls ms ps qs g hs ks first.1 m) as (λ _. (suc (length ps) < suc (length qs)) ⊎ ((suc (length ps) ≡ suc (length qs)) × (ls ≡ ms))) [
      | inl less ↦ inl (omega arith)
      | inr same ↦ inr (ap suc same.0, same.1)
    ]

-- what stands behind whole packets, beside another reading of the same octets
more_between : (most checked : Bool) (octets behind : List ℕ) (ps qs : List Packet) (g : Option (ℕ × PcapReason)) → Holds most checked octets ps behind → (k : Parts octets qs g) → (length ps < length qs) ⊎ ((length ps ≡ length qs) × (behind ≡ k.begun))
more_between most checked octets behind ps qs g w k =
    let v = k.holds in
    let parts = same_parts w.header v.header (w.whole ++ behind) (v.whole ++ k.begun) (w.is_header.size ∙ sym v.is_header.size) (sym (w.is ∙ append_assoc w.header w.whole behind) ∙ (v.is ∙ append_assoc v.header v.whole k.begun)) in
    let order : k.most ≡ most = v.is_header.order ∙ ap (λ (l : List ℕ). Rattle.gp_pcap.specs.Capture.is_most_first l) (sym parts.0) ∙ sym w.is_header.order in
    let check : k.checked ≡ checked = v.is_header.check ∙ ap (λ (l : List ℕ). Rattle.gp_pcap.specs.Capture.has_check l) (sym parts.0) ∙ sym w.is_header.check in
    let packets = subst (λ (c : Bool). ArePackets most c v.whole qs) check (subst (λ (m : Bool). ArePackets m k.checked v.whole qs) order v.are_packets) in
    more_packets most checked k.at w.whole v.whole behind k.begun ps qs g w.are_packets packets parts.1 (subst (λ (m : Bool). IsLeft m k.at k.begun g) order k.left)

file_holds : (front behind octets : List ℕ) (ps : List Packet) (f : IsFile front ps) → octets ≡ front ++ behind → Holds f.0 f.1 octets ps behind
file_holds front behind octets ps f e = subst (λ (l : List ℕ). Holds f.0 f.1 l ps behind) (sym e) (holds-more f.0 f.1 front ps behind [] behind f.2 refl)

-- a file with octets behind it is one of more packets, or is refused behind no fewer
pub file_then_file : (front behind octets : List ℕ) (ps qs : List Packet) → IsFile front ps → octets ≡ front ++ behind → 0 < length behind → IsFile octets qs → length ps < length qs
file_then_file front behind octets ps qs f e some h =
    elim (more_between f.0 f.1 octets behind ps qs None (file_holds front behind octets ps f e) (file_parts octets qs h)) as (λ _. length ps < length qs) [
      | inl less ↦ less
      | inr same ↦ absurd (omega (arith, ap length same.1, some))
    ]

pub file_then_bad : (front behind octets : List ℕ) (ps qs : List Packet) (fault : ℕ × PcapReason) → IsFile front ps → octets ≡ front ++ behind → IsBad octets qs fault → length ps ≤ length qs
file_then_bad front behind octets ps qs fault f e (inl h) =
    absurd (let both : Some fault ≡ None = sym h.0 ∙ header_is_good f.0 f.1 octets ps behind (file_holds front behind octets ps f e) in cc)
file_then_bad front behind octets ps qs fault f e (inr h) =
    elim (more_between f.0 f.1 octets behind ps qs (Some fault) (file_holds front behind octets ps f e) (record { most = h.0; checked = h.1; begun = h.2; at = h.3; holds = h.4; left = (h.5, h.7); size = h.6 })) as (λ _. length ps ≤ length qs) [
      | inl less ↦ omega arith
      | inr same ↦ omega (arith, same.0)
    ]

-- octets that may go on are few, by the packets
packets_size : (most checked : Bool) (octets : List ℕ) (packets : List Packet) → ArePackets most checked octets packets → length octets ≤ 65551 * length packets
packets_size most checked _ _ none = omega arith
packets_size most checked _ _ (more a x p ps h hs) = omega (arith, packets_size most checked x ps hs, length-append a x, h.short, h.whole)

fault_size : (most : Bool) (at : ℕ) (begun : List ℕ) (n : ℕ) → packet_fault most at begun ≡ Some (n, Cut) → length begun < 65551
fault_size most at begun n e = cut_is_short most at begun n e

pub may_go_on_size : (octets : List ℕ) (packets : List Packet) → MayGoOn octets packets → length octets ≤ 24 + 65551 * length packets + 65551
may_go_on_size octets packets (inl f) =
    let size = packets_size f.0 f.1 f.2.whole packets f.2.are_packets in
    omega (arith, size, ap length f.2.is, length-append (f.2.header ++ f.2.whole) [], length-append f.2.header f.2.whole, f.2.is_header.size)
may_go_on_size octets packets (inr (inl h)) = omega (arith, cut_header_is_short octets (length octets) h.0)
may_go_on_size octets packets (inr (inr h)) =
    let w = h.4 in
    let size = packets_size h.0 h.1 w.whole packets w.are_packets in
    omega (arith, size, ap length w.is, length-append (w.header ++ w.whole) h.2, length-append w.header w.whole, w.is_header.size, fault_size h.0 h.3 h.2 (length octets) h.7)
