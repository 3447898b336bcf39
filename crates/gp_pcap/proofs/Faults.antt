-- Why octets are no header and no whole packet, whatever comes behind them.
use Rattle.std.proofs.Common.{◌≡◌, ◌⊎◌, inl, inr, ℕ, ◌+◌, ◌%◌, ◌<◌, ◌≤◌, ◌==◌, ◌||◌, Bool, true, false, cond, not, List, ◌++◌, length, Option, Some, None, refl, ap, ◌∙◌, arith, length-append}
use Rattle.std.proofs.lemmas.List.{get_or_append_left}
use Rattle.std.proofs.lemmas.Bool.{lt-ltb, le-ltb}
use Rattle.gp_pcap.specs.declared.packet.Packet.{Packet}
use Rattle.gp_pcap.specs.declared.packet.PcapReason.{PcapReason}
use Rattle.gp_pcap.specs.declared.packet.PcapReason.TheVariants.{Magic, Version, Link, Length, Cut}
use Rattle.gp_pcap.specs.Capture.{two_of, four_of, is_most_first, magic_of, is_magic, is_version, is_link, header_lines, header_fault, IsHeader, packet_lines, packet_fault, included_of, IsPacket}
use Rattle.gp_pcap.specs.Reading.{IsBegun}

-- numbers and tests in the front of octets
pub two_of-append : (most : Bool) (xs ys : List ℕ) (at : ℕ) → at + 1 < length xs → two_of most (xs ++ ys) at ≡ two_of most xs at
two_of-append true xs ys at h = rw (get_or_append_left xs ys 0 at (omega arith), get_or_append_left xs ys 0 (at + 1) h) refl
two_of-append false xs ys at h = rw (get_or_append_left xs ys 0 at (omega arith), get_or_append_left xs ys 0 (at + 1) h) refl

pub four_of-append : (most : Bool) (xs ys : List ℕ) (at : ℕ) → at + 3 < length xs → four_of most (xs ++ ys) at ≡ four_of most xs at
four_of-append true xs ys at h =
    let a = get_or_append_left xs ys 0 at (omega arith) in
    let b = get_or_append_left xs ys 0 (at + 1) (omega arith) in
    let c = get_or_append_left xs ys 0 (at + 2) (omega arith) in
    let d = get_or_append_left xs ys 0 (at + 3) (omega arith) in
    rw (a, b, c, d) refl
four_of-append false xs ys at h =
    let a = get_or_append_left xs ys 0 at (omega arith) in
    let b = get_or_append_left xs ys 0 (at + 1) (omega arith) in
    let c = get_or_append_left xs ys 0 (at + 2) (omega arith) in
    let d = get_or_append_left xs ys 0 (at + 3) (omega arith) in
    rw (a, b, c, d) refl

pub order-append : (xs ys : List ℕ) → 0 < length xs → is_most_first (xs ++ ys) ≡ is_most_first xs
order-append xs ys h = ap (λ (n : ℕ). n == 0xA1) (get_or_append_left xs ys 0 0 h)

pub is_magic-append : (xs ys : List ℕ) → 4 ≤ length xs → is_magic (xs ++ ys) ≡ is_magic xs
is_magic-append xs ys h =
    let same : magic_of (xs ++ ys) ≡ magic_of xs =
    ap (λ (m : Bool). four_of m (xs ++ ys) 0) (order-append xs ys (omega arith)) ∙ four_of-append (is_most_first xs) xs ys 0 (omega arith) in
    ap (λ (n : ℕ). (n == 0xA1B2C3D4) || (n == 0xA1B23C4D)) same

pub is_version-append : (xs ys : List ℕ) → 6 ≤ length xs → is_version (xs ++ ys) ≡ is_version xs
is_version-append xs ys h =
    ap (λ (n : ℕ). n == 2) (ap (λ (m : Bool). two_of m (xs ++ ys) 4) (order-append xs ys (omega arith)) ∙ two_of-append (is_most_first xs) xs ys 4 (omega arith))

pub is_link-append : (xs ys : List ℕ) → 24 ≤ length xs → is_link (xs ++ ys) ≡ is_link xs
is_link-append xs ys h =
    ap (λ (n : ℕ). (n == 195) || (n == 230)) (ap (λ (n : ℕ). n % 65536) (ap (λ (m : Bool). four_of m (xs ++ ys) 20) (order-append xs ys (omega arith)) ∙ four_of-append (is_most_first xs) xs ys 20 (omega arith)))

pub split : (i n : ℕ) → (i < n) ⊎ (n ≤ i)
split i n = grind arith

-- a header that has begun is cut
pub begun_fault : (most : Bool) (head : List ℕ) → IsBegun most head → header_fault head ≡ Some (length head, Cut)
unfolding header_lines
begun_fault most head b = elim (split (length head) 4) as (λ s. header_fault head ≡ Some (length head, Cut)) [
  | inl l ↦ rw (lt-ltb (length head) 4 l) refl
  | inr m ↦ elim (split (length head) 6) as (λ s. header_fault head ≡ Some (length head, Cut)) [
    | inl l ↦ rw (le-ltb (length head) 4 m, b.magic m, lt-ltb (length head) 6 l) refl
    | inr k ↦ rw (le-ltb (length head) 4 m, b.magic m, le-ltb (length head) 6 k, b.version k, lt-ltb (length head) 24 b.part) refl
  ]
]

-- a header is refused, whatever comes behind it
pub magic_refused : (head : List ℕ) → length head ≡ 4 → is_magic head ≡ false → (rest : List ℕ) → header_fault (head ++ rest) ≡ Some (0, Magic)
unfolding header_lines
magic_refused head n bad rest =
    let size = length-append head rest in
    rw (le-ltb (length (head ++ rest)) 4 (omega arith), is_magic-append head rest (omega arith), bad) refl

pub version_refused : (head : List ℕ) → length head ≡ 6 → is_magic head ≡ true → is_version head ≡ false → (rest : List ℕ) → header_fault (head ++ rest) ≡ Some (4, Version)
unfolding header_lines
version_refused head n magic bad rest =
    let size = length-append head rest in
    rw (le-ltb (length (head ++ rest)) 4 (omega arith), is_magic-append head rest (omega arith), magic, le-ltb (length (head ++ rest)) 6 (omega arith), is_version-append head rest (omega arith), bad) refl

-- a fault where a test fails, and else what the others give
abbrev unless : Bool → ℕ × PcapReason → Option (ℕ × PcapReason) → Option (ℕ × PcapReason)
unless test fault others = cond (not test) (Some fault) others

-- of a whole header the test of the link type is left
pub whole_fault : (head : List ℕ) → length head ≡ 24 → is_magic head ≡ true → is_version head ≡ true → (link : Bool) → is_link head ≡ link → (rest : List ℕ)
    → header_fault (head ++ rest) ≡ unless link (20, Link) None
unfolding header_lines
whole_fault head n magic version link e rest =
    let size = length-append head rest in
    rw (
      le-ltb (length (head ++ rest)) 4 (omega arith),
      is_magic-append head rest (omega arith),
      magic,
      le-ltb (length (head ++ rest)) 6 (omega arith),
      is_version-append head rest (omega arith),
      version,
      le-ltb (length (head ++ rest)) 24 (omega arith),
      is_link-append head rest (omega arith),
      e,
    ) refl

-- a header is one with octets behind it
pub header_fault-append : (most checked : Bool) (head rest : List ℕ) → IsHeader most checked head → header_fault (head ++ rest) ≡ None
unfolding header_lines
header_fault-append most checked head rest h = by (is_magic head) refl (is_version head) refl (is_link head) refl (long h.good)
  where
    n : length head ≡ 24
    n = h.size

    long : header_fault head ≡ None → unless (is_magic head) (0, Magic) (unless (is_version head) (4, Version) (unless (is_link head) (20, Link) None)) ≡ None
    long e = rw (le-ltb (length head) 4 (omega (arith, n)), le-ltb (length head) 6 (omega (arith, n)), le-ltb (length head) 24 (omega (arith, n))) at e

    by : (m : Bool) → is_magic head ≡ m → (v : Bool) → is_version head ≡ v → (l : Bool) → is_link head ≡ l
        → unless (is_magic head) (0, Magic) (unless (is_version head) (4, Version) (unless (is_link head) (20, Link) None)) ≡ None → header_fault (head ++ rest) ≡ None
    by true p true q true r e = whole_fault head n p q true r rest
    by true p true q false r e = absurd (let f : Some (20, Link) ≡ None = rw (p, q, r) at e in cc)
    by true p false q l r e = absurd (let f : Some (4, Version) ≡ None = rw (p, q) at e in cc)
    by false p v q l r e = absurd (let f : Some (0, Magic) ≡ None = rw p at e in cc)

-- the head of a packet, or a packet, that has begun is cut
pub cut_fault : (most : Bool) (at : ℕ) (begun : List ℕ) → length begun < 16 + included_of most begun → (12 ≤ length begun → included_of most begun ≤ 65535) → packet_fault most at begun ≡ Some (at + length begun, Cut)
unfolding packet_lines
cut_fault most at begun part short = elim (split (length begun) 12) as (λ s. packet_fault most at begun ≡ Some (at + length begun, Cut)) [
  | inl l ↦ rw (lt-ltb (length begun) 12 l) refl
  | inr m ↦ rw (le-ltb (length begun) 12 m, le-ltb 65535 (included_of most begun) (short m), lt-ltb (length begun) (16 + included_of most begun) part) refl
]

-- a packet that includes too many octets is refused, whatever comes behind its length
pub long_refused : (most : Bool) (at : ℕ) (begun : List ℕ) → length begun ≡ 12 → 65535 < included_of most begun → (rest : List ℕ) → packet_fault most at (begun ++ rest) ≡ Some (at + 8, Length)
unfolding packet_lines
long_refused most at begun n long rest =
    let size = length-append begun rest in
    let same = four_of-append most begun rest 8 (omega (arith, n)) in
    rw (le-ltb (length (begun ++ rest)) 12 (omega arith), lt-ltb 65535 (included_of most (begun ++ rest)) (omega (arith, same))) refl

-- a whole packet isn't refused
pub packet_is_good : (most checked : Bool) (at : ℕ) (octets rest : List ℕ) (packet : Packet) → IsPacket most checked octets packet → packet_fault most at (octets ++ rest) ≡ None
unfolding packet_lines
packet_is_good most checked at octets rest packet h =
    let size = length-append octets rest in
    let same = four_of-append most octets rest 8 (omega (arith, h.whole)) in
    rw (
      le-ltb (length (octets ++ rest)) 12 (omega (arith, h.whole)),
      le-ltb 65535 (included_of most (octets ++ rest)) (omega (arith, same, h.short)),
      le-ltb (length (octets ++ rest)) (16 + included_of most (octets ++ rest)) (omega (arith, same, h.whole)),
    ) refl

one_fault : (f g : ℕ × PcapReason) → Some f ≡ Some g → f ≡ g
one_fault f g e = cc

one_reason : (f g : ℕ × PcapReason) → Some f ≡ Some g → f.1 ≡ g.1
one_reason f g e = ap (λ (f : ℕ × PcapReason). f.1) (one_fault f g e)

-- what is cut is short
pub cut_is_short : (most : Bool) (at : ℕ) (octets : List ℕ) (n : ℕ) → packet_fault most at octets ≡ Some (n, Cut) → length octets < 65551
unfolding packet_lines
cut_is_short most at octets n e = elim (split (length octets) 12) as (λ _. length octets < 65551) [
  | inl l ↦ omega (arith, l)
  | inr m ↦ elim (split 65535 (included_of most octets)) as (λ _. length octets < 65551) [
    | inl long ↦ absurd (let other : Length ≡ Cut = one_reason (at + 8, Length) (n, Cut) (rw (le-ltb (length octets) 12 m, lt-ltb 65535 (included_of most octets) long) at e) in cc)
    | inr short ↦ elim (split (length octets) (16 + included_of most octets)) as (λ _. length octets < 65551) [
      | inl part ↦ omega (arith, part, short)
      | inr whole ↦ absurd (let other : None ≡ Some (n, Cut) = rw (le-ltb (length octets) 12 m, le-ltb 65535 (included_of most octets) short, le-ltb (length octets) (16 + included_of most octets) whole) at e in cc)
    ]
  ]
]

-- a header that is cut is shorter than a header
pub cut_header_is_short : (octets : List ℕ) (n : ℕ) → header_fault octets ≡ Some (n, Cut) → length octets < 24
unfolding header_lines
cut_header_is_short octets n e = elim (split (length octets) 24) as (λ _. length octets < 24) [
  | inl l ↦ l
  | inr m ↦ by (is_magic octets) refl (is_version octets) refl (is_link octets) refl
      (rw (le-ltb (length octets) 4 (omega (arith, m)), le-ltb (length octets) 6 (omega (arith, m)), le-ltb (length octets) 24 m) at e)
]
  where
    by : (a : Bool) → is_magic octets ≡ a → (v : Bool) → is_version octets ≡ v → (l : Bool) → is_link octets ≡ l
        → unless (is_magic octets) (0, Magic) (unless (is_version octets) (4, Version) (unless (is_link octets) (20, Link) None)) ≡ Some (n, Cut) → length octets < 24
    by true p true q true r e = absurd (let f : None ≡ Some (n, Cut) = rw (p, q, r) at e in cc)
    by true p true q false r e = absurd (let f : Link ≡ Cut = one_reason (20, Link) (n, Cut) (rw (p, q, r) at e) in cc)
    by true p false q l r e = absurd (let f : Version ≡ Cut = one_reason (4, Version) (n, Cut) (rw (p, q) at e) in cc)
    by false p v q l r e = absurd (let f : Magic ≡ Cut = one_reason (0, Magic) (n, Cut) (rw p at e) in cc)
