-- What a crash leaves is one of the images that it may leave.
use Rattle.std.proofs.Common.{◌≡◌, ℕ, ◌+◌, ◌-◌, ◌/◌, ◌≤◌, true, List, [], ◌∷◌, ◌++◌, length, take, drop, map, replicate, refl, sym, ◌∙◌, ap, arith, length-append, length-drop, length-take, if◌then◌else◌, ◌==◌, nat_le}
use Rattle.std.specs.List.{list_all}
use Rattle.std.proofs.lemmas.Bool.{and_parts}
use Rattle.std.proofs.lemmas.Bool.Decides.{nat_tests}
use Rattle.std.proofs.lemmas.List.{length-map, length-replicate}
use Rattle.gp_disk.specs.declared.log.Step.{Step}
use Rattle.gp_disk.specs.declared.log.Step.TheVariants.{Write, Zero, Sync}
use Rattle.gp_disk.specs.Disk.{part, put}
use Rattle.gp_disk.specs.History.{Range, Done, Held, at_rest, after_all, Replaced, MayLeave}
use Rattle.gp_disk.specs.Crash.{filled, struck}
use Rattle.gp_disk.specs.Redone.{redone, ranges_of}
use Rattle.gp_disk.specs.Step.{events, is_write, is_within}
use Rattle.gp_disk.proofs.Contents.{after_all-settled, base-writes, pending-writes}
use Rattle.gp_disk.proofs.Ranges.{Outside-put}

length-filled : (way : ℕ) (new old : List ℕ) → length old ≤ length new → length (filled way new old) ≤ length new
length-filled way new old short = elim (way == 1) as (λ b. length (if b then new else if way == 2 then take (length new / 2) new ++ drop (length new / 2) old else if way == 3 then replicate (length new) 165 else if way == 4 then map (λ octet. 255 - octet) new else old) ≤ length new) [
  | true ↦ omega arith
  | _ ↦ elim (way == 2) as (λ b. length (if b then take (length new / 2) new ++ drop (length new / 2) old else if way == 3 then replicate (length new) 165 else if way == 4 then map (λ octet. 255 - octet) new else old) ≤ length new) [
    | true ↦ simp (length-append, length-take, length-drop) (omega arith)
    | _ ↦ elim (way == 3) as (λ b. length (if b then replicate (length new) 165 else if way == 4 then map (λ octet. 255 - octet) new else old) ≤ length new) [
      | true ↦ simp length-replicate (omega arith)
      | _ ↦ elim (way == 4) as (λ b. length (if b then map (λ octet. 255 - octet) new else old) ≤ length new) [
        | true ↦ simp length-map (omega arith)
        | _ ↦ short
      ]
    ]
  ]
]

-- each range lies within a size
pub Inside : ℕ → List Range → Type 0
Inside size [] = Unit {0}
Inside size (range ∷ ranges) = (range.at + length range.octets ≤ size) × Inside size ranges

pub struck-replaced : (way size : ℕ) (image : List ℕ) (ranges : List Range) → length image ≡ size → Inside size ranges → Replaced image ranges (struck way image ranges)
unfolding Inside Replaced struck
struck-replaced way size image [] fits inside = refl
struck-replaced way size image (range ∷ ranges) fits (first, rest) =
    let old = part range.at (length range.octets) image in
    let short : length old ≤ length range.octets = simp length-take (omega arith) in
    let outside = Outside-put range.at (length range.octets) (filled way range.octets old) image (length-filled way range.octets old short) (rw fits first) in
    (put range.at (filled way range.octets old) image, outside, struck-replaced way size (put range.at (filled way range.octets old) image) ranges (outside.size ∙ fits) rest)

pub Inside-steps : (size : ℕ) (steps : List Step) (octets : List ℕ) → list_all (is_within size) steps ≡ true → Inside size (ranges_of (events steps octets))
unfolding Inside ranges_of events
Inside-steps size [] octets within = tt
Inside-steps size (Write at count stored ∷ steps) octets within =
    let parts = and_parts (is_within size (Write at count stored)) (list_all (is_within size) steps) within in
    let ranges = and_parts (nat_le (at + count) size) (nat_le stored count) parts.0 in
    let fits : at + count ≤ size = grind (arith, nat_tests, ranges.0) in
    (simp length-take (omega arith), Inside-steps size steps (drop count octets) parts.1)
Inside-steps size (Zero at count stored ∷ steps) octets within =
    let parts = and_parts (is_within size (Zero at count stored)) (list_all (is_within size) steps) within in
    let ranges = and_parts (nat_le (at + count) size) (nat_le stored count) parts.0 in
    let fits : at + count ≤ size = grind (arith, nat_tests, ranges.0) in
    (simp length-replicate (omega arith), Inside-steps size steps octets parts.1)
Inside-steps size (Sync ∷ steps) octets within = Inside-steps size steps octets within

pub left-crashed : (way : ℕ) (origin done image : List ℕ) (xs : List Done) (steps : List Step) (octets : List ℕ) → (after_all (at_rest origin) xs).base ≡ (after_all (at_rest origin) xs).seen → length (after_all (at_rest origin) xs).pending ≡ 0
    → list_all is_write steps ≡ true → list_all (is_within (length done)) steps ≡ true → done ≡ redone origin xs → image ≡ struck way done (ranges_of (events steps octets))
    → MayLeave (after_all (at_rest origin) (xs ++ events steps octets)) image
left-crashed way origin done image xs steps octets certain none_pending writes within is struck_is =
    let held = after_all-settled origin xs (events steps octets) certain none_pending in
    let base = ap (λ (h : Held). h.base) held ∙ base-writes (at_rest (redone origin xs)) steps octets writes ∙ sym is in
    let pending = ap (λ (h : Held). h.pending) held ∙ pending-writes (at_rest (redone origin xs)) steps octets writes in
    let inside = Inside-steps (length done) steps octets within in
    let left = struck-replaced way (length done) done (ranges_of (events steps octets)) refl inside in
    rw (base, pending, struck_is) left
