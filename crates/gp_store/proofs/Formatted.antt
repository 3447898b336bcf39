-- What each write of a formatting makes of an image.
use Rattle.std.proofs.Common.{◌≡◌, ◌⊎◌, inl, inr, ⊎_elim, ℕ, ◌+◌, ◌-◌, ◌<◌, ◌≤◌, Bool, true, false, List, [], ◌∷◌, ◌++◌, replicate, length, get_or, take, drop, Option, Some, None, option_map, refl, sym, ◌∙◌, ap, subst, arith, slice_index, codes}
use Rattle.std.proofs.lemmas.Bool.{cases_lt, cases_eq}
use Rattle.std.proofs.lemmas.List.{take-take, get_or-take, get_or-drop, get_or-replicate, length-replicate}
use Rattle.gp_disk.specs.Disk.{part, put, Outside, GrowsTorn}
use Rattle.gp_store.specs.Slots.{newer, newest}
use Rattle.gp_store.specs.Image.{OPEN, IsFormatted, HoldsRow, HoldsRows, slots, format_1, gate_at}
use Rattle.gp_store.specs.Writes.{GrowsBy, Becomes}
use Rattle.gp_store.specs.FormatWrites.{SameGate, SameEnds, Cleared, Named, SameBehind, Opened}
use Rattle.gp_store.specs.Formatting.{IsBlank, LeavesNoRows, KeepsRest}
use Rattle.gp_store.proofs.Parts.{octet-outside, octet-put, drop-outside, part-put, length-put, Outside-put, octet-part}
use Rattle.gp_store.proofs.Images.{slots_at_closed}
use Rattle.gp_store.proofs.Grows.{grows_torn, becomes_put, became_from}
use Rattle.gp_store.proofs.Recovered.{past}

-- what is written stands there, octet by octet
octet-written : (at : ℕ) (octets image : List ℕ) (i : ℕ) → at + length octets ≤ length image → at ≤ i → i < at + length octets → slice_index (put at octets image) i ≡ slice_index octets (i - at)
octet-written at octets image i fits from to =
    let e : at + (i - at) ≡ i = omega arith in
    ap (λ (m : ℕ). get_or (put at octets image) m 0) (sym e)
    ∙ sym (get_or-drop at (put at octets image) (i - at) 0)
    ∙ sym (get_or-take (length octets) (drop at (put at octets image)) (i - at) 0 (omega arith))
    ∙ ap (λ (l : List ℕ). get_or l (i - at) 0) (part-put at octets image fits)

-- a list that ends in zeros
ends_in_zeros : (octets : List ℕ) (i : ℕ) → drop 7 octets ≡ replicate 56 0 → 7 ≤ i → i < 63 → slice_index octets i ≡ 0
ends_in_zeros octets i zeros from to =
    let e : 7 + (i - 7) ≡ i = omega arith in
    ap (λ (m : ℕ). get_or octets m 0) (sym e) ∙ sym (get_or-drop 7 octets (i - 7) 0) ∙ ap (λ (l : List ℕ). get_or l (i - 7) 0) zeros ∙ get_or-replicate 56 (i - 7) 0 0 (omega arith)

pub name_written : (octets : List ℕ) (size : ℕ) (image new : Option (List ℕ)) → length octets ≡ 63 → part 0 7 octets ≡ codes "GPSINK" ++ 1 ∷ [] → drop 7 octets ≡ replicate 56 0 → ((d : List ℕ) → image ≡ Some d → length d ≡ size) → 204800 ≤ size → new ≡ option_map (put 1 octets) image → Becomes Named image new
name_written octets size image new sixty name zeros fits within is = becomes_put Named (put 1 octets) image new is (λ d e. named d (fits d e))
  where
    named : (d : List ℕ) → length d ≡ size → Named d (put 1 octets d)
    named d long =
        let f : 1 + length octets ≤ length d = omega (arith, sixty, long, within) in
        let o = Outside-put 1 octets d f in
        record {
          gate = octet-outside 1 (length octets) d (put 1 octets d) 0 o (inl (omega arith));
          size = length-put 1 octets d f;
          name =
              sym (take-take 7 (length octets) (drop 1 (put 1 octets d)) (omega (arith, sixty))) ∙ ap (λ (l : List ℕ). take 7 l) (part-put 1 octets d f) ∙ name;
          zeros = λ i from to. octet-written 1 octets d i f (omega (arith, from)) (omega (arith, sixty, to)) ∙ ends_in_zeros octets (i - 1) zeros (omega (arith, from)) (omega (arith, to));
          others = λ i from. octet-outside 1 (length octets) d (put 1 octets d) i o (inr (omega (arith, sixty, from)));
          behind = drop-outside 1 (length octets) d (put 1 octets d) 204800 o (omega (arith, sixty));
        }

-- a write behind the header's gate, and before the end of the image, that may be torn
pub ends_grow : (at n : ℕ) (image : Option (List ℕ)) (old new : List ℕ → Type 0) → GrowsTorn at n image old new → 1 ≤ at → at + n ≤ 204800 → GrowsBy SameEnds image old new
ends_grow at n image old new g low high = grows_torn at n SameEnds image old new g (λ d c is o. record { gate = octet-outside at n d c 0 o (inl (omega arith)); behind = drop-outside at n d c 204800 o high })

-- zeros behind the header's gate
pub cleared_written : (count size : ℕ) (image new : Option (List ℕ)) → ((d : List ℕ) → image ≡ Some d → length d ≡ size) → count + 1 ≤ 204800 → count + 1 ≤ size → new ≡ option_map (put 1 (replicate count 0)) image → Becomes (Cleared (count + 1)) image new
cleared_written count size image new fits within large is = becomes_put (Cleared (count + 1)) (put 1 (replicate count 0)) image new is (λ d e. cleared d (fits d e))
  where
    many : length {A = ℕ} (replicate count 0) ≡ count
    many = length-replicate count 0

    cleared : (d : List ℕ) → length d ≡ size → Cleared (count + 1) d (put 1 (replicate count 0) d)
    cleared d long =
        let f : 1 + length {A = ℕ} (replicate count 0) ≤ length d = omega (arith, many, long, large) in
        let o = Outside-put 1 (replicate count 0) d f in
        record {
          gate = octet-outside 1 (length {A = ℕ} (replicate count 0)) d (put 1 (replicate count 0) d) 0 o (inl (omega arith));
          behind = drop-outside 1 (length {A = ℕ} (replicate count 0)) d (put 1 (replicate count 0) d) 204800 o (omega (arith, many, within));
          size = length-put 1 (replicate count 0) d f;
          zeros = λ i from to. octet-written 1 (replicate count 0) d i f from (omega (arith, many, to)) ∙ get_or-replicate count (i - 1) 0 0 (omega (arith, from, to));
        }

same_behind : (d c : List ℕ) → Outside 0 1 d c → SameBehind d c
same_behind d c o = record {
  size = o.size;
  name = ap (λ (l : List ℕ). take 7 l) o.above;
  others = λ i from. octet-outside 0 1 d c i o (inr (omega (arith, from)));
  rest = drop-outside 0 1 d c 204800 o (omega arith);
}

-- the header's gate is written, and may be torn
pub gate_grows : (image : Option (List ℕ)) (old new : List ℕ → Type 0) → GrowsTorn 0 1 image old new → GrowsBy SameBehind image old new
gate_grows image old new g = grows_torn 0 1 SameBehind image old new g (λ d c is o. same_behind d c o)

pub gate_opened : (size : ℕ) (image new : Option (List ℕ)) → ((d : List ℕ) → image ≡ Some d → length d ≡ size) → 204800 ≤ size → new ≡ option_map (put 0 (OPEN ∷ [])) image → Becomes Opened image new
gate_opened size image new fits large is = becomes_put Opened (put 0 (OPEN ∷ [])) image new is (λ d e. let long = fits d e in record {
  behind = same_behind d (put 0 (OPEN ∷ []) d) (Outside-put 0 (OPEN ∷ []) d (omega (arith, long, large)));
  gate = octet-put 0 OPEN d (omega (arith, long, large));
})

-- the header as a list
header : (c : List ℕ) → 0 < length c → part 0 8 c ≡ slice_index c 0 ∷ part 1 7 c
header [] h = absurd (omega arith)
header (x ∷ xs) h = refl

-- an image whose header's gate is closed isn't formatted
pub closed_unformatted : (c : List ℕ) → (slice_index c 0 ≡ OPEN → ⊥) → IsFormatted c → ⊥
closed_unformatted c closed formatted = closed (sym (octet-part 0 8 c (omega arith)) ∙ ap (λ (l : List ℕ). slice_index l 0) formatted)

-- an image with this header, and zeros behind it, holds no rows
module _ (c : List ℕ) (gate : slice_index c 0 ≡ OPEN) (long : 204800 ≤ length c) (name : part 1 7 c ≡ codes "GPSINK" ++ 1 ∷ []) (zeros : (i : ℕ) → 64 ≤ i → i < 204800 → slice_index c i ≡ 0) where
  no_slot : (r : ℕ) (s : Bool) → slots format_1 c r s ≡ None
  no_slot r s = elim (cases_lt r 1024) [
    | inl less ↦ slots_at_closed format_1 c r s (λ is. let zero = zeros (gate_at format_1 r s) (low r s) (high r s less) in omega (arith, zero, is))
    | inr most ↦ past c r s most
  ]
    where
      low : (r : ℕ) (s : Bool) → 64 ≤ gate_at format_1 r s
      low r true = omega arith
      low r false = omega arith

      high : (r : ℕ) (s : Bool) → r < 1024 → gate_at format_1 r s < 204800
      high r true h = omega arith
      high r false h = omega arith

  none_is_not : (x : List ℕ) → None ≡ Some x → ⊥
  none_is_not x h = cc

  no_newest : (r : ℕ) → newest (slots format_1 c) r ≡ None
  no_newest r = ap (λ (x : Option (List ℕ)). newer x (slots format_1 c r true)) (no_slot r false) ∙ no_slot r true

  pub no_rows : HoldsRows c []
  unfolding HoldsRows
  no_rows = record {
    size = long;
    formatted = header c (omega (arith, long)) ∙ ap (λ (x : ℕ). x ∷ part 1 7 c) gate ∙ ap (λ (l : List ℕ). OPEN ∷ l) name;
    consistent = λ r s o e. absurd (none_is_not o (sym (no_slot r s) ∙ e));
    each = λ r. subst (λ x. HoldsRow 0 x None) (sym (no_newest r)) tt;
  }

-- after the octets were cleared and the header written, an image that agrees behind the header's gate
pub behind_no_rows : (a b c d : List ℕ) → Cleared 204800 a b → Named b c → SameBehind c d → slice_index d 0 ≡ OPEN → 204800 ≤ length a → HoldsRows d []
behind_no_rows a b c d cleared named behind gate long =
    no_rows d gate (omega (arith, long, cleared.size, named.size, behind.size)) (behind.name ∙ named.name)
    (λ i from to. behind.others i (omega (arith, from)) ∙ named.others i from ∙ cleared.zeros i (omega (arith, from)) to)

-- and all behind its first octets is zero
pub behind_blank : (a b c d : List ℕ) → Cleared 204800 a b → Named b c → SameBehind c d → IsBlank d
behind_blank a b c d cleared named behind i from to = elim (cases_lt i 64) [
  | inl less ↦ behind.others i (omega (arith, from)) ∙ named.zeros i from less
  | inr most ↦ behind.others i (omega (arith, from)) ∙ named.others i most ∙ cleared.zeros i (omega (arith, from)) to
]

-- whatever that gate is
pub behind_either : (a b c d : List ℕ) → Cleared 204800 a b → Named b c → SameBehind c d → 204800 ≤ length a → (IsFormatted d → ⊥) ⊎ HoldsRows d []
behind_either a b c d cleared named behind long = elim (cases_eq (slice_index d 0) OPEN) [
  | inl is ↦ inr (behind_no_rows a b c d cleared named behind is long)
  | inr other ↦ inl (closed_unformatted d other)
]

-- the writes of a formatting, one after another: what a crash leaves while they are made, of the rows and behind the image
module _ (first : Option (List ℕ)) (closed : (d : List ℕ) → first ≡ Some d → slice_index d 0 ≡ OPEN → ⊥) (l0 l1 : List ℕ → Type 0) (g : GrowsBy SameEnds first l0 l1) where
  unformatted : (a c : List ℕ) → first ≡ Some a → SameGate a c → IsFormatted c → ⊥
  unformatted a c is same = closed_unformatted c (λ gate. closed a is (sym same ∙ gate))

  pub cleared_since : (c : List ℕ) → l1 c → LeavesNoRows l0 c
  cleared_since c left = ⊎_elim (λ was. inl was) (λ t. inr (inl (unformatted t.0 c t.1 t.2.gate))) (g.none c left)

  pub cleared_rest : ((d : List ℕ) → first ≡ Some d → l0 d) → (c : List ℕ) → l1 c → KeepsRest l0 c
  cleared_rest now c left = ⊎_elim (λ was. (c, was, refl)) (λ t. (t.0, now t.0 t.1, t.2.behind)) (g.none c left)

  module _ (second : Option (List ℕ)) (cleared : Becomes (Cleared 204800) first second) (l2 : List ℕ → Type 0) (h : GrowsBy SameEnds second l1 l2) where
    pub named_since : (c : List ℕ) → l2 c → LeavesNoRows l0 c
    named_since c left = ⊎_elim (λ was. cleared_since c was) (λ t. let a = became_from (Cleared 204800) first second t.0 cleared t.1 in inr (inl (unformatted a.0 c a.1 (t.2.gate ∙ a.2.gate)))) (h.none c left)

    pub named_rest : ((d : List ℕ) → first ≡ Some d → l0 d) → (c : List ℕ) → l2 c → KeepsRest l0 c
    named_rest now c left = ⊎_elim (λ was. cleared_rest now c was) (λ t. let a = became_from (Cleared 204800) first second t.0 cleared t.1 in (a.0, now a.0 a.1, t.2.behind ∙ a.2.behind)) (h.none c left)

-- all the writes of a formatting, one after another
module _ (first second third : Option (List ℕ)) (size : ℕ) (fits : (d : List ℕ) → first ≡ Some d → length d ≡ size) (large : 204800 ≤ size) (closed : (d : List ℕ) → first ≡ Some d → slice_index d 0 ≡ OPEN → ⊥)
    (cleared : Becomes (Cleared 204800) first second) (named : Becomes Named second third) where
  -- the images before
  chain : (d : List ℕ) → third ≡ Some d → (a : List ℕ) × (b : List ℕ) × (first ≡ Some a) × Cleared 204800 a b × Named b d
  chain d is =
      let b = became_from Named second third d named is in
      let a = became_from (Cleared 204800) first second b.0 cleared b.1 in
      (a.0, b.0, a.1, a.2, b.2)

  long : (a : List ℕ) → first ≡ Some a → 204800 ≤ length a
  long a is = let f = fits a is in omega (arith, f, large)

  pub opened_no_rows : (last : Option (List ℕ)) → Becomes Opened third last → (d : List ℕ) → last ≡ Some d → HoldsRows d []
  opened_no_rows last opened d is =
      let c = became_from Opened third last d opened is in
      let f = chain c.0 c.1 in
      behind_no_rows f.0 f.1 c.0 d f.3 f.4 c.2.behind c.2.gate (long f.0 f.2)

  pub opened_blank : (last : Option (List ℕ)) → Becomes Opened third last → (d : List ℕ) → last ≡ Some d → IsBlank d
  opened_blank last opened d is =
      let c = became_from Opened third last d opened is in
      let f = chain c.0 c.1 in
      behind_blank f.0 f.1 c.0 d f.3 f.4 c.2.behind

  pub empty_since : (l0 l1 l2 l3 : List ℕ → Type 0) → GrowsBy SameEnds first l0 l1 → GrowsBy SameEnds second l1 l2 → GrowsBy SameBehind third l2 l3 → (c : List ℕ) → l3 c → LeavesNoRows l0 c
  empty_since l0 l1 l2 l3 g h k c left = ⊎_elim (λ was. named_since first closed l0 l1 g second cleared l2 h c was) (λ t. let f = chain t.0 t.1 in inr (behind_either f.0 f.1 t.0 c f.3 f.4 t.2 (long f.0 f.2))) (k.none c left)

  pub empty_rest : (l0 l1 l2 l3 : List ℕ → Type 0) → ((d : List ℕ) → first ≡ Some d → l0 d) → GrowsBy SameEnds first l0 l1 → GrowsBy SameEnds second l1 l2 → GrowsBy SameBehind third l2 l3 → (c : List ℕ) → l3 c → KeepsRest l0 c
  empty_rest l0 l1 l2 l3 now g h k c left = ⊎_elim (λ was. named_rest first closed l0 l1 g second cleared l2 h now c was) (λ t. let f = chain t.0 t.1 in (f.0, now f.0 f.2, t.2.rest ∙ f.4.behind ∙ f.3.behind)) (k.none c left)
