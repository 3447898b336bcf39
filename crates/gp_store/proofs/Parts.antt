-- Parts of images, and images that agree outside a range.
use Rattle.std.proofs.Common.{◌≡◌, ◌⊎◌, inl, inr, ℕ, ◌+◌, ◌-◌, ◌<◌, ◌≤◌, List, [], ◌∷◌, ◌++◌, length, get_or, take, drop, refl, sym, ◌∙◌, ap, arith, length-append, length-drop, slice_index, append_assoc}
use Rattle.std.proofs.lemmas.List.{drop-take, take-take, drop-drop, get_or-take, get_or-drop, take_at, drop_at, get_or_at, length-take-le}
use Rattle.gp_disk.specs.Disk.{part, put, Outside}

-- a part that ends by n is a part of the first n
part-take : (i k n : ℕ) (xs : List ℕ) → i + k ≤ n → part i k (take n xs) ≡ part i k xs
part-take i k n xs h =
    let e : i + (n - i) ≡ n = omega arith in
    ap (λ (m : ℕ). take k (drop i (take m xs))) (sym e) ∙ ap (λ (l : List ℕ). take k l) (drop-take i (n - i) xs) ∙ take-take k (n - i) (drop i xs) (omega arith)

-- a part from n on is a part of what is behind the first n
part-drop : (i k n : ℕ) (xs : List ℕ) → n ≤ i → part i k xs ≡ part (i - n) k (drop n xs)
part-drop i k n xs h =
    let e : n + (i - n) ≡ i = omega arith in
    ap (λ (m : ℕ). take k (drop m xs)) (sym e) ∙ ap (λ (l : List ℕ). take k l) (sym (drop-drop (i - n) n xs))

-- a part that misses the range is the same
pub part-outside : (at n : ℕ) (old new : List ℕ) (i k : ℕ) → Outside at n old new → ((i + k ≤ at) ⊎ (at + n ≤ i)) → part i k new ≡ part i k old
part-outside at n old new i k o (inl below) =
    sym (part-take i k at new below) ∙ ap (λ (l : List ℕ). part i k l) o.below ∙ part-take i k at old below
part-outside at n old new i k o (inr above) =
    part-drop i k (at + n) new above ∙ ap (λ (l : List ℕ). part (i - (at + n)) k l) o.above ∙ sym (part-drop i k (at + n) old above)

-- what is behind the range is the same
pub drop-outside : (at n : ℕ) (old new : List ℕ) (end : ℕ) → Outside at n old new → at + n ≤ end → drop end new ≡ drop end old
drop-outside at n old new end o above = from new ∙ ap (λ (l : List ℕ). drop (end - (at + n)) l) o.above ∙ sym (from old)
  where
    from : (xs : List ℕ) → drop end xs ≡ drop (end - (at + n)) (drop (at + n) xs)
    from xs = let e : at + n + (end - (at + n)) ≡ end = omega arith in ap (λ (m : ℕ). drop m xs) (sym e) ∙ sym (drop-drop (end - (at + n)) (at + n) xs)

-- an octet that misses the range is the same
pub octet-outside : (at n : ℕ) (old new : List ℕ) (i : ℕ) → Outside at n old new → ((i < at) ⊎ (at + n ≤ i)) → slice_index new i ≡ slice_index old i
octet-outside at n old new i o (inl below) =
    sym (get_or-take at new i 0 below) ∙ ap (λ (l : List ℕ). get_or l i 0) o.below ∙ get_or-take at old i 0 below
octet-outside at n old new i o (inr above) =
    let e : at + n + (i - (at + n)) ≡ i = omega arith in
    let one : get_or new i 0 ≡ get_or (drop (at + n) new) (i - (at + n)) 0 = ap (λ (m : ℕ). get_or new m 0) (sym e) ∙ sym (get_or-drop (at + n) new (i - (at + n)) 0) in
    let two : get_or (drop (at + n) old) (i - (at + n)) 0 ≡ get_or old i 0 = get_or-drop (at + n) old (i - (at + n)) 0 ∙ ap (λ (m : ℕ). get_or old m 0) e in
    one ∙ ap (λ (l : List ℕ). get_or l (i - (at + n)) 0) o.above ∙ two

module _ (at : ℕ) (octets image : List ℕ) (fits : at + length octets ≤ length image) where
  front : length (take at image) ≡ at
  front = length-take-le at image (omega arith)

  grouped : put at octets image ≡ take at image ++ (octets ++ drop (at + length octets) image)
  grouped = append_assoc (take at image) octets (drop (at + length octets) image)

  -- what is written stands there
  pub part-put : part at (length octets) (put at octets image) ≡ octets
  part-put =
      ap (λ (l : List ℕ). part at (length octets) l) grouped
      ∙ ap (λ (l : List ℕ). take (length octets) l) (drop_at (take at image) (octets ++ drop (at + length octets) image) at front)
      ∙ take_at octets (drop (at + length octets) image) (length octets) refl

  pub length-put : length (put at octets image) ≡ length image
  length-put = omega (arith, front, length-append (take at image) octets, length-append (take at image ++ octets) (drop (at + length octets) image), length-drop (at + length octets) image)

  whole : length (take at image ++ octets) ≡ at + length octets
  whole = omega (arith, front, length-append (take at image) octets)

  -- a write changes nothing outside its range
  pub Outside-put : Outside at (length octets) image (put at octets image)
  Outside-put = record {
    size = length-put;
    below = ap (λ (l : List ℕ). take at l) grouped ∙ take_at (take at image) (octets ++ drop (at + length octets) image) at front;
    above = drop_at (take at image ++ octets) (drop (at + length octets) image) (at + length octets) whole;
  }

-- what is written at one place stands there
pub octet-put : (at x : ℕ) (image : List ℕ) → at < length image → slice_index (put at (x ∷ []) image) at ≡ x
octet-put at x image within =
    let fits : at + length (x ∷ []) ≤ length image = omega arith in
    ap (λ (l : List ℕ). get_or l at 0) (grouped at (x ∷ []) image fits) ∙ get_or_at (take at image) x (drop (at + 1) image) 0 at (front at (x ∷ []) image fits)

-- the first octet of a part
pub octet-part : (at n : ℕ) (image : List ℕ) → 0 < n → slice_index (part at n image) 0 ≡ slice_index image at
octet-part at n image some = get_or-take n (drop at image) 0 0 some ∙ get_or-drop at image 0 0 ∙ ap (λ (m : ℕ). get_or image m 0) (let e : at + 0 ≡ at = omega arith in e)

-- a part of a part
pub part-part : (at n i k : ℕ) (image : List ℕ) → i + k ≤ n → part i k (part at n image) ≡ part (at + i) k image
part-part at n i k image within = part-take i k n (drop at image) within ∙ ap (λ (l : List ℕ). take k l) (drop-drop i at image)
