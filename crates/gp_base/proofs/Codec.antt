-- Fields at places, and fields spelled out, are the same. They serve every format.
use Rattle.std.proofs.Common.{◌≡◌, ℕ, ◌+◌, ◌-◌, ◌^◌, ◌<◌, ◌≤◌, Bool, true, false, List, [], ◌∷◌, ◌++◌, length, get_or, take, drop, Option, Some, None, refl, sym, ap, subst, ◌∙◌, arith, inl, inr, add-zero, drop-cons, add-one, length-append, length-drop}
use Rattle.std.specs.Prelude.{IfSome, is_some, slice_index}
use Rattle.std.specs.Int.{w16, w32, w64, from_le_bytes, to_le_bytes}
use Rattle.std.proofs.lemmas.Bool.{cases_lt}
use Rattle.std.proofs.lemmas.List.{take_at, drop_at, drop-drop, take-append-drop, length-take, get_or-drop, get_or-take, get_or_past}
use Rattle.std.proofs.lemmas.Nat.{le_bytes_2, le_bytes_4, from_le_bytes-to_le_bytes_2, from_le_bytes-to_le_bytes_4}
use Rattle.gp_base.specs.Field.{IsOctets, agree, eight_at, four_at, optional, part, two_at, octet, key_octets, counted, octet_at, key_at, size_if, value_if}
use Rattle.gp_base.specs.declared.identity.Src.{Src}
use Rattle.gp_base.proofs.Flags.{agree_is, agree_same}

-- ---- octets

pub IsOctets-drop : (n : ℕ) (b : List ℕ) → IsOctets b → IsOctets (drop n b)
IsOctets-drop n b h i = rw get_or-drop (h (n + i))

pub IsOctets-take : (n : ℕ) (b : List ℕ) → IsOctets b → IsOctets (take n b)
IsOctets-take n b h i =
    elim (cases_lt i n) [
      | inl lt ↦ rw (get_or-take n b i 0 lt) (h i)
      | inr le ↦ rw (get_or_past (take n b) i 0 (omega (arith, length-take n b))) (omega arith)
    ]

-- ---- what stands from a place on

pub record At (b : List ℕ) (p : ℕ) (r : List ℕ) : Type 0 where
  pub rest : drop p b ≡ r
  pub within : p ≤ length b

pub At-after : (b : List ℕ) (p : ℕ) (xs r : List ℕ) → At b p (xs ++ r) → At b (p + length xs) r
At-after b p xs r at =
    let len : length b - p ≡ length xs + length r = sym (length-drop p b) ∙ ap length at.rest ∙ length-append xs r in
    record {
      rest = sym (drop-drop (length xs) p b) ∙ ap (drop (length xs)) at.rest ∙ drop_at xs r (length xs) refl;
      within = omega (arith, len, at.within);
    }

pub At-taken : (b : List ℕ) (p : ℕ) (xs r : List ℕ) → At b p (xs ++ r) → take (length xs) (drop p b) ≡ xs
At-taken b p xs r at = ap (take (length xs)) at.rest ∙ take_at xs r (length xs) refl

pub At-octet : (b : List ℕ) (p x : ℕ) (r : List ℕ) → At b p (x ∷ r) → octet_at b p ≡ x
At-octet b p x r at = ap (λ i. get_or b i 0) (sym (add-zero p)) ∙ sym (get_or-drop p b 0 0) ∙ ap (λ l. get_or l 0 0) at.rest

pub At-first : (b : List ℕ) (p : ℕ) (xs r : List ℕ) → At b p (xs ++ r) → 0 < length xs → octet_at b p ≡ octet_at xs 0
At-first b p [] r at lt = absurd (omega arith)
At-first b p (x ∷ xs) r at lt = At-octet b p x (xs ++ r) at

pub split_octet : (b : List ℕ) (p : ℕ) → p < length b → drop p b ≡ octet_at b p ∷ drop (p + 1) b
split_octet b p lt = rw (add-one, drop-cons b p 0) refl

pub split_octets : (n : ℕ) (b : List ℕ) (p : ℕ) → drop p b ≡ part b p n ++ drop (p + n) b
split_octets n b p = sym (take-append-drop n (drop p b)) ∙ ap (λ (l : List ℕ). take n (drop p b) ++ l) (drop-drop n p b)

pub length-octets_at : (n : ℕ) (b : List ℕ) (p : ℕ) → p + n ≤ length b → length (part b p n) ≡ n
length-octets_at n b p h = omega (arith, length-take n (drop p b), length-drop p b)

pub join : (b : List ℕ) (p q : ℕ) (f g : List ℕ) → drop p b ≡ f ++ drop q b → drop q b ≡ g → drop p b ≡ f ++ g
join b p q f g e h = e ∙ ap (λ (l : List ℕ). f ++ l) h

-- ---- a field: its octets, its size and its value at a place, and which values have octets

pub record IsCodec {X : Type 0} (spell : X → List ℕ) (size : List ℕ → ℕ → ℕ) (at : List ℕ → ℕ → X) (Fit : X → Type 0) : Type 0 where
  pub split : (b : List ℕ) (p : ℕ) → IsOctets b → p + size b p ≤ length b → (drop p b ≡ spell (at b p) ++ drop (p + size b p) b) × Fit (at b p)
  pub again : (b : List ℕ) (p : ℕ) (x : X) (r : List ℕ) → At b p (spell x ++ r) → Fit x → (at b p ≡ x) × At b (p + size b p) r

-- one octet
pub octet_codec : IsCodec octet (λ _ _. 1) octet_at (λ _. Unit {0})
octet_codec = record {
  split = λ b p bytes h. (split_octet b p (omega arith), tt);
  again = λ b p x r at fit. (At-octet b p x r at, At-after b p (x ∷ []) r at);
}

-- so many octets, read and written
pub record IsFixed {X : Type 0} (n : ℕ) (spell : X → List ℕ) (read : List ℕ → X) (Fit : X → Type 0) : Type 0 where
  pub len : (x : X) → Fit x → length (spell x) ≡ n
  pub back : (xs : List ℕ) → IsOctets xs → length xs ≡ n → spell (read xs) ≡ xs
  pub fit : (xs : List ℕ) → IsOctets xs → length xs ≡ n → Fit (read xs)
  pub again : (x : X) → Fit x → read (spell x) ≡ x

pub fixed_codec : {X : Type 0} (n : ℕ) (spell : X → List ℕ) (read : List ℕ → X) (Fit : X → Type 0) → IsFixed n spell read Fit → IsCodec spell (λ _ _. n) (λ b p. read (part b p n)) Fit
fixed_codec {X} n spell read Fit f = record {
  split = λ b p bytes h.
      let xs = part b p n in
      let len = length-octets_at n b p h in
      let fits : IsOctets xs = IsOctets-take n (drop p b) (IsOctets-drop p b bytes) in
      (split_octets n b p ∙ ap (λ (l : List ℕ). l ++ drop (p + n) b) (sym (f.back xs fits len)), f.fit xs fits len);
  again = λ b p x r at fit.
      let len = f.len x fit in
      let taken : take n (drop p b) ≡ spell x = subst (λ (k : ℕ). take k (drop p b) ≡ spell x) len (At-taken b p (spell x) r at) in
      (ap read taken ∙ f.again x fit, subst (λ (k : ℕ). At b (p + k) r) len (At-after b p (spell x) r at));
}

-- a codec whose value at a place is told in another way
pub retold : {X : Type 0} (spell : X → List ℕ) (size : List ℕ → ℕ → ℕ) (at : List ℕ → ℕ → X) (Fit : X → Type 0) → IsCodec spell size at Fit
    → (told : List ℕ → ℕ → X) → ((b : List ℕ) (p : ℕ) → told b p ≡ at b p) → IsCodec spell size told Fit
retold {X} spell size at Fit codec told same = record {
  split = λ b p bytes h.
      subst (λ (x : X). (drop p b ≡ spell x ++ drop (p + size b p) b) × Fit x) (sym (same b p)) (codec.split b p bytes h);
  again = λ b p x r here fit.
      let found = codec.again b p x r here fit in
      (same b p ∙ found.0, found.1);
}

-- an octet of a part, and its first
pub octet_of_part : (b : List ℕ) (p n i : ℕ) → i < n → slice_index b (p + i) ≡ slice_index (part b p n) i
octet_of_part b p n i lt = sym (get_or-take n (drop p b) i 0 lt ∙ get_or-drop p b i 0)

pub first_of_part : (b : List ℕ) (p n : ℕ) → 0 < n → slice_index b p ≡ slice_index (part b p n) 0
first_of_part b p n lt = ap (λ (k : ℕ). slice_index b k) (sym (add-zero p)) ∙ octet_of_part b p n 0 lt

-- a number at a place is the number in a part
pub two_told : (b : List ℕ) (p : ℕ) → two_at b p ≡ from_le_bytes w16 (part b p 2)
two_told b p = rw (first_of_part b p 2 (omega arith), octet_of_part b p 2 1 (omega arith)) refl

pub four_told : (b : List ℕ) (p : ℕ) → four_at b p ≡ from_le_bytes w32 (part b p 4)
four_told b p = rw (first_of_part b p 4 (omega arith), octet_of_part b p 4 1 (omega arith), octet_of_part b p 4 2 (omega arith), octet_of_part b p 4 3 (omega arith)) refl

pub eight_told : (b : List ℕ) (p : ℕ) → eight_at b p ≡ from_le_bytes w64 (part b p 8)
eight_told b p = rw (first_of_part b p 8 (omega arith), octet_of_part b p 8 1 (omega arith), octet_of_part b p 8 2 (omega arith), octet_of_part b p 8 3 (omega arith), octet_of_part b p 8 4 (omega arith), octet_of_part b p 8 5 (omega arith), octet_of_part b p 8 6 (omega arith), octet_of_part b p 8 7 (omega arith)) refl

pub number16_codec : IsCodec (to_le_bytes w16) (λ _ _. 2) two_at (λ n. n < 2 ^ 16)
number16_codec = retold _ _ _ _ (fixed_codec 2 (to_le_bytes w16) (from_le_bytes w16) (λ n. n < 2 ^ 16) (record {
  len = λ n fit. refl;
  back = λ xs bytes len. le_bytes_2 xs _ len bytes refl;
  fit = λ xs bytes len. omega (arith, bytes 0, bytes 1);
  again = λ n lt. from_le_bytes-to_le_bytes_2 n lt;
})) two_at two_told

pub number32_codec : IsCodec (to_le_bytes w32) (λ _ _. 4) four_at (λ n. n < 2 ^ 32)
number32_codec = retold _ _ _ _ (fixed_codec 4 (to_le_bytes w32) (from_le_bytes w32) (λ n. n < 2 ^ 32) (record {
  len = λ n fit. refl;
  back = λ xs bytes len. le_bytes_4 xs _ len bytes refl;
  fit = λ xs bytes len. omega (arith, bytes 0, bytes 1, bytes 2, bytes 3);
  again = λ n lt. from_le_bytes-to_le_bytes_4 n lt;
})) four_at four_told

-- a SrcID in four octets
pub src_codec : IsCodec {X = Src} (λ src. to_le_bytes w32 src.0) (λ _ _. 4) (λ b p. record { 0 = four_at b p }) (λ src. src.0 < 2 ^ 32)
src_codec = record {
  split = λ b p bytes h. number32_codec.split b p bytes h;
  again = λ b p x r at fit. let k = number32_codec.again b p x.0 r at fit in (ap (λ (n : ℕ). record { 0 = n }) k.0, k.1);
}

pub octets_codec : (n : ℕ) → IsCodec (λ (xs : List ℕ). xs) (λ _ _. n) (λ b p. part b p n) (λ xs. length xs ≡ n)
octets_codec n = fixed_codec n (λ xs. xs) (λ xs. xs) (λ xs. length xs ≡ n) (record {
  len = λ xs h. h;
  back = λ xs bytes len. refl;
  fit = λ xs bytes len. len;
  again = λ xs h. refl;
})

pub key_codec : IsCodec key_octets (λ _ _. 16) key_at (λ key. length (key_octets key) ≡ 16)
key_codec = fixed_codec 16 key_octets (λ xs. record { 0 = xs }) (λ key. length (key_octets key) ≡ 16) (record {
  len = λ key h. h;
  back = λ xs bytes len. refl;
  fit = λ xs bytes len. len;
  again = λ key h. refl;
})

-- a list behind its length
pub counted_codec : IsCodec counted (λ b p. 1 + octet_at b p) (λ b p. part b (p + 1) (octet_at b p)) (λ _. Unit {0})
counted_codec = record {
  split = λ b p bytes h.
      let count = octet_at b p in
      let len = length-octets_at count b (p + 1) (omega arith) in
      let first : drop p b ≡ count ∷ drop (p + 1) b = split_octet b p (omega arith) in
      let second = split_octets count b (p + 1) in
      let place : (p + 1) + count ≡ p + (1 + count) = omega arith in (
        first ∙ ap (λ (l : List ℕ). count ∷ l) (second ∙ ap (λ (k : ℕ). part b (p + 1) count ++ drop k b) place)
            ∙ ap (λ (k : ℕ). k ∷ (part b (p + 1) count ++ drop (p + (1 + count)) b)) (sym len),
        tt,
      );
  again = λ b p xs r at fit.
      let count = At-octet b p (length xs) (xs ++ r) at in
      let next : At b (p + 1) (xs ++ r) = At-after b p (length xs ∷ []) (xs ++ r) at in
      let taken = At-taken b (p + 1) xs r next in
      let after : At b ((p + 1) + length xs) r = At-after b (p + 1) xs r next in
      let place : (p + 1) + length xs ≡ p + (1 + octet_at b p) = omega (arith, count) in
      (ap (λ (k : ℕ). part b (p + 1) k) count ∙ taken, subst (λ (k : ℕ). At b k r) place after);
}

-- a list whose first octet gives its length
pub led_codec : (size : ℕ → ℕ) → IsCodec (λ (xs : List ℕ). xs) (λ b p. 1 + size (octet_at b p)) (λ b p. part b p (1 + size (octet_at b p))) (λ xs. length xs ≡ 1 + size (octet_at xs 0))
led_codec size = record {
  split = λ b p bytes h.
      let n = 1 + size (octet_at b p) in
      let len = length-octets_at n b p h in
      let first : octet_at b p ≡ octet_at (part b p n) 0 = At-first b p (part b p n) (drop (p + n) b) (record { rest = split_octets n b p; within = omega arith }) (omega (arith, len)) in
      (split_octets n b p, len ∙ ap (λ (k : ℕ). 1 + size k) first);
  again = λ b p xs r at fit.
      let first : octet_at b p ≡ octet_at xs 0 = At-first b p xs r at (omega (arith, fit)) in
      let n : length xs ≡ 1 + size (octet_at b p) = fit ∙ ap (λ (k : ℕ). 1 + size k) (sym first) in
      (subst (λ (k : ℕ). part b p k ≡ xs) n (At-taken b p xs r at), subst (λ (k : ℕ). At b (p + k) r) n (At-after b p xs r at));
}

-- ---- a field that is there or not

pub record IsField {X : Type 0} (there : Bool) (Fit : X → Type 0) (o : Option X) : Type 0 where
  pub there_is : is_some o ≡ there
  pub fit : IfSome o Fit

-- the same by the test of a program, and back
pub field_from : {X : Type 0} (there : Bool) (Fit : X → Type 0) (o : Option X) → agree (is_some o) there ≡ true → IfSome o Fit → IsField there Fit o
field_from there Fit o e fit = record { there_is = agree_is _ _ e; fit = fit }

pub field_agrees : {X : Type 0} (there : Bool) (Fit : X → Type 0) (o : Option X) → IsField there Fit o → agree (is_some o) there ≡ true
field_agrees there Fit o field = agree_same _ _ field.there_is

-- a value of which nothing is asked fits
pub anything : {X : Type 0} (o : Option X) → IfSome o (λ _. Unit {0})
anything None = tt
anything (Some x) = tt

optional_split : {X : Type 0} (spell : X → List ℕ) (size : List ℕ → ℕ → ℕ) (at : List ℕ → ℕ → X) (Fit : X → Type 0) → IsCodec spell size at Fit
    → (there : Bool) (b : List ℕ) (p : ℕ) → IsOctets b → p + size_if there (size b p) ≤ length b
    → (drop p b ≡ optional spell (value_if there (at b p)) ++ drop (p + size_if there (size b p)) b) × IsField there Fit (value_if there (at b p))
optional_split {X} spell size at Fit codec true b p bytes h =
    let field = codec.split b p bytes h in
    (field.0, record { there_is = refl; fit = field.1 })
optional_split {X} spell size at Fit codec false b p bytes h =
    (ap (λ (k : ℕ). drop k b) (sym (add-zero p)), record { there_is = refl; fit = tt })

optional_again : {X : Type 0} (spell : X → List ℕ) (size : List ℕ → ℕ → ℕ) (at : List ℕ → ℕ → X) (Fit : X → Type 0) → IsCodec spell size at Fit
    → (there : Bool) (b : List ℕ) (p : ℕ) (o : Option X) (r : List ℕ) → At b p (optional spell o ++ r) → IsField there Fit o
    → (value_if there (at b p) ≡ o) × At b (p + size_if there (size b p)) r
optional_again {X} spell size at Fit codec true b p (Some x) r here field =
    let found = codec.again b p x r here field.fit in
    (ap (λ (y : X). Some y) found.0, found.1)
optional_again {X} spell size at Fit codec true b p None r here field = absurd (let e = field.there_is in cc)
optional_again {X} spell size at Fit codec false b p (Some x) r here field = absurd (let e = field.there_is in cc)
optional_again {X} spell size at Fit codec false b p None r here field = (refl, subst (λ (k : ℕ). At b k r) (sym (add-zero p)) here)

pub optional_codec : {X : Type 0} (spell : X → List ℕ) (size : List ℕ → ℕ → ℕ) (at : List ℕ → ℕ → X) (Fit : X → Type 0) → IsCodec spell size at Fit
    → (there : Bool) → IsCodec (optional spell) (λ b p. size_if there (size b p)) (λ b p. value_if there (at b p)) (IsField there Fit)
optional_codec {X} spell size at Fit codec there = record {
  split = optional_split spell size at Fit codec there;
  again = optional_again spell size at Fit codec there;
}
