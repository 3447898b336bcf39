-- What the cipher makes of octets are octets, and so is the spelling of a frame.
use Rattle.std.proofs.Common.{◌≡◌, ℕ, zero, suc, ◌+◌, ◌-◌, ◌*◌, ◌%◌, ◌<◌, ◌≤◌, Bool, true, false, List, [], ◌∷◌, ◌++◌, take, length, Option, Some, refl, sym, subst, arith}
use Rattle.std.specs.Prelude.{nat_lt, bit_xor, is_some}
use Rattle.std.specs.Int.{w16, w32, to_le_bytes}
use Rattle.std.proofs.lemmas.Bool.{agree_below_at, ltb-true}
use Rattle.std.proofs.lemmas.Nat.{xor_lt}
use Rattle.gp_base.specs.declared.identity.Src.{Src}
use Rattle.gp_base.specs.Field.{IsOctets, flag, joined, octet, optional}
use Rattle.gp_frames.specs.declared.frame.Ext.{Ext}
use Rattle.gp_frames.specs.declared.frame.Gpdf.{Gpdf}
use Rattle.gp_frames.specs.Frame.{control, extension, header, spelling}
use Rattle.gp_aes.specs.Field.{sub_byte, inverse, affine, times_x}
use Rattle.gp_aes.specs.State.{at, column, state_of}
use Rattle.gp_aes.specs.KeyExpansion.{add_words, sub_word, rot_word, power_of_x, round_constant, next_round_key, round_key}
use Rattle.gp_aes.specs.Cipher.{sub_bytes, shift_rows, after_rounds, cipher}
use Rattle.gp_ccm.specs.Blocks.{xor_octets, block_count, blocks_of}
use Rattle.gp_ccm.specs.Ccm.{chain, chained, first_block, header_blocks, stream_block, counter_block, key_stream, encrypted, tag_of}

-- ---- lists of octets

pub none-octets : IsOctets []
none-octets i = omega arith

pub cons-octets : (x : ℕ) (xs : List ℕ) → x < 256 → IsOctets xs → IsOctets (x ∷ xs)
cons-octets x xs first rest zero = first
cons-octets x xs first rest (suc i) = rest i

-- one by one
abbrev EachSmall : List ℕ → Type 0
EachSmall [] = Unit {0}
EachSmall (x ∷ xs) = (x < 256) × EachSmall xs

each-octets : (xs : List ℕ) → EachSmall xs → IsOctets xs
each-octets [] h = none-octets
each-octets (x ∷ xs) h = cons-octets x xs h.0 (each-octets xs h.1)

pub append-octets : (xs ys : List ℕ) → IsOctets xs → IsOctets ys → IsOctets (xs ++ ys)
append-octets [] ys one other i = other i
append-octets (x ∷ xs) ys one other zero = one 0
append-octets (x ∷ xs) ys one other (suc i) = append-octets xs ys (λ j. one (suc j)) other i

pub take-octets : (n : ℕ) (xs : List ℕ) → IsOctets xs → IsOctets (take n xs)
take-octets zero xs h = none-octets
take-octets (suc n) [] h = none-octets
take-octets (suc n) (x ∷ xs) h = cons-octets x (take n xs) (h 0) (take-octets n xs (λ j. h (suc j)))

pub xor-octets : (xs ys : List ℕ) → IsOctets xs → IsOctets ys → IsOctets (xor_octets xs ys)
xor-octets [] ys one other = none-octets
xor-octets (x ∷ xs) [] one other = none-octets
xor-octets (x ∷ xs) (y ∷ ys) one other =
    cons-octets (bit_xor x y) (xor_octets xs ys) (xor_lt 8 x y (one 0) (other 0)) (xor-octets xs ys (λ j. one (suc j)) (λ j. other (suc j)))

-- ---- the cipher

state-octets : (f : ℕ → ℕ → ℕ) → ((r c : ℕ) → f r c < 256) → IsOctets (state_of f)
state-octets f h = each-octets (state_of f) (h 0 0, (h 1 0, (h 2 0, (h 3 0, (h 0 1, (h 1 1, (h 2 1, (h 3 1, (h 0 2, (h 1 2, (h 2 2, (h 3 2, (h 0 3, (h 1 3, (h 2 3, (h 3 3, tt))))))))))))))))

affine-small : (b : ℕ) → affine b < 256
affine-small b = omega arith

sub_byte-small : (b : ℕ) → sub_byte b < 256
unfolding sub_byte
sub_byte-small b = affine-small (inverse b)

times_x-small : (b : ℕ) → b < 256 → times_x b < 256
times_x-small b h = ltb-true (times_x b) 256 (agree_below_at (λ n. nat_lt (times_x n) 256) (λ n. true) 256 b refl h)

power-small : (n : ℕ) → power_of_x n < 256
power-small zero = omega arith
power-small (suc n) = times_x-small (power_of_x n) (power-small n)

words-octets : (xs ys : List ℕ) → IsOctets xs → IsOctets ys → IsOctets (add_words xs ys)
words-octets [] ys one other = none-octets
words-octets (x ∷ xs) [] one other = none-octets
words-octets (x ∷ xs) (y ∷ ys) one other =
    cons-octets (bit_xor x y) (add_words xs ys) (xor_lt 8 x y (one 0) (other 0)) (words-octets xs ys (λ j. one (suc j)) (λ j. other (suc j)))

sub_word-octets : (xs : List ℕ) → IsOctets (sub_word xs)
sub_word-octets [] = none-octets
sub_word-octets (x ∷ xs) = cons-octets (sub_byte x) (sub_word xs) (sub_byte-small x) (sub_word-octets xs)

column-octets : (s : List ℕ) (c : ℕ) → IsOctets s → IsOctets (column s c)
column-octets s c h = each-octets (column s c) (h (0 + 4 * c), (h (1 + 4 * c), (h (2 + 4 * c), (h (3 + 4 * c), tt))))

constant-octets : (j : ℕ) → IsOctets (round_constant j)
constant-octets j = each-octets (round_constant j) (power-small (j - 1), ((omega arith), ((omega arith), ((omega arith), tt))))

next-octets : (j : ℕ) (k : List ℕ) → IsOctets k → IsOctets (next_round_key j k)
next-octets j k h =
    let turned = words-octets (sub_word (rot_word (column k 3))) (round_constant j) (sub_word-octets (rot_word (column k 3))) (constant-octets j) in
    let w0 = add_words (column k 0) (add_words (sub_word (rot_word (column k 3))) (round_constant j)) in
    let h0 : IsOctets w0 = words-octets (column k 0) (add_words (sub_word (rot_word (column k 3))) (round_constant j)) (column-octets k 0 h) turned in
    let w1 = add_words (column k 1) w0 in
    let h1 : IsOctets w1 = words-octets (column k 1) w0 (column-octets k 1 h) h0 in
    let w2 = add_words (column k 2) w1 in
    let h2 : IsOctets w2 = words-octets (column k 2) w1 (column-octets k 2 h) h1 in
    let w3 = add_words (column k 3) w2 in
    let h3 : IsOctets w3 = words-octets (column k 3) w2 (column-octets k 3 h) h2 in
    append-octets (w0 ++ w1 ++ w2) w3 (append-octets (w0 ++ w1) w2 (append-octets w0 w1 h0 h1) h2) h3

key-octets : (key : List ℕ) → IsOctets key → (j : ℕ) → IsOctets (round_key key j)
unfolding round_key
key-octets key h zero = h
key-octets key h (suc j) = next-octets (suc j) (round_key key j) (key-octets key h j)

pub cipher-octets : (key block : List ℕ) → IsOctets key → IsOctets (cipher key block)
unfolding cipher
cipher-octets key block h =
    let s = after_rounds key block 9 in
    let subbed : IsOctets (sub_bytes s) = state-octets (λ r c. sub_byte (at s r c)) (λ r c. sub_byte-small (at s r c)) in
    let shifted : IsOctets (shift_rows (sub_bytes s)) = state-octets (λ r c. at (sub_bytes s) r ((c + r) % 4)) (λ r c. subbed (r + 4 * ((c + r) % 4))) in
    state-octets (λ r c. bit_xor (at (shift_rows (sub_bytes s)) r c) (at (round_key key 10) r c))
    (λ r c. xor_lt 8 (at (shift_rows (sub_bytes s)) r c) (at (round_key key 10) r c) (shifted (r + 4 * c)) (key-octets key h 10 (r + 4 * c)))

-- ---- what is sealed

chain-octets : (key x : List ℕ) (bs : List (List ℕ)) → IsOctets key → IsOctets x → IsOctets (chain key x bs)
chain-octets key x [] k h = h
chain-octets key x (b ∷ bs) k h = chain-octets key (cipher key (xor_octets x b)) bs k (cipher-octets key (xor_octets x b) k)

stream-octets : (key nonce : List ℕ) (i n : ℕ) → IsOctets key → IsOctets (key_stream key nonce i n)
stream-octets key nonce i zero k = none-octets
stream-octets key nonce i (suc n) k = append-octets (stream_block key nonce i) (key_stream key nonce (i + 1) n) (cipher-octets key (counter_block nonce i) k) (stream-octets key nonce (i + 1) n k)

pub tag-octets : (key nonce aad message : List ℕ) (size : ℕ) → IsOctets key → IsOctets (tag_of key nonce aad message size)
unfolding tag_of
tag-octets key nonce aad message size k =
    let first = cipher key (first_block nonce aad message size) in
    take-octets size (xor_octets (chained key nonce aad message size) (stream_block key nonce 0))
    (xor-octets (chained key nonce aad message size) (stream_block key nonce 0)
    (chain-octets key first (header_blocks aad ++ blocks_of message) k (cipher-octets key (first_block nonce aad message size) k))
    (cipher-octets key (counter_block nonce 0) k))

pub encrypted-octets : (key nonce message : List ℕ) → IsOctets key → IsOctets message → IsOctets (encrypted key nonce message)
unfolding encrypted
encrypted-octets key nonce message k h =
    xor-octets message (key_stream key nonce 1 (block_count (length message))) h (stream-octets key nonce 1 (block_count (length message)) k)

-- ---- the spelling of a frame

-- parts that are octets, joined
abbrev EachPart : List (List ℕ) → Type 0
EachPart [] = Unit {0}
EachPart (part ∷ parts) = IsOctets part × EachPart parts

joined-octets : (parts : List (List ℕ)) → EachPart parts → IsOctets (joined parts)
joined-octets [] h = none-octets
joined-octets (part ∷ []) h = h.0
joined-octets (part ∷ next ∷ parts) h = append-octets part (joined (next ∷ parts)) h.0 (joined-octets (next ∷ parts) h.1)

one-octet : (x : ℕ) → x < 256 → IsOctets (octet x)
one-octet x h = cons-octets x [] h none-octets

two-octets : (n : ℕ) → IsOctets (to_le_bytes w16 n)
two-octets n = each-octets (to_le_bytes w16 n) ((omega arith), ((omega arith), tt))

four-octets : (n : ℕ) → IsOctets (to_le_bytes w32 n)
four-octets n = each-octets (to_le_bytes w32 n) ((omega arith), ((omega arith), ((omega arith), ((omega arith), tt))))

flag-small : (b : Bool) → flag b ≤ 1
flag-small false = omega arith
flag-small true = omega arith

control-small : (frame : Gpdf) → control frame < 256
control-small frame = omega (arith, flag-small frame.maintenance, flag-small frame.auto, flag-small (is_some frame.ext))

extension-small : (ext : Ext) → ext.level ≤ 3 → extension ext < 256
extension-small ext level = omega (arith, level, flag-small ext.individual, flag-small ext.rx_after, flag-small ext.to_device)

-- a frame whose parts are there
pub spelling-octets : (seq pan dest : ℕ) (frame : Gpdf) (ext : Ext) (src : Src) (counter : ℕ) (mic : List ℕ) → seq < 256 →
    frame.ext ≡ Some ext → ext.level ≤ 3 → frame.src ≡ Some src → frame.counter ≡ Some counter → IsOctets frame.body → frame.mic ≡ Some mic → IsOctets mic →
    IsOctets (spelling (record { seq = seq; pan = pan; dest = dest; frame = frame }))
unfolding header
spelling-octets seq pan dest frame ext src counter mic first has_ext level has_src has_counter body has_mic tag =
    joined-octets
    ((1 ∷ 8 ∷ seq ∷ []) ∷ to_le_bytes w16 pan ∷ to_le_bytes w16 dest ∷ header frame ∷ frame.body ∷ optional (λ m. m) frame.mic ∷ []) (
      each-octets (1 ∷ 8 ∷ seq ∷ []) ((omega arith), ((omega arith), (first, tt))),
      (
        two-octets pan,
        (
          two-octets dest,
          (
            joined-octets
                (octet (control frame) ∷ optional (λ e. octet (extension e)) frame.ext ∷ optional (λ s. to_le_bytes w32 s.0) frame.src ∷ optional (to_le_bytes w32) frame.counter ∷ []) (
                  one-octet (control frame) (control-small frame),
                  (
                    subst (λ (o : Option Ext). IsOctets (optional (λ e. octet (extension e)) o)) (sym has_ext) (one-octet (extension ext) (extension-small ext level)),
                    (
                      subst (λ (o : Option Src). IsOctets (optional (λ s. to_le_bytes w32 s.0) o)) (sym has_src) (four-octets src.0),
                      (subst (λ (o : Option ℕ). IsOctets (optional (to_le_bytes w32) o)) (sym has_counter) (four-octets counter), tt),
                    ),
                  ),
                ),
            (
              body,
              (subst (λ (o : Option (List ℕ)). IsOctets (optional (λ m. m) o)) (sym has_mic) tag, tt),
            ),
          ),
        ),
      ),
    )
