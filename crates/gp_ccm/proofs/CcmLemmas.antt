-- The chain and the key stream, a block more.
use Rattle.std.proofs.Common.{◌≡◌, ℕ, zero, suc, ◌+◌, ◌*◌, ◌<◌, ◌≤◌, ◌∙◌, List, [], ◌∷◌, ◌++◌, length, take, drop, refl, sym, ap, arith, length-append}
use Rattle.gp_aes.specs.Cipher.{cipher}
use Rattle.gp_ccm.specs.Blocks.{xor_octets, padded, block_count, blocks_of}
use Rattle.gp_ccm.specs.Ccm.{chain, stream_block, counter_block, key_stream, encrypted, tag_of, ccm}
use Rattle.gp_aes.proofs.Rounds.{length-cipher}
use Rattle.gp_ccm.proofs.XorLemmas.{xor_octets-append, xor_octets-twice, length-xor_octets}
use Rattle.gp_ccm.proofs.BlockLemmas.{block_count-drop, blocks_of-next}

pub chain-append : (key x : List ℕ) (bs cs : List (List ℕ)) → chain key x (bs ++ cs) ≡ chain key (chain key x bs) cs
chain-append key x [] cs = refl
chain-append key x (b ∷ bs) cs = chain-append key (cipher key (xor_octets x b)) bs cs

pub chain-next : (key x xs : List ℕ) → 0 < length xs →
    chain key x (blocks_of xs) ≡ chain key (cipher key (xor_octets x (padded (take 16 xs)))) (blocks_of (drop 16 xs))
chain-next key x xs h = ap (chain key x) (blocks_of-next xs h)

-- a list against the key stream from block i on: its first block, and the rest from block i + 1 on
pub stream-next : (key nonce xs : List ℕ) (i : ℕ) → 0 < length xs → length (stream_block key nonce i) ≡ 16 →
    xor_octets xs (key_stream key nonce i (block_count (length xs)))
    ≡ xor_octets (take 16 xs) (stream_block key nonce i)
    ++ xor_octets (drop 16 xs) (key_stream key nonce (i + 1) (block_count (length (drop 16 xs))))
stream-next key nonce xs i h n =
    let rest = key_stream key nonce (i + 1) (block_count (length (drop 16 xs))) in
    ap (λ c. xor_octets xs (key_stream key nonce i c)) (block_count-drop xs h)
    ∙ xor_octets-append xs (stream_block key nonce i) rest
    ∙ ap (λ k. xor_octets (take k xs) (stream_block key nonce i) ++ xor_octets (drop k xs) rest) n

pub length-key_stream : (key nonce : List ℕ) (i n : ℕ) → length (key_stream key nonce i n) ≡ 16 * n
length-key_stream key nonce i zero = refl
length-key_stream key nonce i (suc n) =
    omega (
      arith,
      length-append (stream_block key nonce i) (key_stream key nonce (i + 1) n),
      length-cipher key (counter_block nonce i),
      length-key_stream key nonce (i + 1) n,
    )

-- the key stream reaches to the end of the message
enough : (key nonce xs : List ℕ) → length xs ≤ length (key_stream key nonce 1 (block_count (length xs)))
enough key nonce xs = omega (arith, length-key_stream key nonce 1 (block_count (length xs)))

pub length-encrypted : (key nonce xs : List ℕ) → length (encrypted key nonce xs) ≡ length xs
unfolding encrypted
length-encrypted key nonce xs =
    let stream = key_stream key nonce 1 (block_count (length xs)) in
    omega (arith, length-xor_octets xs stream, enough key nonce xs)

-- encrypted twice it is the message
pub encrypted-encrypted : (key nonce xs : List ℕ) → encrypted key nonce (encrypted key nonce xs) ≡ xs
unfolding encrypted
encrypted-encrypted key nonce xs =
    let stream = key_stream key nonce 1 (block_count (length xs)) in
    ap (λ n. xor_octets (xor_octets xs stream) (key_stream key nonce 1 (block_count n))) (length-encrypted key nonce xs)
    ∙ xor_octets-twice xs stream (enough key nonce xs)

-- ---- what a right and a wrong tag say of all messages

pub opened : (key nonce aad text tag message : List ℕ) → message ≡ encrypted key nonce text →
    tag ≡ tag_of key nonce aad message (length tag) → ccm key nonce aad message (length tag) ≡ (text, tag)
opened key nonce aad text tag message e h =
    let back : encrypted key nonce message ≡ text = ap (encrypted key nonce) e ∙ encrypted-encrypted key nonce text in
    ap (λ c. (c, tag_of key nonce aad message (length tag))) back ∙ ap (λ t. (text, t)) (sym h)

pub refused : (key nonce aad text tag : List ℕ) →
    (tag ≡ tag_of key nonce aad (encrypted key nonce text) (length tag) → ⊥) →
    (message : List ℕ) → ccm key nonce aad message (length tag) ≡ (text, tag) → ⊥
refused key nonce aad text tag wrong message e =
    let same : encrypted key nonce message ≡ text = ap (λ p. p.0) e in
    let right : tag_of key nonce aad message (length tag) ≡ tag = ap (λ p. p.1) e in
    let plain : message ≡ encrypted key nonce text = sym (encrypted-encrypted key nonce message) ∙ ap (encrypted key nonce) same in
    wrong (sym right ∙ ap (λ m. tag_of key nonce aad m (length tag)) plain)

pub pair_of : (a a' b b' : List ℕ) → a ≡ a' → b ≡ b' → ◌≡◌ {A = List ℕ × List ℕ} (a, b) (a', b')
pair_of a a' b b' e f = ap (λ x. (x, b)) e ∙ ap (λ y. (a', y)) f

-- the tag that the code makes, where the schedule is the key, the slices are the lists and the size is that of the tag
pub expected : (key nonce aad text tag schedule message message' made made' : List ℕ) (size : ℕ) → schedule ≡ key →
    message ≡ encrypted schedule nonce text → message' ≡ message → made ≡ tag_of schedule nonce aad message' size →
    made' ≡ made → size ≡ length tag → made' ≡ tag_of key nonce aad (encrypted key nonce text) (length tag)
expected key nonce aad text tag schedule message message' made made' size k m m' t t' z = cc
