-- CCM over AES-128 (RFC 3610) with L = 2: a nonce has 13 octets, and a length or a counter two. A tag has `size` octets.
use Rattle.std.specs.Prelude.{ℕ, zero, suc, ◌+◌, ◌-◌, ◌*◌, ◌/◌, ◌==◌, List, [], ◌∷◌, ◌++◌, length, take, if◌then◌else◌}
use Rattle.gp_aes.specs.Cipher.{cipher}
use Rattle.gp_ccm.specs.Blocks.{two_octets, xor_octets, block_count, blocks_of}
use Rattle.gp_ccm.specs.declared.size.TagSize.{TagSize}
use Rattle.gp_ccm.specs.declared.size.TagSize.TheVariants.{Four, Eight}

-- how many octets a tag has
abbrev pub octets_in : TagSize → ℕ
octets_in Four = 4
octets_in Eight = 8

-- the flags of the first block: 64 where there are authenticated octets, then (size - 2) / 2 from bit 3 on, then L - 1 (2.2)
abbrev pub flags : List ℕ → ℕ → ℕ
flags aad size = 64 * (if length aad == 0 then 0 else 1) + 8 * ((size - 2) / 2) + 1

-- B_0: the flags, the nonce and the length of the message (2.2)
abbrev pub first_block : List ℕ → List ℕ → List ℕ → ℕ → List ℕ
first_block nonce aad message size = flags aad size ∷ nonce ++ two_octets (length message)

-- the blocks of the authenticated octets, which begin with their length; none where there are no such octets (2.2)
abbrev pub header_blocks : List ℕ → List (List ℕ)
header_blocks aad = if length aad == 0 then [] else blocks_of (two_octets (length aad) ++ aad)

-- the chain over blocks, from x: each block is added to what stands, and the sum encrypted (2.2)
abbrev pub chain : List ℕ → List ℕ → List (List ℕ) → List ℕ
chain key x [] = x
chain key x (b ∷ bs) = chain key (cipher key (xor_octets x b)) bs

-- X: the chain from the encrypted B_0 over the blocks of the authenticated octets and of the message (2.2)
abbrev pub chained : List ℕ → List ℕ → List ℕ → List ℕ → ℕ → List ℕ
chained key nonce aad message size =
    chain key (cipher key (first_block nonce aad message size)) (header_blocks aad ++ blocks_of message)

-- A_i: the flags L - 1, the nonce and the counter i (2.3)
abbrev pub counter_block : List ℕ → ℕ → List ℕ
counter_block nonce i = 1 ∷ nonce ++ two_octets i

-- S_i (2.3)
abbrev pub stream_block : List ℕ → List ℕ → ℕ → List ℕ
stream_block key nonce i = cipher key (counter_block nonce i)

-- n blocks of the key stream, from S_i on (2.3)
abbrev pub key_stream : List ℕ → List ℕ → ℕ → ℕ → List ℕ
key_stream key nonce i zero = []
key_stream key nonce i (suc n) = stream_block key nonce i ++ key_stream key nonce (i + 1) n

-- the message encrypted: added to the key stream from S_1 on (2.3). Encrypted again it is the message
unfoldable pub encrypted : List ℕ → List ℕ → List ℕ → List ℕ
encrypted key nonce message = xor_octets message (key_stream key nonce 1 (block_count (length message)))

-- the tag: the first octets of the sum of X and S_0 (2.3)
unfoldable pub tag_of : List ℕ → List ℕ → List ℕ → List ℕ → ℕ → List ℕ
tag_of key nonce aad message size = take size (xor_octets (chained key nonce aad message size) (stream_block key nonce 0))

-- the cipher text and the tag
abbrev pub ccm : List ℕ → List ℕ → List ℕ → List ℕ → ℕ → List ℕ × List ℕ
ccm key nonce aad message size = (encrypted key nonce message, tag_of key nonce aad message size)

-- how often the block cipher is called: for B_0 and S_0, for each block of authenticated octets, and twice for each
-- block of the message
abbrev pub cipher_calls : List ℕ → List ℕ → ℕ
cipher_calls aad message =
    2 + (if length aad == 0 then 0 else block_count (length aad + 2)) + 2 * block_count (length message)
