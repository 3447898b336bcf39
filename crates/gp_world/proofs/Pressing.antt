-- What a device sends is fresh at a sink that it is paired with, as long as the sink's floor isn't above its counter.
use Rattle.std.proofs.Common.{◌≡◌, ◌⊎◌, inl, inr, ℕ, suc, ◌^◌, ◌<◌, ◌≤◌, Bool, true, false, ◌==◌, if◌then◌else◌, List, [], ◌∷◌, ◌++◌, take, length, Some, refl, sym, ap, subst, arith}
use Rattle.std.proofs.lemmas.List.{length-take-le}
use Rattle.gp_base.specs.declared.identity.Level.{Level}
use Rattle.gp_base.specs.declared.identity.Level.TheVariants.{Two, Three}
use Rattle.gp_base.specs.Field.{IsOctets}
use Rattle.gp_base.specs.Identity.{is_individual, level_number}
use Rattle.gp_aes.proofs.Rounds.{length-cipher}
use Rattle.gp_ccm.specs.Ccm.{chain, chained, counter_block, encrypted, first_block, header_blocks, stream_block, tag_of}
use Rattle.gp_ccm.specs.Blocks.{blocks_of, xor_octets}
use Rattle.gp_aes.specs.Cipher.{cipher}
use Rattle.gp_ccm.proofs.CcmLemmas.{length-encrypted}
use Rattle.gp_ccm.proofs.XorLemmas.{length-xor_octets}
use Rattle.gp_frames.specs.declared.frame.Gpdf.{Gpdf}
use Rattle.gp_frames.specs.Frame.{Frame, level_of, is_secured, spelling}
use Rattle.gp_security.specs.Protection.{Good, authenticated, message, nonce_of, protected}
use Rattle.gp_security.proofs.Sealing.{is_good}
use Rattle.gp_security.proofs.Valid.{valid_of}
use Rattle.gp_ideal.specs.declared.ledger.Change.{Change}
use Rattle.gp_ideal.specs.declared.ledger.Known.{Known}
use Rattle.gp_world.specs.Devices.{head_of, sealed}
use Rattle.gp_ideal.specs.Fresh.{Fresh}
use Rattle.gp_ideal.specs.Ledger.{known}
use Rattle.gp_world.specs.World.{Device}
use Rattle.gp_world.proofs.Octets.{encrypted-octets, tag-octets}

-- a device whose values fit their widths, and that has a counter left
pub record IsDevice (device : Device) : Type 0 where
  pub source : device.source.0 < 2 ^ 32
  pub key : IsOctets device.key.0
  pub counter : suc device.counter < 2 ^ 32

-- a command that a secured frame holds
pub record IsCommand (command : List ℕ) : Type 0 where
  pub some : 0 < length command
  pub room : length command ≤ 104
  pub octets : IsOctets command

-- the current pairing of the device's SrcID has its key, the kind of that and its level, and isn't ahead of its counter
pub record IsPairedWith (ledger : List Change) (device : Device) (k : Known) : Type 0 where
  pub pairing : known ledger device.source.0 ≡ Some k
  pub key : k.values.key.0 ≡ device.key.0
  pub kind : k.values.kind ≡ device.kind
  pub level : k.values.level ≡ device.level
  pub floor : k.floor ≤ device.counter

-- ---- lengths

chain-length : (key x : List ℕ) (bs : List (List ℕ)) → length x ≡ 16 → length (chain key x bs) ≡ 16
chain-length key x [] h = h
chain-length key x (b ∷ bs) h = chain-length key (cipher key (xor_octets x b)) bs (length-cipher key (xor_octets x b))

first_four : (xs : List ℕ) → length xs ≡ 16 → length (take 4 xs) ≡ 4
first_four xs h = length-take-le 4 xs (omega arith)

tag-length : (key nonce aad text : List ℕ) → length (tag_of key nonce aad text 4) ≡ 4
unfolding tag_of
tag-length key nonce aad text =
    let one : length (chained key nonce aad text 4) ≡ 16 = chain-length key (cipher key (first_block nonce aad text 4)) (header_blocks aad ++ blocks_of text) (length-cipher key (first_block nonce aad text 4)) in
    let other : length (stream_block key nonce 0) ≡ 16 = length-cipher key (counter_block nonce 0) in
    let both = length-xor_octets (chained key nonce aad text 4) (stream_block key nonce 0) in
    first_four (xor_octets (chained key nonce aad text 4) (stream_block key nonce 0)) (omega arith)

body-length : (three : Bool) (key nonce command : List ℕ) → length (if three then encrypted key nonce (if three then command else []) else command) ≡ length command
body-length true key nonce command = length-encrypted key nonce command
body-length false key nonce command = refl

body-octets : (three : Bool) (key nonce command : List ℕ) → IsOctets key → IsOctets command → IsOctets (if three then encrypted key nonce (if three then command else []) else command)
body-octets true key nonce command k c = encrypted-octets key nonce command k c
body-octets false key nonce command k c = c

-- ---- the frame

level-either : (level : Level) → (level_number level ≡ 2) ⊎ (level_number level ≡ 3)
level-either Two = inl refl
level-either Three = inr refl

level-secured : (frame : Gpdf) → (level_of frame ≡ 2) ⊎ (level_of frame ≡ 3) → is_secured frame ≡ true
level-secured frame (inl e) = rw e refl
level-secured frame (inr e) = rw e refl

pub press-fresh : (device : Device) (ledger : List Change) (k : Known) (command : List ℕ) → IsDevice device → IsCommand command → IsPairedWith ledger device k →
    Fresh ledger (spelling (sealed device (suc device.counter) command)) k (suc device.counter) command
press-fresh device ledger k command d c p =
    let counter = suc device.counter in
    let mpdu = sealed device counter command in
    let head = (head_of device counter).frame in
    let key = device.key.0 in
    let nonce = nonce_of head in
    let aad = authenticated head command in
    let text = message head command in
    let length_is : length mpdu.frame.body ≡ length command = body-length (level_of head == 3) key nonce command in
    let valid = valid_of mpdu (omega arith) (omega arith) (omega arith) (record {
      data_frame = refl;
      level = level-either device.level;
      src = refl;
      counter = refl;
      mic = refl;
      some = (let few = c.some in omega arith);
      room = (let few = c.room in omega arith);
      src_fits = d.source;
      counter_fits = d.counter;
      mic_fits = tag-length key nonce aad text;
      body_octets = body-octets (level_of head == 3) key nonce command d.key c.octets;
      mic_octets = tag-octets key nonce aad text 4 d.key;
    }) in
    let good : Good key mpdu.frame command =
    is_good key head command (protected key head command).0 (protected key head command).1 (protected key head command).1 (level-either device.level) refl refl valid.1.frame in
    record {
      mpdu = mpdu;
      spelled = subst (λ (octets : List ℕ). Frame mpdu octets) valid.1.spelled valid.1;
      from_device = refl;
      secured = level-secured mpdu.frame (level-either device.level);
      pairing = p.pairing;
      kind = ap is_individual (sym p.kind);
      level = ap level_number (sym p.level);
      carried = subst (λ (x : List ℕ). Good x mpdu.frame command) (sym p.key) good;
      counts = refl;
      above = (let under = p.floor in omega arith);
    }
