-- How a frame of a device is protected (Zigbee PRO Green Power, A.1.5.4).
use Rattle.std.specs.Prelude.{◌≡◌, ℕ, ◌⊎◌, ◌==◌, if◌then◌else◌, Bool, false, List, [], ◌∷◌, ◌++◌, Option, Some, None, IsTrue, is_some}
use Rattle.std.specs.Option.{option_map_or}
use Rattle.std.specs.Int.{w32, to_le_bytes}
use Rattle.std.specs.Str.{bytes_eq}
use Rattle.gp_base.specs.Field.{joined, octet}
use Rattle.gp_ccm.specs.Ccm.{ccm, cipher_calls, encrypted}
use Rattle.gp_frames.specs.declared.frame.Gpdf.{Gpdf}
use Rattle.gp_frames.specs.declared.frame.Mpdu.{Mpdu}
use Rattle.gp_frames.specs.Frame.{IsFrame, header, is_secured, level_of}

-- a nonce: three numbers of four octets, and 05
abbrev pub nonce : ℕ → ℕ → ℕ → List ℕ
nonce first source counter = joined (to_le_bytes w32 first ∷ to_le_bytes w32 source ∷ to_le_bytes w32 counter ∷ octet 5 ∷ [])

-- the SrcID and the counter of a secured frame, which has both, and its direction
abbrev pub source_of : Gpdf → ℕ
source_of frame = option_map_or (λ src. src.0) frame.src 0

abbrev pub counter_of : Gpdf → ℕ
counter_of frame = option_map_or (λ counter. counter) frame.counter 0

abbrev pub is_to_device : Gpdf → Bool
is_to_device frame = option_map_or (λ ext. ext.to_device) frame.ext false

-- the nonce of a frame: the SrcID, or zeros in a frame to the device, then the SrcID and the counter
unfoldable pub nonce_of : Gpdf → List ℕ
nonce_of frame = nonce (if is_to_device frame then 0 else source_of frame) (source_of frame) (counter_of frame)

-- what is authenticated: the header, and at level 2 the command behind it
abbrev pub authenticated : Gpdf → List ℕ → List ℕ
authenticated frame command = if level_of frame == 3 then header frame else header frame ++ command

-- what is encrypted: at level 3 the whole command, its identifier too
abbrev pub message : Gpdf → List ℕ → List ℕ
message frame command = if level_of frame == 3 then command else []

-- the command as the body of a frame, and the MIC of four octets
abbrev pub protected : List ℕ → Gpdf → List ℕ → List ℕ × List ℕ
protected key frame command =
    let sealed = ccm key (nonce_of frame) (authenticated frame command) (message frame command) 4 in
    (if level_of frame == 3 then sealed.0 else command, sealed.1)

-- A frame that has a spelling, at level 2 or 3, carries these command octets under the key.
pub record Good (key : List ℕ) (frame : Gpdf) (command : List ℕ) : Type 0 where
  pub spelled : IsFrame frame
  pub secured : IsTrue (is_secured frame)
  pub body : frame.body ≡ (protected key frame command).0
  pub mic : frame.mic ≡ Some (protected key frame command).1

-- the command in clear under a key, whatever the MIC is
abbrev pub in_clear : List ℕ → Gpdf → List ℕ
in_clear key frame = if level_of frame == 3 then encrypted key (nonce_of frame) frame.body else frame.body

-- the command octets that a secured frame carries under the key, where its MIC is right
unfoldable pub opened : List ℕ → Gpdf → Option (List ℕ)
opened key frame =
    let command = in_clear key frame in
    if bytes_eq (option_map_or (λ mic. mic) frame.mic []) (protected key frame command).1 then Some command else None

-- how often the block cipher is called for so protected a command
abbrev pub frame_calls : Gpdf → List ℕ → ℕ
frame_calls frame command = cipher_calls (authenticated frame command) (message frame command)

-- The head of a frame that can be sealed: a data frame at level 2 or 3 with SrcID and counter.
pub record IsHead (frame : Gpdf) : Type 0 where
  pub data_frame : frame.maintenance ≡ false
  pub level : (level_of frame ≡ 2) ⊎ (level_of frame ≡ 3)
  pub src : IsTrue (is_some frame.src)
  pub counter : IsTrue (is_some frame.counter)

-- the frame of a head with this body and this MIC
abbrev pub with_body : Mpdu → List ℕ × List ℕ → Mpdu
with_body head sealed = record head { frame = record head.frame { body = sealed.0; mic = Some sealed.1 } }
