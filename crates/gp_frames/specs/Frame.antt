-- Which octets spell a frame (IEEE 802.15.4, 7.2; Zigbee PRO Green Power, A.1.4.1).
use Rattle.std.specs.Prelude.{◌≡◌, ℕ, ◌+◌, ◌*◌, ◌^◌, ◌<◌, ◌≤◌, ◌⊎◌, Bool, not, ◌||◌, List, [], ◌∷◌, length, IsTrue, IfSome, is_some, nat_lt}
use Rattle.std.specs.Option.{option_map_or}
use Rattle.std.specs.Int.{w16, w32, to_le_bytes}
use Rattle.gp_base.specs.Field.{IsOctets, flag, joined, octet, optional}
use Rattle.gp_frames.specs.declared.frame.Ext.{Ext}
use Rattle.gp_frames.specs.declared.frame.Gpdf.{Gpdf}
use Rattle.gp_frames.specs.declared.frame.Mpdu.{Mpdu}

-- the security level, which is 0 without extension
abbrev pub level_of : Gpdf → ℕ
level_of frame = option_map_or (λ ext. ext.level) frame.ext 0

-- a secured frame is one at level 2 or 3
abbrev pub is_secured : Gpdf → Bool
is_secured frame = nat_lt 1 (level_of frame)

-- the NWK frame control: type, version 3, auto-commissioning, extension
abbrev pub control : Gpdf → ℕ
control frame = flag frame.maintenance + 12 + 64 * flag frame.auto + 128 * flag (is_some frame.ext)

-- the extended NWK frame control: ApplicationID 0, level, SecurityKey, RxAfterTx, direction
abbrev pub extension : Ext → ℕ
extension ext = 8 * ext.level + 32 * flag ext.individual + 64 * flag ext.rx_after + 128 * flag ext.to_device

-- the header octets: NWK frame control, extension, SrcID, counter
unfoldable pub header : Gpdf → List ℕ
header frame =
    joined
    (octet (control frame)
    ∷ optional (λ ext. octet (extension ext)) frame.ext
    ∷ optional (λ src. to_le_bytes w32 src.0) frame.src
    ∷ optional (to_le_bytes w32) frame.counter
    ∷ [])

-- the MAC header, and the header, the body and the MIC of the frame
abbrev pub spelling : Mpdu → List ℕ
spelling mpdu =
    joined
    ((1 ∷ 8 ∷ mpdu.seq ∷ [])
    ∷ to_le_bytes w16 mpdu.pan
    ∷ to_le_bytes w16 mpdu.dest
    ∷ header mpdu.frame
    ∷ mpdu.frame.body
    ∷ optional (λ mic. mic) mpdu.frame.mic
    ∷ [])

-- which frames have a spelling
pub record IsFrame (frame : Gpdf) : Type 0 where
  -- the level is 0, 2 or 3, and 0 in a maintenance frame
  pub level : (level_of frame ≡ 0) ⊎ (level_of frame ≡ 2) ⊎ (level_of frame ≡ 3)
  pub unsecured : IsTrue frame.maintenance → level_of frame ≡ 0
  -- a data frame and a frame with extension have a SrcID
  pub src : is_some frame.src ≡ (not frame.maintenance || is_some frame.ext)
  -- exactly a secured frame has a counter and a MIC
  pub counter : is_some frame.counter ≡ is_secured frame
  pub mic : is_some frame.mic ≡ is_secured frame
  -- the command has its identifier
  pub command : 0 < length frame.body
  -- each field fits its octets
  pub src_fits : IfSome frame.src (λ src. src.0 < 2 ^ 32)
  pub counter_fits : IfSome frame.counter (λ counter. counter < 2 ^ 32)
  pub mic_fits : IfSome frame.mic (λ mic. length mic ≡ 4)

-- the octets, at most 125 of them, spell the value
pub record Frame (mpdu : Mpdu) (octets : List ℕ) : Type 0 where
  pub seq : mpdu.seq < 2 ^ 8
  pub pan : mpdu.pan < 2 ^ 16
  pub dest : mpdu.dest < 2 ^ 16
  pub frame : IsFrame mpdu.frame
  pub limit : length octets ≤ 125
  pub are_octets : IsOctets octets
  pub spelled : octets ≡ spelling mpdu

-- some octets spell the value
abbrev pub IsValid : Mpdu → Type 0
IsValid mpdu = (octets : List ℕ) × Frame mpdu octets

-- a valid MPDU carries the frame
abbrev pub IsCarried : Gpdf → Type 0
IsCarried frame = (mpdu : Mpdu) × (mpdu.frame ≡ frame) × IsValid mpdu
