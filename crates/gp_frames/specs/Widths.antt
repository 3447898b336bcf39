-- What the parts of the code that spells a frame say. No public clause cites this file, and nobody has to believe it.
use Rattle.std.specs.Prelude.{◌≡◌, ℕ, ◌^◌, ◌<◌, Bool, not, ◌&&◌, ◌||◌, ◌==◌, List, [], ◌∷◌, ◌++◌, length, IfSome, is_some}
use Rattle.std.specs.Int.{w16, w32, to_le_bytes}
use Rattle.gp_base.specs.Field.{agree, octet, optional}
use Rattle.gp_frames.specs.declared.frame.Gpdf.{Gpdf}
use Rattle.gp_frames.specs.declared.frame.Mpdu.{Mpdu}
use Rattle.gp_frames.specs.Frame.{level_of, is_secured, control, extension}

-- the MAC header and the NWK frame control
unfoldable pub head_octets : Mpdu → List ℕ
head_octets mpdu = (1 ∷ 8 ∷ mpdu.seq ∷ []) ++ (to_le_bytes w16 mpdu.pan ++ (to_le_bytes w16 mpdu.dest ++ octet (control mpdu.frame)))

-- the fields behind it
unfoldable pub field_octets : Gpdf → List ℕ
field_octets frame = optional (λ ext. octet (extension ext)) frame.ext
    ++ (optional (λ src. to_le_bytes w32 src.0) frame.src
    ++ (optional (to_le_bytes w32) frame.counter
    ++ (frame.body ++ optional (λ mic. mic) frame.mic)))

-- both, which are the spelling of a value
abbrev pub in_parts : Mpdu → List ℕ
in_parts mpdu = head_octets mpdu ++ field_octets mpdu.frame

-- the level is one that a frame may have, and each field is there where it is to be
unfoldable pub has_fields : Gpdf → Bool
has_fields frame =
    ((level_of frame == 0) || (level_of frame == 2) || (level_of frame == 3))
    && ((level_of frame == 0) || not frame.maintenance)
    && agree (is_some frame.src) (not frame.maintenance || is_some frame.ext)
    && agree (is_some frame.counter) (is_secured frame)
    && agree (is_some frame.mic) (is_secured frame)
    && not (length frame.body == 0)

-- each field fits its octets, as those of each value in the program do
pub record HasWidths (mpdu : Mpdu) : Type 0 where
  pub seq : mpdu.seq < 2 ^ 8
  pub pan : mpdu.pan < 2 ^ 16
  pub dest : mpdu.dest < 2 ^ 16
  pub src : IfSome mpdu.frame.src (λ src. src.0 < 2 ^ 32)
  pub counter : IfSome mpdu.frame.counter (λ counter. counter < 2 ^ 32)
  pub mic : IfSome mpdu.frame.mic (λ mic. length mic ≡ 4)
