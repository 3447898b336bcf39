-- The lines of a capture.
use Rattle.std.specs.Prelude.{ℕ, if◌then◌else◌, List, [], ◌∷◌, take, drop, Option, None, codes}
use Rattle.std.specs.Option.{option_map}
use Rattle.std.specs.Result.{result_ok}
use Rattle.std.specs.Str.{bytes_eq}
use Rattle.hex.specs.Hex.{decode_of}
use Rattle.gp_script.specs.declared.capture.Capture.{Capture}
use Rattle.gp_script.specs.declared.capture.Capture.TheVariants.{Frame, Message}

-- a frame: the octets that an even number of hexadecimal digits names, perhaps none
abbrev pub frame_of : List ℕ → Option Capture
frame_of digits = option_map (λ octets. Frame octets) (result_ok (decode_of digits))

-- a message: the octets that an even number of at least two digits names
abbrev pub message_of : List ℕ → Option Capture
message_of [] = None
message_of (digit ∷ digits) = option_map (λ octets. Message octets) (result_ok (decode_of (digit ∷ digits)))

-- what a line holds: behind `zcl ` a message, and else a frame
abbrev pub captured : List ℕ → Option Capture
captured line = if bytes_eq (take 4 line) (codes "zcl ") then message_of (drop 4 line) else frame_of line
