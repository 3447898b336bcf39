-- What a key tells of a frame.
use Rattle.std.specs.Prelude.{ℕ, ◌==◌, Bool, true, not, List, Option, Some, None, if◌then◌else◌}
use Rattle.gp_base.specs.declared.identity.Key.{Key}
use Rattle.gp_frames.specs.declared.frame.Gpdf.{Gpdf}
use Rattle.gp_frames.specs.Frame.{is_secured, level_of}
use Rattle.gp_security.specs.Protection.{opened}
use Rattle.gp_listing.specs.declared.opening.Opening.{Opening}
use Rattle.gp_listing.specs.declared.opening.Opening.TheVariants.{Untold, Bad, Good}

-- of a secured frame: the command in clear, where the MIC is right
abbrev pub by_mic : Option (List ℕ) → Opening
by_mic None = Bad
by_mic (Some command) = Good command

-- of any frame: nothing where no key was given or the frame isn't secured
unfoldable pub opening : Option Key → Gpdf → Opening
opening None frame = Untold
opening (Some key) frame = if is_secured frame then by_mic (opened key.0 frame) else Untold

-- the command that is shown: in clear where the MIC is right, and else as it was received
abbrev pub shown_body : Opening → Gpdf → List ℕ
shown_body (Good command) frame = command
shown_body Untold frame = frame.body
shown_body Bad frame = frame.body

-- whether what is shown is in clear, which a body at level 3 isn't as it was received
abbrev pub is_clear : Opening → Gpdf → Bool
is_clear (Good command) frame = true
is_clear Untold frame = not (level_of frame == 3)
is_clear Bad frame = not (level_of frame == 3)
