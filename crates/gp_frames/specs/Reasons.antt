-- Why octets are no frame: the first of a table of conditions on places.
use Rattle.std.specs.Prelude.{ℕ, ◌+◌, ◌/◌, ◌%◌, Bool, not, ◌&&◌, ◌||◌, ◌==◌, nat_lt, nat_le, if◌then◌else◌, List, [], ◌∷◌, ◌++◌, length, Option}
use Rattle.gp_base.specs.Field.{has_bit, octet_at, size_if}
use Rattle.gp_base.specs.Table.{first_of}
use Rattle.gp_frames.specs.declared.frame.FrameReason.{FrameReason}
use Rattle.gp_frames.specs.declared.frame.FrameReason.TheVariants.{TooLong, Short, MacForm, FrameKind, Version, AppId, LevelOne, SecuredMaintenance, NoCommand}

-- bits 0-1, 2-5 and 7 of the NWK frame control
abbrev pub type_at : List ℕ → ℕ
type_at octets = octet_at octets 7 % 4

abbrev pub version_at : List ℕ → ℕ
version_at octets = octet_at octets 7 / 4 % 16

abbrev pub is_extended : List ℕ → Bool
is_extended octets = has_bit (octet_at octets 7) 128

-- the extended frame control, which counts as 0 where it is absent
abbrev pub extension_at : List ℕ → ℕ
extension_at octets = if is_extended octets then octet_at octets 8 else 0

abbrev pub application_at : List ℕ → ℕ
application_at octets = extension_at octets % 8

abbrev pub level_at : List ℕ → ℕ
level_at octets = extension_at octets / 8 % 4

-- whether there is a SrcID, and whether there are a counter and a MIC
abbrev pub has_src : List ℕ → Bool
has_src octets = (type_at octets == 0) || is_extended octets

abbrev pub has_security : List ℕ → Bool
has_security octets = nat_le 2 (level_at octets)

-- where the SrcID, the counter and the command begin
abbrev pub src_place : List ℕ → ℕ
src_place octets = 8 + size_if (is_extended octets) 1

abbrev pub counter_place : List ℕ → ℕ
counter_place octets = src_place octets + size_if (has_src octets) 4

abbrev pub command_place : List ℕ → ℕ
command_place octets = counter_place octets + size_if (has_security octets) 4

-- how many octets the MIC has
abbrev pub mic_size : List ℕ → ℕ
mic_size octets = size_if (has_security octets) 4

-- the MAC header
unfoldable pub mac_lines : List ℕ → List (Bool × FrameReason)
mac_lines octets =
    (nat_lt 125 (length octets), TooLong)
    ∷ (nat_lt (length octets) 2, Short (length octets))
    ∷ (not ((octet_at octets 0 == 1) && (octet_at octets 1 == 8)), MacForm)
    ∷ (nat_lt (length octets) 8, Short (length octets))
    ∷ []

-- the NWK frame control
unfoldable pub control_lines : List ℕ → List (Bool × FrameReason)
control_lines octets =
    (nat_le 2 (type_at octets), FrameKind)
    ∷ (not (version_at octets == 3), Version)
    ∷ (is_extended octets && nat_lt (length octets) 9, Short (length octets))
    ∷ []

-- the extended frame control
unfoldable pub extension_lines : List ℕ → List (Bool × FrameReason)
extension_lines octets =
    (not (application_at octets == 0), AppId)
    ∷ (level_at octets == 1, LevelOne)
    ∷ ((type_at octets == 1) && has_security octets, SecuredMaintenance)
    ∷ []

-- the fields behind it, the command and the MIC
unfoldable pub field_lines : List ℕ → List (Bool × FrameReason)
field_lines octets =
    (nat_lt (length octets) (command_place octets + mic_size octets), Short (length octets))
    ∷ (length octets == command_place octets + mic_size octets, NoCommand (command_place octets))
    ∷ []

-- the first fault from the left, where there is one
unfoldable pub first_reason : List ℕ → Option FrameReason
first_reason octets = first_of (mac_lines octets ++ (control_lines octets ++ (extension_lines octets ++ field_lines octets)))
