-- What private functions say: octets in the parts that the code adds. No public clause cites this file, and nobody has
-- to believe it.
use Rattle.std.specs.Prelude.{◌≡◌, ℕ, ◌<◌, ◌^◌, List, [], ◌∷◌, ◌++◌, length, IfSome}
use Rattle.std.specs.Int.{w16, w32, to_le_bytes}
use Rattle.gp_base.specs.Field.{has_bit, optional, octet, key_octets, counted, joined, octet_at, value_if}
use Rattle.gp_commands.specs.declared.command.Commissioning.{Commissioning}
use Rattle.gp_commands.specs.declared.command.Reply.{Reply}
use Rattle.gp_commands.specs.declared.commissioning.Header.{Header}
use Rattle.gp_commands.specs.Keying.{Keying}

-- ---- key, MIC and counter

-- the octets of the three
unfoldable pub keying_octets : Keying → List ℕ
keying_octets keying = optional key_octets keying.key ++ (optional (λ mic. mic) keying.mic ++ optional (to_le_bytes w32) keying.counter)

-- The key has 16 octets and the MIC 4, and the counter fits four octets.
pub record HasKeyingWidths (keying : Keying) : Type 0 where
  pub key : IfSome keying.key (λ key. length (key_octets key) ≡ 16)
  pub mic : IfSome keying.mic (λ mic. length mic ≡ 4)
  pub counter : IfSome keying.counter (λ n. n < 2 ^ 32)

-- ---- a Commissioning

-- the part before the key
unfoldable pub header_octets : Commissioning → List ℕ
header_octets c = joined (octet c.device ∷ octet c.options ∷ optional octet c.extended ∷ [])

unfoldable pub application_octets : Commissioning → List ℕ
application_octets c =
    joined
    (optional octet c.application
    ∷ optional (to_le_bytes w16) c.manufacturer
    ∷ optional (to_le_bytes w16) c.model
    ∷ optional counted c.commands
    ∷ optional (λ clusters. clusters) c.clusters
    ∷ [])

abbrev pub commissioning_in_parts : Commissioning → List ℕ
commissioning_in_parts c =
    header_octets c
    ++ (keying_octets (record { key = c.key; mic = c.key_mic; counter = c.counter }) ++ (application_octets c ++ c.rest))

-- that part at its places
abbrev pub header_at : List ℕ → Header
header_at octets = record { device = octet_at octets 1; options = octet_at octets 2; extended = value_if (has_bit (octet_at octets 2) 128) (octet_at octets 3) }

-- ---- a Reply

-- the part before the key
unfoldable pub reply_header_octets : Reply → List ℕ
reply_header_octets r = joined (octet r.options ∷ optional (to_le_bytes w16) r.pan ∷ [])

abbrev pub reply_in_parts : Reply → List ℕ
reply_in_parts r = reply_header_octets r ++ (keying_octets (record { key = r.key; mic = r.key_mic; counter = r.counter }) ++ r.rest)
