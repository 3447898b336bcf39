-- The Commissioning Reply command (Zigbee PRO Green Power, A.4.2, Commissioning Reply command).
use Rattle.std.specs.Prelude.{◌≡◌, ℕ, ◌+◌, ◌/◌, ◌%◌, ◌^◌, ◌<◌, IfSome, nat_lt, Bool, ◌&&◌, List, [], ◌∷◌, ◌++◌, length, drop, Option, is_some, is_none}
use Rattle.std.specs.Int.{w16, w32, to_le_bytes}
use Rattle.gp_base.specs.Field.{has_bit, optional, two_at, agree, octet, key_octets, joined, octet_at, size_if, value_if}
use Rattle.gp_base.specs.Table.{first_of}
use Rattle.gp_commands.specs.declared.command.Reply.{Reply}
use Rattle.gp_commands.specs.declared.command.CommandReason.{CommandReason}
use Rattle.gp_commands.specs.declared.command.CommandReason.TheVariants.{Short}
use Rattle.gp_commands.specs.Keying.{Wanted}
use Rattle.gp_commands.specs.Keying.{reserved, reserved_lines, keying_size, keying_at}

-- ---- flags

-- the level, bits 3 and 4 of the options
abbrev pub reply_level : ℕ → ℕ
reply_level options = options / 8 % 4

-- the kind of key, bits 5 to 7
abbrev pub reply_key_kind : ℕ → ℕ
reply_key_kind options = options / 32

-- the key by bit 1, its MIC and the counter by bits 1 and 2
abbrev pub reply_wanted : ℕ → Wanted
reply_wanted options = record { key = has_bit options 2; mic = has_bit options 2 && has_bit options 4; counter = has_bit options 2 && has_bit options 4 }

-- ---- what a Reply is

-- its octets after the identifier
unfoldable pub reply : Reply → List ℕ
reply r =
    joined
    (octet r.options
    ∷ optional (to_le_bytes w16) r.pan
    ∷ optional key_octets r.key
    ∷ optional (λ mic. mic) r.key_mic
    ∷ optional (to_le_bytes w32) r.counter
    ∷ r.rest
    ∷ [])

-- each field is there exactly where its flag says so, and neither the level nor the kind of key is reserved
abbrev pub reply_fields_agree : Reply → Bool
reply_fields_agree r =
    let wanted = reply_wanted r.options in
    agree (is_some r.pan) (has_bit r.options 1)
    && is_none (reserved (reply_level r.options) (reply_key_kind r.options))
    && agree (is_some r.key) wanted.key
    && agree (is_some r.key_mic) wanted.mic
    && agree (is_some r.counter) wanted.counter

-- The key has 16 octets and the MIC 4, and numbers fit two or four octets.
pub record HasReplyWidths (r : Reply) : Type 0 where
  pub pan : IfSome r.pan (λ n. n < 2 ^ 16)
  pub key : IfSome r.key (λ key. length (key_octets key) ≡ 16)
  pub mic : IfSome r.key_mic (λ mic. length mic ≡ 4)
  pub counter : IfSome r.counter (λ n. n < 2 ^ 32)

-- ---- places

-- where the key would stand
abbrev pub reply_keying_place : List ℕ → ℕ
reply_keying_place octets = 2 + size_if (has_bit (octet_at octets 1) 1) 2

-- where the rest begins
abbrev pub reply_rest_place : List ℕ → ℕ
reply_rest_place octets = reply_keying_place octets + keying_size (reply_wanted (octet_at octets 1))

-- the first fault of a Reply
abbrev pub reply_reason : List ℕ → Option CommandReason
reply_reason octets =
    first_of
    ((nat_lt (length octets) 2, Short (length octets))
    ∷ (reserved_lines (reply_level (octet_at octets 1)) (reply_key_kind (octet_at octets 1))
    ++ ((nat_lt (length octets) (reply_rest_place octets), Short (length octets)) ∷ [])))

-- what stands at the places
abbrev pub reply_at : List ℕ → Reply
reply_at octets =
    let keying = keying_at (reply_wanted (octet_at octets 1)) octets (reply_keying_place octets) in
    record {
      options = octet_at octets 1;
      pan = value_if (has_bit (octet_at octets 1) 1) (two_at octets 2);
      key = keying.key;
      key_mic = keying.mic;
      counter = keying.counter;
      rest = drop (reply_rest_place octets) octets;
    }
