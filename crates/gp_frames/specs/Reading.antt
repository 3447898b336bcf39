-- What reading gives, by places, for callers that compute with it. Nobody has to believe it: the clauses `found` and `only`
-- of `decode` say by the relation `Frame` what it gives.
use Rattle.std.specs.Prelude.{ℕ, ◌-◌, ◌/◌, ◌%◌, ◌==◌, List, length, Option, Result}
use Rattle.gp_base.specs.Field.{has_bit, part, octet_at, two_at, four_at, value_if}
use Rattle.gp_base.specs.Table.{answer}
use Rattle.gp_base.specs.declared.identity.Src.{Src}
use Rattle.gp_frames.specs.declared.frame.Ext.{Ext}
use Rattle.gp_frames.specs.declared.frame.Gpdf.{Gpdf}
use Rattle.gp_frames.specs.declared.frame.Mpdu.{Mpdu}
use Rattle.gp_frames.specs.declared.frame.FrameReason.{FrameReason}
use Rattle.gp_frames.specs.Reasons.{type_at, is_extended, has_src, has_security, src_place, counter_place, command_place, mic_size, first_reason}

-- the extended frame control in an octet
abbrev pub ext_in : ℕ → Ext
ext_in octet = record { level = octet / 8 % 4; individual = has_bit octet 32; rx_after = has_bit octet 64; to_device = has_bit octet 128 }

unfoldable pub ext_at : List ℕ → Option Ext
ext_at octets = value_if (is_extended octets) (ext_in (octet_at octets 8))

unfoldable pub src_at : List ℕ → Option Src
src_at octets = value_if (has_src octets) (record { 0 = four_at octets (src_place octets) })

unfoldable pub counter_at : List ℕ → Option ℕ
counter_at octets = value_if (has_security octets) (four_at octets (counter_place octets))

unfoldable pub body_at : List ℕ → List ℕ
body_at octets = part octets (command_place octets) (length octets - mic_size octets - command_place octets)

unfoldable pub mic_at : List ℕ → Option (List ℕ)
mic_at octets = value_if (has_security octets) (part octets (length octets - 4) 4)

unfoldable pub frame_at : List ℕ → Gpdf
frame_at octets = record {
  maintenance = type_at octets == 1;
  auto = has_bit (octet_at octets 7) 64;
  ext = ext_at octets;
  src = src_at octets;
  counter = counter_at octets;
  body = body_at octets;
  mic = mic_at octets;
}

unfoldable pub value_at : List ℕ → Mpdu
value_at octets = record {
  seq = octet_at octets 2;
  pan = two_at octets 3;
  dest = two_at octets 5;
  frame = frame_at octets;
}

-- the value by places, or the first reason
unfoldable pub reading : List ℕ → Result Mpdu FrameReason
reading octets = answer (first_reason octets) (value_at octets)
