-- What private functions say. No public clause cites this file, and nobody has to believe it.
use Rattle.std.specs.Prelude.{ℕ, List}
use Rattle.gp_base.specs.Field.{octet_at, two_at}
use Rattle.gp_frames.specs.declared.decoding.Head.{Head}
use Rattle.gp_frames.specs.declared.decoding.Fields.{Fields}
use Rattle.gp_frames.specs.Reading.{src_at, counter_at, body_at, mic_at}

-- the MAC header and the NWK frame control
abbrev pub head_at : List ℕ → Head
head_at octets = record { seq = octet_at octets 2; pan = two_at octets 3; dest = two_at octets 5; control = octet_at octets 7 }

-- what stands behind the extension
abbrev pub fields_at : List ℕ → Fields
fields_at octets = record { src = src_at octets; counter = counter_at octets; body = body_at octets; mic = mic_at octets }
