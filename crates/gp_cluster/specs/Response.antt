-- Response (Zigbee PRO Green Power, A.3.3.5).
use Rattle.std.specs.Prelude.{ℕ, ◌+◌, ◌<◌, ◌^◌, ◌==◌, Bool, List, [], ◌∷◌, Option}
use Rattle.std.specs.Int.{w16, to_le_bytes}
use Rattle.gp_base.specs.Field.{joined, octet, octet_at, two_at, src_octets, src_at}
use Rattle.gp_base.specs.Table.{first_of}
use Rattle.gp_cluster.specs.declared.message.Response.{Response}
use Rattle.gp_cluster.specs.declared.message.ClusterReason.{ClusterReason}
use Rattle.gp_cluster.specs.Ending.{ending_lines, foreign_line, missing_line}
use Rattle.gp_cluster.specs.Options.{application_id}
use Rattle.gp_cluster.specs.Fields.{octet_string, IsString, string_size, string_at}

-- its octets after the header
unfoldable pub response : Response → List ℕ
response m =
    joined
    (octet m.options
    ∷ to_le_bytes w16 m.master
    ∷ octet m.channel
    ∷ src_octets m.src
    ∷ octet m.command
    ∷ octet_string m.payload
    ∷ [])

-- The ApplicationID is 0.
abbrev pub response_agrees : Response → Bool
response_agrees m = application_id m.options == 0

-- Each field fits its octets.
pub record HasResponseWidths (m : Response) : Type 0 where
  pub master : m.master < 2 ^ 16
  pub src : m.src.0 < 2 ^ 32
  pub payload : IsString m.payload

-- where it ends
abbrev pub response_end : List ℕ → ℕ
response_end octets = 12 + string_size octets 12

-- its first fault
abbrev pub response_reason : List ℕ → Option ClusterReason
response_reason octets =
    first_of
    (missing_line 4 octets ∷ foreign_line (octet_at octets 3) ∷ ending_lines (response_end octets) octets)

-- what stands at its places
abbrev pub response_at : List ℕ → Response
response_at octets = record {
  options = octet_at octets 3;
  master = two_at octets 4;
  channel = octet_at octets 6;
  src = src_at octets 7;
  command = octet_at octets 11;
  payload = string_at octets 12;
}
