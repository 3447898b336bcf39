-- What Notification and Commissioning Notification have in common: the tunnelled frame, and who tunnels it
-- (Zigbee PRO Green Power, A.3.3.4).
use Rattle.std.specs.Prelude.{ℕ, ◌+◌, Bool, List, [], ◌∷◌, Option}
use Rattle.std.specs.Int.{w32, to_le_bytes}
use Rattle.gp_base.specs.declared.identity.Src.{Src}
use Rattle.gp_base.specs.Field.{joined, octet, octet_at, four_at, optional, size_if, value_if, src_octets, src_at}
use Rattle.gp_cluster.specs.Fields.{octet_string, string_size, string_at, proxy_octets, proxy_at}

-- a frame of a device, and the proxy that tunnels it
pub record Tunnel : Type 0 where
  pub src : Src
  pub counter : ℕ
  pub command : ℕ
  pub payload : Option (List ℕ)
  pub proxy : Option (ℕ × ℕ)

-- its octets
unfoldable pub tunnel_octets : Tunnel → List ℕ
tunnel_octets t =
    joined
    (src_octets t.src
    ∷ to_le_bytes w32 t.counter
    ∷ octet t.command
    ∷ octet_string t.payload
    ∷ optional proxy_octets t.proxy
    ∷ [])

-- where proxy info would stand
abbrev pub proxy_place : List ℕ → ℕ
proxy_place octets = 14 + string_size octets 14

-- behind it all
unfoldable pub tunnel_end : Bool → List ℕ → ℕ
tunnel_end with_proxy octets = proxy_place octets + size_if with_proxy 3

-- what stands there, behind the header and the options
unfoldable pub tunnel_at : Bool → List ℕ → Tunnel
tunnel_at with_proxy octets = record {
  src = src_at octets 5;
  counter = four_at octets 9;
  command = octet_at octets 13;
  payload = string_at octets 14;
  proxy = value_if with_proxy (proxy_at octets (proxy_place octets));
}
