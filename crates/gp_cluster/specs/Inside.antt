-- What private functions say: octets in the parts that the code adds. No public clause cites this file, and nobody has
-- to believe it.
use Rattle.std.specs.Prelude.{◌≡◌, ℕ, ◌<◌, ◌^◌, List, ◌++◌, length, IfSome}
use Rattle.std.specs.Int.{w16, w32, to_le_bytes}
use Rattle.gp_base.specs.Field.{octet, optional, key_octets}
use Rattle.gp_cluster.specs.declared.message.Pairing.{Pairing}
use Rattle.gp_cluster.specs.Tunnel.{Tunnel}
use Rattle.gp_cluster.specs.Pairing.{Route}
use Rattle.gp_cluster.specs.Pairing.{Extras}
use Rattle.gp_cluster.specs.Fields.{IsString, sink_octets, three_octets}

-- ---- a tunnel

pub record HasTunnelWidths (t : Tunnel) : Type 0 where
  pub src : t.src.0 < 2 ^ 32
  pub counter : t.counter < 2 ^ 32
  pub payload : IsString t.payload
  pub proxy : IfSome t.proxy (λ proxy. proxy.0 < 2 ^ 16)

-- ---- a Pairing

unfoldable pub route_octets : Route → List ℕ
route_octets r = to_le_bytes w32 r.src.0 ++ (optional sink_octets r.sink ++ (optional (to_le_bytes w16) r.group ++ optional octet r.device))

pub record HasRouteWidths (r : Route) : Type 0 where
  pub src : r.src.0 < 2 ^ 32
  pub sink : IfSome r.sink (λ sink. (sink.0 < 2 ^ 64) × (sink.1 < 2 ^ 16))
  pub group : IfSome r.group (λ n. n < 2 ^ 16)

unfoldable pub extras_octets : Extras → List ℕ
extras_octets e =
    optional (to_le_bytes w32) e.counter ++ (optional key_octets e.key ++ (optional (to_le_bytes w16) e.alias ++ optional octet e.radius))

pub record HasExtrasWidths (e : Extras) : Type 0 where
  pub counter : IfSome e.counter (λ n. n < 2 ^ 32)
  pub key : IfSome e.key (λ key. length (key_octets key) ≡ 16)
  pub alias : IfSome e.alias (λ n. n < 2 ^ 16)

abbrev pub route_of : Pairing → Route
route_of m = record { src = m.src; sink = m.sink; group = m.group; device = m.device }

abbrev pub extras_of : Pairing → Extras
extras_of m = record { counter = m.counter; key = m.key; alias = m.alias; radius = m.radius }

abbrev pub pairing_in_parts : Pairing → List ℕ
pairing_in_parts m = three_octets m.options ++ (route_octets (route_of m) ++ extras_octets (extras_of m))
