-- A tunnelled frame at its places, and spelled out.
use Rattle.std.proofs.Common.{◌≡◌, ℕ, ◌^◌, ◌<◌, ◌≤◌, Bool, List, ◌++◌, length, drop, refl, sym, ◌∙◌, append_assoc, arith}
use Rattle.std.specs.Int.{w32, to_le_bytes}
use Rattle.gp_base.specs.Field.{IsOctets, octet, octet_at, four_at, optional}
use Rattle.gp_base.proofs.Codec.{At, IsField, octet_codec, number32_codec, src_codec, optional_codec, join}
use Rattle.gp_cluster.specs.Tunnel.{Tunnel}
use Rattle.gp_cluster.specs.Fields.{octet_string, IsString, string_at, proxy_octets}
use Rattle.gp_cluster.specs.Tunnel.{tunnel_octets, proxy_place, tunnel_end, tunnel_at}
use Rattle.gp_cluster.proofs.FieldCodecs.{string_codec, proxy_codec}

pub record HasTunnel (with_proxy : Bool) (t : Tunnel) : Type 0 where
  pub src : t.src.0 < 2 ^ 32
  pub counter : t.counter < 2 ^ 32
  pub payload : IsString t.payload
  pub proxy : IsField with_proxy (λ proxy. proxy.0 < 2 ^ 16) t.proxy

tunnel_in_order : (t : Tunnel) (r : List ℕ) → tunnel_octets t ++ r ≡ to_le_bytes w32 t.src.0 ++ (to_le_bytes w32 t.counter ++ (octet t.command ++ (octet_string t.payload ++ (optional proxy_octets t.proxy ++ r))))
unfolding tunnel_octets
tunnel_in_order t r = simp append_assoc

pub tunnel_split : (with_proxy : Bool) (b : List ℕ) → IsOctets b → tunnel_end with_proxy b ≤ length b
    → (drop 5 b ≡ tunnel_octets (tunnel_at with_proxy b) ++ drop (tunnel_end with_proxy b) b) × HasTunnel with_proxy (tunnel_at with_proxy b)
unfolding tunnel_end tunnel_at
tunnel_split with_proxy b bytes h =
    let before : proxy_place b ≤ length b = omega (arith, h) in
    let src = src_codec.split b 5 bytes (omega (arith, before)) in
    let counter = number32_codec.split b 9 bytes (omega (arith, before)) in
    let command = octet_codec.split b 13 bytes (omega (arith, before)) in
    let payload = string_codec.split b 14 bytes before in
    let proxy = (optional_codec _ _ _ _ proxy_codec with_proxy).split b (proxy_place b) bytes h in
    let all = join b 5 9 (to_le_bytes w32 (four_at b 5)) _ src.0 (join b 9 13 (to_le_bytes w32 (four_at b 9)) _ counter.0 (join b 13 14 (octet (octet_at b 13)) _ command.0 (join b 14 (proxy_place b) (octet_string (string_at b 14)) _ payload.0 proxy.0))) in
    (all ∙ sym (tunnel_in_order (tunnel_at with_proxy b) (drop (tunnel_end with_proxy b) b)), record { src = src.1; counter = counter.1; payload = payload.1; proxy = proxy.1 })

pub tunnel_again : (with_proxy : Bool) (b : List ℕ) (t : Tunnel) (r : List ℕ) → At b 5 (tunnel_octets t ++ r) → HasTunnel with_proxy t
    → (tunnel_at with_proxy b ≡ t) × At b (tunnel_end with_proxy b) r
unfolding tunnel_end tunnel_at
tunnel_again with_proxy b t r at has =
    let start : At b 5 (to_le_bytes w32 t.src.0 ++ (to_le_bytes w32 t.counter ++ (octet t.command ++ (octet_string t.payload ++ (optional proxy_octets t.proxy ++ r))))) =
    record { rest = at.rest ∙ tunnel_in_order t r; within = at.within } in
    let src = src_codec.again b 5 t.src _ start has.src in
    let counter = number32_codec.again b 9 t.counter _ src.1 has.counter in
    let command = octet_codec.again b 13 t.command _ counter.1 tt in
    let payload = string_codec.again b 14 t.payload _ command.1 has.payload in
    let proxy = (optional_codec _ _ _ _ proxy_codec with_proxy).again b (proxy_place b) t.proxy r payload.1 has.proxy in
    (rw (src.0, counter.0, command.0, payload.0, proxy.0) refl, proxy.1)
