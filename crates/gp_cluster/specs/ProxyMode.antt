-- Proxy Commissioning Mode (Zigbee PRO Green Power, A.3.3.5).
use Rattle.std.specs.Prelude.{ℕ, ◌+◌, ◌<◌, ◌^◌, Bool, ◌&&◌, List, [], ◌∷◌, Option, is_some, IfSome}
use Rattle.std.specs.Int.{w16, to_le_bytes}
use Rattle.gp_base.specs.Field.{agree, joined, octet, octet_at, optional, two_at, size_if, value_if}
use Rattle.gp_base.specs.Table.{first_of}
use Rattle.gp_cluster.specs.declared.message.ProxyMode.{ProxyMode}
use Rattle.gp_cluster.specs.declared.message.ClusterReason.{ClusterReason}
use Rattle.gp_cluster.specs.Ending.{ending_lines}
use Rattle.gp_cluster.specs.Options.{has_window, has_channel}

-- its octets after the header
unfoldable pub proxy_mode : ProxyMode → List ℕ
proxy_mode m = joined (octet m.options ∷ optional (to_le_bytes w16) m.window ∷ optional octet m.channel ∷ [])

-- Window and channel are there exactly where their bits say so.
abbrev pub proxy_mode_agrees : ProxyMode → Bool
proxy_mode_agrees m = agree (is_some m.window) (has_window m.options) && agree (is_some m.channel) (has_channel m.options)

-- The window fits its octets.
pub record HasProxyModeWidths (m : ProxyMode) : Type 0 where
  pub window : IfSome m.window (λ n. n < 2 ^ 16)

-- where the channel would stand, and where it ends
abbrev pub channel_place : List ℕ → ℕ
channel_place octets = 4 + size_if (has_window (octet_at octets 3)) 2

abbrev pub proxy_mode_end : List ℕ → ℕ
proxy_mode_end octets = channel_place octets + size_if (has_channel (octet_at octets 3)) 1

-- its first fault
abbrev pub proxy_mode_reason : List ℕ → Option ClusterReason
proxy_mode_reason octets = first_of (ending_lines (proxy_mode_end octets) octets)

-- what stands at its places
abbrev pub proxy_mode_at : List ℕ → ProxyMode
proxy_mode_at octets = record {
  options = octet_at octets 3;
  window = value_if (has_window (octet_at octets 3)) (two_at octets 4);
  channel = value_if (has_channel (octet_at octets 3)) (octet_at octets (channel_place octets));
}
