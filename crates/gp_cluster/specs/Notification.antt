-- Notification and Commissioning Notification (Zigbee PRO Green Power, A.3.3.4).
use Rattle.std.specs.Prelude.{ℕ, ◌+◌, ◌<◌, ◌^◌, ◌≡◌, ◌==◌, Bool, ◌&&◌, List, [], ◌∷◌, length, Option, is_some, IfSome}
use Rattle.std.specs.Int.{w16, to_le_bytes}
use Rattle.gp_base.specs.Field.{agree, joined, optional, part, two_at, size_if, value_if}
use Rattle.gp_base.specs.Table.{first_of}
use Rattle.gp_cluster.specs.declared.message.Notification.{Notification}
use Rattle.gp_cluster.specs.declared.message.CommissioningNotice.{CommissioningNotice}
use Rattle.gp_cluster.specs.declared.message.ClusterReason.{ClusterReason}
use Rattle.gp_cluster.specs.Ending.{ending_lines, foreign_line, missing_line}
use Rattle.gp_cluster.specs.Options.{application_id, has_proxy, notice_has_proxy, has_failed}
use Rattle.gp_cluster.specs.Fields.{IsString}
use Rattle.gp_cluster.specs.Tunnel.{Tunnel, tunnel_octets, tunnel_end, tunnel_at}

-- ---- Notification

-- the frame and the proxy in it
abbrev pub tunnel_of : Notification → Tunnel
tunnel_of m = record { src = m.src; counter = m.counter; command = m.command; payload = m.payload; proxy = m.proxy }

-- its octets after the header
unfoldable pub notification : Notification → List ℕ
notification m =
    joined (to_le_bytes w16 m.options ∷ tunnel_octets (tunnel_of m) ∷ [])

-- The ApplicationID is 0, and proxy info is there exactly where its bit says so.
abbrev pub notification_agrees : Notification → Bool
notification_agrees m = (application_id m.options == 0) && agree (is_some m.proxy) (has_proxy m.options)

-- Each field fits its octets.
pub record HasNotificationWidths (m : Notification) : Type 0 where
  pub options : m.options < 2 ^ 16
  pub src : m.src.0 < 2 ^ 32
  pub counter : m.counter < 2 ^ 32
  pub payload : IsString m.payload
  pub proxy : IfSome m.proxy (λ proxy. proxy.0 < 2 ^ 16)

-- where it ends
abbrev pub notification_end : List ℕ → ℕ
notification_end octets = tunnel_end (has_proxy (two_at octets 3)) octets

-- its first fault
abbrev pub notification_reason : List ℕ → Option ClusterReason
notification_reason octets =
    first_of
    (missing_line 5 octets ∷ foreign_line (two_at octets 3) ∷ ending_lines (notification_end octets) octets)

-- what stands at its places
abbrev pub notification_at : List ℕ → Notification
notification_at octets =
    let tunnel = tunnel_at (has_proxy (two_at octets 3)) octets in
    record {
      options = two_at octets 3;
      src = tunnel.src;
      counter = tunnel.counter;
      command = tunnel.command;
      payload = tunnel.payload;
      proxy = tunnel.proxy;
    }

-- ---- Commissioning Notification

-- the frame and the proxy in it
abbrev pub notice_tunnel_of : CommissioningNotice → Tunnel
notice_tunnel_of m = record { src = m.src; counter = m.counter; command = m.command; payload = m.payload; proxy = m.proxy }

-- its octets after the header
unfoldable pub notice : CommissioningNotice → List ℕ
notice m =
    joined (to_le_bytes w16 m.options ∷ tunnel_octets (notice_tunnel_of m) ∷ optional (λ mic. mic) m.mic ∷ [])

-- The ApplicationID is 0, and proxy info and MIC are there exactly where their bits say so.
abbrev pub notice_agrees : CommissioningNotice → Bool
notice_agrees m =
    (application_id m.options == 0)
    && agree (is_some m.proxy) (notice_has_proxy m.options)
    && agree (is_some m.mic) (has_failed m.options)

-- Each field fits its octets.
pub record HasNoticeWidths (m : CommissioningNotice) : Type 0 where
  pub options : m.options < 2 ^ 16
  pub src : m.src.0 < 2 ^ 32
  pub counter : m.counter < 2 ^ 32
  pub payload : IsString m.payload
  pub proxy : IfSome m.proxy (λ proxy. proxy.0 < 2 ^ 16)
  pub mic : IfSome m.mic (λ mic. length mic ≡ 4)

-- where the MIC would stand, and where it ends
abbrev pub mic_place : List ℕ → ℕ
mic_place octets = tunnel_end (notice_has_proxy (two_at octets 3)) octets

abbrev pub notice_end : List ℕ → ℕ
notice_end octets = mic_place octets + size_if (has_failed (two_at octets 3)) 4

-- its first fault
abbrev pub notice_reason : List ℕ → Option ClusterReason
notice_reason octets =
    first_of
    (missing_line 5 octets ∷ foreign_line (two_at octets 3) ∷ ending_lines (notice_end octets) octets)

-- what stands at its places
abbrev pub notice_at : List ℕ → CommissioningNotice
notice_at octets =
    let tunnel = tunnel_at (notice_has_proxy (two_at octets 3)) octets in
    record {
      options = two_at octets 3;
      src = tunnel.src;
      counter = tunnel.counter;
      command = tunnel.command;
      payload = tunnel.payload;
      proxy = tunnel.proxy;
      mic = value_if (has_failed (two_at octets 3)) (part octets (mic_place octets) 4);
    }
