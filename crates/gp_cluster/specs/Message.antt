-- A message of the Green Power cluster and its octets: a header (Zigbee Cluster Library, 2.4.1) and the fields that
-- are there in order (Zigbee PRO Green Power, A.3.3.4 and A.3.3.5).
use Rattle.std.specs.Prelude.{◌≡◌, ℕ, ◌+◌, ◌*◌, ◌/◌, ◌%◌, ◌≤◌, ◌==◌, nat_lt, Bool, not, ◌&&◌, List, [], ◌∷◌, length, Option, Some, Result, IsTrue, unwrap_or}
use Rattle.gp_base.specs.Field.{IsOctets, flag, has_bit, joined, octet, octet_at}
use Rattle.gp_base.specs.Table.{answer, first_of, let_else, or_else}
use Rattle.gp_cluster.specs.declared.kind.Kind.{Kind}
use Rattle.gp_cluster.specs.declared.kind.Kind.TheVariants as kinds
use Rattle.gp_cluster.specs.declared.message.Zcl.{Zcl}
use Rattle.gp_cluster.specs.declared.message.Cluster.{Cluster}
use Rattle.gp_cluster.specs.declared.message.Cluster.TheVariants.{Notification, CommissioningNotice, Pairing, ProxyMode, Response}
use Rattle.gp_cluster.specs.declared.message.ClusterReason.{ClusterReason}
use Rattle.gp_cluster.specs.declared.message.ClusterReason.TheVariants.{Short, HeaderForm, CommandUnknown, Long}
use Rattle.gp_cluster.specs.Kind.{kind_of, kind_in, is_from_sink, command_number}
use Rattle.gp_cluster.specs.Notification.{notification, notification_agrees, HasNotificationWidths, notification_reason, notification_at, notice, notice_agrees, HasNoticeWidths, notice_reason, notice_at}
use Rattle.gp_cluster.specs.Pairing.{pairing, pairing_agrees, HasPairingWidths, pairing_reason, pairing_at}
use Rattle.gp_cluster.specs.ProxyMode.{proxy_mode, proxy_mode_agrees, HasProxyModeWidths, proxy_mode_reason, proxy_mode_at}
use Rattle.gp_cluster.specs.Response.{response, response_agrees, HasResponseWidths, response_reason, response_at}

-- ---- what a message is

-- the control octet: a cluster's own command, the direction, no default response
abbrev pub control : Bool → Bool → ℕ
control from_sink quiet = 1 + 8 * flag from_sink + 16 * flag quiet

-- the octets of a message after the header
abbrev pub body : Cluster → List ℕ
body (Notification m) = notification m
body (CommissioningNotice m) = notice m
body (Pairing m) = pairing m
body (ProxyMode m) = proxy_mode m
body (Response m) = response m

-- its octets
unfoldable pub spelling : Zcl → List ℕ
spelling zcl =
    joined
    (octet (control (is_from_sink (kind_in zcl.body)) zcl.quiet)
    ∷ octet zcl.sequence
    ∷ octet (command_number (kind_in zcl.body))
    ∷ body zcl.body
    ∷ [])

-- The ApplicationID is 0, and each field is there exactly where the options say so.
abbrev pub fields_agree : Cluster → Bool
fields_agree (Notification m) = notification_agrees m
fields_agree (CommissioningNotice m) = notice_agrees m
fields_agree (Pairing m) = pairing_agrees m
fields_agree (ProxyMode m) = proxy_mode_agrees m
fields_agree (Response m) = response_agrees m

-- Each field fits its octets.
abbrev pub HasWidths : Cluster → Type 0
HasWidths (Notification m) = HasNotificationWidths m
HasWidths (CommissioningNotice m) = HasNoticeWidths m
HasWidths (Pairing m) = HasPairingWidths m
HasWidths (ProxyMode m) = HasProxyModeWidths m
HasWidths (Response m) = HasResponseWidths m

-- The octets, at most 127 of them, spell the message.
pub record Message (zcl : Zcl) (octets : List ℕ) : Type 0 where
  pub spelled : octets ≡ spelling zcl
  pub fields : IsTrue (fields_agree zcl.body)
  pub widths : HasWidths zcl.body
  pub limit : length octets ≤ 127
  pub are_octets : IsOctets octets

-- some octets spell the message
abbrev pub IsValid : Zcl → Type 0
IsValid zcl = (octets : List ℕ) × Message zcl octets

-- ---- the first fault, and what is read without one

-- the control octet is that of a cluster's own command: bits 0 and 1 are 01, no manufacturer's code (bit 2), and the
-- reserved bits 5 to 7 are 0
abbrev pub has_header_form : ℕ → Bool
has_header_form octet = (octet % 4 == 1) && not (has_bit octet 4) && (octet / 32 == 0)

-- the faults of the header
abbrev pub header_reason : List ℕ → Option ClusterReason
header_reason octets =
    first_of
    ((nat_lt 127 (length octets), Long 127)
    ∷ (nat_lt (length octets) 3, Short (length octets))
    ∷ (not (has_header_form (octet_at octets 0)), HeaderForm 0)
    ∷ [])

-- which message direction and number say
abbrev pub kind_at : List ℕ → Option Kind
kind_at octets = kind_of (has_bit (octet_at octets 0) 8) (octet_at octets 2)

-- the first fault of a message of a kind
abbrev pub body_reason : Kind → List ℕ → Option ClusterReason
body_reason kinds.Notification octets = notification_reason octets
body_reason kinds.CommissioningNotice octets = notice_reason octets
body_reason kinds.Pairing octets = pairing_reason octets
body_reason kinds.ProxyMode octets = proxy_mode_reason octets
body_reason kinds.Response octets = response_reason octets

-- what a message of a kind reads as
abbrev pub body_at : Kind → List ℕ → Cluster
body_at kinds.Notification octets = Notification (notification_at octets)
body_at kinds.CommissioningNotice octets = CommissioningNotice (notice_at octets)
body_at kinds.Pairing octets = Pairing (pairing_at octets)
body_at kinds.ProxyMode octets = ProxyMode (proxy_mode_at octets)
body_at kinds.Response octets = Response (response_at octets)

-- what octets read as whose direction and number are those of a message; for others any kind will do
abbrev pub message_at : List ℕ → Zcl
message_at octets = record {
  quiet = has_bit (octet_at octets 0) 16;
  sequence = octet_at octets 1;
  body = body_at (unwrap_or (kind_at octets) kinds.Notification) octets;
}

-- the first fault behind the header
abbrev pub reason_behind : List ℕ → Option ClusterReason
reason_behind octets = let_else (kind_at octets) (Some (CommandUnknown 2)) (λ kind. body_reason kind octets)

-- the first fault from the left
unfoldable pub first_reason : List ℕ → Option ClusterReason
first_reason octets = or_else (header_reason octets) (reason_behind octets)

-- what octets read as
unfoldable pub reading : List ℕ → Result Zcl ClusterReason
reading octets = answer (first_reason octets) (message_at octets)
