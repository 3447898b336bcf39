-- The secured frame that a Commissioning Notification reports (Zigbee PRO Green Power, A.3.3.4): security processing
-- failed at the proxy, and so the frame stands in it as it was received.
use Rattle.std.specs.Prelude.{◌≡◌, ℕ, ◌==◌, ◌||◌, ◌&&◌, nat_le, if◌then◌else◌, Bool, false, List, [], ◌∷◌, length, Option, Some, None}
use Rattle.std.specs.Option.{option_map_or}
use Rattle.gp_frames.specs.declared.frame.Gpdf.{Gpdf}
use Rattle.gp_cluster.specs.declared.message.Zcl.{Zcl}
use Rattle.gp_cluster.specs.declared.message.Cluster.TheVariants as clusters
use Rattle.gp_cluster.specs.declared.message.CommissioningNotice.{CommissioningNotice}
use Rattle.gp_cluster.specs.Message.{IsValid}
use Rattle.gp_cluster.specs.Options.{has_failed, notice_key_type, notice_level, notice_rx_after}

-- the payload; an unspecified one acts as empty
abbrev pub payload_of : CommissioningNotice → List ℕ
payload_of notice = option_map_or (λ octets. octets) notice.payload []

-- the SecurityKey bit: the key types of one device alone are 4 and 7
abbrev pub is_individual : ℕ → Bool
is_individual key_type = (key_type == 4) || (key_type == 7)

-- whether the notification reports a secured frame that an MPDU can hold: at level 2 or 3 its command has at most 104 octets
abbrev pub has_frame : CommissioningNotice → Bool
has_frame notice = has_failed notice.options && nat_le 2 (notice_level notice.options) && nat_le (length (payload_of notice)) 103

-- the frame: a data frame from the device with control 8C
abbrev pub frame_in : CommissioningNotice → Gpdf
frame_in notice = record {
  maintenance = false;
  auto = false;
  ext = Some (record {
    level = notice_level notice.options;
    individual = is_individual (notice_key_type notice.options);
    rx_after = notice_rx_after notice.options;
    to_device = false;
  });
  src = Some notice.src;
  counter = Some notice.counter;
  body = notice.command ∷ payload_of notice;
  mic = notice.mic;
}

-- the frame that a notification reports, where it reports one
unfoldable pub rebuilt : CommissioningNotice → Option Gpdf
rebuilt notice = if has_frame notice then Some (frame_in notice) else None

-- the notification is the body of a valid message
abbrev pub IsReceived : CommissioningNotice → Type 0
IsReceived notice = (zcl : Zcl) × (zcl.body ≡ clusters.CommissioningNotice notice) × IsValid zcl
