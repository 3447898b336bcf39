-- Options of the messages: what their bits say (Zigbee PRO Green Power, A.3.3.4 and A.3.3.5).
use Rattle.std.specs.Prelude.{ℕ, ◌/◌, ◌%◌, ◌==◌, Bool, not, ◌&&◌, ◌||◌}
use Rattle.gp_base.specs.Field.{has_bit}

-- the ApplicationID, bits 0 to 2 of all options but those of Proxy Commissioning Mode
abbrev pub application_id : ℕ → ℕ
application_id options = options % 8

-- ---- Notification

-- bits 3 to 5: also unicast, also derived group, also commissioned group
abbrev pub also_unicast : ℕ → Bool
also_unicast options = has_bit options 8

abbrev pub also_derived : ℕ → Bool
also_derived options = has_bit options 0x10

abbrev pub also_commissioned : ℕ → Bool
also_commissioned options = has_bit options 0x20

-- bits 6 and 7: the security level
abbrev pub notification_level : ℕ → ℕ
notification_level options = options / 64 % 4

-- bits 8 to 10: the key type
abbrev pub notification_key_type : ℕ → ℕ
notification_key_type options = options / 256 % 8

-- bit 11: RxAfterTx; bit 12: the proxy's queue is full; bit 13: bidirectional capability; bit 14: proxy info is there
abbrev pub notification_rx_after : ℕ → Bool
notification_rx_after options = has_bit options 0x0800

abbrev pub queue_is_full : ℕ → Bool
queue_is_full options = has_bit options 0x1000

abbrev pub notification_is_bidirectional : ℕ → Bool
notification_is_bidirectional options = has_bit options 0x2000

abbrev pub has_proxy : ℕ → Bool
has_proxy options = has_bit options 0x4000

-- ---- Commissioning Notification

-- bit 3: RxAfterTx
abbrev pub notice_rx_after : ℕ → Bool
notice_rx_after options = has_bit options 8

-- bits 4 and 5: the security level
abbrev pub notice_level : ℕ → ℕ
notice_level options = options / 16 % 4

-- bits 6 to 8: the key type
abbrev pub notice_key_type : ℕ → ℕ
notice_key_type options = options / 64 % 8

-- bit 9: security processing failed, and the MIC is there
abbrev pub has_failed : ℕ → Bool
has_failed options = has_bit options 0x0200

-- bit 10: bidirectional capability; bit 11: proxy info is there
abbrev pub notice_is_bidirectional : ℕ → Bool
notice_is_bidirectional options = has_bit options 0x0400

abbrev pub notice_has_proxy : ℕ → Bool
notice_has_proxy options = has_bit options 0x0800

-- ---- Pairing

-- bit 3: AddSink, and the DeviceID is there
abbrev pub adds_sink : ℕ → Bool
adds_sink options = has_bit options 0x08

-- bit 4: RemoveGPD
abbrev pub removes_device : ℕ → Bool
removes_device options = has_bit options 0x10

-- bits 5 and 6: the communication mode
abbrev pub mode : ℕ → ℕ
mode options = options / 32 % 4

-- without RemoveGPD: the sink in mode 0b11, its group in modes 0b01 and 0b10, and mode 0b00 is a fault
abbrev pub has_sink : ℕ → Bool
has_sink options = not (removes_device options) && (mode options == 3)

abbrev pub has_group : ℕ → Bool
has_group options = not (removes_device options) && ((mode options == 1) || (mode options == 2))

abbrev pub lacks_mode : ℕ → Bool
lacks_mode options = not (removes_device options) && (mode options == 0)

-- bit 7: fixed location; bit 8: MAC sequence number capability
abbrev pub is_fixed : ℕ → Bool
is_fixed options = has_bit options 0x80

abbrev pub counts_sequence : ℕ → Bool
counts_sequence options = has_bit options 0x0100

-- bits 9 and 10: the security level
abbrev pub pairing_level : ℕ → ℕ
pairing_level options = options / 512 % 4

-- bits 11 to 13: the key type
abbrev pub pairing_key_type : ℕ → ℕ
pairing_key_type options = options / 2048 % 8

-- bits 14 to 17: counter, key, alias and radius are there
abbrev pub has_counter : ℕ → Bool
has_counter options = has_bit options 0x4000

abbrev pub has_key : ℕ → Bool
has_key options = has_bit options 0x8000

abbrev pub has_alias : ℕ → Bool
has_alias options = has_bit options 0x10000

abbrev pub has_radius : ℕ → Bool
has_radius options = has_bit options 0x20000

-- ---- Proxy Commissioning Mode

-- bit 0: the action, to enter commissioning mode or to leave it; bit 1: the window is there
abbrev pub enters : ℕ → Bool
enters options = has_bit options 1

abbrev pub has_window : ℕ → Bool
has_window options = has_bit options 2

-- bits 2 and 3: exit on first pairing, exit on command
abbrev pub ends_on_pairing : ℕ → Bool
ends_on_pairing options = has_bit options 4

abbrev pub ends_on_command : ℕ → Bool
ends_on_command options = has_bit options 8

-- bit 4: the channel is there; bit 5: unicast
abbrev pub has_channel : ℕ → Bool
has_channel options = has_bit options 0x10

abbrev pub tells_by_unicast : ℕ → Bool
tells_by_unicast options = has_bit options 0x20
