-- What a device sends (Zigbee PRO Green Power, A.1.4.1 and A.1.5.4).
use Rattle.std.specs.Prelude.{ℕ, suc, ◌%◌, false, ◌==◌, if◌then◌else◌, List, [], ◌∷◌, Some, None}
use Rattle.gp_base.specs.Identity.{is_individual, level_number}
use Rattle.gp_frames.specs.declared.frame.Mpdu.{Mpdu}
use Rattle.gp_frames.specs.Frame.{spelling}
use Rattle.gp_security.specs.Protection.{protected, with_body}
use Rattle.gp_script.specs.declared.report.Report.TheVariants as reports
use Rattle.gp_world.specs.World.{Device, IsDevice, Out, Fixed, out}

-- The head of a secured frame: to all nodes of all networks, from the device, under its level and kind of key, and it
-- doesn't listen afterwards. Its sequence number counts the frames that the device sent before.
abbrev pub head_of : Device → ℕ → Mpdu
head_of device counter = record {
  seq = device.sent % 256;
  pan = 0xFFFF;
  dest = 0xFFFF;
  frame = record {
    maintenance = false;
    auto = false;
    ext = Some (record { level = level_number device.level; individual = is_individual device.kind; rx_after = false; to_device = false });
    src = Some device.source;
    counter = Some counter;
    body = [];
    mic = None;
  };
}

-- the frame that carries a command under the device's key, with this counter
abbrev pub sealed : Device → ℕ → List ℕ → Mpdu
sealed device counter command =
    let head = head_of device counter in
    with_body head (protected device.key.0 head.frame command)

-- a secured frame has the counter after the last one
abbrev pub sends : Device → List ℕ → Out
sends device command = record {
  node = IsDevice (record device { counter = suc device.counter; sent = suc device.sent });
  says = [];
  puts = [];
  airs = spelling (sealed device (suc device.counter) command) ∷ [];
  choice = Fixed;
}

-- a press: with no counter left nothing is sent
unfoldable pub device_presses : List ℕ → Device → Out
device_presses command device = if device.counter == 0xFFFFFFFF then out (IsDevice device) (reports.End ∷ []) else sends device command

-- a frame reaches a device, which listens only after it has asked for a frame
unfoldable pub device_hears : List ℕ → Device → Out
device_hears octets device = out (IsDevice device) (reports.Closed ∷ [])
