-- How a device stands for an ideal one.
use Rattle.std.specs.Prelude.{◌≡◌, ◌%◌}
use Rattle.gp_world.specs.World as ideal
use Rattle.gp_net.specs.declared.device.Device.{Device}

-- the ideal device that has sent as many frames as the sequence number says
abbrev pub ideal_of : Device → ideal.Device
ideal_of d = record { source = d.source; key = d.key; kind = d.kind; level = d.level; device = d.device; counter = d.counter; sent = d.sequence }

-- The same device, but for the number of frames that it has sent: the sequence number is the low octet of that.
pub record IsDeviceOf (d : Device) (model : ideal.Device) : Type 0 where
  pub fields : model ≡ record (ideal_of d) { sent = model.sent }
  pub sequence : d.sequence ≡ model.sent % 256
