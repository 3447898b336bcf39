use Rattle.gp_disk.specs.Disk.{part}
use Rattle.std.proofs.Common.{◌≡◌}
use Rattle.gp_store.proofs.SlotRead.{at_some, slot_read}
use Rattle.gp_store.proofs.slots.read_slot.Goals as goal

pub returns-clause-slot : goal.returns-clause-slot
returns-clause-slot g c = λ d is.
    slot_read c.args.slot.row c.args.slot.odd c.gate.result c.read.new.into c.behind.result.items d c.requires.row c.gate.ensures.place
    (at_some (g.D.Disk.image c.args.disk.now) (λ image. c.read.new.into ≡ part c.gate.result 64 image) d c.in_ok-read.ensures.octets is) c.behind.ensures.octets
