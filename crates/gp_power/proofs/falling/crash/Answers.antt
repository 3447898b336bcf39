use Rattle.std.proofs.Common.{false, subst}
use Rattle.gp_disk.specs.Fuse.{Fuse, Foretold}
use Rattle.gp_disk.specs.Trigger.{arming_of}
use Rattle.gp_power.proofs.Fuses.{calm}
use Rattle.gp_power.proofs.Crashing.{at_rest_only}
use Rattle.gp_disk.specs.Memory.{memory_held}
use Rattle.gp_power.proofs.falling.crash.Goals as goal

pub returns-clause-crashed : goal.returns-clause-crashed
returns-clause-crashed c = record {
  image = c.crash.ensures.left;
  only = λ d left. at_rest_only (memory_held c.crash.new.self) c.crash.new.self.content.image.items d c.crash.ensures.held left;
  fuse = c.crash.ensures.fuse;
}

pub returns-clause-calm : goal.returns-clause-calm
returns-clause-calm c = λ count told. calm c.args.disk.trigger.stopped (arming_of c.args.disk.trigger.arming) count (subst (λ (f : Fuse). Foretold count f false) c.crash.ensures.fuse told)
