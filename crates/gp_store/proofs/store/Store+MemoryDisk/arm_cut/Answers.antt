use Rattle.gp_store.proofs.Armed.{kept_armed}
use Rattle.gp_store.proofs.store.Store+MemoryDisk.arm_cut.Goals as goal

pub invariant_of-self : goal.invariant_of-self
invariant_of-self c = kept_armed c.self.inside.keeper.disk c.arm_cut.new.self c.self.inside.table c.self.inside.keeper.stale.items _ c.self.inside.keeper.marks c.arm_cut.ensures.same c.self.invariant
