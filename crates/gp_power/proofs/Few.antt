-- How great the last generation is after an event.
use Rattle.std.proofs.Common.{◌≤◌, ◌+◌, ℕ, Result, Ok, Err, IfOk, refl, sym, subst, arith}
use Rattle.gp_disk.specs.declared.memory.MemoryDisk.{MemoryDisk}
use Rattle.gp_disk.specs.MemoryLaws.{memory_counts_now}
use Rattle.gp_store.specs.State.{State}
use Rattle.gp_store.proofs.OneList.{one_last}
use Rattle.gp_sink.specs.declared.verdict.Verdict.{Verdict}
use Rattle.gp_sink.specs.declared.verdict.SinkFault.{SinkFault}
use Rattle.gp_sink.specs.declared.verdict.SinkFault.TheVariants as faults
use Rattle.gp_sink.specs.Sink.{SinkState, HasCause, Goes, IsKept}
use Rattle.gp_power.specs.declared.power.Supply.{Supply}
use Rattle.gp_power.specs.declared.power.Supply.TheVariants.{On, Off, Moved}
use Rattle.gp_power.specs.Few.{IsBelow, IsSupplyBelow}
use Rattle.gp_power.specs.Inside.{in_memory}

more : (most next : ℕ) (store : State MemoryDisk) → most ≤ next → IsBelow most store → IsBelow next store
more most next store le b = record { last = let l = b.last in omega arith; images = λ c n left has. let l = b.images c n left has in omega arith }

pub sink_few : (old new : SinkState MemoryDisk) (result : Result Verdict SinkFault) → HasCause in_memory old new result → Goes in_memory old new result → IfOk result (IsKept in_memory new)
    → (most : ℕ) → IsBelow most old.store → IsBelow (most + 2) new.store
sink_few old new (Ok v) cause goes kept most b = record {
  last = let l = b.last in let g = goes.last in omega arith;
  images = λ c n left has. let is = one_last c n new.store.last has (kept.stands c left).1 in let l = b.last in let g = goes.last in omega arith;
}
sink_few old new (Err faults.Halted) cause goes kept most b = subst (λ (s : SinkState MemoryDisk). IsBelow (most + 2) s.store) (sym cause.1) (more most (most + 2) old.store (omega arith) b)
sink_few old new (Err (faults.Worn generation)) cause goes kept most b =
    let w = more most (most + 2) old.store (omega arith) b in
    subst (λ (s : SinkState MemoryDisk). IsBelow (most + 2) s.store) (sym cause.3) (record { last = w.last; images = w.images })
sink_few old new (Err faults.DiskFault) cause goes kept most b = record {
  last = let l = b.last in let g = goes.last in omega arith;
  images = λ c n left has. let l = b.last in let g = goes.left refl c n (memory_counts_now new.store.disk c left) has in omega arith;
}

-- at most this, and so at most any greater one
pub few_within : (most next : ℕ) → most ≤ next → (supply : Supply) → IsSupplyBelow most supply → IsSupplyBelow next supply
few_within most next le (On sink) b = more most next sink.store le b
few_within most next le (Off rules disk) b = λ c n left has. let l = b c n left has in omega arith
few_within most next le Moved b = b

-- nothing has changed
pub more_few : (most : ℕ) (supply : Supply) → IsSupplyBelow most supply → IsSupplyBelow (most + 2) supply
more_few most supply b = few_within most (most + 2) (omega arith) supply b
