-- How great the last generation of a sink is.
use Rattle.std.specs.Prelude.{◌≤◌, ℕ, List}
use Rattle.gp_disk.specs.declared.memory.MemoryDisk.{MemoryDisk}
use Rattle.gp_disk.specs.Memory.{memory_may_leave}
use Rattle.gp_store.specs.Image.{HasLast}
use Rattle.gp_store.specs.State.{State}
use Rattle.gp_power.specs.declared.power.Powered.{Powered}
use Rattle.gp_power.specs.declared.power.Supply.{Supply}
use Rattle.gp_power.specs.declared.power.Supply.TheVariants.{On, Off, Moved}

-- none of these images has a last generation above this one
abbrev pub AreBelow : ℕ → (List ℕ → Type 0) → Type 0
AreBelow most images = (c : List ℕ) (last : ℕ) → images c → HasLast c last → last ≤ most

-- neither the store nor an image that a crash may leave of it
pub record IsBelow (most : ℕ) (store : State MemoryDisk) : Type 0 where
  pub last : store.last ≤ most
  pub images : AreBelow most (memory_may_leave store.disk)

abbrev pub IsSupplyBelow : ℕ → Supply → Type 0
IsSupplyBelow most (On sink) = IsBelow most sink.store
IsSupplyBelow most (Off rules disk) = AreBelow most (memory_may_leave disk)
IsSupplyBelow most Moved = ⊥

-- The last generation is at most this one, with power or without.
abbrev pub AreFew : ℕ → Powered → Type 0
AreFew most powered = IsSupplyBelow most powered.supply
