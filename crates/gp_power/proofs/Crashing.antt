-- What a crash makes of a disk.
use Rattle.std.proofs.Common.{◌≡◌, ◌∙◌, ℕ, List, Option, Some, IfSome, ap, sym, subst}
use Rattle.gp_disk.specs.declared.memory.MemoryDisk.{MemoryDisk}
use Rattle.gp_disk.specs.History.{Held, at_rest, MayLeave, Replaced}
use Rattle.gp_disk.specs.Disk.{Same}
use Rattle.gp_disk.specs.Fuse.{Fuse, burnt, crashed}
use Rattle.gp_disk.specs.Memory.{memory_image, memory_may_leave, memory_fuse}
use Rattle.gp_disk.proofs.Fuses.{burnt-crashed}
use Rattle.gp_store.specs.Held.{held_calls}
use Rattle.gp_store.specs.Untouched.{GoesOn}
use Rattle.gp_power.specs.Inside.{IsCrashed}

-- a disk at rest leaves what a read gives
pub at_rest_only : (held : Held) (image c : List ℕ) → held ≡ at_rest image → MayLeave held c → Some image ≡ Some c
unfolding Replaced
at_rest_only held image c e left = ap (λ (x : List ℕ). Some x) (sym (subst (λ (h : Held). MayLeave h c) e left))

-- what holds of the image that a crash left holds of every one that another may leave
pub dark_images : (old new : MemoryDisk) (P : List ℕ → Type 0) → IsCrashed old new → P new.content.image.items → (c : List ℕ) → memory_may_leave new c → P c
dark_images old new P k p c left = let both : Some new.content.image.items ≡ Some c = k.only c left in let same : new.content.image.items ≡ c = cc in subst P same p

-- a look at the disk changes nothing of that
pub looked : (old crashed_disk new : MemoryDisk) → IsCrashed old crashed_disk → memory_image new ≡ memory_image crashed_disk → Same (memory_may_leave crashed_disk) (memory_may_leave new)
    → GoesOn held_calls (memory_fuse crashed_disk) (memory_fuse new) → IsCrashed old new
looked old crashed_disk new k image images g = record {
  image = subst (λ (x : Option (List ℕ)). IfSome x (memory_may_leave old)) (sym image) k.image;
  only = λ c left. image ∙ k.only c (images.none c left);
  fuse = g.fuse ∙ subst (λ (f : Fuse). burnt g.count f ≡ crashed (memory_fuse old)) (sym k.fuse) (burnt-crashed g.count (memory_fuse old));
}
