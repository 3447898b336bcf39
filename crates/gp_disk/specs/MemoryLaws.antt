-- Why the laws of a disk hold of one in memory. A reader needn't believe this file, which is proved.
use Rattle.std.specs.Prelude.{◌≡◌, ℕ, List, length, Some, unwrap_or}
use mathlib.Core.Path.{subst, ap, ◌∙◌, sym}
use Rattle.gp_disk.specs.declared.memory.MemoryDisk.{MemoryDisk}
use Rattle.gp_disk.specs.Content.{past_of}
use Rattle.gp_disk.specs.History.{at_rest}
use Rattle.gp_disk.specs.Memory.{memory_image, memory_may_leave, memory_left, memory_tally}
use Rattle.gp_disk.specs.Traced.{rest_may_be_left, LeftSince-now}

-- what a read gives is one of the images that a crash now may leave
pub memory_holds : (disk : MemoryDisk) (c : List ℕ) → memory_image disk ≡ Some c → memory_may_leave disk c
memory_holds disk c is =
    subst (λ (x : List ℕ). memory_may_leave disk x) (sym disk.content.reads ∙ ap (λ image. unwrap_or image c) is) (rest_may_be_left disk.content.origin.items (past_of disk.content).history disk.content.traced)

pub memory_counts_now : (disk : MemoryDisk) (c : List ℕ) → memory_may_leave disk c → memory_left disk c
memory_counts_now disk c now = LeftSince-now disk.content.begun (at_rest disk.content.origin.items) (past_of disk.content).history c now

pub memory_fits : (disk : MemoryDisk) (c : List ℕ) → memory_image disk ≡ Some c → length c ≡ (memory_tally disk).size
memory_fits disk c is = ap (λ image. length (unwrap_or image c)) (sym is)
