-- What a store keeps of its disk when the disk's fuse alone changes.
use Rattle.std.proofs.Common.{ℕ, List, sym, ◌∙◌, ap, arith}
use Rattle.gp_disk.specs.declared.memory.MemoryDisk.{MemoryDisk}
use Rattle.gp_disk.specs.Disk.{Tally}
use Rattle.gp_disk.specs.Memory.{memory_image, memory_may_leave, memory_tally, SameButFuse}
use Rattle.gp_rows.specs.declared.row.Row.{Row}
use Rattle.gp_store.specs.declared.commit.Marks.{Marks}
use Rattle.gp_store.specs.declared.commit.Stale.{Stale}
use Rattle.gp_store.specs.Kept.{IsKept}

pub kept_armed : (old new : MemoryDisk) (rows : List Row) (stale : List Stale) (room : ℕ) (marks : Marks) → SameButFuse old new → IsKept (memory_tally old) (memory_image old) (memory_may_leave old) rows stale room marks
    → IsKept (memory_tally new) (memory_image new) (memory_may_leave new) rows stale room marks
kept_armed old new rows stale room marks same k = record {
  roomy = k.roomy;
  as_many = k.as_many;
  orders = k.orders;
  ready = λ running.
      let r = k.ready running in
      record {
        size = let e = ap (λ (t : Tally). t.size) same.tally in let long = r.size in omega arith;
        quiet = record {
          settled = ap (λ (t : Tally). t.pending) same.tally ∙ r.quiet.settled;
          only = λ c left. same.image ∙ r.quiet.only c (same.now.none c left);
        };
        told = λ d is. r.told d (sym same.image ∙ is);
      };
  decided = k.decided;
}
