-- All of a commit, from what writing its row says.
use Rattle.std.proofs.Common.{◌≡◌, ℕ, ◌<◌, ◌^◌, ◌-◌, Bool, true, false, List, Option, Some, Result, Ok, Err, OnOk, is_ok, is_some, sym, ◌∙◌, ap, subst}
use Rattle.std.specs.Bool.{OnTrue, OnFalse}
use Rattle.std.specs.Option.{option_map}
use Rattle.gp_disk.specs.declared.device.Disk.{Ghosts}
use Rattle.gp_rows.specs.declared.row.Row.{Row}
use Rattle.gp_rows.specs.Changes.{Change, place, with_row}
use Rattle.gp_rows.proofs.Applied.{applied-is}
use Rattle.gp_store.specs.declared.commit.Marks.{Marks}
use Rattle.gp_store.specs.declared.fault.CommitFault.{CommitFault}
use Rattle.gp_store.specs.declared.fault.CommitFault.TheVariants.{TableFull, Worn, DiskFault, Halted}
use Rattle.gp_store.specs.Commit.{HasReason, HasCause, WritesOnce, Burns, Survives, Stands, TouchesOneSlot, IsMade, Commits, is_made, next_generation, undecided_by}
use Rattle.gp_store.specs.Kept.{Puts, rows_put, state_of}
use Rattle.gp_store.specs.Writes.{Writes, marks_after}
use Rattle.gp_store.proofs.Rewriting.{touches_one}

module _ {D : Type 0} (disk : Ghosts D) (old new : D) (rows : List Row) (marks later : Marks) (at : ℕ) (side : Bool) (row : Row) (change : Change) (puts : Puts change rows marks.last at row) where
  made : (is_done : Bool) → marks.last < 2 ^ 64 - 1 → Writes at side row (next_generation marks.last) (disk.image old) (disk.image new) (disk.left new) is_done → WritesOnce (disk.tally old) (disk.tally new) is_done → Burns (disk.fuse old) (disk.fuse new) is_done
      → Survives (disk.left new) rows (with_row rows at row) marks.last → (then_rows : List Row) → IsMade disk change (state_of old rows marks) (state_of new then_rows later) is_done
  made is_done small w run fuse survives then_rows = record {
    moments = subst (λ (l : List Row). Survives (disk.left new) rows l marks.last) (sym (applied-is change rows at row (puts.here small) (puts.gives small))) survives;
    slot = subst (λ (k : ℕ). TouchesOneSlot k (disk.image old) (disk.left new)) (sym (puts.here small)) (touches_one at side w.octets (disk.image old) (disk.left new) w.moments);
    run = run;
    fuse = fuse;
  }

  undecided : marks.last < 2 ^ 64 - 1 → undecided_by change rows ≡ Some (at, row)
  undecided small = ap (option_map (λ (r : Row). (place change rows, r))) (puts.gives small) ∙ ap (λ (k : ℕ). Some (k, row)) (puts.here small)

  pub committed : (r : Result (Unit {0}) CommitFault) → HasReason r marks.halted ⊥ marks.last → later ≡ marks_after r marks at row
      → OnTrue (is_made r) (Writes at side row (next_generation marks.last) (disk.image old) (disk.image new) (disk.left new) (is_ok r))
      → OnTrue (is_made r) (WritesOnce (disk.tally old) (disk.tally new) (is_ok r)) → OnTrue (is_made r) (Burns (disk.fuse old) (disk.fuse new) (is_ok r)) → HasCause r (disk.faults old) (disk.faults new)
      → is_some (disk.image new) ≡ is_some (disk.image old) → OnFalse (is_made r) (new ≡ old)
      → ((is_done : Bool) → marks.halted ≡ false → marks.last < 2 ^ 64 - 1 → Writes at side row (next_generation marks.last) (disk.image old) (disk.image new) (disk.left new) is_done → Survives (disk.left new) rows (with_row rows at row) marks.last)
      → OnOk r (Stands (disk.may_leave new) (with_row rows at row) (next_generation marks.last)) → Commits disk change (state_of old rows marks) (state_of new (rows_put r rows at row) later) r
  committed (Ok v) why is w run fuse cause told same survives stands = record {
    reason = (why.0, puts.room, why.2);
    store = ap (λ (m : Marks). state_of new (with_row rows at row) m) is ∙ ap (λ (l : List Row). state_of new l (record marks { last = next_generation marks.last })) (sym (applied-is change rows at row (puts.here why.2) (puts.gives why.2)));
    made = made true why.2 w run fuse (survives true why.0 why.2 w) (with_row rows at row);
    stands = subst (λ (n : ℕ). Stands (disk.may_leave new) (with_row rows at row) n) (sym (ap (λ (m : Marks). m.last) is)) stands;
    cause = cause;
    told = told;
  }
  committed (Err DiskFault) why is w run fuse cause told same survives stands = record {
    reason = (why.0, puts.room, why.2);
    store = ap (λ (m : Marks). state_of new rows m) is ∙ ap (λ (u : Option (ℕ × Row)). state_of new rows (record marks { halted = true; undecided = u })) (sym (undecided why.2));
    made = made false why.2 w run fuse (survives false why.0 why.2 w) rows;
    stands = tt;
    cause = cause;
    told = told;
  }
  committed (Err (Worn generation)) why is w run fuse cause told same survives stands = record {
    reason = (why.0, puts.room, why.2, why.3);
    store = ap (λ (m : Marks). state_of new rows m) is ∙ ap (λ (d : D). state_of d rows (record marks { halted = true })) same;
    made = tt;
    stands = tt;
    cause = cause;
    told = told;
  }
  committed (Err TableFull) why is w run fuse cause told same survives stands = absurd why.1
  committed (Err Halted) why is w run fuse cause told same survives stands = record {
    reason = why;
    store = ap (λ (m : Marks). state_of new rows m) is ∙ ap (λ (d : D). state_of d rows marks) same;
    made = tt;
    stands = tt;
    cause = cause;
    told = told;
  }
