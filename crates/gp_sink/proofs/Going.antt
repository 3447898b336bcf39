-- What a commit does on a disk on which nothing is to fail, and to the last generation.
use Rattle.std.proofs.Common.{◌≡◌, ◌≤◌, ℕ, ◌+◌, List, Bool, true, false, Result, Ok, Err, ◌∙◌, ap, subst, arith}
use Rattle.gp_disk.specs.declared.device.Disk.{Ghosts}
use Rattle.gp_disk.specs.Fuse.{Fuse, Running, Unarmed, lit, burnt, Foretold}
use Rattle.gp_rows.specs.Changes.{Change as RowChange}
use Rattle.gp_store.specs.declared.fault.CommitFault.{CommitFault}
use Rattle.gp_store.specs.declared.fault.CommitFault.TheVariants.{TableFull, Worn, DiskFault, Halted}
use Rattle.gp_store.specs.Image.{HasLast}
use Rattle.gp_store.specs.State.{State}
use Rattle.gp_store.specs.Commit.{Commits, Burns}
use Rattle.gp_sink.specs.declared.verdict.SinkFault.{SinkFault}
use Rattle.gp_sink.specs.declared.verdict.SinkFault.TheVariants as faults
use Rattle.gp_sink.specs.Sink.{SinkState, Goes}

-- a fuse that tells that nothing is to fail goes on so, and tells that the calls go through
still : (old new : Fuse) (done : Bool) → Burns old new done → old ≡ Running Unarmed → new ≡ Running Unarmed
still old new done b calm = b.fuse ∙ ap (λ (f : Fuse). burnt b.count (lit f)) calm

through : (old new : Fuse) → Burns old new false → old ≡ Running Unarmed → ⊥
through old new b calm = let no : false ≡ true = subst (λ (f : Fuse). Foretold b.count (lit f) false) calm b.foretold in absurd cc

record Stays {D : Type 0} (disk : Ghosts D) (old new : State D) (r : Result (Unit {0}) CommitFault) : Type 0 where
  pub last : new.last ≤ old.last + 1
  pub left : r ≡ Err DiskFault → (c : List ℕ) (n : ℕ) → disk.left new.disk c → HasLast c n → n ≤ old.last + 2
  pub calm : disk.fuse old.disk ≡ Running Unarmed → disk.fuse new.disk ≡ Running Unarmed
  pub good : disk.fuse old.disk ≡ Running Unarmed → r ≡ Err DiskFault → ⊥

stays : {D : Type 0} (disk : Ghosts D) (change : RowChange) (old new : State D) (r : Result (Unit {0}) CommitFault) → Commits disk change old new r → Stays disk old new r
stays {D} disk change old new (Ok value) c =
    record { last = omega (arith, ap (λ (s : State D). s.last) c.store); left = λ e. absurd cc; calm = still _ _ true c.made.fuse; good = λ calm e. absurd cc }
stays {D} disk change old new (Err DiskFault) c = record {
  last = omega (arith, ap (λ (s : State D). s.last) c.store);
  left = λ e. c.made.moments.generation;
  calm = still _ _ false c.made.fuse;
  good = λ calm e. through _ _ c.made.fuse calm;
}
stays {D} disk change old new (Err (Worn generation)) c = record {
  last = omega (arith, ap (λ (s : State D). s.last) c.store);
  left = λ e. absurd cc;
  calm = λ calm. ap (λ (s : State D). disk.fuse s.disk) c.store ∙ calm;
  good = λ calm e. absurd cc;
}
stays {D} disk change old new (Err TableFull) c = record {
  last = omega (arith, ap (λ (s : State D). s.last) c.store);
  left = λ e. absurd cc;
  calm = λ calm. ap (λ (s : State D). disk.fuse s.disk) c.store ∙ calm;
  good = λ calm e. absurd cc;
}
stays {D} disk change old new (Err Halted) c = record {
  last = omega (arith, ap (λ (s : State D). s.last) c.store);
  left = λ e. absurd cc;
  calm = λ calm. ap (λ (s : State D). disk.fuse s.disk) c.store ∙ calm;
  good = λ calm e. absurd cc;
}

-- the answer to a commit, as a fault of the sink
pub as_fault : CommitFault → SinkFault
as_fault TableFull = faults.Halted
as_fault Halted = faults.Halted
as_fault (Worn generation) = faults.Worn generation
as_fault DiskFault = faults.DiskFault

-- A sink whose store was changed by a commit goes as the commit does.
pub goes : {D T : Type 0} (disk : Ghosts D) (change : RowChange) (now old new : SinkState D) (done : Result (Unit {0}) CommitFault) (result : Result T SinkFault)
    → old ≡ now → Commits disk change old.store new.store done → new ≡ record old { store = new.store } → (result ≡ Err faults.DiskFault → done ≡ Err DiskFault) → Goes disk now new result
goes {D} {T} disk change now old new done result view c same is =
    let s = stays disk change old.store new.store done c in
    subst (λ (x : SinkState D). Goes disk x new result) view
    (record { same = same; last = s.last; left = λ e. s.left (is e); calm = s.calm; good = λ calm e. s.good calm (is e) })
