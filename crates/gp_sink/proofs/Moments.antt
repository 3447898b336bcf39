-- What a commit leaves, where the rows fitted a ledger before it.
use Rattle.std.proofs.Common.{◌≡◌, ◌⊎◌, inl, inr, ⊎_elim, ℕ, List, ◌∷◌, Bool, Option, Some, Result, Ok, Err, OnOk, IfOk, IfSome, sym, ap, subst}
use Rattle.std.specs.Bool.{OnTrue}
use Rattle.std.specs.Prelude.{is_ok}
use Rattle.gp_disk.specs.declared.device.Disk.{Ghosts}
use Rattle.gp_rows.specs.declared.row.Row.{Row}
use Rattle.gp_rows.specs.Changes.{applied, Change as RowChange}
use Rattle.gp_store.specs.declared.fault.CommitFault.{CommitFault}
use Rattle.gp_store.specs.declared.fault.CommitFault.TheVariants.{TableFull, Worn, DiskFault, Halted}
use Rattle.gp_store.specs.State.{State}
use Rattle.gp_store.specs.Commit.{Commits, IsMade, Stands, after, is_made}
use Rattle.gp_ideal.specs.declared.ledger.Change.{Change}
use Rattle.gp_sink.specs.Fits.{Fits, ImageFits}
use Rattle.gp_sink.specs.Stored.{stored, StoresAs}
use Rattle.gp_sink.specs.Ruled.{MayMake}
use Rattle.gp_sink.specs.Verdict.{verdict_of}
use Rattle.gp_sink.specs.declared.verdict.Verdict.{Verdict}
use Rattle.gp_sink.specs.declared.verdict.SinkFault.{SinkFault}
use Rattle.gp_sink.specs.declared.verdict.SinkFault.TheVariants as faults
use Rattle.gp_sink.specs.Sink.{SinkState, Makes, Answers, as_commit, remembered}
use Rattle.gp_sink.proofs.Fitting.{stores_as}
use Rattle.gp_rows.specs.Rows.{AreWithin}
use Rattle.gp_ideal.specs.Verdict as ideal

-- the ledger after a commit
abbrev pub ledger_after : Result (Unit {0}) CommitFault → Change → List Change → List Change
ledger_after (Ok value) change ledger = change ∷ ledger
ledger_after (Err fault) change ledger = ledger

-- the rows fit the ledger afterwards
pub rows_fit : {D : Type 0} (disk : Ghosts D) (ledger : List Change) (change : Change) (as_rows : RowChange) (old new : State D) (result : Result (Unit {0}) CommitFault)
    → Fits old.rows ledger → StoresAs ledger change old.rows as_rows → Commits disk as_rows old new result → Fits new.rows (ledger_after result change ledger)
rows_fit {D} disk ledger change as_rows old new result f s c = by result c.store
  where
    by : (r : Result (Unit {0}) CommitFault) → new ≡ after r as_rows old new.disk → Fits new.rows (ledger_after r change ledger)
    by (Ok value) e = subst (λ (l : List Row). Fits l (change ∷ ledger)) (sym (ap (λ (x : State D). x.rows) e)) s.fits
    by (Err DiskFault) e = subst (λ (l : List Row). Fits l ledger) (sym (ap (λ (x : State D). x.rows) e)) f
    by (Err (Worn generation)) e = subst (λ (l : List Row). Fits l ledger) (sym (ap (λ (x : State D). x.rows) e)) f
    by (Err TableFull) e = subst (λ (l : List Row). Fits l ledger) (sym (ap (λ (x : State D). x.rows) e)) f
    by (Err Halted) e = subst (λ (l : List Row). Fits l ledger) (sym (ap (λ (x : State D). x.rows) e)) f

-- at each moment since the commit's `begin` an image fits the ledger, or the ledger with the change
pub moments_fit : {D : Type 0} (disk : Ghosts D) (ledger : List Change) (change : Change) (as_rows : RowChange) (old new : State D) (result : Result (Unit {0}) CommitFault)
    → Fits old.rows ledger → StoresAs ledger change old.rows as_rows → Commits disk as_rows old new result
    → OnTrue (is_made result) ((c : List ℕ) → disk.left new.disk c → ImageFits ledger c ⊎ ImageFits (change ∷ ledger) c)
moments_fit {D} disk ledger change as_rows old new result f s c = by result c.made
  where
    fit : {b : Bool} → IsMade disk as_rows old new b → (c : List ℕ) → disk.left new.disk c → ImageFits ledger c ⊎ ImageFits (change ∷ ledger) c
    fit m c l = ⊎_elim (λ h. inl (old.rows, h, f)) (λ h. inr (applied as_rows old.rows, h, s.fits)) (m.moments.rows c l)

    by : (r : Result (Unit {0}) CommitFault) → OnTrue (is_made r) (IsMade disk as_rows old new (is_ok r)) → OnTrue (is_made r) ((c : List ℕ) → disk.left new.disk c → ImageFits ledger c ⊎ ImageFits (change ∷ ledger) c)
    by (Ok value) m = fit m
    by (Err DiskFault) m = fit m
    by (Err (Worn generation)) m = tt
    by (Err TableFull) m = tt
    by (Err Halted) m = tt

-- and after Ok each image fits the ledger with the change
pub stands_fit : {D : Type 0} (disk : Ghosts D) (ledger : List Change) (change : Change) (as_rows : RowChange) (old new : State D) (result : Result (Unit {0}) CommitFault)
    → Fits old.rows ledger → StoresAs ledger change old.rows as_rows → Commits disk as_rows old new result
    → OnOk result ((c : List ℕ) → disk.may_leave new.disk c → ImageFits (change ∷ ledger) c)
stands_fit {D} disk ledger change as_rows old new result f s c = by result c.store c.stands
  where
    by : (r : Result (Unit {0}) CommitFault) → new ≡ after r as_rows old new.disk → OnOk r (Stands (disk.may_leave new.disk) new.rows new.last) → OnOk r ((c : List ℕ) → disk.may_leave new.disk c → ImageFits (change ∷ ledger) c)
    by (Ok value) e h = λ c l. (new.rows, (h c l).0, subst (λ (l : List Row). Fits l (change ∷ ledger)) (sym (ap (λ (x : State D). x.rows) e)) s.fits)
    by (Err fault) e h = tt

-- all that comes of a change that is committed
pub makes : {D : Type 0} (disk : Ghosts D) (ledger : List Change) (change : Change) (verdict : ideal.Verdict) (old new : SinkState D) (result : Result Verdict SinkFault)
    → Fits old.store.rows ledger → MayMake old.store.rows change → StoresAs ledger change old.store.rows (stored old.store.last change)
    → Commits disk (stored old.store.last change) old.store new.store (as_commit result) → IfOk result (λ v. verdict_of v ≡ verdict) → new ≡ record old { store = new.store }
    → Makes disk ledger change verdict old new result
makes {D} disk ledger change verdict old new result f due s c answer same = record {
  due = due;
  stores = s;
  commits = c;
  answer = answer;
  same = same;
  rows = rows result (rows_fit disk ledger change (stored old.store.last change) old.store new.store (as_commit result) f s c);
  moments = moments_fit disk ledger change (stored old.store.last change) old.store new.store (as_commit result) f s c;
  stands = stands result (stands_fit disk ledger change (stored old.store.last change) old.store new.store (as_commit result) f s c);
}
  where
    rows : (r : Result Verdict SinkFault) → Fits new.store.rows (ledger_after (as_commit r) change ledger) → Fits new.store.rows (remembered r change ledger)
    rows (Ok v) h = h
    rows (Err faults.Halted) h = h
    rows (Err (faults.Worn generation)) h = h
    rows (Err faults.DiskFault) h = h

    stands : (r : Result Verdict SinkFault) → OnOk (as_commit r) ((c : List ℕ) → disk.may_leave new.store.disk c → ImageFits (change ∷ ledger) c) → OnOk r ((c : List ℕ) → disk.may_leave new.store.disk c → ImageFits (change ∷ ledger) c)
    stands (Ok v) h = h
    stands (Err faults.Halted) h = tt
    stands (Err (faults.Worn generation)) h = tt
    stands (Err faults.DiskFault) h = tt

-- the same where the verdict wants the change
pub settled : {D : Type 0} (disk : Ghosts D) (verdict : Verdict) (wanted : Option Change) (change : Change) (now old new : SinkState D) (done : Result (Unit {0}) CommitFault) (result : Result Verdict SinkFault)
    → old ≡ now → wanted ≡ Some change → IfSome wanted (MayMake now.store.rows) → AreWithin now.store.last now.store.rows
    → Commits disk (stored old.store.last change) old.store new.store done → as_commit result ≡ done → IfOk result (λ v. verdict_of v ≡ verdict_of verdict) → new ≡ record old { store = new.store }
    → (ledger : List Change) → Fits now.store.rows ledger → Answers disk ledger (verdict_of verdict) wanted now new result
settled {D} disk verdict wanted change now old new done result view want due orders c is answer same ledger f =
    let due : MayMake now.store.rows change = subst (λ (x : Option Change). IfSome x (MayMake now.store.rows)) want due in
    let s = stores_as now.store.rows ledger change now.store.last f orders due in
    let c : Commits disk (stored now.store.last change) now.store new.store (as_commit result) =
    subst (λ (x : SinkState D). Commits disk (stored x.store.last change) x.store new.store (as_commit result)) view
    (subst (λ (r : Result (Unit {0}) CommitFault). Commits disk (stored old.store.last change) old.store new.store r) (sym is) c) in
    let same : new ≡ record now { store = new.store } = subst (λ (x : SinkState D). new ≡ record x { store = new.store }) view same in
    subst (λ (x : Option Change). Answers disk ledger (verdict_of verdict) x now new result) (sym want) (makes disk ledger change (verdict_of verdict) now new result f due s c answer same)
