-- What a sink is to its callers, and how it stands for the ideal one.
use Rattle.std.specs.Prelude.{◌≡◌, ◌≤◌, ◌<◌, ◌⊎◌, ℕ, ◌+◌, ◌-◌, ◌^◌, Bool, true, false, List, ◌∷◌, slice_get, Option, Some, None, Result, Ok, Err, OnOk, IfOk}
use Rattle.std.specs.Bool.{OnTrue}
use Rattle.gp_base.specs.Outside.{one_more}
use Rattle.gp_disk.specs.declared.device.Disk.{Ghosts}
use Rattle.gp_disk.specs.Fuse.{Running, Unarmed}
use Rattle.gp_translate.specs.declared.rule.Rule.{Rule}
use Rattle.gp_rows.specs.declared.row.Row.{Row}
use Rattle.gp_store.specs.declared.fault.CommitFault.{CommitFault}
use Rattle.gp_store.specs.declared.fault.CommitFault.TheVariants as commits
use Rattle.gp_store.specs.Image.{HasLast}
use Rattle.gp_store.specs.State.{State}
use Rattle.gp_store.specs.Commit.{Commits, Stands, is_made}
use Rattle.gp_ideal.specs.declared.config.Config.{Config}
use Rattle.gp_ideal.specs.declared.ledger.Change.{Change}
use Rattle.gp_ideal.specs.Verdict as ideal
use Rattle.gp_ideal.specs.Verdict.{Ruling}
use Rattle.gp_cluster.specs.declared.message.Sent.{Sent}
use Rattle.gp_cluster.specs.Message.{IsValid}
use Rattle.gp_sink.specs.declared.verdict.Verdict.{Verdict}
use Rattle.gp_sink.specs.declared.verdict.Verdict.TheVariants.{Acted, Paired, Unpaired}
use Rattle.gp_sink.specs.declared.verdict.SinkFault.{SinkFault}
use Rattle.gp_sink.specs.declared.verdict.SinkFault.TheVariants.{Halted, Worn, DiskFault}
use Rattle.gp_sink.specs.Fits.{Fits, ImageFits}
use Rattle.gp_sink.specs.Verdict.{verdict_of}
use Rattle.gp_sink.specs.Ruled.{MayMake}
use Rattle.gp_sink.specs.Stored.{stored, StoresAs}

-- its configuration, its rules, and its store: the disk, the rows, the last generation, and whether it is halted
pub record SinkState (D : Type 0) : Type 0 where
  pub config : Config
  pub rules : List Rule
  pub store : State D

-- ---- what an answer says whatever the rows stand for

-- Each answer comes only where its line holds, and this is what it leaves. Halted: the sink was halted, and nothing is
-- changed. Worn: the last generation is the greatest one; the sink is halted, and nothing else is changed. DiskFault: the
-- disk's count of faults has risen by one, and the sink is halted. A verdict: the count stands, and the sink isn't halted.
abbrev pub HasCause : {D T : Type 0} → (disk : Ghosts D) (old new : SinkState D) (result : Result T SinkFault) → Type 0
HasCause disk old new (Err Halted) = (old.store.halted ≡ true) × (new ≡ old)
HasCause disk old new (Err (Worn generation)) =
    (old.store.halted ≡ false) × (old.store.last ≡ 2 ^ 64 - 1) × (generation ≡ old.store.last) × (new ≡ record old { store = record old.store { halted = true } })
HasCause disk old new (Err DiskFault) =
    (old.store.halted ≡ false) × (new.store.halted ≡ true) × (disk.faults new.store.disk ≡ one_more (disk.faults old.store.disk))
HasCause disk old new (Ok value) =
    (old.store.halted ≡ false) × (new.store.halted ≡ false) × (disk.faults new.store.disk ≡ disk.faults old.store.disk)

-- ---- what comes of a verdict of the ideal sink

-- an answer as that of a commit
abbrev pub as_commit : Result Verdict SinkFault → Result (Unit {0}) CommitFault
as_commit (Ok verdict) = Ok tt
as_commit (Err Halted) = Err commits.Halted
as_commit (Err (Worn generation)) = Err (commits.Worn generation)
as_commit (Err DiskFault) = Err commits.DiskFault

-- an answer in the words of the ideal sink
abbrev pub answer_of : Result Verdict SinkFault → Result ideal.Verdict SinkFault
answer_of (Ok verdict) = Ok (verdict_of verdict)
answer_of (Err fault) = Err fault

-- the ledger afterwards: with the change, where that is remembered
abbrev pub remembered : {T : Type 0} → Result T SinkFault → Change → List Change → List Change
remembered (Ok value) change ledger = change ∷ ledger
remembered (Err fault) change ledger = ledger

-- One commit is made of a change, and only where it answers Ok the verdict is given.
pub record Makes {D : Type 0} (disk : Ghosts D) (ledger : List Change) (change : Change) (verdict : ideal.Verdict) (old new : SinkState D) (result : Result Verdict SinkFault) : Type 0 where
  -- the change may be made; as one of the rows it is at the row that it concerns, and makes them fit the ledger with it
  pub due : MayMake old.store.rows change
  pub stores : StoresAs ledger change old.store.rows (stored old.store.last change)
  -- the commit, the verdict after it, and nothing else
  pub commits : Commits disk (stored old.store.last change) old.store new.store (as_commit result)
  pub answer : IfOk result (λ v. verdict_of v ≡ verdict)
  pub same : new ≡ record old { store = new.store }
  -- the rows then fit what is remembered; at each moment since the commit's `begin` a crash leaves an image that fits the
  -- ledger, or the ledger with the change; and after a verdict one that fits the ledger with the change
  pub rows : Fits new.store.rows (remembered result change ledger)
  pub moments : OnTrue (is_made (as_commit result)) ((c : List ℕ) → disk.left new.store.disk c → ImageFits ledger c ⊎ ImageFits (change ∷ ledger) c)
  pub stands : OnOk result ((c : List ℕ) → disk.may_leave new.store.disk c → ImageFits (change ∷ ledger) c)

-- A verdict without a change is the answer, and nothing is changed.
abbrev pub Answers : {D : Type 0} → (disk : Ghosts D) (ledger : List Change) (verdict : ideal.Verdict) (change : Option Change) (old new : SinkState D) (result : Result Verdict SinkFault) → Type 0
Answers disk ledger verdict None old new result = (answer_of result ≡ Ok verdict) × (new ≡ old)
Answers disk ledger verdict (Some change) old new result = Makes disk ledger change verdict old new result

-- the one where the sink is halted, and else the other
abbrev pub IfHalted : Bool → Type 0 → Type 0 → Type 0
IfHalted true halted running = halted
IfHalted false halted running = running

-- What comes of a ruling of the ideal sink with this ledger, at a sink whose rows fit the ledger.
abbrev pub Comes : {D : Type 0} → (disk : Ghosts D) (ledger : List Change) (ruling : Ruling) (old new : SinkState D) (result : Result Verdict SinkFault) → Type 0
Comes disk ledger ruling old new result =
    IfHalted old.store.halted ((result ≡ Err Halted) × (new ≡ old)) (Answers disk ledger ruling.verdict ruling.change old new result)

-- ---- what an answer says besides

-- Whatever the rows stand for: a call changes the store alone, and the last generation by one at most; where the disk has failed,
-- a crash at some moment since the `begin` leaves no last generation of more than two above the one before; and where nothing is
-- to fail on the disk, nothing fails, and that stays so.
pub record Goes {D T : Type 0} (disk : Ghosts D) (old new : SinkState D) (result : Result T SinkFault) : Type 0 where
  pub same : new ≡ record old { store = new.store }
  pub last : new.store.last ≤ old.store.last + 1
  pub left : result ≡ Err DiskFault → (c : List ℕ) (n : ℕ) → disk.left new.store.disk c → HasLast c n → n ≤ old.store.last + 2
  pub calm : disk.fuse old.store.disk ≡ Running Unarmed → disk.fuse new.store.disk ≡ Running Unarmed
  pub good : disk.fuse old.store.disk ≡ Running Unarmed → result ≡ Err DiskFault → ⊥

-- the row of this number is there, and has this property
abbrev pub IsRowAt : List Row → ℕ → (Row → Type 0) → Type 0
IsRowAt rows at P = (row : Row) × (slice_get rows at ≡ Some row) × P row

-- What a verdict tells stands in the rows: the counter of a frame is the floor of its row, a device that is paired has a live row
-- with this floor, and one that is unpaired has one that isn't live.
abbrev pub StandsIn : Verdict → List Row → Type 0
StandsIn (Acted row source counter command acts) rows = IsRowAt rows row (λ r. r.floor ≡ counter)
StandsIn (Paired row source floor message) rows = IsRowAt rows row (λ r. (r.src ≡ source) × (r.floor ≡ floor) × (r.live ≡ true))
StandsIn (Unpaired row source counter message) rows = IsRowAt rows row (λ r. (r.floor ≡ counter) × (r.live ≡ false))
StandsIn other rows = Unit {0}

-- A verdict is given once it is kept: every image that a crash now may leave holds exactly the rows, in which it stands.
pub record IsKept {D : Type 0} (disk : Ghosts D) (new : SinkState D) (verdict : Verdict) : Type 0 where
  pub told : StandsIn verdict new.store.rows
  pub stands : Stands (disk.may_leave new.store.disk) new.store.rows new.store.last

-- a message can be sent, under any sequence number
abbrev pub IsMessage : Sent → Type 0
IsMessage sent = (sequence : ℕ) → sequence < 256 → IsValid (record { quiet = true; sequence = sequence; body = sent.body })

-- the message of a verdict, where it has one, can be sent
abbrev pub GivesMessage : Verdict → Type 0
GivesMessage (Paired row source floor message) = IsMessage message
GivesMessage (Unpaired row source counter message) = IsMessage message
GivesMessage other = Unit {0}
