-- What a disk tells of its failures to come.
use Rattle.std.specs.Prelude.{◌≡◌, ℕ, ◌-◌, Bool, true, false, nat_le, if◌then◌else◌, ⊤}
use Rattle.gp_base.specs.Outside.{one_more}

-- what comes at the armed call: the disk stops, and each call fails until a crash; or that one call fails
pub data Ending : Type 0 where
  Stop : Ending
  Fault : Ending

-- There is none; it waits for the `begin` of this number, counted from 1, and then lets so many calls through; it is due,
-- and lets so many more through; or that call has come, and the next `begin` or crash ends the arming.
pub data Arming : Type 0 where
  Unarmed : Arming
  Waits : ℕ → ℕ → Ending → Arming
  Due : ℕ → Ending → Arming
  Spent : Arming

-- a disk that tells nothing; one whose calls go through but for its arming; one whose calls fail until a crash
pub data Fuse : Type 0 where
  Untold : Fuse
  Running : Arming → Fuse
  Stopped : Arming → Fuse

abbrev pub fuse_from : Bool → Arming → Fuse
fuse_from true arming = Stopped arming
fuse_from false arming = Running arming

-- an arming after a `begin`
abbrev pub begun : Arming → Arming
begun Unarmed = Unarmed
begun (Waits begins calls ending) = if nat_le begins 1 then Due calls ending else Waits (begins - 1) calls ending
begun (Due calls ending) = Unarmed
begun Spent = Unarmed

-- after a `begin`
abbrev pub lit : Fuse → Fuse
lit Untold = Untold
lit (Running arming) = Running (begun arming)
lit (Stopped arming) = Stopped (begun arming)

-- whether so many device calls, at least one, all go through
abbrev pub goes : ℕ → Fuse → Bool
goes count Untold = true
goes count (Running Unarmed) = true
goes count (Running (Waits begins calls ending)) = true
goes count (Running (Due calls ending)) = nat_le count calls
goes count (Running Spent) = true
goes count (Stopped arming) = false

-- what comes once the calls that go through are used up
abbrev pub blown : Ending → Fuse
blown Stop = Stopped Spent
blown Fault = Running Spent

-- after so many device calls, of which the last one alone may have failed
abbrev pub burnt : ℕ → Fuse → Fuse
burnt count Untold = Untold
burnt count (Running Unarmed) = Running Unarmed
burnt count (Running (Waits begins calls ending)) = Running (Waits begins calls ending)
burnt count (Running (Due calls ending)) = if nat_le count calls then Running (Due (calls - count) ending) else blown ending
burnt count (Running Spent) = Running Spent
burnt count (Stopped arming) = Stopped arming

-- where the disk tells it, so many device calls answer well exactly where they go through
abbrev pub Foretold : ℕ → Fuse → Bool → Type 0
Foretold count Untold good = ⊤
Foretold count (Running arming) good = good ≡ goes count (Running arming)
Foretold count (Stopped arming) good = good ≡ false

-- a due arming is dropped
abbrev pub undue : Arming → Arming
undue Unarmed = Unarmed
undue (Waits begins calls ending) = Waits begins calls ending
undue (Due calls ending) = Unarmed
undue Spent = Unarmed

-- after a crash
abbrev pub crashed : Fuse → Fuse
crashed Untold = Untold
crashed (Running arming) = Running (undue arming)
crashed (Stopped arming) = Running (undue arming)

-- with another arming in place of the one that there was
abbrev pub rearmed : Arming → Fuse → Fuse
rearmed new Untold = Untold
rearmed new (Running arming) = Running new
rearmed new (Stopped arming) = Stopped new

-- one that isn't due waits for one `begin` more
abbrev pub later : Arming → Arming
later Unarmed = Unarmed
later (Waits begins calls ending) = Waits (one_more begins) calls ending
later (Due calls ending) = Due calls ending
later Spent = Spent

abbrev pub deferred : Fuse → Fuse
deferred Untold = Untold
deferred (Running arming) = Running (later arming)
deferred (Stopped arming) = Stopped (later arming)

-- an arming is due from its `begin` until the next one or a crash
abbrev pub is_due_arming : Arming → Bool
is_due_arming Unarmed = false
is_due_arming (Waits begins calls ending) = false
is_due_arming (Due calls ending) = true
is_due_arming Spent = true

abbrev pub is_due : Fuse → Bool
is_due Untold = false
is_due (Running arming) = is_due_arming arming
is_due (Stopped arming) = is_due_arming arming

abbrev pub has_stopped : Fuse → Bool
has_stopped Untold = false
has_stopped (Running arming) = false
has_stopped (Stopped arming) = true
