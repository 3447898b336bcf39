-- What a write leaves that is made certain by a sync.
use Rattle.std.specs.Prelude.{◌≡◌, ℕ, List, Result, OnOk, OnErr, is_some, option_map}
use Rattle.gp_disk.specs.declared.device.Disk.{Ghosts}
use Rattle.gp_disk.specs.Calls.{Calls}
use Rattle.gp_disk.specs.Disk.{Moment, moment, after_write, after_sync, put, IsQuiet, SameRun, IsCutShort, Torn, GrowsTorn}

-- what a disk of some kind tells
abbrev pub seen : {D : Type 0} → Ghosts D → D → Moment
seen of disk = moment of.image of.may_leave of.left of.tally of.faults of.fuse disk

-- A write of these octets into a range, so many of which are counted, and a sync. Whatever the answer, a crash leaves other
-- octets than those of before in the range alone; where it is good, it leaves what a read gives.
pub record MakesCertain {T E : Type 0} (at count : ℕ) (octets : List ℕ) (counted : ℕ) (result : Result T E) (old new : Moment) : Type 0 where
  pub written : OnOk result (new.image ≡ option_map (put at octets) old.image)
  pub quiet : OnOk result (IsQuiet new.tally new.image new.may_leave)
  pub told : is_some new.image ≡ is_some old.image
  pub now : OnErr result ((c : List ℕ) → new.may_leave c → Torn at count old.image c)
  pub since : GrowsTorn at count old.image old.left new.left
  pub run : SameRun old.tally new.tally
  pub tally : OnOk result (new.tally ≡ after_sync (after_write counted old.tally))
  pub tally_failed : OnErr result (IsCutShort counted old.tally new.tally)
  pub call : Calls 2 result old new
