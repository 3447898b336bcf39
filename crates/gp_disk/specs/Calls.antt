-- What each call of a disk leaves, by what the disk tells before it and after it.
use Rattle.std.specs.Prelude.{◌≡◌, ◌≤◌, ℕ, List, length, Result, IfSome, OnOk, OnErr, is_ok, is_some, option_map}
use Rattle.gp_base.specs.Outside.{one_more}
use Rattle.gp_disk.specs.Disk.{Moment, after_begin, after_read, after_write, after_sync, after_failed_sync, part, put, Same, Follows, Grows, Only}
use Rattle.gp_disk.specs.Fuse.{lit, burnt, Foretold}

-- a `begin`: what a crash now may leave is all that one might have left since then
pub record Begins (old new : Moment) : Type 0 where
  pub image : new.image ≡ old.image
  pub now : Same old.may_leave new.may_leave
  pub since : Same new.may_leave new.left
  pub tally : new.tally ≡ after_begin old.tally
  pub faults : new.faults ≡ old.faults
  pub fuse : new.fuse ≡ lit old.fuse

-- so many device calls, of which the last one alone may have failed: one fails where that was to come, and then the count of
-- faults rises by one
pub record Calls {T E : Type 0} (count : ℕ) (result : Result T E) (old new : Moment) : Type 0 where
  pub good : OnOk result (new.faults ≡ old.faults)
  pub failed : OnErr result (new.faults ≡ one_more old.faults)
  pub kept : old.faults ≤ new.faults
  pub fuse : new.fuse ≡ burnt count old.fuse
  pub foretold : Foretold count old.fuse (is_ok result)

-- a read from a place on into a buffer, which stays as it was where the read fails
pub record Reads {T E : Type 0} (at : ℕ) (buffer into : List ℕ) (result : Result T E) (old new : Moment) : Type 0 where
  pub octets : OnOk result (IfSome old.image (λ image. into ≡ part at (length buffer) image))
  pub nothing_given : OnErr result (into ≡ buffer)
  pub image : new.image ≡ old.image
  pub now : Same old.may_leave new.may_leave
  pub since : Same old.left new.left
  pub tally : new.tally ≡ after_read old.tally
  pub call : Calls 1 result old new

-- a write of these octets, so many of which are counted, into a range; where it fails the range may hold any octets
pub record Writes {T E : Type 0} (at count : ℕ) (octets : List ℕ) (counted : ℕ) (result : Result T E) (old new : Moment) : Type 0 where
  pub written : OnOk result (new.image ≡ option_map (put at octets) old.image)
  pub told : is_some new.image ≡ is_some old.image
  pub now : Follows at count old.may_leave new.may_leave
  pub since : Grows old.left new.left new.may_leave
  pub tally : new.tally ≡ after_write counted old.tally
  pub call : Calls 1 result old new

-- a sync, after which a crash leaves what a read gives; where it fails it has done nothing
pub record Syncs {T E : Type 0} (result : Result T E) (old new : Moment) : Type 0 where
  pub image : new.image ≡ old.image
  pub certain : OnOk result (Only new.image new.may_leave)
  pub now : OnErr result (Same old.may_leave new.may_leave)
  pub since : Grows old.left new.left new.may_leave
  pub tally : OnOk result (new.tally ≡ after_sync old.tally)
  pub tally_failed : OnErr result (new.tally ≡ after_failed_sync old.tally)
  pub call : Calls 1 result old new
