-- What calls that only read leave of a disk.
use Rattle.std.specs.Prelude.{◌≡◌, ◌≤◌, ◌⊎◌, ℕ, Bool, true, List, Option}
use Rattle.gp_disk.specs.Disk.{Tally, Same}
use Rattle.gp_disk.specs.Fuse.{Fuse, lit, burnt, Foretold}

-- the counts where reads alone were made
pub record OnlyReads (old new : Tally) : Type 0 where
  pub size : new.size ≡ old.size
  pub begins : new.begins ≡ old.begins
  pub before : new.before ≡ old.before
  pub writes : new.writes ≡ old.writes
  pub octets : new.octets ≡ old.octets
  pub pending : new.pending ≡ old.pending
  pub unsettled : new.unsettled ≡ old.unsettled

-- what a read gives, and what a crash may leave now and since the last `begin`, are as they were
pub record IsKeptAsIs (image new_image : Option (List ℕ)) (may_leave new_may_leave left new_left : List ℕ → Type 0) : Type 0 where
  pub same_image : new_image ≡ image
  pub now : Same may_leave new_may_leave
  pub since : Same left new_left

-- so many calls have all gone through
abbrev pub AllGone : ℕ → Fuse → Type 0
AllGone count fuse = (count ≡ 0) ⊎ Foretold count fuse true

-- where the disk tells what is to fail: so many device calls at most were made, and all went through
pub record GoesOn (most : ℕ) (old new : Fuse) : Type 0 where
  pub count : ℕ
  pub at_most : count ≤ most
  pub fuse : new ≡ burnt count old
  pub all_gone : AllGone count old

-- where the disk tells what is to fail: so many device calls after a `begin`, which are done exactly where they all go
-- through, and of which the last one made alone may have failed
pub record RunsThrough (count : ℕ) (old new : Fuse) (is_done : Bool) : Type 0 where
  pub fuse : new ≡ burnt count (lit old)
  pub foretold : Foretold count (lit old) is_done
