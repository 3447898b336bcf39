-- A disk: what a read gives, what a crash may leave, and the counts of its calls.
use Rattle.std.specs.Prelude.{◌≡◌, ℕ, ◌+◌, ◌⊎◌, Bool, true, false, List, ◌++◌, length, take, drop, Option, Some}
use Rattle.gp_base.specs.Outside.{one_more}
use Rattle.gp_disk.specs.Fuse.{Fuse}

-- size: in octets
-- begins: how many `begin` calls there were; before: how many device calls stood between the last two of them
-- calls: the device calls (`read`, `write_at`, `zero`, `sync`) since the last `begin`
-- writes: those among them that were no `read`; octets: how many octets the `write_at` calls had together
-- pending: something is written that no good `sync` has followed
-- unsettled: something was pending at the last `begin`, and no `sync` has succeeded since
pub record Tally : Type 0 where
  pub size : ℕ
  pub begins : ℕ
  pub before : ℕ
  pub calls : ℕ
  pub writes : ℕ
  pub octets : ℕ
  pub pending : Bool
  pub unsettled : Bool

-- what a disk tells at one moment: what a read gives; what a crash now may leave; what one at some moment since the last
-- `begin` might have left; the counts of its calls and of its faults; and the failures to come
pub record Moment : Type 1 where
  pub image : Option (List ℕ)
  pub may_leave : List ℕ → Type 0
  pub left : List ℕ → Type 0
  pub tally : Tally
  pub faults : ℕ
  pub fuse : Fuse

abbrev pub moment : {D : Type 0} → (D → Option (List ℕ)) → (D → List ℕ → Type 0) → (D → List ℕ → Type 0) → (D → Tally) → (D → ℕ) → (D → Fuse) → D → Moment
moment image may_leave left tally faults fuse disk = record { image = image disk; may_leave = may_leave disk; left = left disk; tally = tally disk; faults = faults disk; fuse = fuse disk }

abbrev pub after_begin : Tally → Tally
after_begin t = record t { begins = one_more t.begins; before = t.calls; calls = 0; writes = 0; octets = 0; unsettled = t.pending }

abbrev pub after_read : Tally → Tally
after_read t = record t { calls = one_more t.calls }

-- after a write of so many octets, good or failed; a `zero` counts none
abbrev pub after_write : ℕ → Tally → Tally
after_write count t = record t { calls = one_more t.calls; writes = t.writes + 1; octets = t.octets + count; pending = true }

abbrev pub after_sync : Tally → Tally
after_sync t = record t { calls = one_more t.calls; writes = t.writes + 1; pending = false; unsettled = false }

abbrev pub after_failed_sync : Tally → Tally
after_failed_sync t = record t { calls = one_more t.calls; writes = t.writes + 1 }

-- these octets of an image: so many, from this place on
abbrev pub part : ℕ → ℕ → List ℕ → List ℕ
part at count image = take count (drop at image)

-- the image with these octets in it, from this place on
abbrev pub put : ℕ → List ℕ → List ℕ → List ℕ
put at octets image = take at image ++ octets ++ drop (at + length octets) image

-- two images that agree outside a range
pub record Outside (at count : ℕ) (old new : List ℕ) : Type 0 where
  pub size : length new ≡ length old
  pub below : take at new ≡ take at old
  pub above : drop (at + count) new ≡ drop (at + count) old

-- the same images
pub record Same (old new : List ℕ → Type 0) : Type 0 where
  pub kept : (c : List ℕ) → old c → new c
  pub none : (c : List ℕ) → new c → old c

-- each new image agrees with an old one outside a range
abbrev pub Follows : ℕ → ℕ → (List ℕ → Type 0) → (List ℕ → Type 0) → Type 0
Follows at count old new = (c : List ℕ) → new c → (d : List ℕ) × old d × Outside at count d c

-- time goes on: what might have been left before still might have been, and what may be left now
pub record Grows (old new now : List ℕ → Type 0) : Type 0 where
  pub kept : (c : List ℕ) → old c → new c
  pub none : (c : List ℕ) → new c → old c ⊎ now c

-- a crash leaves what a read gives
abbrev pub Only : Option (List ℕ) → (List ℕ → Type 0) → Type 0
Only image images = (c : List ℕ) → images c → image ≡ Some c

-- nothing is pending, and a crash leaves what a read gives
pub record IsQuiet (t : Tally) (image : Option (List ℕ)) (images : List ℕ → Type 0) : Type 0 where
  pub settled : t.pending ≡ false
  pub only : Only image images

-- an image that agrees with what a read gave outside a range
abbrev pub Torn : ℕ → ℕ → Option (List ℕ) → List ℕ → Type 0
Torn at count image c = (d : List ℕ) × (image ≡ Some d) × Outside at count d c

-- the images since the last `begin` grow only by images that agree with what a read gave outside a range
pub record GrowsTorn (at count : ℕ) (image : Option (List ℕ)) (old new : List ℕ → Type 0) : Type 0 where
  pub kept : (c : List ℕ) → old c → new c
  pub none : (c : List ℕ) → new c → old c ⊎ Torn at count image c

-- the same disk in the same run of calls
pub record SameRun (old new : Tally) : Type 0 where
  pub size : new.size ≡ old.size
  pub begins : new.begins ≡ old.begins
  pub before : new.before ≡ old.before

-- the counts after a write of so many octets and a sync, of which one has failed: the sync isn't made after a
-- failed write
pub record IsCutShort (count : ℕ) (old new : Tally) : Type 0 where
  pub counted : (new ≡ after_write count old) ⊎ (new ≡ after_failed_sync (after_write count old))
