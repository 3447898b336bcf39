-- What has happened to a disk, and what a crash then may leave of it.
use Rattle.std.specs.Prelude.{◌≡◌, ℕ, zero, suc, ◌⊎◌, List, [], ◌∷◌, ◌++◌, length, take, replicate}
use Rattle.gp_disk.specs.Disk.{Tally, put, Outside}
use Rattle.gp_disk.specs.Fuse.{Fuse}

-- a range that was written: its place, the octets that were to stand there, and the first of them, which a read
-- gives there (all of them where the write was good)
pub record Range : Type 0 where
  pub at : ℕ
  pub octets : List ℕ
  pub kept : List ℕ

-- a range of which so many octets were stored
abbrev pub written : ℕ → List ℕ → ℕ → Range
written at octets stored = record { at = at; octets = octets; kept = take stored octets }

abbrev pub zeroed : ℕ → ℕ → ℕ → Range
zeroed at count stored = record { at = at; octets = replicate count 0; kept = replicate stored 0 }

-- what changes a disk: a write, good or failed, and a good sync
pub data Done : Type 0 where
  Wrote : Range → Done
  Synced : Done

-- what the last good sync or crash left, or the zeros of a new disk; the ranges written since, in order; and what a
-- read gives
pub record Held : Type 0 where
  pub base : List ℕ
  pub pending : List Range
  pub seen : List ℕ

-- nothing is pending
abbrev pub at_rest : List ℕ → Held
at_rest image = record { base = image; pending = []; seen = image }

abbrev pub happen : Held → Done → Held
happen held (Wrote range) = record { base = held.base; pending = held.pending ++ range ∷ []; seen = put range.at range.kept held.seen }
happen held Synced = at_rest held.seen

unfoldable pub after_all : Held → List Done → Held
after_all held [] = held
after_all held (x ∷ xs) = after_all (happen held x) xs

-- an image with each of these ranges, in order, holding any octets
unfoldable pub Replaced : List ℕ → List Range → List ℕ → Type 0
Replaced base [] c = c ≡ base
Replaced base (range ∷ ranges) c = (d : List ℕ) × Outside range.at (length range.octets) base d × Replaced d ranges c

-- a crash may leave it
abbrev pub MayLeave : Held → List ℕ → Type 0
MayLeave held c = Replaced held.base held.pending c

-- a crash after so many of these steps, or after a later one, might have left it
unfoldable pub LeftSince : ℕ → Held → List Done → List ℕ → Type 0
LeftSince count held [] c = MayLeave held c
LeftSince zero held (x ∷ xs) c = MayLeave held c ⊎ LeftSince zero (happen held x) xs c
LeftSince (suc count) held (x ∷ xs) c = LeftSince count (happen held x) xs c

-- a disk's past: an image with nothing pending, all that has happened since, and how much of it had happened at
-- the last `begin`
pub record Past : Type 0 where
  pub origin : List ℕ
  pub history : List Done
  pub begun : ℕ

abbrev pub held_after : Past → Held
held_after past = after_all (at_rest past.origin) past.history

abbrev pub PastLeft : Past → List ℕ → Type 0
PastLeft past c = LeftSince past.begun (at_rest past.origin) past.history c

-- one thing more has happened
abbrev pub lived : Past → Done → Past
lived past x = record past { history = past.history ++ x ∷ [] }

-- what a disk in memory keeps: what a read gives, its past, its counts of calls and of faults, and the failures to come
pub record Kept : Type 0 where
  pub image : List ℕ
  pub past : Past
  pub tally : Tally
  pub faults : ℕ
  pub fuse : Fuse
