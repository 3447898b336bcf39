-- What a crash of a disk in memory makes of the ranges that are pending.
use Rattle.std.specs.Prelude.{ℕ, ◌-◌, ◌/◌, Bool, List, [], ◌∷◌, ◌++◌, length, take, drop, map, replicate, ◌==◌, if◌then◌else◌}
use Rattle.gp_disk.specs.Disk.{part, put}
use Rattle.gp_disk.specs.History.{Range}

-- What a crash leaves in a range, of the new octets and those that were there. Way 0: those that were there. Way 1:
-- the new ones. Way 2: the first half of the new ones, rounded down, and behind it those that were there. Way 3: A5
-- in each octet. Way 4: the complement of each new octet
abbrev pub filled : ℕ → List ℕ → List ℕ → List ℕ
filled way new old =
    if way == 1 then new
    else if way == 2 then take (length new / 2) new ++ drop (length new / 2) old
    else if way == 3 then replicate (length new) 165
    else if way == 4 then map (λ octet. 255 - octet) new
    else old

-- the ranges filled so, in the order in which they were written
unfoldable pub struck : ℕ → List ℕ → List Range → List ℕ
struck way image [] = image
struck way image (range ∷ ranges) = struck way (put range.at (filled way range.octets (part range.at (length range.octets) image)) image) ranges

-- so many octets of a write are stored: all of them, or the first half of them, rounded down, where it fails
abbrev pub stored_of : Bool → ℕ → ℕ
stored_of good count = if good then count else count / 2
