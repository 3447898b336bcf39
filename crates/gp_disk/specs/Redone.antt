-- A history done again on an image, as private functions say it. A reader needn't believe this file.
use Rattle.std.specs.Prelude.{ℕ, List, [], ◌∷◌}
use Rattle.gp_disk.specs.Disk.{put}
use Rattle.gp_disk.specs.History.{Range, Done, Wrote, Synced}

-- what a read gives after these, from an image on
unfoldable pub redone : List ℕ → List Done → List ℕ
redone image [] = image
redone image (Wrote range ∷ xs) = redone (put range.at range.kept image) xs
redone image (Synced ∷ xs) = redone image xs

-- the ranges that were written
unfoldable pub ranges_of : List Done → List Range
ranges_of [] = []
ranges_of (Wrote range ∷ xs) = range ∷ ranges_of xs
ranges_of (Synced ∷ xs) = ranges_of xs
