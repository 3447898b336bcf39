-- What the steps of a formatting leave of an image. No public clause cites this file.
use Rattle.std.specs.Prelude.{◌≡◌, ◌<◌, ◌≤◌, ℕ, List, [], ◌∷◌, ◌++◌, codes, length, slice_index}
use Rattle.gp_disk.specs.Disk.{part}
use Rattle.gp_store.specs.Formatting.{SameRest}
use Rattle.gp_store.specs.Image.{OPEN}

-- the header's gate is as it was
abbrev pub SameGate : List ℕ → List ℕ → Type 0
SameGate old new = slice_index new 0 ≡ slice_index old 0

-- the header's gate is as it was, and so is all behind the image
pub record SameEnds (old new : List ℕ) : Type 0 where
  pub gate : SameGate old new
  pub behind : SameRest old new

-- the header's gate is as it was, and so is all behind the image, and all else up to here is zero
pub record Cleared (end : ℕ) (old new : List ℕ) : Type 0 where
  pub gate : SameGate old new
  pub behind : SameRest old new
  pub size : length new ≡ length old
  pub zeros : (i : ℕ) → 1 ≤ i → i < end → slice_index new i ≡ 0

-- the name, the number of the format and zeros stand behind the header's gate, and all behind the header is as it was
pub record Named (old new : List ℕ) : Type 0 where
  pub gate : SameGate old new
  pub size : length new ≡ length old
  pub name : part 1 7 new ≡ codes "GPSINK" ++ 1 ∷ []
  pub zeros : (i : ℕ) → 8 ≤ i → i < 64 → slice_index new i ≡ 0
  pub others : (i : ℕ) → 64 ≤ i → slice_index new i ≡ slice_index old i
  pub behind : SameRest old new

-- all but the header's gate is as it was
pub record SameBehind (old new : List ℕ) : Type 0 where
  pub size : length new ≡ length old
  pub name : part 1 7 new ≡ part 1 7 old
  pub others : (i : ℕ) → 1 ≤ i → slice_index new i ≡ slice_index old i
  pub rest : SameRest old new

-- all but the header's gate is as it was, and that is open
pub record Opened (old new : List ℕ) : Type 0 where
  pub behind : SameBehind old new
  pub gate : slice_index new 0 ≡ OPEN
