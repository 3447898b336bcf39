-- The slots of a disk. Row r has two, one of an even and one of an odd number: 2 r and 2 r + 1.
use Rattle.std.specs.Prelude.{◌≡◌, ◌<◌, ◌≤◌, ◌⊎◌, ℕ, ◌+◌, ◌*◌, suc, Bool, true, false, not, nat_lt, if◌then◌else◌, List, replicate, Option, Some, None, IsSome}
use Rattle.gp_base.specs.declared.identity.Level.{Level}
use Rattle.gp_base.specs.declared.identity.KeyKind.{KeyKind}
use Rattle.gp_base.specs.declared.identity.Mode.{Mode}
use Rattle.gp_base.specs.Identity.{kind_number, level_number, mode_number}
use Rattle.gp_store.specs.Slot.{generation, source, key, kind, level, mode, live, order, rest, live_number}

-- the octets behind the gate of the even (false) or odd (true) slot of a row, where that gate is open
abbrev pub Slots : Type 0
Slots = ℕ → Bool → Option (List ℕ)

-- the number of a slot
abbrev pub slot_number : ℕ → Bool → ℕ
slot_number row false = 2 * row
slot_number row true = 2 * row + 1

-- the other slot of a row
abbrev pub other_side : Bool → Bool
other_side side = not side

-- of two slots of a row, the open one with the greater generation
abbrev pub newer : Option (List ℕ) → Option (List ℕ) → Option (List ℕ)
newer None odd = odd
newer (Some even) None = Some even
newer (Some even) (Some odd) = if nat_lt (generation even) (generation odd) then Some odd else Some even

-- the open slot of a row with the greater generation, whose values are the row's
abbrev pub newest : Slots → ℕ → Option (List ℕ)
newest slots row = newer (slots row false) (slots row true)

-- two slots have the same SrcID and key
pub record IsSamePair (one other : List ℕ) : Type 0 where
  pub same_source : source one ≡ source other
  pub same_key : key one ≡ key other

-- two slots have the same SrcID and the same order
pub record IsSameOrder (one other : List ℕ) : Type 0 where
  pub same_source : source one ≡ source other
  pub same_order : order one ≡ order other

-- generation, order, SrcID and the last octets are as they have to be
pub record IsNumbered (octets : List ℕ) : Type 0 where
  -- neither the generation nor the order is 0, and the order isn't above the generation
  pub numbered : 0 < generation octets
  pub ordered : 0 < order octets
  pub order_within : order octets ≤ generation octets
  -- the SrcID is pairable
  pub above_none : 1 ≤ source octets
  pub below_all : source octets ≤ 0xFFFFFFF8
  -- octets 48-63 are zero
  pub zeros : rest octets ≡ replicate 16 0

-- kind, level and mode are those that there are, and live is 0 or 1
pub record HasKinds (octets : List ℕ) : Type 0 where
  pub has_kind : (k : KeyKind) × (kind_number k ≡ kind octets)
  pub has_level : (l : Level) × (level_number l ≡ level octets)
  pub has_mode : (m : Mode) × (mode_number m ≡ mode octets)
  pub has_live : (b : Bool) × (live_number b ≡ live octets)

-- the octets of an open slot break no rule by themselves
pub record IsFormed (octets : List ℕ) : Type 0 where
  pub numbers : IsNumbered octets
  pub kinds : HasKinds octets

-- the open slot of this row and side, with these octets, isn't ill: one line a rule
pub record IsWell (slots : Slots) (row : ℕ) (side : Bool) (octets : List ℕ) : Type 0 where
  pub formed : IsFormed octets
  -- the row before has an open slot
  pub follows : (before : ℕ) → row ≡ suc before → IsSome (newest slots before)
  -- the other slot of the row, where it is open and has the smaller number, has the same SrcID and key and another
  -- generation
  pub twin : (even : List ℕ) → side ≡ true → slots row false ≡ Some even → IsSamePair even octets
  pub apart : (even : List ℕ) → side ≡ true → slots row false ≡ Some even → generation even ≡ generation octets → ⊥
  -- no row of smaller number has the same SrcID and key
  pub new_pair : (above : ℕ) (other : List ℕ) → above < row → newest slots above ≡ Some other → IsSamePair other octets → ⊥
  -- no open slot of a row of smaller number has the same SrcID and the same order
  pub new_order : (above : ℕ) (s : Bool) (other : List ℕ) → above < row → slots above s ≡ Some other → IsSameOrder other octets → ⊥

-- no open slot is ill
abbrev pub IsConsistent : Slots → Type 0
IsConsistent slots = (row : ℕ) (side : Bool) (octets : List ℕ) → slots row side ≡ Some octets → IsWell slots row side octets

-- the slot of this row and side is open and ill
abbrev pub IsIll : Slots → ℕ → Bool → Type 0
IsIll slots row side = (octets : List ℕ) × (slots row side ≡ Some octets) × (IsWell slots row side octets → ⊥)

-- of all ill slots, the one with the smallest number
pub record IsFirstIll (slots : Slots) (number : ℕ) : Type 0 where
  pub row : ℕ
  pub side : Bool
  pub is_number : number ≡ slot_number row side
  pub ill : IsIll slots row side
  pub well_before : (r : ℕ) (s : Bool) (octets : List ℕ) → slot_number r s < number → slots r s ≡ Some octets → IsWell slots r s octets

-- the greatest generation of all open slots, 0 where there is none
pub record IsLast (slots : Slots) (last : ℕ) : Type 0 where
  pub greatest : (row : ℕ) (side : Bool) (octets : List ℕ) → slots row side ≡ Some octets → generation octets ≤ last
  pub reached : (last ≡ 0) ⊎ ((row : ℕ) × (side : Bool) × (octets : List ℕ) × (slots row side ≡ Some octets) × (generation octets ≡ last))
