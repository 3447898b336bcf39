-- What a sink tells of its current pairings, and the groups that it is in (Zigbee PRO Green Power, A.3.3.5.2 and A.3.3.2.2).
use Rattle.std.specs.Prelude.{◌≡◌, ℕ, Bool, true, false, List, slice_get, Option, Some, IsTrue, option_map}
use Rattle.gp_base.specs.declared.identity.Mode.{Mode}
use Rattle.gp_base.specs.declared.identity.Mode.TheVariants.{Derived, Commissioned, Unicast}
use Rattle.gp_cluster.specs.declared.message.Sent.{Sent}
use Rattle.gp_rows.specs.declared.row.Row.{Row}
use Rattle.gp_rows.specs.Rows.{IsCurrent}
use Rattle.gp_ideal.specs.declared.config.Config.{Config}
use Rattle.gp_ideal.specs.declared.ledger.Change.{Change}
use Rattle.gp_ideal.specs.Ledger.{known}
use Rattle.gp_ideal.specs.Messages.{pairing_sent}

-- the message that tells of the current pairing of a SrcID, where there is one
abbrev pub announced : Config → List Change → ℕ → Option Sent
announced config ledger source = option_map (λ k. pairing_sent config k.values k.floor) (known ledger source)

-- the modes in which frames are groupcast
abbrev pub is_groupcast : Mode → Bool
is_groupcast Derived = true
is_groupcast Commissioned = true
is_groupcast Unicast = false

-- the row of this number is a current pairing, and its frames are groupcast to the group
pub record IsMember (rows : List Row) (group at : ℕ) : Type 0 where
  pub row : Row
  pub there : slice_get rows at ≡ Some row
  pub mode : IsTrue (is_groupcast row.mode)
  pub own : row.group ≡ group
  pub current : IsCurrent rows row.src.0 at

abbrev pub IsInGroup : List Row → ℕ → Type 0
IsInGroup rows group = (at : ℕ) × IsMember rows group at
