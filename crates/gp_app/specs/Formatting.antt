-- What formatting leaves, by the status.
use Rattle.std.specs.Prelude.{◌≡◌, ℕ, ◌≤◌, List, Option, Some}
use Rattle.gp_base.specs.Outside.{Rose}
use Rattle.gp_disk.specs.declared.device.Disk.{Ghosts}
use Rattle.gp_store.specs.declared.fault.StoreFault.TheVariants as fault
use Rattle.gp_store.specs.Formatting.{HasOpenGate, Formatted, RefusedToFormat}
use Rattle.gp_lines.specs.declared.status.DiskReason.TheVariants.{DiskShort, AlreadyFormatted}
use Rattle.gp_lines.specs.declared.status.Status.{Status}
use Rattle.gp_lines.specs.declared.status.Status.TheVariants.{Done, DiskFault, DiskRefused}

-- After Done the disk was formatted, and after each other status that was refused for the reason that the status names.
abbrev pub FormatLeaves : {D : Type 0} → Ghosts D → Status → D → D → Type 0
FormatLeaves of Done old new = Formatted of old new
FormatLeaves of (DiskRefused DiskShort) old new = RefusedToFormat of fault.DiskShort old new
FormatLeaves of (DiskRefused AlreadyFormatted) old new = RefusedToFormat of fault.AlreadyFormatted old new
FormatLeaves of DiskFault old new = RefusedToFormat of fault.DiskFault old new
FormatLeaves of _ old new = ⊥

-- On a disk that is large enough and whose header has no open gate, where no fault counts, the run is done.
abbrev pub FormatCompletes : Status → ℕ → Option (List ℕ) → ℕ → ℕ → Type 0
FormatCompletes status size image before after =
    204800 ≤ size → (d : List ℕ) → image ≡ Some d → (HasOpenGate d → ⊥) → (Rose before after → ⊥) → status ≡ Done
