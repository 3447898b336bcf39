-- The last text of a run, and its status.
use Rattle.std.specs.Prelude.{◌≡◌, ℕ, ◌<◌, ◌⊎◌, List, length, take, Option}
use Rattle.std.specs.Io.KnownBytes.{Appends}
use Rattle.gp_base.specs.Outside.{one_more}
use Rattle.gp_lines.specs.declared.status.Status.{Status}
use Rattle.gp_lines.specs.declared.status.Status.TheVariants as ending
use Rattle.gp_lines.specs.declared.work.Halt.TheVariants.{Bad, DiskFault, DiskRefused, Worn, NoMemory}
use Rattle.gp_lines.specs.declared.stop.Stop.{Stop}
use Rattle.gp_lines.specs.declared.stop.Stop.TheVariants.{TooLong, WriteFault, Halted}

-- A text is written and the status answered, or a front of it and a write fault.
abbrev pub SaysOr : Status → Status → Option (List ℕ) → Option (List ℕ) → List ℕ → ℕ → ℕ → Type 0
SaysOr status result before after text faults_before faults_after =
    ((result ≡ status) × Appends before after text × (faults_after ≡ faults_before))
    ⊎ ((result ≡ ending.WriteFault) × ((count : ℕ) × Appends before after (take count text)) × (0 < length text) × (faults_after ≡ one_more faults_before))

-- nothing more is written
abbrev pub Silent : Status → Status → Option (List ℕ) → Option (List ℕ) → ℕ → ℕ → Type 0
Silent status result before after faults_before faults_after = (result ≡ status) × (after ≡ before) × (faults_after ≡ faults_before)

-- the text before a stop, and the status that it has
abbrev pub Says : Stop → Status → Option (List ℕ) → Option (List ℕ) → List ℕ → ℕ → ℕ → Type 0
Says TooLong result before after text f f' = SaysOr ending.TooLong result before after text f f'
Says WriteFault result before after text f f' = Silent ending.WriteFault result before after f f'
Says (Halted line NoMemory) result before after text f f' = Silent ending.NoMemory result before after f f'
Says (Halted line (Bad reason)) result before after text f f' = SaysOr (ending.BadLine line reason) result before after text f f'
Says (Halted line DiskFault) result before after text f f' = SaysOr ending.DiskFault result before after text f f'
Says (Halted line (DiskRefused reason)) result before after text f f' = SaysOr (ending.DiskRefused reason) result before after text f f'
Says (Halted line (Worn generation)) result before after text f f' = SaysOr (ending.Worn generation) result before after text f f'
