-- What a sink answers, in the plain values of a report.
use Rattle.std.specs.Prelude.{ℕ, List, Option, None, Some}
use Rattle.gp_base.specs.declared.identity.Src.{Src}
use Rattle.gp_cluster.specs.declared.message.Sent.{Sent}
use Rattle.gp_translate.specs.declared.act.Act.{Act}
use Rattle.gp_script.specs.declared.report.Cause.{Cause}
use Rattle.gp_script.specs.declared.report.Dropped.{Dropped as Loss}
use Rattle.gp_script.specs.declared.report.Dropped.TheVariants.{Plain}
use Rattle.gp_script.specs.declared.report.Refusal.{Refusal}
use Rattle.gp_ideal.specs.declared.ledger.Change.{Change}

-- `row` is the number of a row; a message is what proxies are told
pub data Verdict : Type 0 where
  -- a frame of a row is acted on
  Acted : (row : ℕ) → (source : Src) → (counter : ℕ) → (command : ℕ) → (acts : List Act) → Verdict
  -- a device is paired
  Paired : (row : ℕ) → (source : Src) → (floor : ℕ) → (message : Sent) → Verdict
  -- a device is unpaired by its frame
  Unpaired : (row : ℕ) → (source : Src) → (counter : ℕ) → (message : Sent) → Verdict
  -- an offer is refused
  Refused : Refusal → Verdict
  -- there is no room for another row
  Full : Verdict
  -- a frame is dropped
  Dropped : Loss → Verdict

-- a verdict, with the change that is remembered before it is given, where there is one
pub record Ruling : Type 0 where
  pub verdict : Verdict
  pub change : Option Change

-- a verdict with nothing to remember
abbrev pub says : Verdict → Ruling
says verdict = record { verdict = verdict; change = None }

-- a verdict, with this change
abbrev pub remembers : Change → Verdict → Ruling
remembers change verdict = record { verdict = verdict; change = Some change }

-- a frame is dropped for this cause
abbrev pub drops : Cause → Ruling
drops cause = says (Dropped (Plain cause))
