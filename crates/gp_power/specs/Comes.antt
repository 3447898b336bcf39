-- What comes of an event, at a sink with its power: what the ideal event makes of each ideal sink for which it stands.
use Rattle.std.specs.Prelude.{◌≡◌, ◌↔◌, ℕ, Bool, true, List, [], ◌∷◌, Option, Some, None, IfSome}
use Rattle.gp_cluster.specs.declared.message.Sent.{Sent}
use Rattle.gp_disk.specs.Memory.{memory_may_leave}
use Rattle.gp_rows.specs.declared.row.Row.{Row}
use Rattle.gp_script.specs.declared.report.Report.{Report}
use Rattle.gp_script.specs.declared.report.Report.TheVariants as reports
use Rattle.gp_ideal.specs.declared.ledger.Change.{Change}
use Rattle.gp_sink.specs.Fits.{Fits, ImageFits}
use Rattle.gp_world.specs.Power.{passed, lists}
use Rattle.gp_world.specs.Run.{IsRight}
use Rattle.gp_world.specs.Sinks.{sink_lists}
use Rattle.gp_world.specs.World.{Kind, IsSink, IsDevice, Out, out, Choice, Fixed, Free, Made}
use Rattle.gp_world.specs.World as ideal
use Rattle.gp_power.specs.declared.power.Powered.{Powered}
use Rattle.gp_power.specs.declared.power.Supply.{Supply}
use Rattle.gp_power.specs.declared.power.Supply.TheVariants.{On, Off, Moved}
use Rattle.gp_power.specs.Stands.{StandsFor}

-- a bit is taken where there is a choice, or where it was made by the number of calls
abbrev pub taken : Choice → Bool → Option Bool
taken Fixed bit = None
taken Free bit = Some bit
taken Made bit = Some bit

-- the images that a crash may leave of its disk
abbrev pub leaves : Supply → List ℕ → Type 0
leaves (On sink) c = memory_may_leave sink.store.disk c
leaves (Off rules disk) c = memory_may_leave disk c
leaves Moved c = ⊥

-- the ledger of an ideal sink
abbrev pub ledger_of : Kind → List Change
ledger_of (IsSink powered) = powered.sink.ledger
ledger_of (IsDevice device) = []

-- The bit is yes exactly where the disk holds rows that fit the ledger which the ideal sink has with yes: that with the change.
abbrev pub Decides : (Bool → Out) → Supply → Bool → Type 0
Decides made supply bit = (c : List ℕ) → leaves supply c → (bit ≡ true) ↔ ImageFits (ledger_of (made true).node) c

-- For one bit this is what the ideal event makes: the sink stands for the ideal one afterwards, and these are the reports and the
-- messages; the bit is handed back where one is taken, and is what the disk decides.
pub record Outcome (made : Bool → Out) (says : List Report) (puts : List Sent) (new : Powered) (took : Option Bool) : Type 0 where
  pub bit : Bool
  pub next : ideal.Powered
  pub node : (made bit).node ≡ IsSink next
  pub stands : StandsFor new next
  pub says_are : (made bit).says ≡ says
  pub puts_are : (made bit).puts ≡ puts
  pub airs_are : (made bit).airs ≡ []
  pub right : IsRight (made bit).choice bit
  pub takes : took ≡ taken (made bit).choice bit
  pub decides : IfSome took (Decides made new.supply)

-- The same for every ideal sink for which it stood.
abbrev pub Comes : (Bool → ideal.Powered → Out) → List Report → List Sent → Powered → Powered → Option Bool → Type 0
Comes event says puts old new took = (model : ideal.Powered) → StandsFor old model → Outcome (λ bit. event bit model) says puts new took

-- The rows that are listed fit the ledger; without power none are.
abbrev pub Shows : Option (List Row) → ideal.Powered → Type 0
Shows None model = lists model ≡ out (IsSink model) (reports.Dark ∷ [])
Shows (Some rows) model = Fits rows model.sink.ledger × (lists model ≡ passed model (sink_lists model.sink))
