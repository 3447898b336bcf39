-- What holds of every run, of each sink by itself, as its report shows it.
use Rattle.std.specs.Prelude.{◌≡◌, ◌<◌, ◌⊎◌, ℕ, suc, Bool, true, false, ◌==◌, if◌then◌else◌, List, [], ◌∷◌, map, length, slice_get, Option, Some, None}
use Rattle.std.specs.Str.{bytes_eq}
use Rattle.gp_frames.specs.declared.frame.Mpdu.{Mpdu}
use Rattle.gp_frames.specs.Frame.{Frame}
use Rattle.gp_security.specs.Protection.{Good, source_of, counter_of}
use Rattle.gp_translate.specs.declared.rule.Rule.{Rule}
use Rattle.gp_translate.specs.Acts.{acts}
use Rattle.gp_script.specs.declared.report.Entry.{Entry}
use Rattle.gp_script.specs.declared.report.Report.{Report}
use Rattle.gp_script.specs.declared.report.Report.TheVariants as reports
use Rattle.gp_script.specs.declared.script.Action.TheVariants.{Hear}
use Rattle.gp_script.specs.declared.script.Event.TheVariants.{Line}
use Rattle.gp_ideal.specs.declared.ledger.Change.{Change}
use Rattle.gp_ideal.specs.declared.ledger.Change.TheVariants.{Pair, Accept, Retire}
use Rattle.gp_ideal.specs.declared.ledger.Known.{Known}
use Rattle.gp_ideal.specs.Fresh.{Fresh}
use Rattle.gp_ideal.specs.Heard.{id_of}
use Rattle.gp_ideal.specs.Ledger.{rows, row_of, floor}
use Rattle.gp_ideal.specs.Messages.{octets_of, dest_word, removal_sent}
use Rattle.gp_world.specs.Power.{fate, Passes}
use Rattle.gp_world.specs.Run.{Moment, report_of}
use Rattle.gp_world.specs.Sinks.{act_report}
use Rattle.gp_world.specs.World.{World, Sink, Powered, Runs, IsSink, Node, named, entries}

-- ---- counters

-- the row and the counter of a frame that was taken: acted on, or one that unpaired its device
abbrev pub taken_in : Report → Option (ℕ × ℕ)
taken_in (reports.Acted row source counter command count) = Some (row, counter)
taken_in (reports.Unpaired row source counter) = Some (row, counter)
taken_in other = None

-- an entry says that the sink of this name took a frame of this row with this counter
pub record Takes (name : List ℕ) (row counter : ℕ) (entry : Entry) : Type 0 where
  pub node : entry.node ≡ Some name
  pub taken : taken_in entry.report ≡ Some (row, counter)

-- along the report the counters of one row of a sink rise strictly
abbrev pub Rising : List Entry → Type 0
Rising report = (i j : ℕ) (earlier later : Entry) (name : List ℕ) (row c d : ℕ) →
    slice_get report i ≡ Some earlier → slice_get report j ≡ Some later → i < j →
    Takes name row c earlier → Takes name row d later → c < d

-- no two entries of a sink have the same row and the same counter
abbrev pub Once : List Entry → Type 0
Once report = (i j : ℕ) (one other : Entry) (name : List ℕ) (row counter : ℕ) →
    slice_get report i ≡ Some one → slice_get report j ≡ Some other →
    Takes name row counter one → Takes name row counter other → i ≡ j

-- ---- what is acted on

-- it holds of each moment and those before it
abbrev pub Each : (Moment → List Moment → Type 0) → List Moment → Type 0
Each Holds [] = Unit {0}
Each Holds (moment ∷ earlier) = Holds moment earlier × Each Holds earlier

-- in this moment the frame with these octets reaches the running sink of this name
pub record Hears (name : List ℕ) (powered : Powered) (octets : List ℕ) (moment : Moment) : Type 0 where
  pub reading : ℕ
  pub frame : ℕ
  pub link : ℕ
  pub asked : moment.event ≡ Line reading (Hear frame name link)
  pub node : Node
  pub found : named name moment.before.nodes ≡ Some node
  pub is_sink : node.kind ≡ IsSink powered
  pub runs : powered.phase ≡ Runs
  pub sent : slice_get moment.before.air frame ≡ Some octets

-- what a sink reports of a fresh frame: it is acted on, by its rules; or its device is unpaired, and proxies are told
abbrev pub acted_reports : List Rule → Known → ℕ → List ℕ → List Report
acted_reports rules k counter command =
    let done = acts rules k.values.src command in
    reports.Acted k.row k.values.src counter (id_of command) (length done) ∷ map act_report done

abbrev pub unpaired_reports : ℕ → Known → ℕ → List Report
unpaired_reports number k counter =
    let message = removal_sent k.values.src in
    reports.Unpaired k.row k.values.src counter ∷ reports.Put number (dest_word message.to) (octets_of number message) ∷ []

abbrev pub fresh_reports : World → Sink → Known → ℕ → List ℕ → List Report
fresh_reports world sink k counter command =
    if id_of command == 0xE1 then unpaired_reports (length world.messages) k counter else acted_reports sink.rules k counter command

-- whenever a fresh frame reaches a running sink, and neither a cut nor a fault befalls its commit, the entries of the line are these
-- and no others
abbrev pub ActsOnFresh : Moment → List Moment → Type 0
ActsOnFresh moment earlier = (name : List ℕ) (powered : Powered) (octets : List ℕ) (k : Known) (counter : ℕ) (command : List ℕ) →
    Hears name powered octets moment → fate powered.armed ≡ Passes → Fresh powered.sink.ledger octets k counter command →
    moment.next.told ≡ entries (suc (length earlier)) (Some name) (fresh_reports moment.before powered.sink k counter command)

-- an entry says that a frame was taken only where a fresh frame of that row and counter reaches that sink, and its commit passes
pub record IsOfFresh (moment : Moment) (name : List ℕ) (row counter : ℕ) : Type 0 where
  pub powered : Powered
  pub octets : List ℕ
  pub hears : Hears name powered octets moment
  pub passes : fate powered.armed ≡ Passes
  pub k : Known
  pub command : List ℕ
  pub fresh : Fresh powered.sink.ledger octets k counter command
  pub row_is : k.row ≡ row

abbrev pub TakesOnlyFresh : Moment → List Moment → Type 0
TakesOnlyFresh moment earlier = (i : ℕ) (entry : Entry) (name : List ℕ) (row counter : ℕ) →
    slice_get moment.next.told i ≡ Some entry → Takes name row counter entry → IsOfFresh moment name row counter

-- each fresh frame that reaches a running sink whose disk doesn't fail is acted on, exactly as its rules say, and nothing else is
pub record Exact (moments : List Moment) : Type 0 where
  pub acts : Each ActsOnFresh moments
  pub only : Each TakesOnlyFresh moments

-- ---- what was verified

-- an entry says that the sink of this name acted on a command
pub record Acts (name : List ℕ) (row source counter id : ℕ) (entry : Entry) : Type 0 where
  pub node : entry.node ≡ Some name
  pub count : ℕ
  pub acted : entry.report ≡ reports.Acted row (record { 0 = source }) counter id count

-- In this moment a frame reaches that sink, which has that SrcID and that counter, and under the key of the row carries a
-- command with that identifier: its MIC is right.
pub record IsVerified (moment : Moment) (name : List ℕ) (row source counter id : ℕ) : Type 0 where
  pub powered : Powered
  pub octets : List ℕ
  pub hears : Hears name powered octets moment
  pub mpdu : Mpdu
  pub spelled : Frame mpdu octets
  pub from : source_of mpdu.frame ≡ source
  pub counts : counter_of mpdu.frame ≡ counter
  pub key : List ℕ
  pub of_row : slice_get (rows powered.sink.ledger) row ≡ Some (source, key)
  pub command : List ℕ
  pub carried : Good key mpdu.frame command
  pub id_is : id_of command ≡ id

abbrev pub VerifiesActs : Moment → List Moment → Type 0
VerifiesActs moment earlier = (i : ℕ) (entry : Entry) (name : List ℕ) (row source counter id : ℕ) →
    slice_get moment.next.told i ≡ Some entry → Acts name row source counter id entry → IsVerified moment name row source counter id

-- each act that the report shows answers one frame whose MIC was right under the key of its pairing
abbrev pub Verified : List Moment → Type 0
Verified = Each VerifiesActs

-- ---- what is kept

-- a report tells of this change of the ledger
abbrev pub Tells : List Change → Change → Report → Type 0
Tells ledger (Pair values counter) (reports.Paired row source kept) =
    (row_of (Pair values counter) ledger ≡ row) × (values.src ≡ source) × (floor (Pair values counter ∷ ledger) row ≡ kept)
Tells ledger (Accept at counter) (reports.Acted row source taken command count) = (at ≡ row) × (counter ≡ taken)
Tells ledger (Retire at counter) (reports.Unpaired row source taken) = (at ≡ row) × (counter ≡ taken)
Tells ledger change other = ⊥

-- the change that a report tells is remembered
abbrev pub RemembersTold : Report → List Change → List Change → Type 0
RemembersTold report before after = (change : Change) × Tells before change report × (after ≡ change ∷ before)

-- at most one change is remembered that no report tells
abbrev pub RemembersOne : List Change → List Change → Type 0
RemembersOne before after = (after ≡ before) ⊎ ((change : Change) × (after ≡ change ∷ before))

-- what a report of a sink says of its ledger before and after: `ran` says whether the sink ran before it
abbrev pub Remembers : Bool → Report → List Change → List Change → Type 0
Remembers ran (reports.Paired row source kept) before after = RemembersTold (reports.Paired row source kept) before after
Remembers ran (reports.Acted row source counter command count) before after = RemembersTold (reports.Acted row source counter command count) before after
Remembers ran (reports.Unpaired row source counter) before after = RemembersTold (reports.Unpaired row source counter) before after
Remembers true reports.Cut before after = RemembersOne before after
Remembers true reports.Halted before after = RemembersOne before after
Remembers ran other before after = after ≡ before

-- whether a sink runs behind a report
abbrev pub runs_behind : Bool → Report → Bool
runs_behind ran (reports.Up count) = true
runs_behind ran reports.Cut = false
runs_behind ran reports.Halted = false
runs_behind ran reports.Off = false
runs_behind ran reports.Dark = false
runs_behind ran other = ran

-- The reports of a sink, in their order, lead from the one ledger to the other: each change that they tell is remembered, in this
-- order, and where a cut or a fault befell the running sink at most one more.
abbrev pub Lead : Bool → List Report → List Change → List Change → Type 0
Lead ran [] before after = after ≡ before
Lead ran (report ∷ later) before after = (middle : List Change) × Remembers ran report before middle × Lead (runs_behind ran report) later middle after

-- what the node of this name reported
abbrev pub is_by : List ℕ → Option (List ℕ) → Bool
is_by name None = false
is_by name (Some other) = bytes_eq other name

unfoldable pub told_by : List ℕ → List Entry → List Report
told_by name [] = []
told_by name (entry ∷ others) = if is_by name entry.node then entry.report ∷ told_by name others else told_by name others

-- Behind each line the ledger of every sink is the list of all changes that it reported, with at most one that it didn't in the
-- place of each cut and each fault.
abbrev pub KeepsTold : Moment → List Moment → Type 0
KeepsTold moment earlier = (name : List ℕ) (node : Node) (powered : Powered) →
    named name moment.next.world.nodes ≡ Some node → node.kind ≡ IsSink powered →
    Lead true (told_by name (report_of (moment ∷ earlier))) [] powered.sink.ledger

abbrev pub Kept : List Moment → Type 0
Kept = Each KeepsTold

-- ---- what holds of every run

pub record HasProperties (moments : List Moment) : Type 0 where
  pub rising : Rising (report_of moments)
  pub once : Once (report_of moments)
  pub exact : Exact moments
  pub verified : Verified moments
  pub kept : Kept moments
