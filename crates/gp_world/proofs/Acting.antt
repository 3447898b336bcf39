-- A fresh frame is acted on exactly, and nothing else is taken.
use Rattle.std.proofs.Common.{◌≡◌, inl, inr, ℕ, zero, suc, max, Bool, true, false, ◌==◌, cond, List, [], ◌∷◌, ◌++◌, map, length, Option, Some, None, Result, Ok, Err, refl, sym, ap, ◌∙◌, subst, slice_get}
use Rattle.std.proofs.lemmas.List.{append-nil}
use Rattle.gp_base.specs.Field.{IsOctets}
use Rattle.gp_base.specs.Table.{let_else}
use Rattle.gp_translate.specs.declared.rule.Rule.{Rule}
use Rattle.gp_script.specs.declared.reason.LineReason.{LineReason}
use Rattle.gp_script.specs.declared.reason.LineReason.TheVariants.{Absent, Missing}
use Rattle.gp_script.specs.declared.report.Entry.{Entry}
use Rattle.gp_script.specs.declared.report.Report.{Report}
use Rattle.gp_script.specs.declared.report.Report.TheVariants as reports
use Rattle.gp_script.specs.declared.script.Action.TheVariants.{Hear}
use Rattle.gp_script.specs.declared.script.Event.{Event}
use Rattle.gp_script.specs.declared.script.Event.TheVariants.{Line}
use Rattle.gp_ideal.specs.declared.ledger.Known.{Known}
use Rattle.gp_world.specs.Devices.{device_presses, device_hears, sends}
use Rattle.gp_ideal.specs.Fresh.{Fresh}
use Rattle.gp_ideal.specs.declared.config.Config.{Config}
use Rattle.gp_ideal.specs.declared.ledger.Change.{Change}
use Rattle.gp_ideal.specs.declared.ledger.Change.TheVariants.{Accept, Retire}
use Rattle.gp_ideal.specs.declared.ledger.Values.{Values}
use Rattle.gp_ideal.specs.Heard.{id_of, heard, acted, unpaired}
use Rattle.gp_ideal.specs.Paired.{paired}
use Rattle.gp_world.specs.Properties.{taken_in, Takes, Each, Hears, acted_reports, unpaired_reports, fresh_reports, ActsOnFresh, IsOfFresh, TakesOnlyFresh, Exact}
use Rattle.gp_world.specs.Run.{Moment, Run}
use Rattle.gp_world.specs.Sinks.{ruled, sink_hears, verdict_reports, act_report}
use Rattle.gp_world.specs.Step.{step, acted_on, hears, node_hears}
use Rattle.gp_ideal.specs.Verdict.{Verdict, Acted, Paired, Unpaired, Refused, Full, Dropped, Ruling}
use Rattle.gp_world.specs.World as of
use Rattle.gp_world.specs.Power.{Fate, Passes, CutAfter, Fails, fate, behind, committed, passed as went_on, settled_by, effected, by_phase, at_running}
use Rattle.gp_world.specs.World.{World, Armed, Phase, Runs, Dark, Halted, Powered, Device, Kind, IsSink, IsDevice, Node, Next, Out, out, named, settled, joined, injected, put_reports, air_reports, entries}
use Rattle.gp_ideal.proofs.Freshness.{fresh-passes, passes-fresh}
use Rattle.gp_ideal.proofs.Passing.{taken_by, Passing, passed, heard-passes, heard-takes}
use Rattle.gp_world.proofs.Steady.{AreSteady, airs-steady, acts-steady, sent_reports, sent-steady}
use Rattle.gp_world.proofs.Rulings.{paired-carries}
use Rattle.gp_world.proofs.Powering.{EachCase, went, was_cut, has_failed, does-carries}
use Rattle.gp_world.proofs.Stepping as came
use Rattle.gp_world.proofs.Stepping.{Does, Comes, Stays, Joins, Acts, Injects, comes}
use Rattle.gp_ideal.proofs.Tests.{which_list}

-- ---- a fresh frame is acted on

-- what a running sink makes of a fresh frame, where nothing befalls its commit
passes-by : (powered : Powered) (bit : Bool) (k : Known) (counter : ℕ) (command : List ℕ) → Out
passes-by powered bit k counter command = effected powered bit (ruled powered.sink (passed powered.sink.rules k counter command))

passed-reports : (world : World) (powered : Powered) (bit : Bool) (k : Known) (counter : ℕ) (command : List ℕ) → fate powered.armed ≡ Passes →
    of.reports world (passes-by powered bit k counter command) ≡ fresh_reports world powered.sink k counter command
unfolding passes-by effected committed ruled
passed-reports world powered bit k counter command passes = go (id_of command == 0xE1)
  where
    go : (b : Bool) → of.reports world (effected powered bit (ruled powered.sink (cond b (unpaired k counter) (acted powered.sink.rules k counter command))))
        ≡ cond b (unpaired_reports (length world.messages) k counter) (acted_reports powered.sink.rules k counter command)
    go true = ap (λ (f : Fate). of.reports world (committed powered bit (ruled powered.sink (unpaired k counter)) (Retire k.row counter) f)) passes
    go false =
        ap (λ (f : Fate). of.reports world (committed powered bit (ruled powered.sink (acted powered.sink.rules k counter command)) (Accept k.row counter) f)) passes
        ∙ append-nil (acted_reports powered.sink.rules k counter command)

running-hears : (octets : List ℕ) (bit : Bool) (powered : Powered) → powered.phase ≡ Runs → at_running (sink_hears octets) bit powered ≡ effected powered bit (sink_hears octets powered.sink)
unfolding at_running
running-hears octets bit powered runs =
    ap (λ (p : Phase). by_phase p (out (IsSink powered) (reports.Dark ∷ [])) (λ change. out (IsSink powered) (reports.Halted ∷ [])) (effected powered bit (sink_hears octets powered.sink))) runs

fresh-reports : (world : World) (powered : Powered) (bit : Bool) (octets : List ℕ) (k : Known) (counter : ℕ) (command : List ℕ) → powered.phase ≡ Runs → fate powered.armed ≡ Passes →
    Fresh powered.sink.ledger octets k counter command → of.reports world (at_running (sink_hears octets) bit powered) ≡ fresh_reports world powered.sink k counter command
unfolding sink_hears passes-by
fresh-reports world powered bit octets k counter command runs passes f =
    ap (of.reports world) (running-hears octets bit powered runs)
    ∙ ap (λ (r : Ruling). of.reports world (effected powered bit (ruled powered.sink r)))
    (heard-passes powered.sink.rules powered.sink.ledger octets k counter command (fresh-passes powered.sink.ledger octets k counter command f))
    ∙ passed-reports world powered bit k counter command passes

-- the line of a frame that is there comes to what its node makes of it
hears-there : (world : World) (line reading frame : ℕ) (name : List ℕ) (bit : Bool) (node : Node) (octets : List ℕ) → named name world.nodes ≡ Some node → slice_get world.air frame ≡ Some octets →
    hears world line reading frame name bit ≡ Ok (settled world line name (max node.time reading) (Some frame) (node_hears octets bit node.kind))
unfolding hears
hears-there world line reading frame name bit node octets found sent =
    ap (λ (o : Option Node). let_else {B = Result Next LineReason} o (Err Absent) (λ (n : Node). let_else (slice_get world.air frame) (Err Missing) (λ (b : List ℕ). Ok (settled world line name (max n.time reading) (Some frame) (node_hears b bit n.kind))))) found
    ∙ ap (λ (o : Option (List ℕ)). let_else {B = Result Next LineReason} o (Err Missing) (λ (b : List ℕ). Ok (settled world line name (max node.time reading) (Some frame) (node_hears b bit node.kind)))) sent

step-hears : (world : World) (line reading frame link : ℕ) (name : List ℕ) (bit : Bool) → step world line (Line reading (Hear frame name link)) bit ≡ hears world line reading frame name bit
unfolding step acted_on
step-hears world line reading frame link name bit = refl

is_next : (one other : Next) → ◌≡◌ {A = Result Next LineReason} (Ok one) (Ok other) → other ≡ one
is_next one other e = cc

settled-told : (world : World) (line : ℕ) (name : List ℕ) (time : ℕ) (origin : Option ℕ) (made : Out) → (settled world line name time origin made).told ≡ entries line (Some name) (of.reports world made)
unfolding settled
settled-told world line name time origin made = refl

-- what a line reports where a frame reaches a running sink
heard-told : (moment : Moment) (line : ℕ) (name : List ℕ) (powered : Powered) (octets : List ℕ) → step moment.before line moment.event moment.bit ≡ Ok moment.next → Hears name powered octets moment →
    moment.next.told ≡ entries line (Some name) (of.reports moment.before (at_running (sink_hears octets) moment.bit powered))
heard-told moment line name powered octets steps h =
    let world = moment.before in
    let made = settled world line name (max h.node.time h.reading) (Some h.frame) (node_hears octets moment.bit h.node.kind) in
    let comes_so : step world line moment.event moment.bit ≡ Ok made =
    ap (λ (e : Event). step world line e moment.bit) h.asked ∙ step-hears world line h.reading h.frame h.link name moment.bit
    ∙ hears-there world line h.reading h.frame name moment.bit h.node octets h.found h.sent in
    ap (λ (n : Next). n.told) (is_next made moment.next (sym comes_so ∙ steps))
    ∙ settled-told world line name (max h.node.time h.reading) (Some h.frame) (node_hears octets moment.bit h.node.kind)
    ∙ ap (λ (k : Kind). entries line (Some name) (of.reports world (node_hears octets moment.bit k))) h.is_sink

pub acts_on_fresh : (moment : Moment) (earlier : List Moment) → step moment.before (suc (length earlier)) moment.event moment.bit ≡ Ok moment.next → ActsOnFresh moment earlier
acts_on_fresh moment earlier steps name powered octets k counter command h passes f =
    heard-told moment (suc (length earlier)) name powered octets steps h
    ∙ ap (λ (rs : List Report). entries (suc (length earlier)) (Some name) rs) (fresh-reports moment.before powered moment.bit octets k counter command h.runs passes f)

-- ---- nothing else is taken

-- none of these reports says that a counter was taken
abbrev pub TakeNothing : List Report → Type 0
TakeNothing rs = (i : ℕ) (report : Report) → slice_get rs i ≡ Some report → taken_in report ≡ None

nothing_none : TakeNothing []
nothing_none i report e = absurd cc

nothing_more : (first : Report) (rs : List Report) → taken_in first ≡ None → TakeNothing rs → TakeNothing (first ∷ rs)
nothing_more first rs none rest zero report e = let same : first ≡ report = cc in ap taken_in (sym same) ∙ none
nothing_more first rs none rest (suc i) report e = rest i report e

pub nothing_both : (xs ys : List Report) → TakeNothing xs → TakeNothing ys → TakeNothing (xs ++ ys)
nothing_both xs ys h k i report e = elim (which_list xs ys i report e) [ inl at ↦ h i report at | inr at ↦ k at.0 report at.1 ]

pub steady-nothing : (rs : List Report) → AreSteady rs → TakeNothing rs
steady-nothing [] h = nothing_none
steady-nothing (report ∷ rs) h = nothing_more report rs h.0.takes (steady-nothing rs h.1)

-- a node that says nothing of the kind reports nothing of it
quiet : (world : World) (made : Out) → TakeNothing made.says → TakeNothing (of.reports world made)
quiet world made says = nothing_both made.says (sent_reports world made) says (steady-nothing (sent_reports world made) (sent-steady world made))

one_nothing : (report : Report) → taken_in report ≡ None → TakeNothing (report ∷ [])
one_nothing report none = nothing_more report [] none nothing_none

-- what a verdict's reports say was taken is what it takes
pub verdict-takes : (verdict : Verdict) (i : ℕ) (report : Report) (taken : ℕ × ℕ) → slice_get (verdict_reports verdict) i ≡ Some report → taken_in report ≡ Some taken → taken_by verdict ≡ Some taken
verdict-takes (Acted row source counter command done) zero report taken e t =
    let same : reports.Acted row source counter command (length done) ≡ report = cc in ap taken_in same ∙ t
verdict-takes (Acted row source counter command done) (suc i) report taken e t = absurd (let none = steady-nothing (map act_report done) (acts-steady done) i report e in cc)
verdict-takes (Paired row source floor message) i report taken e t = absurd (let none = one_nothing (reports.Paired row source floor) refl i report e in cc)
verdict-takes (Unpaired row source counter message) zero report taken e t =
    let same : reports.Unpaired row source counter ≡ report = cc in ap taken_in same ∙ t
verdict-takes (Unpaired row source counter message) (suc i) report taken e t = absurd cc
verdict-takes (Refused reason) i report taken e t = absurd (let none = one_nothing (reports.Refused reason) refl i report e in cc)
verdict-takes Full i report taken e t = absurd (let none = one_nothing _ refl i report e in cc)
verdict-takes (Dropped cause) i report taken e t = absurd (let none = one_nothing (reports.Drop cause) refl i report e in cc)

went-takes : (world : World) (powered : Powered) (ruling : Ruling) (armed : Armed) (i : ℕ) (report : Report) (taken : ℕ × ℕ) →
    slice_get (of.reports world (went powered (ruled powered.sink ruling) armed)) i ≡ Some report → taken_in report ≡ Some taken → taken_by ruling.verdict ≡ Some taken
unfolding ruled
went-takes world powered ruling armed i report taken e t =
    let made = went powered (ruled powered.sink ruling) armed in
    elim (which_list (verdict_reports ruling.verdict) (sent_reports world made) i report e) [
      | inl at ↦ verdict-takes ruling.verdict i report taken at t
      | inr at ↦ absurd (let none = steady-nothing (sent_reports world made) (sent-steady world made) at.0 report at.1 in cc)
    ]

-- an entry of a line is one of its node's reports
pub record IsEntry (line : ℕ) (name : Option (List ℕ)) (rs : List Report) (entry : Entry) : Type 0 where
  pub i : ℕ
  pub there : slice_get rs i ≡ Some entry.report
  pub node : entry.node ≡ name

pub is_entry : (line : ℕ) (name : Option (List ℕ)) (rs : List Report) (i : ℕ) (entry : Entry) → slice_get (entries line name rs) i ≡ Some entry → IsEntry line name rs entry
is_entry line name [] i entry e = absurd cc
is_entry line name (report ∷ rs) zero entry e =
    let made : Entry = record { line = line; node = name; report = report } in
    let same : made ≡ entry = cc in
    record { i = 0; there = ap (λ (x : Entry). Some x.report) same; node = ap (λ (x : Entry). x.node) (sym same) }
is_entry line name (report ∷ rs) (suc i) entry e = let later = is_entry line name rs i entry e in record { i = suc later.i; there = later.there; node = later.node }

pub some_none : (o : Option (ℕ × ℕ)) (taken : ℕ × ℕ) → o ≡ None → o ≡ Some taken → ⊥
some_none o taken none some = cc

-- no entry of a quiet line takes anything
pub quiet-line : (line : ℕ) (name : Option (List ℕ)) (rs : List Report) → TakeNothing rs → (i : ℕ) (entry : Entry) (own : List ℕ) (row counter : ℕ) → slice_get (entries line name rs) i ≡ Some entry →
    Takes own row counter entry → ⊥
quiet-line line name rs none i entry own row counter e t =
    let is = is_entry line name rs i entry e in
    some_none (taken_in entry.report) (row, counter) (none is.i entry.report is.there) t.taken

-- where a device is to be paired nothing is taken
abbrev pub TakesNone : Ruling → Type 0
TakesNone ruling = TakeNothing (verdict_reports ruling.verdict)

pub pairs-quiet : (config : Config) (ledger : List Change) (values : Values) (counter : ℕ) → TakesNone (paired config ledger values counter)
pairs-quiet config ledger values counter =
    paired-carries TakesNone config ledger values counter (λ reason. one_nothing (reports.Refused reason) refl) (one_nothing _ refl) (one_nothing _ refl)

abbrev SaysNothing : Out → Type 0
SaysNothing made = TakeNothing made.says

cases-quiet : (bit : Bool) (powered : Powered) → EachCase TakesNone SaysNothing bit powered
unfolding ruled
cases-quiet bit powered = record {
  word = λ armed report w. one_nothing report w.takes;
  tells = λ effect still. steady-nothing effect.says still.says;
  rules = λ runs ruling armed none. none;
  cut = λ runs change calls. one_nothing reports.Cut refl;
  fails = λ runs change. one_nothing reports.Halted refl;
  off = λ runs. one_nothing reports.Off refl;
  settles = λ change halted. one_nothing reports.Off refl;
  on = λ count dark. one_nothing (reports.Up count) refl;
}

presses-quiet : (device : Device) (command : List ℕ) → TakeNothing (device_presses command device).says
unfolding device_presses
presses-quiet device command = go (device.counter == 0xFFFFFFFF)
  where
    go : (b : Bool) → TakeNothing (cond b (out (IsDevice device) (reports.End ∷ [])) (sends device command)).says
    go true = one_nothing reports.End refl
    go false = nothing_none

does-quiet : (event : Event) (bit : Bool) (kind : Kind) (made : Out) → Does event bit kind made → TakeNothing made.says
does-quiet event bit kind made does =
    does-carries (λ powered. TakesNone) (λ own. Unit {0}) (λ own. SaysNothing) event bit (λ powered values counter. pairs-quiet powered.sink.config powered.sink.ledger values counter)
    (λ powered h. cases-quiet bit powered) (λ device command octets h. presses-quiet device command) kind made does tt

device-quiet : (octets : List ℕ) (device : Device) → TakeNothing (device_hears octets device).says
unfolding device_hears
device-quiet octets device = one_nothing reports.Closed refl

-- octets on the air are octets
abbrev pub OnAir : World → Type 0
OnAir world = (n : ℕ) (octets : List ℕ) → slice_get world.air n ≡ Some octets → IsOctets octets

-- the sink runs, the frame passes, and so does its commit
record SinkTakes (powered : Powered) (octets : List ℕ) (row counter : ℕ) : Type 0 where
  runs : powered.phase ≡ Runs
  passes : fate powered.armed ≡ Passes
  frame : Passing powered.sink.ledger octets row counter

-- a ruling that takes a counter remembers a change
taken-changes : (rules : List Rule) (ledger : List Change) (octets : List ℕ) (row counter : ℕ) → Passing ledger octets row counter → (heard rules ledger octets).change ≡ None → ⊥
taken-changes rules ledger octets row counter p none =
    go (id_of p.command == 0xE1) (subst (λ (r : Ruling). r.change ≡ None) (heard-passes rules ledger octets p.k counter p.command p.passes) none)
  where
    go : (b : Bool) → (cond b (unpaired p.k counter) (acted rules p.k counter p.command)).change ≡ None → ⊥
    go true t = absurd cc
    go false t = absurd cc

sink_takes : (world : World) (powered : Powered) (bit : Bool) (octets : List ℕ) (i : ℕ) (report : Report) (row counter : ℕ) →
    slice_get (of.reports world (at_running (sink_hears octets) bit powered)) i ≡ Some report → taken_in report ≡ Some (row, counter) → SinkTakes powered octets row counter
unfolding at_running sink_hears effected went_on committed ruled
sink_takes world powered bit octets i report row counter e t = phases powered.phase refl e
  where
    ruling : Ruling
    ruling = heard powered.sink.rules powered.sink.ledger octets

    no : (made : Out) → TakeNothing made.says → slice_get (of.reports world made) i ≡ Some report → ⊥
    no made none there = some_none (taken_in report) (row, counter) (quiet world made none i report there) t

    frame : (armed : Armed) → slice_get (of.reports world (went powered (ruled powered.sink ruling) armed)) i ≡ Some report → Passing powered.sink.ledger octets row counter
    frame armed there = heard-takes powered.sink.rules powered.sink.ledger octets row counter (went-takes world powered ruling armed i report (row, counter) there t)

    fates : powered.phase ≡ Runs → (change : Change) (f : Fate) → fate powered.armed ≡ f →
        slice_get (of.reports world (committed powered bit (ruled powered.sink ruling) change f)) i ≡ Some report → SinkTakes powered octets row counter
    fates runs change Passes is there = record { runs = runs; passes = is; frame = frame (behind powered.armed) there }
    fates runs change (CutAfter calls) is there = absurd (no (was_cut powered bit change calls) (one_nothing reports.Cut refl) there)
    fates runs change Fails is there = absurd (no (has_failed powered change) (one_nothing reports.Halted refl) there)

    changes : powered.phase ≡ Runs → (o : Option Change) → ruling.change ≡ o →
        slice_get (of.reports world (settled_by powered bit (ruled powered.sink ruling) o)) i ≡ Some report → SinkTakes powered octets row counter
    changes runs None none there = absurd (taken-changes powered.sink.rules powered.sink.ledger octets row counter (frame powered.armed there) none)
    changes runs (Some change) is there = fates runs change (fate powered.armed) refl there

    phases : (phase : Phase) → powered.phase ≡ phase →
        slice_get (of.reports world (by_phase phase (out (IsSink powered) (reports.Dark ∷ [])) (λ change. out (IsSink powered) (reports.Halted ∷ [])) (effected powered bit (ruled powered.sink ruling)))) i ≡ Some report →
        SinkTakes powered octets row counter
    phases Dark is there = absurd (no (out (IsSink powered) (reports.Dark ∷ [])) (one_nothing reports.Dark refl) there)
    phases (Halted change) is there = absurd (no (out (IsSink powered) (reports.Halted ∷ [])) (one_nothing reports.Halted refl) there)
    phases Runs is there = changes is ruling.change refl there

-- a frame that reaches a node of any kind
node_takes : (moment : Moment) (name : List ℕ) (row counter : ℕ) (node : Node) (octets : List ℕ) (kind : Kind) (i : ℕ) (report : Report) → IsOctets octets →
    ((powered : Powered) → kind ≡ IsSink powered → powered.phase ≡ Runs → Hears name powered octets moment) →
    slice_get (of.reports moment.before (node_hears octets moment.bit kind)) i ≡ Some report → taken_in report ≡ Some (row, counter) → IsOfFresh moment name row counter
node_takes moment name row counter node octets (IsSink powered) i report bytes hears_so e t =
    let s = sink_takes moment.before powered moment.bit octets i report row counter e t in
    let p = s.frame in
    record {
      powered = powered;
      octets = octets;
      hears = hears_so powered refl s.runs;
      passes = s.passes;
      k = p.k;
      command = p.command;
      fresh = passes-fresh powered.sink.ledger octets p.k counter p.command bytes p.passes;
      row_is = p.row_is;
    }
node_takes moment name row counter node octets (IsDevice device) i report bytes hears_so e t =
    absurd (some_none (taken_in report) (row, counter) (quiet moment.before (device_hears octets device) (device-quiet octets device) i report e) t)

same_names : (entry : Entry) (one other : List ℕ) → entry.node ≡ Some one → entry.node ≡ Some other → one ≡ other
same_names entry one other a b = let same : Some one ≡ Some other = sym a ∙ b in cc

only_fresh : (moment : Moment) (line : ℕ) → OnAir moment.before → Comes moment.before line moment.event moment.bit moment.next → (i : ℕ) (entry : Entry) (name : List ℕ) (row counter : ℕ) →
    slice_get moment.next.told i ≡ Some entry → Takes name row counter entry → IsOfFresh moment name row counter
unfolding settled joined injected
only_fresh moment line air (Stays is) i entry name row counter e t =
    absurd (let none : slice_get {X = Entry} [] i ≡ Some entry = subst (λ (n : Next). slice_get n.told i ≡ Some entry) is e in cc)
only_fresh moment line air (Joins own node free new keyed is) i entry name row counter e t =
    absurd (let none : slice_get {X = Entry} [] i ≡ Some entry = subst (λ (n : Next). slice_get n.told i ≡ Some entry) is e in cc)
only_fresh moment line air (Injects octets are is) i entry name row counter e t =
    let number = length moment.before.air in
    absurd (quiet-line line None (air_reports number (octets ∷ [])) (steady-nothing (air_reports number (octets ∷ [])) (airs-steady number (octets ∷ []))) i entry name row counter
    (subst (λ (n : Next). slice_get n.told i ≡ Some entry) is e) t)
only_fresh moment line air (Acts own node time made there does is) i entry name row counter e t =
    absurd (quiet-line line (Some own) (of.reports moment.before made) (quiet moment.before made (does-quiet moment.event moment.bit node.kind made does)) i entry name row counter
    (subst (λ (n : Next). slice_get n.told i ≡ Some entry) is e) t)
only_fresh moment line air (came.Hears reading frame link own node octets asked there sent is) i entry name row counter e t =
    let its = is_entry line (Some own) (of.reports moment.before (node_hears octets moment.bit node.kind)) i entry (subst (λ (n : Next). slice_get n.told i ≡ Some entry) is e) in
    let same = same_names entry own name its.node t.node in
    subst (λ (n : List ℕ). IsOfFresh moment n row counter) same
    (node_takes moment own row counter node octets node.kind its.i entry.report (air frame octets sent)
    (λ (powered : Powered) (k : node.kind ≡ IsSink powered) (r : powered.phase ≡ Runs). record { reading = reading; frame = frame; link = link; asked = asked; node = node; found = there; is_sink = k; runs = r; sent = sent })
    its.there t.taken)

pub takes_only_fresh : (moment : Moment) (earlier : List Moment) → OnAir moment.before → step moment.before (suc (length earlier)) moment.event moment.bit ≡ Ok moment.next → TakesOnlyFresh moment earlier
takes_only_fresh moment earlier air steps = only_fresh moment (suc (length earlier)) air (comes moment.before (suc (length earlier)) moment.event moment.bit moment.next steps)

-- ---- every run on whose air are octets

pub runs-act : (moments : List Moment) → Run moments → Each ActsOnFresh moments
runs-act [] run = tt
runs-act (moment ∷ earlier) run = (acts_on_fresh moment earlier run.0.steps, runs-act earlier run.1)

pub runs-only : (moments : List Moment) → Run moments → Each (λ moment earlier. OnAir moment.before) moments → Each TakesOnlyFresh moments
runs-only [] run air = tt
runs-only (moment ∷ earlier) run air = (takes_only_fresh moment earlier air.0 run.0.steps, runs-only earlier run.1 air.1)

pub runs-exact : (moments : List Moment) → Run moments → Each (λ moment earlier. OnAir moment.before) moments → Exact moments
runs-exact moments run air = record { acts = runs-act moments run; only = runs-only moments run air }
