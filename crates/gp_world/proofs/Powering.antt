-- What comes of an event at a sink: a case for each state of its power, and for each thing that befalls its commit.
use Rattle.std.proofs.Common.{◌≡◌, ℕ, Bool, true, false, List, [], ◌∷◌, length, Option, Some, None, refl, sym, subst}
use Rattle.gp_script.specs.declared.report.Report.{Report}
use Rattle.gp_script.specs.declared.report.Report.TheVariants as reports
use Rattle.gp_script.specs.declared.script.Event.{Event}
use Rattle.gp_ideal.specs.declared.ledger.Change.{Change}
use Rattle.gp_ideal.specs.declared.ledger.Values.{Values}
use Rattle.gp_ideal.specs.Heard.{heard}
use Rattle.gp_ideal.specs.Ledger.{rows}
use Rattle.gp_ideal.specs.Paired.{paired}
use Rattle.gp_ideal.specs.Verdict.{Ruling}
use Rattle.gp_base.specs.Field.{IsOctets}
use Rattle.gp_world.specs.Devices.{device_presses}
use Rattle.gp_world.proofs.Asking.{HasOctets}
use Rattle.gp_world.specs.Power.{Fate, Passes, CutAfter, Fails, fate, behind, cut_choice, with_bit, committed, passed, settled_by, effected, by_phase, at_running, adds_rule, lists, arms, turns_off, turns_on, flickers}
use Rattle.gp_world.specs.Properties.{taken_in, Remembers, runs_behind}
use Rattle.gp_world.specs.Sinks.{ruled, sink_hears, sink_pairs, sink_rules, sink_announces, sink_lists}
use Rattle.gp_world.specs.World.{Sink, Armed, Unarmed, Phase, Runs, Dark, Halted, Powered, Device, Kind, IsSink, IsDevice, Effect, Out, out, Fixed, Free}
use Rattle.gp_world.proofs.Steady.{IsStill, rules-still, announces-still, lists-still}
use Rattle.gp_world.proofs.Stepping.{Does, Pairs, Announces, Rules, Lists, Arms, TurnsOff, TurnsOn, Flickers, Presses, pairs_with}

-- ---- the cases

-- whether a sink runs
abbrev pub runs_in : Phase → Bool
runs_in Runs = true
runs_in Dark = false
runs_in (Halted change) = false

-- a report that changes nothing in this phase
pub record IsWord (phase : Phase) (report : Report) : Type 0 where
  pub takes : taken_in report ≡ None
  pub stays : (ledger : List Change) → Remembers (runs_in phase) report ledger ledger
  pub runs : runs_behind (runs_in phase) report ≡ runs_in phase

-- the effect comes, and the power stays as it is
abbrev pub went : Powered → Effect → Armed → Out
went powered effect armed = record { node = IsSink (record powered { sink = effect.sink; armed = armed }); says = effect.says; puts = effect.puts; airs = []; choice = Fixed }

-- the power is cut in a commit
abbrev pub was_cut : Powered → Bool → Change → ℕ → Out
was_cut powered bit change calls =
    record (out (IsSink (record { sink = with_bit bit change powered.sink; armed = Unarmed; phase = Dark })) (reports.Cut ∷ [])) { choice = cut_choice calls }

-- the disk fails in it
abbrev pub has_failed : Powered → Change → Out
has_failed powered change = out (IsSink (record powered { armed = Unarmed; phase = Halted change })) (reports.Halted ∷ [])

-- a running sink is switched off, and a halted one, whose change is settled
abbrev pub goes_off : Powered → Out
goes_off powered = out (IsSink (record powered { phase = Dark })) (reports.Off ∷ [])

abbrev pub settles_off : Powered → Bool → Change → Out
settles_off powered bit change = record (out (IsSink (record powered { sink = with_bit bit change powered.sink; phase = Dark })) (reports.Off ∷ [])) { choice = Free }

-- a dark one is switched on
abbrev pub goes_on : Powered → ℕ → Out
goes_on powered count = out (IsSink (record powered { phase = Runs })) (reports.Up count ∷ [])

-- a property of each of them, for rulings that have this
pub record EachCase (Q : Ruling → Type 0) (P : Out → Type 0) (bit : Bool) (powered : Powered) : Type 0 where
  pub word : (armed : Armed) (report : Report) → IsWord powered.phase report → P (out (IsSink (record powered { armed = armed })) (report ∷ []))
  pub tells : (effect : Effect) → IsStill powered.sink effect → P (went powered effect powered.armed)
  pub rules : powered.phase ≡ Runs → (ruling : Ruling) (armed : Armed) → Q ruling → P (went powered (ruled powered.sink ruling) armed)
  pub cut : powered.phase ≡ Runs → (change : Change) (calls : ℕ) → P (was_cut powered bit change calls)
  pub fails : powered.phase ≡ Runs → (change : Change) → P (has_failed powered change)
  pub off : powered.phase ≡ Runs → P (goes_off powered)
  pub settles : (change : Change) → powered.phase ≡ Halted change → P (settles_off powered bit change)
  pub on : (count : ℕ) → powered.phase ≡ Dark → P (goes_on powered count)

-- ---- the words

word_at : (one other : Phase) (report : Report) → one ≡ other → IsWord other report → IsWord one report
word_at one other report e w = subst (λ (p : Phase). IsWord p report) (sym e) w

dark-word : (phase : Phase) → phase ≡ Dark → IsWord phase reports.Dark
dark-word phase e = word_at phase Dark reports.Dark e (record { takes = refl; stays = λ ledger. refl; runs = refl })

cut-word : (phase : Phase) → phase ≡ Dark → IsWord phase reports.Cut
cut-word phase e = word_at phase Dark reports.Cut e (record { takes = refl; stays = λ ledger. refl; runs = refl })

halted-word : (phase : Phase) (change : Change) → phase ≡ Halted change → IsWord phase reports.Halted
halted-word phase change e = word_at phase (Halted change) reports.Halted e (record { takes = refl; stays = λ ledger. refl; runs = refl })

running-word : (phase : Phase) → IsWord phase reports.Running
running-word phase = record { takes = refl; stays = λ ledger. refl; runs = refl }

armed-word : (phase : Phase) → IsWord phase reports.Armed
armed-word phase = record { takes = refl; stays = λ ledger. refl; runs = refl }

-- ---- each event comes to one of the cases

-- an effect at a running sink alone
at_runs : (P : Out → Type 0) (event : Sink → Effect) (bit : Bool) (powered : Powered) →
    (powered.phase ≡ Dark → P (out (IsSink powered) (reports.Dark ∷ []))) → ((change : Change) → powered.phase ≡ Halted change → P (out (IsSink powered) (reports.Halted ∷ []))) →
    (powered.phase ≡ Runs → P (effected powered bit (event powered.sink))) → P (at_running event bit powered)
unfolding at_running
at_runs P event bit powered dark halted runs = go powered.phase refl
  where
    go : (phase : Phase) → powered.phase ≡ phase →
        P (by_phase phase (out (IsSink powered) (reports.Dark ∷ [])) (λ change. out (IsSink powered) (reports.Halted ∷ [])) (effected powered bit (event powered.sink)))
    go Dark e = dark e
    go (Halted change) e = halted change e
    go Runs e = runs e

pub ruling-carries : (Q : Ruling → Type 0) (P : Out → Type 0) (bit : Bool) (powered : Powered) → EachCase Q P bit powered →
    (event : Sink → Effect) (ruling : Ruling) → event powered.sink ≡ ruled powered.sink ruling → Q ruling → P (at_running event bit powered)
unfolding effected committed passed ruled
ruling-carries Q P bit powered each event ruling is q =
    at_runs P event bit powered (λ e. each.word powered.armed reports.Dark (dark-word powered.phase e)) (λ change e. each.word powered.armed reports.Halted (halted-word powered.phase change e))
    (λ e. subst (λ (effect : Effect). P (effected powered bit effect)) (sym is) (changes e ruling.change))
  where
    befalls : powered.phase ≡ Runs → (change : Change) (f : Fate) → P (committed powered bit (ruled powered.sink ruling) change f)
    befalls e change Passes = each.rules e ruling (behind powered.armed) q
    befalls e change (CutAfter calls) = each.cut e change calls
    befalls e change Fails = each.fails e change

    changes : powered.phase ≡ Runs → (o : Option Change) → P (settled_by powered bit (ruled powered.sink ruling) o)
    changes e None = each.rules e ruling powered.armed q
    changes e (Some change) = befalls e change (fate powered.armed)

still-carries : (Q : Ruling → Type 0) (P : Out → Type 0) (bit : Bool) (powered : Powered) → EachCase Q P bit powered →
    (event : Sink → Effect) → IsStill powered.sink (event powered.sink) → P (at_running event bit powered)
unfolding effected passed
still-carries Q P bit powered each event still =
    at_runs P event bit powered (λ e. each.word powered.armed reports.Dark (dark-word powered.phase e)) (λ change e. each.word powered.armed reports.Halted (halted-word powered.phase change e))
    (λ e. subst (λ (o : Option Change). P (settled_by powered bit (event powered.sink) o)) (sym still.change) (each.tells (event powered.sink) still))

lists-carries : (Q : Ruling → Type 0) (P : Out → Type 0) (bit : Bool) (powered : Powered) → EachCase Q P bit powered → P (lists powered)
unfolding lists passed
lists-carries Q P bit powered each = go powered.phase refl
  where
    go : (phase : Phase) → powered.phase ≡ phase →
        P (by_phase phase (out (IsSink powered) (reports.Dark ∷ [])) (λ change. passed powered (sink_lists powered.sink)) (passed powered (sink_lists powered.sink)))
    go Dark e = each.word powered.armed reports.Dark (dark-word powered.phase e)
    go (Halted change) e = each.tells (sink_lists powered.sink) (lists-still powered.sink)
    go Runs e = each.tells (sink_lists powered.sink) (lists-still powered.sink)

off-carries : (Q : Ruling → Type 0) (P : Out → Type 0) (bit : Bool) (powered : Powered) → EachCase Q P bit powered → P (turns_off bit powered)
unfolding turns_off
off-carries Q P bit powered each = go powered.phase refl
  where
    go : (phase : Phase) → powered.phase ≡ phase → P (by_phase phase (out (IsSink powered) (reports.Dark ∷ [])) (λ change. settles_off powered bit change) (goes_off powered))
    go Dark e = each.word powered.armed reports.Dark (dark-word powered.phase e)
    go (Halted change) e = each.settles change e
    go Runs e = each.off e

on-carries : (Q : Ruling → Type 0) (P : Out → Type 0) (bit : Bool) (powered : Powered) → EachCase Q P bit powered → P (turns_on powered)
unfolding turns_on
on-carries Q P bit powered each = go powered.phase refl
  where
    go : (phase : Phase) → powered.phase ≡ phase →
        P (by_phase phase (goes_on powered (length (rows powered.sink.ledger))) (λ change. out (IsSink powered) (reports.Running ∷ [])) (out (IsSink powered) (reports.Running ∷ [])))
    go Dark e = each.on (length (rows powered.sink.ledger)) e
    go (Halted change) e = each.word powered.armed reports.Running (running-word powered.phase)
    go Runs e = each.word powered.armed reports.Running (running-word powered.phase)

flickers-carries : (Q : Ruling → Type 0) (P : Out → Type 0) (bit : Bool) (powered : Powered) → EachCase Q P bit powered → P (flickers powered)
unfolding flickers
flickers-carries Q P bit powered each = go powered.phase refl
  where
    go : (phase : Phase) → powered.phase ≡ phase →
        P (by_phase phase (out (IsSink (record powered { armed = Unarmed })) (reports.Cut ∷ [])) (λ change. out (IsSink powered) (reports.Running ∷ [])) (out (IsSink powered) (reports.Running ∷ [])))
    go Dark e = each.word Unarmed reports.Cut (cut-word powered.phase e)
    go (Halted change) e = each.word powered.armed reports.Running (running-word powered.phase)
    go Runs e = each.word powered.armed reports.Running (running-word powered.phase)

rule-carries : (Q : Ruling → Type 0) (P : Out → Type 0) (bit : Bool) (powered : Powered) → EachCase Q P bit powered → (rule : _) → P (adds_rule rule powered)
unfolding adds_rule passed
rule-carries Q P bit powered each rule = each.tells (sink_rules rule powered.sink) (rules-still rule powered.sink)

arms-carries : (Q : Ruling → Type 0) (P : Out → Type 0) (bit : Bool) (powered : Powered) → EachCase Q P bit powered → (armed : Armed) → P (arms armed powered)
unfolding arms
arms-carries Q P bit powered each armed = each.word armed reports.Armed (armed-word powered.phase)

-- a frame reaches a sink
pub hears-carries : (Q : Ruling → Type 0) (P : Out → Type 0) (bit : Bool) (powered : Powered) → EachCase Q P bit powered →
    (octets : List ℕ) → Q (heard powered.sink.rules powered.sink.ledger octets) → P (at_running (sink_hears octets) bit powered)
unfolding sink_hears
hears-carries Q P bit powered each octets q = ruling-carries Q P bit powered each (sink_hears octets) (heard powered.sink.rules powered.sink.ledger octets) refl q

pairs-carries : (Q : Ruling → Type 0) (P : Out → Type 0) (bit : Bool) (powered : Powered) → EachCase Q P bit powered →
    (values : Sink → Values) (counter : ℕ) → Q (paired powered.sink.config powered.sink.ledger (values powered.sink) counter) → P (at_running (pairs_with values counter) bit powered)
unfolding sink_pairs
pairs-carries Q P bit powered each values counter q =
    ruling-carries Q P bit powered each (pairs_with values counter) (paired powered.sink.config powered.sink.ledger (values powered.sink) counter) refl q

-- ---- a node that hears nothing

-- A property of each case at a sink, and of a device's press, is one of whatever a node makes. It may need something of the node.
pub does-carries : (Q : Powered → Ruling → Type 0) (H : Kind → Type 0) (P : Kind → Out → Type 0) (event : Event) (bit : Bool) →
    ((powered : Powered) (values : Values) (counter : ℕ) → Q powered (paired powered.sink.config powered.sink.ledger values counter)) →
    ((powered : Powered) → H (IsSink powered) → EachCase (Q powered) (P (IsSink powered)) bit powered) →
    ((device : Device) (command : List ℕ) → (HasOctets event → IsOctets command) → H (IsDevice device) → P (IsDevice device) (device_presses command device)) →
    (kind : Kind) (made : Out) → Does event bit kind made → H kind → P kind made
does-carries Q H P event bit pairs each presses kind made does h = go does
  where
    at : (powered : Powered) (own : Out) → kind ≡ IsSink powered → made ≡ own → (EachCase (Q powered) (P (IsSink powered)) bit powered → P (IsSink powered) own) → P kind made
    at powered own is does carries =
        subst (λ (k : Kind). P k made) (sym is) (subst (λ (m : Out). P (IsSink powered) m) (sym does) (carries (each powered (subst H is h))))

    go : Does event bit kind made → P kind made
    go (Pairs powered values counter is does) = at powered _ is does (λ c. pairs-carries (Q powered) (P (IsSink powered)) bit powered c values counter (pairs powered (values powered.sink) counter))
    go (Announces powered source is does) = at powered _ is does (λ c. still-carries (Q powered) (P (IsSink powered)) bit powered c (sink_announces source) (announces-still source powered.sink))
    go (Rules powered rule is does) = at powered _ is does (λ c. rule-carries (Q powered) (P (IsSink powered)) bit powered c rule)
    go (Lists powered is does) = at powered _ is does (λ c. lists-carries (Q powered) (P (IsSink powered)) bit powered c)
    go (Arms powered armed is does) = at powered _ is does (λ c. arms-carries (Q powered) (P (IsSink powered)) bit powered c armed)
    go (TurnsOff powered is does) = at powered _ is does (λ c. off-carries (Q powered) (P (IsSink powered)) bit powered c)
    go (TurnsOn powered is does) = at powered _ is does (λ c. on-carries (Q powered) (P (IsSink powered)) bit powered c)
    go (Flickers powered is does) = at powered _ is does (λ c. flickers-carries (Q powered) (P (IsSink powered)) bit powered c)
    go (Presses device command octets is does) =
        subst (λ (k : Kind). P k made) (sym is) (subst (λ (m : Out). P (IsDevice device) m) (sym does) (presses device command octets (subst H is h)))
