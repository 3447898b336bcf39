-- What a sink reported is what it remembers: behind each line its reports lead from the empty ledger to its own.
use Rattle.std.proofs.Common.{◌≡◌, inl, inr, ℕ, suc, max, Bool, true, false, ◌==◌, cond, if◌then◌else◌, List, [], ◌∷◌, ◌++◌, map, length, Option, Some, None, refl, sym, ap, ◌∙◌, subst, append_assoc}
use Rattle.std.specs.Str.{bytes_eq}
use Rattle.std.proofs.lemmas.List.{append-nil}
use Rattle.gp_script.specs.declared.report.Entry.{Entry}
use Rattle.gp_script.specs.declared.report.Report.{Report}
use Rattle.gp_script.specs.declared.report.Report.TheVariants as reports
use Rattle.gp_script.specs.declared.script.Event.{Event}
use Rattle.gp_translate.specs.Acts.{acts}
use Rattle.gp_translate.specs.declared.rule.Rule.{Rule}
use Rattle.gp_ideal.specs.declared.config.Config.{Config}
use Rattle.gp_ideal.specs.declared.ledger.Change.{Change}
use Rattle.gp_ideal.specs.declared.ledger.Change.TheVariants.{Pair, Accept, Retire}
use Rattle.gp_ideal.specs.declared.ledger.Known.{Known}
use Rattle.gp_ideal.specs.declared.ledger.Values.{Values}
use Rattle.gp_ideal.specs.Heard.{heard, acted, unpaired}
use Rattle.gp_ideal.specs.Ledger.{pairing_of, place, rows, with_change}
use Rattle.gp_ideal.specs.Paired.{paired, pairs}
use Rattle.gp_ideal.specs.Verdict.{Ruling}
use Rattle.gp_ideal.proofs.Ledgers.{floor-here}
use Rattle.gp_ideal.proofs.Pairs.{bool_cases}
use Rattle.gp_world.specs.Devices.{device_presses, device_hears, sends}
use Rattle.gp_world.specs.Power.{with_bit}
use Rattle.gp_world.specs.Properties.{Remembers, runs_behind, Lead, is_by, told_by, KeepsTold, Kept}
use Rattle.gp_world.specs.Run.{Moment, Run, world_after, report_of}
use Rattle.gp_world.specs.Sinks.{ruled, verdict_reports, act_report}
use Rattle.gp_world.specs.Step.{node_hears}
use Rattle.gp_world.specs.World as of
use Rattle.gp_world.specs.World.{World, Sink, Phase, Runs, Dark, Halted, Powered, Device, Kind, IsSink, IsDevice, Node, Next, Out, Fixed, named, is_named, replaced, settled, joined, injected, entries, empty}
use Rattle.gp_world.proofs.Naming.{same_name, name_same, named-replaced, named-replaced_other, named-joined, named-joined_other, named-free}
use Rattle.gp_world.proofs.Rulings.{heard-carries, paired-carries}
use Rattle.gp_world.proofs.Steady.{AreSteady, acts-steady, sent_reports, sent-steady}
use Rattle.gp_world.proofs.Powering.{runs_in, EachCase, hears-carries, does-carries}
use Rattle.gp_world.proofs.Stepping.{IsNew, NewSink, NewDevice, Does, Comes, Stays, Joins, Acts, Injects, Hears, comes}

-- ---- reports in a row

-- whether a sink runs behind these reports
abbrev pub ran_behind : Bool → List Report → Bool
ran_behind ran [] = ran
ran_behind ran (report ∷ later) = ran_behind (runs_behind ran report) later

lead-append : (ran : Bool) (xs ys : List Report) (before middle after : List Change) → Lead ran xs before middle → Lead (ran_behind ran xs) ys middle after → Lead ran (xs ++ ys) before after
lead-append ran [] ys before middle after h k = subst (λ (l : List Change). Lead ran ys l after) h k
lead-append ran (x ∷ xs) ys before middle after h k = (h.0, h.1, lead-append (runs_behind ran x) xs ys h.0 middle after h.2 k)

behind-append : (ran : Bool) (xs ys : List Report) → ran_behind ran (xs ++ ys) ≡ ran_behind (ran_behind ran xs) ys
behind-append ran [] ys = refl
behind-append ran (x ∷ xs) ys = behind-append (runs_behind ran x) xs ys

-- these reports lead from the one ledger to the other, from a sink that runs or doesn't to one that runs or doesn't
record Passage (ran : Bool) (told : List Report) (before after : List Change) (runs : Bool) : Type 0 where
  lead : Lead ran told before after
  flag : ran_behind ran told ≡ runs

passage-append : (ran : Bool) (xs ys : List Report) (before middle after : List Change) (between runs : Bool) → Passage ran xs before middle between → Passage between ys middle after runs →
    Passage ran (xs ++ ys) before after runs
passage-append ran xs ys before middle after between runs h k = record {
  lead = lead-append ran xs ys before middle after h.lead (subst (λ (b : Bool). Lead b ys middle after) (sym h.flag) k.lead);
  flag = behind-append ran xs ys ∙ ap (λ (b : Bool). ran_behind b ys) h.flag ∙ k.flag;
}

-- steady reports change nothing
steady-passage : (ran : Bool) (told : List Report) (ledger : List Change) → AreSteady told → Passage ran told ledger ledger ran
steady-passage ran [] ledger h = record { lead = refl; flag = refl }
steady-passage ran (report ∷ told) ledger h =
    let rest : Passage (runs_behind ran report) told ledger ledger ran =
    subst (λ (b : Bool). Passage b told ledger ledger ran) (sym (h.0.runs ran)) (steady-passage ran told ledger h.1) in
    record { lead = (ledger, h.0.stays ran ledger, rest.lead); flag = rest.flag }

-- one report
one-passage : (ran : Bool) (report : Report) (before after : List Change) (runs : Bool) → Remembers ran report before after → runs_behind ran report ≡ runs → Passage ran (report ∷ []) before after runs
one-passage ran report before after runs remembers flag = record { lead = (after, remembers, refl); flag = flag }

-- ---- rulings

-- the reports of a ruling's verdict tell its change
abbrev TellsChange : List Change → Ruling → Type 0
TellsChange ledger ruling = Passage true (verdict_reports ruling.verdict) ledger (with_change ruling.change ledger) true

acted-tells : (rules : List Rule) (ledger : List Change) (k : Known) (counter : ℕ) (command : List ℕ) → TellsChange ledger (acted rules k counter command)
acted-tells rules ledger k counter command =
    let done = acts rules k.values.src command in
    let change = Accept k.row counter in
    let rest = steady-passage true (map act_report done) (change ∷ ledger) (acts-steady done) in
    record { lead = (change ∷ ledger, (change, (refl, refl), refl), rest.lead); flag = rest.flag }

unpaired-tells : (ledger : List Change) (k : Known) (counter : ℕ) → TellsChange ledger (unpaired k counter)
unpaired-tells ledger k counter =
    let change = Retire k.row counter in
    record { lead = (change ∷ ledger, (change, (refl, refl), refl), refl); flag = refl }

pairs-tells : (config : Config) (ledger : List Change) (values : Values) (counter : ℕ) → TellsChange ledger (pairs config ledger values counter)
pairs-tells config ledger values counter =
    let change = Pair values counter in
    record { lead = (change ∷ ledger, (change, (refl, refl, floor-here change ledger (place (pairing_of values) (rows ledger)) refl), refl), refl); flag = refl }

heard-tells : (rules : List Rule) (ledger : List Change) (octets : List ℕ) → TellsChange ledger (heard rules ledger octets)
heard-tells rules ledger octets = heard-carries (TellsChange ledger) rules ledger (record {
  drops = λ cause. record { lead = (ledger, refl, refl); flag = refl };
  refuses = λ reason. record { lead = (ledger, refl, refl); flag = refl };
  acts = λ k counter command above. acted-tells rules ledger k counter command;
  unpairs = λ k counter above. unpaired-tells ledger k counter;
}) octets

paired-tells : (config : Config) (ledger : List Change) (values : Values) (counter : ℕ) → TellsChange ledger (paired config ledger values counter)
paired-tells config ledger values counter =
    paired-carries (TellsChange ledger) config ledger values counter (λ reason. record { lead = (ledger, refl, refl); flag = refl }) (record { lead = (ledger, refl, refl); flag = refl })
    (pairs-tells config ledger values counter)

-- ---- one node

-- what a node of some name told leads to this ledger
abbrev LeadsTo : List Report → Bool → List Change → Type 0
LeadsTo told runs ledger = Passage true told [] ledger runs

-- and, while its disk has failed, to the ledger with the open change
abbrev LeadsOpen : Phase → List Report → List Change → Type 0
LeadsOpen Runs told ledger = Unit {0}
LeadsOpen Dark told ledger = Unit {0}
LeadsOpen (Halted change) told ledger = LeadsTo told false (change ∷ ledger)

record SinkKeeps (told : List Report) (powered : Powered) : Type 0 where
  leads : LeadsTo told (runs_in powered.phase) powered.sink.ledger
  opens : LeadsOpen powered.phase told powered.sink.ledger

-- a device keeps nothing
abbrev KindKeeps : List Report → Kind → Type 0
KindKeeps told (IsSink powered) = SinkKeeps told powered
KindKeeps told (IsDevice device) = Unit {0}

-- reports that change nothing in a sink's phase, where an open change stays open
keeps-on : (told more : List Report) (powered : Powered) → ((ledger : List Change) → Passage (runs_in powered.phase) more ledger ledger (runs_in powered.phase)) → SinkKeeps told powered →
    SinkKeeps (told ++ more) powered
keeps-on told more powered stays h = record {
  leads = passage-append true told more [] powered.sink.ledger powered.sink.ledger (runs_in powered.phase) (runs_in powered.phase) h.leads (stays powered.sink.ledger);
  opens = open_too powered.phase stays h.opens;
}
  where
    open_too : (phase : Phase) → ((ledger : List Change) → Passage (runs_in phase) more ledger ledger (runs_in phase)) → LeadsOpen phase told powered.sink.ledger →
        LeadsOpen phase (told ++ more) powered.sink.ledger
    open_too Runs stays h = tt
    open_too Dark stays h = tt
    open_too (Halted change) stays h = passage-append true told more [] (change ∷ powered.sink.ledger) (change ∷ powered.sink.ledger) false false h (stays (change ∷ powered.sink.ledger))

-- what a node makes keeps what it told before
abbrev OutKeeps : List Report → Out → Type 0
OutKeeps told made = KindKeeps (told ++ made.says) made.node

off-passage : (ran : Bool) (ledger : List Change) → Passage ran (reports.Off ∷ []) ledger ledger false
off-passage ran ledger = one-passage ran reports.Off ledger ledger false refl refl

-- a cut, with the change or without it
cut-passage : (bit : Bool) (change : Change) (sink : Sink) → Passage true (reports.Cut ∷ []) sink.ledger (with_bit bit change sink).ledger false
cut-passage true change sink = one-passage true reports.Cut sink.ledger (change ∷ sink.ledger) false (inr (change, refl)) refl
cut-passage false change sink = one-passage true reports.Cut sink.ledger sink.ledger false (inl refl) refl

cases-keep : (told : List Report) (bit : Bool) (powered : Powered) → SinkKeeps told powered → EachCase (TellsChange powered.sink.ledger) (OutKeeps told) bit powered
unfolding ruled
cases-keep told bit powered h = record {
  word = λ armed report w.
      let k = keeps-on told (report ∷ []) powered (λ ledger. one-passage (runs_in powered.phase) report ledger ledger (runs_in powered.phase) (w.stays ledger) w.runs) h in
      record { leads = k.leads; opens = k.opens };
  tells = λ effect still.
      let k = keeps-on told effect.says powered (λ ledger. steady-passage (runs_in powered.phase) effect.says ledger still.says) h in
      record {
        leads = subst (λ (l : List Change). LeadsTo (told ++ effect.says) (runs_in powered.phase) l) (sym still.ledger) k.leads;
        opens = subst (λ (l : List Change). LeadsOpen powered.phase (told ++ effect.says) l) (sym still.ledger) k.opens;
      };
  rules = λ runs ruling armed tells.
      let says = verdict_reports ruling.verdict in
      let after = with_change ruling.change powered.sink.ledger in
      record {
        leads = subst (λ (p : Phase). LeadsTo (told ++ says) (runs_in p) after) (sym runs) (from Runs runs says after true tells);
        opens = subst (λ (p : Phase). LeadsOpen p (told ++ says) after) (sym runs) tt;
      };
  cut = λ runs change calls. record { leads = from Runs runs (reports.Cut ∷ []) (with_bit bit change powered.sink).ledger false (cut-passage bit change powered.sink); opens = tt };
  fails = λ runs change. record {
    leads = from Runs runs (reports.Halted ∷ []) powered.sink.ledger false (one-passage true reports.Halted powered.sink.ledger powered.sink.ledger false (inl refl) refl);
    opens = from Runs runs (reports.Halted ∷ []) (change ∷ powered.sink.ledger) false (one-passage true reports.Halted powered.sink.ledger (change ∷ powered.sink.ledger) false (inr (change, refl)) refl);
  };
  off = λ runs. record { leads = from Runs runs (reports.Off ∷ []) powered.sink.ledger false (off-passage true powered.sink.ledger); opens = tt };
  settles = λ change halted. record { leads = settled_off change halted bit; opens = tt };
  on = λ count dark. record {
    leads = from Dark dark (reports.Up count ∷ []) powered.sink.ledger true (one-passage false (reports.Up count) powered.sink.ledger powered.sink.ledger true refl refl);
    opens = tt;
  };
}
  where
    from : (phase : Phase) → powered.phase ≡ phase → (more : List Report) (after : List Change) (runs : Bool) → Passage (runs_in phase) more powered.sink.ledger after runs → LeadsTo (told ++ more) runs after
    from phase is more after runs p =
        passage-append true told more [] powered.sink.ledger after (runs_in phase) runs (subst (λ (q : Phase). LeadsTo told (runs_in q) powered.sink.ledger) is h.leads) p

    settled_off : (change : Change) → powered.phase ≡ Halted change → (b : Bool) → LeadsTo (told ++ reports.Off ∷ []) false (with_bit b change powered.sink).ledger
    settled_off change halted true =
        let open_so : LeadsOpen (Halted change) told powered.sink.ledger = subst (λ (q : Phase). LeadsOpen q told powered.sink.ledger) halted h.opens in
        passage-append true told (reports.Off ∷ []) [] (change ∷ powered.sink.ledger) (change ∷ powered.sink.ledger) false false open_so (off-passage false (change ∷ powered.sink.ledger))
    settled_off change halted false = from (Halted change) halted (reports.Off ∷ []) powered.sink.ledger false (off-passage false powered.sink.ledger)

device-keeps : (told : List Report) (command : List ℕ) (device : Device) → OutKeeps told (device_presses command device)
unfolding device_presses
device-keeps told command device = go (device.counter == 0xFFFFFFFF)
  where
    go : (b : Bool) → OutKeeps told (cond b (of.out (IsDevice device) (reports.End ∷ [])) (sends device command))
    go true = tt
    go false = tt

hears-keep : (octets : List ℕ) (told : List Report) (bit : Bool) (kind : Kind) → KindKeeps told kind → OutKeeps told (node_hears octets bit kind)
unfolding device_hears
hears-keep octets told bit (IsSink powered) h =
    hears-carries (TellsChange powered.sink.ledger) (OutKeeps told) bit powered (cases-keep told bit powered h) octets (heard-tells powered.sink.rules powered.sink.ledger octets)
hears-keep octets told bit (IsDevice device) h = tt

does-keep : (told : List Report) (event : Event) (bit : Bool) (kind : Kind) (made : Out) → Does event bit kind made → KindKeeps told kind → OutKeeps told made
does-keep told event bit kind made does h =
    does-carries (λ powered. TellsChange powered.sink.ledger) (KindKeeps told) (λ own. OutKeeps told) event bit
    (λ powered values counter. paired-tells powered.sink.config powered.sink.ledger values counter) (cases-keep told bit)
    (λ device command octets t. device-keeps told command device) kind made does h

-- what a node sends changes nothing of it
sent-keeps : (told more : List Report) (kind : Kind) → AreSteady more → KindKeeps told kind → KindKeeps (told ++ more) kind
sent-keeps told more (IsSink powered) steady h = keeps-on told more powered (λ ledger. steady-passage (runs_in powered.phase) more ledger steady) h
sent-keeps told more (IsDevice device) steady h = tt

reports-keep : (told : List Report) (world : World) (made : Out) → OutKeeps told made → KindKeeps (told ++ of.reports world made) made.node
reports-keep told world made h =
    subst (λ (rs : List Report). KindKeeps rs made.node) (append_assoc told made.says (sent_reports world made))
    (sent-keeps (told ++ made.says) (sent_reports world made) made.node (sent-steady world made) h)

-- ---- the reports of a name

told-append : (name : List ℕ) (xs ys : List Entry) → told_by name (xs ++ ys) ≡ told_by name xs ++ told_by name ys
unfolding told_by
told-append name [] ys = refl
told-append name (x ∷ xs) ys = go (is_by name x.node) (told-append name xs ys)
  where
    go : (b : Bool) → told_by name (xs ++ ys) ≡ told_by name xs ++ told_by name ys →
        (if b then x.report ∷ told_by name (xs ++ ys) else told_by name (xs ++ ys)) ≡ (if b then x.report ∷ told_by name xs else told_by name xs) ++ told_by name ys
    go true rest = ap (λ (rs : List Report). x.report ∷ rs) rest
    go false rest = rest

own-told : (line : ℕ) (name : List ℕ) (rs : List Report) → told_by name (entries line (Some name) rs) ≡ rs
unfolding told_by
own-told line name [] = refl
own-told line name (report ∷ rs) =
    ap (λ (b : Bool). if b then report ∷ told_by name (entries line (Some name) rs) else told_by name (entries line (Some name) rs)) (name_same name)
    ∙ ap (λ (others : List Report). report ∷ others) (own-told line name rs)

other-told : (line : ℕ) (own name : List ℕ) (rs : List Report) → bytes_eq own name ≡ false → told_by name (entries line (Some own) rs) ≡ []
unfolding told_by
other-told line own name [] n = refl
other-told line own name (report ∷ rs) n =
    ap (λ (b : Bool). if b then report ∷ told_by name (entries line (Some own) rs) else told_by name (entries line (Some own) rs)) n ∙ other-told line own name rs n

unnamed-told : (line : ℕ) (name : List ℕ) (rs : List Report) → told_by name (entries line None rs) ≡ []
unfolding told_by
unnamed-told line name [] = refl
unnamed-told line name (report ∷ rs) = unnamed-told line name rs

-- ---- one line

-- what is told of a name leads to the ledger of its sink; of a name that no node has nothing is told
abbrev NodeKeeps : List Report → Option Node → Type 0
NodeKeeps told None = told ≡ []
NodeKeeps told (Some node) = KindKeeps told node.kind

abbrev WorldKeeps : List Entry → World → Type 0
WorldKeeps report world = (name : List ℕ) → NodeKeeps (told_by name report) (named name world.nodes)

-- where nothing is told of a name, and its node stays
stays-so : (report more : List Entry) (name : List ℕ) (before after : Option Node) → told_by name more ≡ [] → after ≡ before → NodeKeeps (told_by name report) before → NodeKeeps (told_by name (report ++ more)) after
stays-so report more name before after none same h =
    subst (λ (rs : List Report). NodeKeeps rs after) (sym (told-append name report more ∙ ap (λ (rs : List Report). told_by name report ++ rs) none ∙ append-nil (told_by name report)))
    (subst (λ (o : Option Node). NodeKeeps (told_by name report) o) (sym same) h)

settled-keeps : (report : List Entry) (world : World) (line : ℕ) (name : List ℕ) (node : Node) (time : ℕ) (origin : Option ℕ) (made : Out) → named name world.nodes ≡ Some node →
    (KindKeeps (told_by name report) node.kind → OutKeeps (told_by name report) made) → WorldKeeps report world →
    let next = settled world line name time origin made in WorldKeeps (report ++ next.told) next.world
unfolding settled
settled-keeps report world line name node time origin made found makes h other = elim (bool_cases (bytes_eq name other)) [
  | inl same ↦ subst (λ (n : List ℕ). NodeKeeps (told_by n (report ++ told)) (named n (replaced name after world.nodes))) (same_name name other same) own
  | inr differs ↦ stays-so report told other (named other world.nodes) (named other (replaced name after world.nodes)) (other-told line name other (of.reports world made) differs)
      (named-replaced_other name other after world.nodes differs) (h other)
]
  where
    after : Node
    after = record { kind = made.node; time = time }

    told : List Entry
    told = entries line (Some name) (of.reports world made)

    own : NodeKeeps (told_by name (report ++ told)) (named name (replaced name after world.nodes))
    own =
        let before : KindKeeps (told_by name report) node.kind = subst (λ (o : Option Node). NodeKeeps (told_by name report) o) found (h name) in
        subst (λ (o : Option Node). NodeKeeps (told_by name (report ++ told)) o) (sym (named-replaced name node after world.nodes found))
        (subst (λ (rs : List Report). KindKeeps rs made.node)
        (sym (told-append name report told ∙ ap (λ (rs : List Report). told_by name report ++ rs) (own-told line name (of.reports world made))))
        (reports-keep (told_by name report) world made (makes before)))

-- a node that comes remembers nothing
new-keeps : (kind : Kind) → IsNew kind → KindKeeps [] kind
new-keeps kind (NewSink config is) = subst (KindKeeps []) (sym is) (record { leads = record { lead = refl; flag = refl }; opens = tt })
new-keeps kind (NewDevice device is) = subst (KindKeeps []) (sym is) tt

joined-keeps : (report : List Entry) (world : World) (name : List ℕ) (node : Node) → is_named name world.nodes ≡ false → IsNew node.kind → WorldKeeps report world →
    let next = joined world name node in WorldKeeps (report ++ next.told) next.world
unfolding joined told_by
joined-keeps report world name node free new h other = elim (bool_cases (bytes_eq name other)) [
  | inl same ↦ subst (λ (n : List ℕ). NodeKeeps (told_by n (report ++ [])) (named n (world.nodes ++ (name, node) ∷ []))) (same_name name other same)
      (subst (λ (o : Option Node). NodeKeeps (told_by name (report ++ [])) o) (sym (named-joined name node world.nodes free))
      (subst (λ (rs : List Report). KindKeeps rs node.kind)
      (sym (told-append name report [] ∙ append-nil (told_by name report) ∙ subst (λ (o : Option Node). NodeKeeps (told_by name report) o) (named-free name world.nodes free) (h name)))
      (new-keeps node.kind new)))
  | inr differs ↦ stays-so report [] other (named other world.nodes) (named other (world.nodes ++ (name, node) ∷ [])) refl (named-joined_other name other node world.nodes differs) (h other)
]

injected-keeps : (report : List Entry) (world : World) (line : ℕ) (octets : List ℕ) → WorldKeeps report world → let next = injected world line octets in WorldKeeps (report ++ next.told) next.world
unfolding injected
injected-keeps report world line octets h name =
    let told = of.air_reports (length world.air) (octets ∷ []) in
    stays-so report (entries line None told) name (named name world.nodes) (named name world.nodes) (unnamed-told line name told) refl (h name)

stays-keep : (report : List Entry) (world : World) → WorldKeeps report world → WorldKeeps (report ++ []) world
unfolding told_by
stays-keep report world h name = stays-so report [] name (named name world.nodes) (named name world.nodes) refl refl (h name)

comes-keep : (report : List Entry) (world : World) (line : ℕ) (event : Event) (bit : Bool) (next : Next) → Comes world line event bit next → WorldKeeps report world → WorldKeeps (report ++ next.told) next.world
comes-keep report world line event bit next c h = go c
  where
    go : Comes world line event bit next → WorldKeeps (report ++ next.told) next.world
    go (Stays is) = subst (λ (n : Next). WorldKeeps (report ++ n.told) n.world) (sym is) (stays-keep report world h)
    go (Joins name node free new keyed is) = subst (λ (n : Next). WorldKeeps (report ++ n.told) n.world) (sym is) (joined-keeps report world name node free new h)
    go (Injects octets are is) = subst (λ (n : Next). WorldKeeps (report ++ n.told) n.world) (sym is) (injected-keeps report world line octets h)
    go (Acts name node time made found does is) =
        subst (λ (n : Next). WorldKeeps (report ++ n.told) n.world) (sym is)
        (settled-keeps report world line name node time None made found (does-keep (told_by name report) event bit node.kind made does) h)
    go (Hears reading frame link name node octets asked found sent is) =
        subst (λ (n : Next). WorldKeeps (report ++ n.told) n.world) (sym is)
        (settled-keeps report world line name node (max node.time reading) (Some frame) (node_hears octets bit node.kind) found (hears-keep octets (told_by name report) bit node.kind) h)

-- ---- every run

run-keeps : (moments : List Moment) → Run moments → WorldKeeps (report_of moments) (world_after moments)
unfolding report_of told_by empty
run-keeps [] run = λ name. refl
run-keeps (moment ∷ earlier) run =
    comes-keep (report_of earlier) moment.before (suc (length earlier)) moment.event moment.bit moment.next
    (comes moment.before (suc (length earlier)) moment.event moment.bit moment.next run.0.steps)
    (subst (λ (w : World). WorldKeeps (report_of earlier) w) (sym run.0.begins) (run-keeps earlier run.1))

keeps_told : (moment : Moment) (earlier : List Moment) → Run (moment ∷ earlier) → KeepsTold moment earlier
keeps_told moment earlier run name node powered found is =
    let keeps = subst (λ (o : Option Node). NodeKeeps (told_by name (report_of (moment ∷ earlier))) o) found (run-keeps (moment ∷ earlier) run name) in
    let sink = subst (KindKeeps (told_by name (report_of (moment ∷ earlier)))) is keeps in
    sink.leads.lead

pub run-kept : (moments : List Moment) → Run moments → Kept moments
run-kept [] run = tt
run-kept (moment ∷ earlier) run = (keeps_told moment earlier run, run-kept earlier run.1)
