-- Every run rises: from line to line no floor falls, and each counter that is taken lies above the floor before it.
use Rattle.std.proofs.Common.{◌≡◌, inl, inr, ℕ, suc, ◌≤◌, max, Bool, true, false, ◌==◌, cond, if◌then◌else◌, List, [], ◌∷◌, ◌++◌, length, Option, Some, None, refl, sym, ap, ◌∙◌, subst, arith}
use Rattle.std.specs.Str.{bytes_eq}
use Rattle.std.proofs.lemmas.List.{append-nil}
use Rattle.gp_script.specs.declared.report.Report.{Report}
use Rattle.gp_script.specs.declared.report.Report.TheVariants as reports
use Rattle.gp_script.specs.declared.script.Event.{Event}
use Rattle.gp_world.specs.Devices.{device_presses, device_hears, sends}
use Rattle.gp_ideal.specs.declared.ledger.Change.{Change}
use Rattle.gp_ideal.specs.Ledger.{floor}
use Rattle.gp_world.specs.Properties.{taken_in, Rising, Once}
use Rattle.gp_world.specs.Run.{Moment, Run, world_after, report_of}
use Rattle.gp_world.specs.Sinks.{ruled}
use Rattle.gp_world.specs.Step.{node_hears}
use Rattle.gp_world.specs.World as of
use Rattle.gp_world.specs.World.{World, Sink, Powered, Device, Kind, IsSink, IsDevice, Node, Next, Out, out, named, is_named, settled, joined, injected, put_reports, air_reports, entries, empty}
use Rattle.gp_world.proofs.Moving.{Moves, moves_on, counter_if, and_then, takings, takings-append, all_rise, rising-once}
use Rattle.gp_world.proofs.Naming.{same_name, name_same, named-replaced, named-replaced_other, named-joined_other, named-free}
use Rattle.gp_ideal.proofs.Pairs.{bool_cases}
use Rattle.gp_world.proofs.Rulings.{takings_in, RulingMoves, floor-grows, steady-take_nothing, heard-moves, paired-moves}
use Rattle.gp_world.specs.Power.{with_bit}
use Rattle.gp_world.proofs.Steady.{sent_reports, sent-steady}
use Rattle.gp_world.proofs.Powering.{EachCase, hears-carries, does-carries}
use Rattle.gp_world.proofs.Stepping.{IsNew, NewSink, NewDevice, Does, Comes, Stays, Joins, Acts, Injects, Hears, comes}

-- ---- one node

-- the floor of a row at a node; a device has none
abbrev floor_of : Kind → ℕ → ℕ
floor_of (IsSink powered) row = floor powered.sink.ledger row
floor_of (IsDevice device) row = 0

abbrev OutMoves : Kind → Out → Type 0
OutMoves kind made = (row : ℕ) → Moves (floor_of kind row) (floor_of made.node row) (takings_in row made.says)

-- nothing is taken, and no floor falls
nothing-moves : (f g : ℕ) (ns : List ℕ) → f ≤ g → ns ≡ [] → Moves f g ns
nothing-moves f g ns h e = subst (Moves f g) (sym e) h

word-takes_nothing : (row : ℕ) (report : Report) → taken_in report ≡ None → takings_in row (report ∷ []) ≡ []
unfolding takings_in
word-takes_nothing row report none = ap (λ (o : Option (ℕ × ℕ)). and_then (counter_if row o) []) none

-- whether a change is remembered or not
bit-grows : (bit : Bool) (change : Change) (sink : Sink) (row : ℕ) → floor sink.ledger row ≤ floor (with_bit bit change sink).ledger row
bit-grows true change sink row = floor-grows change sink.ledger row
bit-grows false change sink row = omega arith

cases-move : (bit : Bool) (powered : Powered) → EachCase (RulingMoves powered.sink.ledger) (OutMoves (IsSink powered)) bit powered
unfolding ruled takings_in
cases-move bit powered = record {
  word = λ armed report w row. nothing-moves _ _ _ (omega arith) (word-takes_nothing row report w.takes);
  tells = λ effect still row. nothing-moves (floor powered.sink.ledger row) (floor effect.sink.ledger row) (takings_in row effect.says)
      (let same : floor effect.sink.ledger row ≡ floor powered.sink.ledger row = ap (λ (l : List Change). floor l row) still.ledger in omega arith) (steady-take_nothing row effect.says still.says);
  rules = λ runs ruling armed moves row. moves row;
  cut = λ runs change calls row. bit-grows bit change powered.sink row;
  fails = λ runs change row. omega arith;
  off = λ runs row. omega arith;
  settles = λ change halted row. bit-grows bit change powered.sink row;
  on = λ count dark row. omega arith;
}

hears-move : (octets : List ℕ) (bit : Bool) (kind : Kind) → OutMoves kind (node_hears octets bit kind)
unfolding device_hears takings_in
hears-move octets bit (IsSink powered) =
    hears-carries (RulingMoves powered.sink.ledger) (OutMoves (IsSink powered)) bit powered (cases-move bit powered) octets (heard-moves powered.sink.rules powered.sink.ledger octets)
hears-move octets bit (IsDevice device) = λ (row : ℕ). omega arith

presses-move : (device : Device) (command : List ℕ) → OutMoves (IsDevice device) (device_presses command device)
unfolding device_presses takings_in
presses-move device command = go (device.counter == 0xFFFFFFFF)
  where
    go : (b : Bool) → OutMoves (IsDevice device) (cond b (out (IsDevice device) (reports.End ∷ [])) (sends device command))
    go true row = omega arith
    go false row = omega arith

does-move : (event : Event) (bit : Bool) (kind : Kind) (made : Out) → Does event bit kind made → OutMoves kind made
does-move event bit kind made does =
    does-carries (λ powered. RulingMoves powered.sink.ledger) (λ own. Unit {0}) OutMoves event bit (λ powered values counter. paired-moves powered.sink.config powered.sink.ledger values counter)
    (λ powered h. cases-move bit powered) (λ device command octets h. presses-move device command) kind made does tt

-- ---- the entries of a line

pub in_append : (row : ℕ) (xs ys : List Report) → takings_in row (xs ++ ys) ≡ takings_in row xs ++ takings_in row ys
unfolding takings_in
in_append row [] ys = refl
in_append row (x ∷ xs) ys = ap (and_then (counter_if row (taken_in x))) (in_append row xs ys) ∙ behind (counter_if row (taken_in x))
  where
    behind : (o : Option ℕ) → and_then o (takings_in row xs ++ takings_in row ys) ≡ and_then o (takings_in row xs) ++ takings_in row ys
    behind None = refl
    behind (Some n) = refl

reports-take : (row : ℕ) (world : World) (made : Out) → takings_in row (of.reports world made) ≡ takings_in row made.says
reports-take row world made =
    in_append row made.says (sent_reports world made)
    ∙ ap (λ (ns : List ℕ). takings_in row made.says ++ ns) (steady-take_nothing row (sent_reports world made) (sent-steady world made))
    ∙ append-nil (takings_in row made.says)

-- those of the node itself, and of no other
pub own-entries : (line : ℕ) (name : List ℕ) (row : ℕ) (told : List Report) → takings name row (entries line (Some name) told) ≡ takings_in row told
unfolding takings takings_in
own-entries line name row [] = refl
own-entries line name row (report ∷ told) =
    ap (λ (b : Bool). and_then (if b then counter_if row (taken_in report) else None) (takings name row (entries line (Some name) told))) (name_same name)
    ∙ ap (and_then (counter_if row (taken_in report))) (own-entries line name row told)

pub other-entries : (line : ℕ) (own name : List ℕ) (row : ℕ) (told : List Report) → bytes_eq own name ≡ false → takings name row (entries line (Some own) told) ≡ []
unfolding takings
other-entries line own name row [] n = refl
other-entries line own name row (report ∷ told) n =
    ap (λ (b : Bool). and_then (if b then counter_if row (taken_in report) else None) (takings name row (entries line (Some own) told))) n
    ∙ other-entries line own name row told n

-- ---- one line

-- the floor of a row of the sink of a name, 0 where there is none
abbrev floor_at : Option Node → ℕ → ℕ
floor_at None row = 0
floor_at (Some node) row = floor_of node.kind row

abbrev floor_in : World → List ℕ → ℕ → ℕ
floor_in world name row = floor_at (named name world.nodes) row

abbrev NextMoves : World → Next → Type 0
NextMoves world next = (name : List ℕ) (row : ℕ) → Moves (floor_in world name row) (floor_in next.world name row) (takings name row next.told)

-- what an event makes of a node moves the world
settled-moves : (world : World) (line : ℕ) (name : List ℕ) (node : Node) (time : ℕ) (origin : Option ℕ) (made : Out) → named name world.nodes ≡ Some node → OutMoves node.kind made →
    NextMoves world (settled world line name time origin made)
unfolding settled
settled-moves world line name node time origin made found moves other row = elim (bool_cases (bytes_eq name other)) [
  | inl same ↦ subst (λ (n : List ℕ). Moves (floor_in world n row) (floor_at (named n (of.replaced name after world.nodes)) row) (takings n row (entries line (Some name) (of.reports world made)))) (same_name name other same)
      (three _ _ _ _ _ _
      (ap (λ (o : Option Node). floor_at o row) (sym found))
      (ap (λ (o : Option Node). floor_at o row) (sym (named-replaced name node after world.nodes found)))
      (sym (own-entries line name row (of.reports world made) ∙ reports-take row world made))
      (moves row))
  | inr differs ↦ three _ _ _ _ _ _
      refl
      (ap (λ (o : Option Node). floor_at o row) (sym (named-replaced_other name other after world.nodes differs)))
      (sym (other-entries line name other row (of.reports world made) differs))
      (let stays : floor_in world other row ≤ floor_in world other row = omega arith in stays)
]
  where
    after : Node
    after = record { kind = made.node; time = time }

    three : (f f' g g' : ℕ) (ns ns' : List ℕ) → f ≡ f' → g ≡ g' → ns ≡ ns' → Moves f g ns → Moves f' g' ns'
    three f f' g g' ns ns' a b c m = subst (λ (x : ℕ). Moves x g' ns') a (subst (λ (x : ℕ). Moves f x ns') b (subst (λ (x : List ℕ). Moves f g x) c m))

-- a node that comes has no floor yet
new-floor : (kind : Kind) (row : ℕ) → IsNew kind → floor_of kind row ≡ 0
unfolding floor
new-floor kind row (NewSink config is) = ap (λ (k : Kind). floor_of k row) is
new-floor kind row (NewDevice device is) = ap (λ (k : Kind). floor_of k row) is

joined-moves : (world : World) (name : List ℕ) (node : Node) → is_named name world.nodes ≡ false → IsNew node.kind → NextMoves world (joined world name node)
unfolding joined takings
joined-moves world name node free new other row = elim (bool_cases (bytes_eq name other)) [
  | inl same ↦ subst (λ (n : List ℕ). floor_in world n row ≤ floor_at (named n (world.nodes ++ (name, node) ∷ [])) row) (same_name name other same)
      (let before : floor_in world name row ≡ 0 = ap (λ (o : Option Node). floor_at o row) (named-free name world.nodes free) in omega arith)
  | inr differs ↦ let same : floor_at (named other (world.nodes ++ (name, node) ∷ [])) row ≡ floor_in world other row = ap (λ (o : Option Node). floor_at o row) (named-joined_other name other node world.nodes differs) in omega arith
]

-- octets that no node sent move nothing
injected-moves : (world : World) (line : ℕ) (octets : List ℕ) → NextMoves world (injected world line octets)
unfolding injected takings
injected-moves world line octets name row = omega arith

stays-move : (world : World) → NextMoves world (record { world = world; told = []; choice = of.Fixed })
unfolding takings
stays-move world name row = omega arith

comes-moves : (world : World) (line : ℕ) (event : Event) (bit : Bool) (next : Next) → Comes world line event bit next → NextMoves world next
comes-moves world line event bit next (Stays is) = subst (NextMoves world) (sym is) (stays-move world)
comes-moves world line event bit next (Joins name node free new keyed is) = subst (NextMoves world) (sym is) (joined-moves world name node free new)
comes-moves world line event bit next (Injects octets are is) = subst (NextMoves world) (sym is) (injected-moves world line octets)
comes-moves world line event bit next (Acts name node time made found does is) =
    subst (NextMoves world) (sym is) (settled-moves world line name node time None made found (does-move event bit node.kind made does))
comes-moves world line event bit next (Hears reading frame link name node octets asked found sent is) =
    subst (NextMoves world) (sym is) (settled-moves world line name node (max node.time reading) (Some frame) (node_hears octets bit node.kind) found (hears-move octets bit node.kind))

-- ---- every run

run-moves : (moments : List Moment) → Run moments → (name : List ℕ) (row : ℕ) → Moves 0 (floor_in (world_after moments) name row) (takings name row (report_of moments))
unfolding takings report_of
run-moves [] run name row = omega arith
run-moves (moment ∷ earlier) run name row =
    let before = run-moves earlier run.1 name row in
    let steps = comes-moves moment.before (suc (length earlier)) moment.event moment.bit moment.next (comes moment.before (suc (length earlier)) moment.event moment.bit moment.next run.0.steps) name row in
    let begins : Moves (floor_in (world_after earlier) name row) (floor_in moment.next.world name row) (takings name row moment.next.told) =
    subst (λ (w : World). Moves (floor_in w name row) (floor_in moment.next.world name row) (takings name row moment.next.told)) run.0.begins steps in
    subst (Moves 0 (floor_in moment.next.world name row)) (sym (takings-append name row (report_of earlier) moment.next.told))
    (moves_on 0 (floor_in (world_after earlier) name row) (floor_in moment.next.world name row) (takings name row (report_of earlier)) (takings name row moment.next.told) before begins)

pub run-rises : (moments : List Moment) → Run moments → Rising (report_of moments)
run-rises moments run = all_rise (report_of moments) (λ (name : List ℕ) (row : ℕ). (floor_in (world_after moments) name row, run-moves moments run name row))

pub run-once : (moments : List Moment) → Run moments → Once (report_of moments)
run-once moments run = rising-once (report_of moments) (run-rises moments run)
