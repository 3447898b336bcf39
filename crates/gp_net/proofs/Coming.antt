-- What an event of a node comes to in the network is what it comes to in the ideal one.
use Rattle.std.proofs.Common.{◌≡◌, ℕ, max, ◌+◌, Bool, true, false, List, [], ◌∷◌, ◌++◌, Option, Some, None, Result, Ok, Err, inl, inr, length, refl, sym, ◌∙◌, ap, subst, slice_get, slice_set, append-nil, arith}
use Rattle.std.specs.Prelude.{slice_index_or}
use Rattle.std.proofs.lemmas.Bool.{ltb-true, ltb-false}
use Rattle.std.proofs.Math.Dec.{ltb}
use Rattle.std.proofs.lemmas.Option.{slice_get_read, slice_get_past}
use Rattle.gp_cluster.specs.declared.message.Sent.{Sent}
use Rattle.gp_script.specs.declared.reason.LineReason.TheVariants.{Absent, Missing}
use Rattle.gp_script.specs.declared.report.Report.{Report}
use Rattle.gp_script.specs.declared.reason.LineReason.{LineReason}
use Rattle.gp_script.specs.declared.report.Report.TheVariants as reports
use Rattle.gp_world.specs.Power.{by_phase, lists, passed}
use Rattle.gp_world.specs.Run.{IsRight}
use Rattle.gp_world.specs.Sinks.{sink_lists}
use Rattle.gp_world.specs.Step.{at_sink, at_device, hears, node_hears}
use Rattle.gp_world.specs.World as ideal
use Rattle.gp_world.specs.World.{IsSink, IsDevice, as_sink, as_device, settled, reports, entries, put_reports, air_reports}
use Rattle.gp_net.specs.declared.net.Net.{Net}
use Rattle.gp_net.specs.declared.node.Kind.{Kind}
use Rattle.gp_net.specs.declared.node.Kind.TheVariants as kinds
use Rattle.gp_net.specs.declared.node.Node.{Node}
use Rattle.gp_telling.specs.declared.telling.Telling.{Telling}
use Rattle.gp_net.specs.Made as made
use Rattle.gp_telling.specs.Telling.{Said}
use Rattle.gp_net.specs.Inside.{Told, Went, IsPlaceOf, HasNone, is_sink_kind, place}
use Rattle.gp_net.specs.Net.{IsNetOf}
use Rattle.gp_net.specs.Nodes.{IsKindOf, AreNodesOf}
use Rattle.gp_net.proofs.Places.{Found, found, absent, replaced_stands}
use Rattle.gp_net.proofs.Settling.{settles}

-- ---- no node of the name and kind

no_sink : (kind : Kind) (model : ideal.Kind) → IsKindOf kind model → (is_sink_kind kind ≡ true → ⊥) → as_sink model ≡ None
no_sink (kinds.Sink s) (IsSink m) h n = absurd (n refl)
no_sink (kinds.Sink s) (IsDevice m) h n = refl
no_sink (kinds.Device d) (IsSink m) h n = absurd h
no_sink (kinds.Device d) (IsDevice m) h n = refl

no_device : (kind : Kind) (model : ideal.Kind) → IsKindOf kind model → (is_sink_kind kind ≡ false → ⊥) → as_device model ≡ None
no_device (kinds.Sink s) (IsSink m) h n = refl
no_device (kinds.Sink s) (IsDevice m) h n = absurd h
no_device (kinds.Device d) (IsSink m) h n = refl
no_device (kinds.Device d) (IsDevice m) h n = absurd (n refl)

pub absent_sink : (net : Net) (model : ideal.World) (line reading : ℕ) (name : List ℕ) (event : ideal.Powered → ideal.Out) → IsNetOf net model → HasNone true net.nodes.items name
    → at_sink model line reading name event ≡ Err Absent
unfolding at_sink
absent_sink net model line reading name event h (inl e) = rw (absent name net.nodes.items model.nodes h.nodes e) refl
absent_sink net model line reading name event h (inr w) =
    let f = found name net.nodes.items model.nodes w.0 h.nodes w.2 in
    let same : f.node ≡ w.1 = cc (f.there, w.3) in
    let gone : as_sink f.model.kind ≡ None = no_sink f.node.1.kind f.model.kind f.stands.kind (λ e. w.4 (sym (ap (λ (n : List ℕ × Node). is_sink_kind n.1.kind) same) ∙ e)) in
    rw (f.is, gone) refl

pub absent_device : (net : Net) (model : ideal.World) (line reading : ℕ) (name : List ℕ) (event : ideal.Device → ideal.Out) → IsNetOf net model → HasNone false net.nodes.items name
    → at_device model line reading name event ≡ Err Absent
unfolding at_device
absent_device net model line reading name event h (inl e) = rw (absent name net.nodes.items model.nodes h.nodes e) refl
absent_device net model line reading name event h (inr w) =
    let f = found name net.nodes.items model.nodes w.0 h.nodes w.2 in
    let same : f.node ≡ w.1 = cc (f.there, w.3) in
    let gone : as_device f.model.kind ≡ None = no_device f.node.1.kind f.model.kind f.stands.kind (λ e. w.4 (sym (ap (λ (n : List ℕ × Node). is_sink_kind n.1.kind) same) ∙ e)) in
    rw (f.is, gone) refl

pub absent_node : (net : Net) (model : ideal.World) (line reading frame : ℕ) (name : List ℕ) → IsNetOf net model → place name net.nodes.items ≡ None → (bit : Bool) → hears model line reading frame name bit ≡ Err Absent
unfolding hears
absent_node net model line reading frame name h e bit = rw (absent name net.nodes.items model.nodes h.nodes e) refl

pub missing_frame : (net : Net) (model : ideal.World) (line reading frame at : ℕ) (name : List ℕ) → IsNetOf net model → place name net.nodes.items ≡ Some at → slice_get net.air.items frame ≡ None
    → (bit : Bool) → hears model line reading frame name bit ≡ Err Missing
unfolding hears
missing_frame net model line reading frame at name h e m bit =
    let f = found name net.nodes.items model.nodes at h.nodes e in
    let none : slice_get model.air frame ≡ None = subst (λ (air : List (List ℕ)). slice_get air frame ≡ None) h.air m in
    rw (f.is, none) refl

-- ---- a node of the name and kind

-- what was said is told
pub told_by : (node : Option (List ℕ)) (reports : List Report) (before after : Telling) → Said node reports before after → Told (entries before.line node reports) before after
told_by who reports before after s = record { line = s.line; entries = s.added }

-- the network behind an event of the node at a place, which is this one from then on, and what was told
pub record Behind (old new : Net) (at : ℕ) (name : List ℕ) (was : List ℕ × Node) (node : Node) (reading : ℕ) (says : List Report) (puts : List Sent) (airs : List (List ℕ)) (before after : Telling) : Type 0 where
  pub there : slice_get old.nodes.items at ≡ Some was
  pub air : new.air.items ≡ old.air.items ++ airs
  pub sent : new.sent ≡ old.sent + length puts
  pub nodes : new.nodes.items ≡ slice_set old.nodes.items at (was.0, node)
  pub time : node.time ≡ max was.1.time reading
  pub told : Told (entries before.line (Some name) (says ++ (put_reports old.sent puts ++ air_reports (length old.air.items) airs))) before after

-- the same behind an event that sends no frame
pub record Quietly (old new : Net) (at : ℕ) (name : List ℕ) (was : List ℕ × Node) (node : Node) (reading : ℕ) (says : List Report) (puts : List Sent) (before after : Telling) : Type 0 where
  pub there : slice_get old.nodes.items at ≡ Some was
  pub air : new.air.items ≡ old.air.items
  pub sent : new.sent ≡ old.sent + length puts
  pub nodes : new.nodes.items ≡ slice_set old.nodes.items at (was.0, node)
  pub time : node.time ≡ max was.1.time reading
  pub told : Told (entries before.line (Some name) (says ++ put_reports old.sent puts)) before after

quiet : (old new : Net) (at : ℕ) (name : List ℕ) (was : List ℕ × Node) (node : Node) (reading : ℕ) (says : List Report) (puts : List Sent) (before after : Telling)
    → Quietly old new at name was node reading says puts before after → Behind old new at name was node reading says puts [] before after
quiet old new at name was node reading says puts before after q = record {
  there = q.there;
  air = q.air ∙ sym (append-nil old.air.items);
  sent = q.sent;
  nodes = q.nodes;
  time = q.time;
  told = subst (λ (reports : List Report). Told (entries before.line (Some name) reports) before after) (ap (λ (reports : List Report). says ++ reports) (sym (append-nil (put_reports old.sent puts)))) q.told;
}

told_are : (net : Net) (model : ideal.World) (out : ideal.Out) (says : List Report) (puts : List Sent) (airs : List (List ℕ)) → IsNetOf net model → out.says ≡ says → out.puts ≡ puts → out.airs ≡ airs
    → reports model out ≡ says ++ (put_reports net.sent puts ++ air_reports (length net.air.items) airs)
told_are net model out says puts airs h s p a = rw (s, p, a, h.sent, h.air) refl

-- what takes no bit is made by any
fixed : (out : ideal.Out) (node : Kind) (says : List Report) (puts : List Sent) (airs : List (List ℕ)) → made.Makes out node says puts airs → out.choice ≡ ideal.Fixed → made.MakesBy (λ bit. out) node says puts airs None
fixed out node says puts airs m is = record {
  bit = false;
  makes = m;
  takes = sym (ap (λ (c : ideal.Choice). made.bit_told c false) is);
  right = subst (λ (c : ideal.Choice). IsRight c false) (sym is) tt;
  exact = λ some stands. absurd cc;
}

abbrev listed_by : ideal.Phase → ideal.Powered → ideal.Out
listed_by phase powered = by_phase phase (ideal.out (IsSink powered) (reports.Dark ∷ [])) (λ change. passed powered (sink_lists powered.sink)) (passed powered (sink_lists powered.sink))

-- a listing sends nothing
lists_quietly : (powered : ideal.Powered) → ((lists powered).puts ≡ []) × ((lists powered).airs ≡ []) × ((lists powered).choice ≡ ideal.Fixed)
unfolding lists passed sink_lists
lists_quietly powered = go powered.phase
  where
    go : (phase : ideal.Phase) → ((listed_by phase powered).puts ≡ []) × ((listed_by phase powered).airs ≡ []) × ((listed_by phase powered).choice ≡ ideal.Fixed)
    go ideal.Runs = (refl, refl, refl)
    go ideal.Dark = (refl, refl, refl)
    go (ideal.Halted change) = (refl, refl, refl)

is_next : {one other : ideal.Next} → ◌≡◌ {A = Result ideal.Next LineReason} (Ok one) (Ok other) → one ≡ other
is_next e = cc

comes : (old new : Net) (before after : Telling) (model : ideal.World) (line reading at : ℕ) (name : List ℕ) (origin : Option ℕ) (out : ideal.Out) (f : Found name old.nodes.items model.nodes at) (was : List ℕ × Node) (node : Node) (says : List Report) (puts : List Sent) (airs : List (List ℕ))
    → IsNetOf old model → made.Makes out node.kind says puts airs → Behind old new at name was node reading says puts airs before after → line ≡ before.line
    → IsNetOf new (settled model line name (max f.model.time reading) origin out).world × Told (settled model line name (max f.model.time reading) origin out).told before after
unfolding settled
comes old new before after model line reading at name origin out f was node says puts airs h m b l = (stands, tells)
  where
    same : f.node ≡ was
    same = cc (f.there, b.there)

    timing : node.time ≡ max f.model.time reading
    timing = b.time ∙ ap (λ (t : ℕ). max t reading) (sym (ap (λ (n : List ℕ × Node). n.1.time) same) ∙ f.stands.time)

    stands : IsNetOf new (settled model line name (max f.model.time reading) origin out).world
    stands = settles old new model line name (max f.model.time reading) origin out at f node h m.stands timing (record {
      air = b.air ∙ ap (λ (airs : List (List ℕ)). old.air.items ++ airs) (sym m.airs_are);
      sent = b.sent ∙ ap (λ (puts : List Sent). old.sent + length puts) (sym m.puts_are);
      nodes = b.nodes ∙ ap (λ (n : List ℕ × Node). slice_set old.nodes.items at (n.0, node)) (sym same);
    })

    tells : Told (settled model line name (max f.model.time reading) origin out).told before after
    tells = record { line = b.told.line; entries = b.told.entries ∙ ap (λ (told : List _). before.entries.items ++ told) (sym (rw l (ap (entries before.line (Some name)) (told_are old model out says puts airs h m.says_are m.puts_are m.airs_are)))) }

-- what a node made by a bit, where the ideal step settles that
went : (old new : Net) (before after : Telling) (model : ideal.World) (reading at : ℕ) (name : List ℕ) (origin : Option ℕ) (event : Bool → ideal.Out) (step : Bool → Result ideal.Next LineReason) (f : Found name old.nodes.items model.nodes at)
    (was : List ℕ × Node) (node : Node) (says : List Report) (puts : List Sent) (airs : List (List ℕ)) (took : Option Bool)
    → ((bit : Bool) → step bit ≡ Ok (settled model before.line name (max f.model.time reading) origin (event bit)))
    → place name old.nodes.items ≡ Some at → IsNetOf old model → made.MakesBy event node.kind says puts airs took → Behind old new at name was node reading says puts airs before after
    → Went step new before after took
unfolding settled
went old new before after model reading at name origin event step f was node says puts airs took steps p h m b =
    let c = comes old new before after model before.line reading at name origin (event m.bit) f was node says puts airs h m.makes b refl in
    record {
      bit = m.bit;
      next = settled model before.line name (max f.model.time reading) origin (event m.bit);
      steps = steps m.bit;
      takes = m.takes;
      right = m.right;
      exact = λ no other is stands.
          let same : settled model before.line name (max f.model.time reading) origin (event true) ≡ other = is_next (sym (steps true) ∙ is) in
          let nodes : AreNodesOf (slice_set old.nodes.items at (was.0, node)) (ideal.replaced name (record { kind = (event true).node; time = max f.model.time reading }) model.nodes) =
          subst (λ (ns : List (List ℕ × Node)). AreNodesOf ns (ideal.replaced name (record { kind = (event true).node; time = max f.model.time reading }) model.nodes)) b.nodes
          (subst (λ (n : ideal.Next). AreNodesOf new.nodes.items n.world.nodes) (sym same) stands.nodes) in
          m.exact no (replaced_stands name old.nodes.items model.nodes at was.0 node _ h.nodes p nodes).kind;
      stands = c.0;
      told = c.1;
    }

at_sink_is : (model : ideal.World) (line reading : ℕ) (name : List ℕ) (event : ideal.Powered → ideal.Out) (node : ideal.Node) (powered : ideal.Powered) → ideal.named name model.nodes ≡ Some node → as_sink node.kind ≡ Some powered
    → at_sink model line reading name event ≡ Ok (settled model line name (max node.time reading) None (event powered))
unfolding at_sink
at_sink_is model line reading name event node powered named is = rw (named, is) refl

pub comes_at_sink : (old new : Net) (before after : Telling) (model : ideal.World) (reading at : ℕ) (name : List ℕ) (event : Bool → ideal.Powered → ideal.Out) (was : List ℕ × Node) (node : Node) (says : List Report) (puts : List Sent) (took : Option Bool)
    → place name old.nodes.items ≡ Some at → IsNetOf old model
    → made.MakesAtSink event was.1.kind node.kind says puts took
    → Quietly old new at name was node reading says puts before after → Went (λ bit. at_sink model before.line reading name (event bit)) new before after took
comes_at_sink old new before after model reading at name event was node says puts took p h makes q =
    let f = found name old.nodes.items model.nodes at h.nodes p in
    let same : f.node ≡ was = cc (f.there, q.there) in
    let m = makes f.model.kind (subst (λ (n : List ℕ × Node). IsKindOf n.1.kind f.model.kind) same f.stands.kind) in
    went old new before after model reading at name None (λ bit. event bit m.0) (λ bit. at_sink model before.line reading name (event bit)) f was node says puts [] took
    (λ bit. at_sink_is model before.line reading name (event bit) f.model m.0 f.is m.1) p h m.2 (quiet old new at name was node reading says puts before after q)

at_device_is : (model : ideal.World) (line reading : ℕ) (name : List ℕ) (event : ideal.Device → ideal.Out) (node : ideal.Node) (device : ideal.Device) → ideal.named name model.nodes ≡ Some node → as_device node.kind ≡ Some device
    → at_device model line reading name event ≡ Ok (settled model line name (max node.time reading) None (event device))
unfolding at_device
at_device_is model line reading name event node device named is = rw (named, is) refl

pub comes_at_device : (old new : Net) (before after : Telling) (model : ideal.World) (reading at : ℕ) (name : List ℕ) (event : ideal.Device → ideal.Out) (was : List ℕ × Node) (node : Node) (says : List Report) (airs : List (List ℕ))
    → place name old.nodes.items ≡ Some at → IsNetOf old model
    → ((kind : ideal.Kind) → IsKindOf was.1.kind kind → (device : ideal.Device) × (as_device kind ≡ Some device) × made.Makes (event device) node.kind says [] airs × ((event device).choice ≡ ideal.Fixed))
    → Behind old new at name was node reading says [] airs before after → Went (λ bit. at_device model before.line reading name event) new before after None
comes_at_device old new before after model reading at name event was node says airs p h makes b =
    let f = found name old.nodes.items model.nodes at h.nodes p in
    let same : f.node ≡ was = cc (f.there, b.there) in
    let m = makes f.model.kind (subst (λ (n : List ℕ × Node). IsKindOf n.1.kind f.model.kind) same f.stands.kind) in
    went old new before after model reading at name None (λ bit. event m.0) (λ bit. at_device model before.line reading name event) f was node says [] airs None
    (λ bit. at_device_is model before.line reading name event f.model m.0 f.is m.1) p h (fixed (event m.0) node.kind says [] airs m.2 m.3) b

hears_is : (model : ideal.World) (line reading frame : ℕ) (name octets : List ℕ) (node : ideal.Node) (bit : Bool) → ideal.named name model.nodes ≡ Some node → slice_get model.air frame ≡ Some octets
    → hears model line reading frame name bit ≡ Ok (settled model line name (max node.time reading) (Some frame) (node_hears octets bit node.kind))
unfolding hears
hears_is model line reading frame name octets node bit named sent = rw (named, sent) refl

pub comes_heard : (old new : Net) (before after : Telling) (model : ideal.World) (reading frame at : ℕ) (octets : List ℕ) (name : List ℕ) (was : List ℕ × Node) (node : Node) (says : List Report) (puts : List Sent) (took : Option Bool)
    → place name old.nodes.items ≡ Some at → IsNetOf old model → slice_get old.air.items frame ≡ Some octets
    → ((kind : ideal.Kind) → IsKindOf was.1.kind kind → made.MakesBy (λ bit. node_hears octets bit kind) node.kind says puts [] took)
    → Quietly old new at name was node reading says puts before after → Went (λ bit. hears model before.line reading frame name bit) new before after took
comes_heard old new before after model reading frame at octets name was node says puts took p h there makes q =
    let f = found name old.nodes.items model.nodes at h.nodes p in
    let same : f.node ≡ was = cc (f.there, q.there) in
    let is : slice_get model.air frame ≡ Some octets = subst (λ (air : List (List ℕ)). slice_get air frame ≡ Some octets) h.air there in
    went old new before after model reading at name (Some frame) (λ bit. node_hears octets bit f.model.kind) (λ bit. hears model before.line reading frame name bit) f was node says puts [] took
    (λ bit. hears_is model before.line reading frame name octets f.model bit f.is is) p h
    (makes f.model.kind (subst (λ (n : List ℕ × Node). IsKindOf n.1.kind f.model.kind) same f.stands.kind)) (quiet old new at name was node reading says puts before after q)

pub comes_switched : (old new : Net) (before after : Telling) (model : ideal.World) (reading at : ℕ) (name : List ℕ) (event : ideal.Powered → ideal.Out) (was : List ℕ × Node) (node : Node) (report : Report)
    → place name old.nodes.items ≡ Some at → IsNetOf old model → made.SwitchesSink event was.1.kind node.kind report
    → Quietly old new at name was node reading (report ∷ []) [] before after → Went (λ bit. at_sink model before.line reading name event) new before after None
comes_switched old new before after model reading at name event was node report p h makes q =
    comes_at_sink old new before after model reading at name (λ bit. event) was node (report ∷ []) [] None p h
    (λ kind k. let m = makes kind k in (m.0, m.1, fixed (event m.0) node.kind (report ∷ []) [] [] m.2 m.3)) q

pub comes_listed : (old new : Net) (before after : Telling) (model : ideal.World) (reading at : ℕ) (name : List ℕ) (was : List ℕ × Node) (node : Node)
    → place name old.nodes.items ≡ Some at → IsNetOf old model → slice_get old.nodes.items at ≡ Some was
    → ((kind : ideal.Kind) → IsKindOf was.1.kind kind → made.ListsAtSink name before after node.kind kind)
    → new.air.items ≡ old.air.items → new.sent ≡ old.sent → new.nodes.items ≡ slice_set old.nodes.items at (was.0, node) → node.time ≡ max was.1.time reading
    → Went (λ bit. at_sink model before.line reading name lists) new before after None
comes_listed old new before after model reading at name was node p h there makes air sent nodes time =
    let f = found name old.nodes.items model.nodes at h.nodes p in
    let same : f.node ≡ was = cc (f.there, there) in
    let m = makes f.model.kind (subst (λ (n : List ℕ × Node). IsKindOf n.1.kind f.model.kind) same f.stands.kind) in
    let quietly = lists_quietly m.0 in
    let says : List Report = (lists m.0).says in
    let q : Quietly old new at name was node reading says [] before after = record {
      there = there;
      air = air;
      sent = omega (arith, sent);
      nodes = nodes;
      time = time;
      told = subst (λ (reports : List Report). Told (entries before.line (Some name) reports) before after) (sym (append-nil says)) (told_by (Some name) says before after m.3);
    } in
    went old new before after model reading at name None (λ bit. lists m.0) (λ bit. at_sink model before.line reading name lists) f was node says [] [] None
    (λ bit. at_sink_is model before.line reading name lists f.model m.0 f.is m.1) p h
    (fixed (lists m.0) node.kind says [] [] (record { stands = m.2; says_are = refl; puts_are = quietly.0; airs_are = quietly.1 }) quietly.2) (quiet old new at name was node reading says [] before after q)

-- ---- as the calls of a network need it

-- the node at the place of a name
pub there_is : (sink : Bool) (nodes items : List (List ℕ × Node)) (name : List ℕ) (at : ℕ) (was : List ℕ × Node) → nodes ≡ items → IsPlaceOf sink nodes name at → was ≡ slice_index_or items at was
    → (slice_get items at ≡ Some was) × (is_sink_kind was.1.kind ≡ sink) × (place name items ≡ Some at)
there_is sink nodes items name at was e p v =
    let here = subst (λ (ns : List (List ℕ × Node)). IsPlaceOf sink ns name at) e p in
    let got : slice_get items at ≡ Some was = slice_get_read items (length items) at was refl here.below v in
    let same : here.node ≡ was = cc (here.there, got) in
    (got, subst (λ (n : List ℕ × Node). is_sink_kind n.1.kind ≡ sink) same here.kind, here.first)

pub refused_at_sink : (net : Net) (nodes : List (List ℕ × Node)) (model : ideal.World) (line reading : ℕ) (name : List ℕ) (event : Bool → ideal.Powered → ideal.Out)
    → nodes ≡ net.nodes.items → HasNone true nodes name → IsNetOf net model → (bit : Bool) → at_sink model line reading name (event bit) ≡ Err Absent
refused_at_sink net nodes model line reading name event e n h bit = absent_sink net model line reading name (event bit) h (subst (λ (ns : List (List ℕ × Node)). HasNone true ns name) e n)

pub refused_at_device : (net : Net) (nodes : List (List ℕ × Node)) (model : ideal.World) (line reading : ℕ) (name : List ℕ) (event : ideal.Device → ideal.Out)
    → nodes ≡ net.nodes.items → HasNone false nodes name → IsNetOf net model → (bit : Bool) → at_device model line reading name event ≡ Err Absent
refused_at_device net nodes model line reading name event e n h bit = absent_device net model line reading name event h (subst (λ (ns : List (List ℕ × Node)). HasNone false ns name) e n)

pub none_there : (frame : ℕ) (air items : List (List ℕ)) → air ≡ items → false ≡ ltb frame (length air) → slice_get items frame ≡ None
none_there frame air items e n = subst (λ (xs : List (List ℕ)). slice_get xs frame ≡ None) e (slice_get_past air frame (ltb-false frame (length air) (sym n)))

pub one_there : (frame : ℕ) (air items : List (List ℕ)) (octets : List ℕ) → air ≡ items → true ≡ ltb frame (length air) → octets ≡ slice_index_or air frame octets → slice_get items frame ≡ Some octets
one_there frame air items octets e n v =
    subst (λ (xs : List (List ℕ)). slice_get xs frame ≡ Some octets) e (slice_get_read air (length air) frame octets refl (ltb-true frame (length air) (sym n)) v)
