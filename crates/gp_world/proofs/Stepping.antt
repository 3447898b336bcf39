-- What a line of a script comes to, kind by kind.
use Rattle.std.proofs.Common.{◌≡◌, ℕ, max, Bool, true, false, ◌||◌, List, [], ◌∷◌, Option, Some, None, Result, Ok, Err, refl, ap, slice_get}
use Rattle.gp_base.specs.declared.identity.Src.{Src}
use Rattle.gp_base.specs.Field.{IsOctets}
use Rattle.gp_base.specs.Table.{by_table, let_else}
use Rattle.gp_script.specs.declared.reason.LineReason.{LineReason}
use Rattle.gp_script.specs.declared.reason.LineReason.TheVariants.{Taken, Many, Absent, Missing}
use Rattle.gp_script.specs.declared.script.Action.{Action}
use Rattle.gp_script.specs.declared.script.Action.TheVariants as actions
use Rattle.gp_script.specs.declared.script.Event.{Event}
use Rattle.gp_script.specs.declared.script.Event.TheVariants.{Nothing, Line}
use Rattle.gp_ideal.specs.declared.config.Config.{Config}
use Rattle.gp_ideal.specs.declared.ledger.Values.{Values}
use Rattle.gp_translate.specs.declared.rule.Rule.{Rule}
use Rattle.gp_world.specs.Devices.{device_presses}
use Rattle.gp_ideal.specs.Paired.{offered}
use Rattle.gp_world.specs.Power.{at_running, adds_rule, lists, arms, turns_off, turns_on, flickers}
use Rattle.gp_world.specs.Sinks.{sink_pairs, sink_announces, rule_of}
use Rattle.gp_world.specs.Step.{step, acted_on, reaches, new_sink, makes_sink, makes_device, at_sink, at_device, hears, node_hears, config_of}
use Rattle.gp_world.proofs.Asking.{HasOctets}
use Rattle.gp_world.specs.World.{World, Sink, Armed, ToCut, ToFail, Powered, Effect, Device, Kind, IsSink, IsDevice, Node, Next, Out, Fixed, named, is_named, is_addressed, is_sink, is_device, are_many, as_sink, as_device, settled, joined, injected}

-- a device's key is octets
abbrev pub HasKey : Kind → Type 0
HasKey (IsSink powered) = Unit {0}
HasKey (IsDevice device) = IsOctets device.key.0

-- a node as it comes
pub data IsNew (kind : Kind) : Type 0 where
  NewSink : (config : Config) → kind ≡ IsSink (new_sink config) → IsNew kind
  NewDevice : (device : Device) → kind ≡ IsDevice device → IsNew kind

-- a device is to be paired with a sink, with values that the sink's own settings complete
abbrev pub pairs_with : (Sink → Values) → ℕ → Sink → Effect
pairs_with values counter sink = sink_pairs (values sink) counter sink

-- what a node does that hears nothing
pub data Does (event : Event) (bit : Bool) (kind : Kind) (made : Out) : Type 0 where
  Pairs : (powered : Powered) (values : Sink → Values) (counter : ℕ) → kind ≡ IsSink powered → made ≡ at_running (pairs_with values counter) bit powered → Does event bit kind made
  Announces : (powered : Powered) (source : Src) → kind ≡ IsSink powered → made ≡ at_running (sink_announces source) bit powered → Does event bit kind made
  Rules : (powered : Powered) (rule : Rule) → kind ≡ IsSink powered → made ≡ adds_rule rule powered → Does event bit kind made
  Lists : (powered : Powered) → kind ≡ IsSink powered → made ≡ lists powered → Does event bit kind made
  Arms : (powered : Powered) (armed : Armed) → kind ≡ IsSink powered → made ≡ arms armed powered → Does event bit kind made
  TurnsOff : (powered : Powered) → kind ≡ IsSink powered → made ≡ turns_off bit powered → Does event bit kind made
  TurnsOn : (powered : Powered) → kind ≡ IsSink powered → made ≡ turns_on powered → Does event bit kind made
  Flickers : (powered : Powered) → kind ≡ IsSink powered → made ≡ flickers powered → Does event bit kind made
  Presses : (device : Device) (command : List ℕ) → (HasOctets event → IsOctets command) → kind ≡ IsDevice device → made ≡ device_presses command device → Does event bit kind made

-- what a line comes to
pub data Comes (world : World) (line : ℕ) (event : Event) (bit : Bool) (next : Next) : Type 0 where
  Stays : next ≡ record { world = world; told = []; choice = Fixed } → Comes world line event bit next
  Joins : (name : List ℕ) (node : Node) → is_named name world.nodes ≡ false → IsNew node.kind → (HasOctets event → HasKey node.kind) → next ≡ joined world name node → Comes world line event bit next
  Acts : (name : List ℕ) (node : Node) (time : ℕ) (made : Out) → named name world.nodes ≡ Some node → Does event bit node.kind made →
      next ≡ settled world line name time None made → Comes world line event bit next
  Injects : (octets : List ℕ) → (HasOctets event → IsOctets octets) → next ≡ injected world line octets → Comes world line event bit next
  Hears : (reading frame link : ℕ) (name : List ℕ) (node : Node) (octets : List ℕ) → event ≡ Line reading (actions.Hear frame name link) →
      named name world.nodes ≡ Some node → slice_get world.air frame ≡ Some octets →
      next ≡ settled world line name (max node.time reading) (Some frame) (node_hears octets bit node.kind) → Comes world line event bit next

is_ok : (next one : Next) → ◌≡◌ {A = Result Next LineReason} (Ok one) (Ok next) → next ≡ one
is_ok next one e = cc

not_both : (next : Next) (reason : LineReason) → ◌≡◌ {A = Result Next LineReason} (Err reason) (Ok next) → ⊥
not_both next reason e = cc

-- a table of two refusals that goes on: neither test holds
past_two : (a b : Bool) (x y : LineReason) (one next : Next) → ◌≡◌ {A = Result Next LineReason} (by_table ((a, Err x) ∷ (b, Err y) ∷ []) (Ok one)) (Ok next) → (a ≡ false) × (next ≡ one)
past_two true b x y one next e = absurd (not_both next x e)
past_two false true x y one next e = absurd (not_both next y e)
past_two false false x y one next e = (refl, is_ok next one e)

first_free : (a b : Bool) → a || b ≡ false → a ≡ false
first_free false b e = refl
first_free true b e = absurd cc

-- ---- a node comes

comes_sink : (world : World) (line reading : ℕ) (event : Event) (bit : Bool) (name : List ℕ) (config : Config) (next : Next) → makes_sink world reading name config ≡ Ok next → Comes world line event bit next
unfolding makes_sink
comes_sink world line reading event bit name config next e =
    let node : Node = record { kind = IsSink (new_sink config); time = reading } in
    let past = past_two (is_named name world.nodes || is_addressed config.address world.nodes) (are_many is_sink world.nodes) Taken Many (joined world name node) next e in
    Joins name node (first_free (is_named name world.nodes) (is_addressed config.address world.nodes) past.0) (NewSink config refl) (λ h. tt) past.1

comes_device : (world : World) (line reading : ℕ) (event : Event) (bit : Bool) (name : List ℕ) (device : Device) (next : Next) → (HasOctets event → IsOctets device.key.0) → makes_device world reading name device ≡ Ok next → Comes world line event bit next
unfolding makes_device
comes_device world line reading event bit name device next octets e =
    let node : Node = record { kind = IsDevice device; time = reading } in
    let past = past_two (is_named name world.nodes) (are_many is_device world.nodes) Taken Many (joined world name node) next e in
    Joins name node past.0 (NewDevice device refl) octets past.1

-- ---- a node acts

is_a_sink : (kind : Kind) (powered : Powered) → as_sink kind ≡ Some powered → kind ≡ IsSink powered
is_a_sink (IsSink own) powered e = let same : own ≡ powered = cc in ap (λ (p : Powered). IsSink p) same
is_a_sink (IsDevice device) powered e = absurd cc

is_a_device : (kind : Kind) (device : Device) → as_device kind ≡ Some device → kind ≡ IsDevice device
is_a_device (IsSink sink) device e = absurd cc
is_a_device (IsDevice own) device e = let same : own ≡ device = cc in ap (λ (d : Device). IsDevice d) same

pub record AtSink (world : World) (line : ℕ) (name : List ℕ) (act : Powered → Out) (next : Next) : Type 0 where
  pub node : Node
  pub found : named name world.nodes ≡ Some node
  pub powered : Powered
  pub is : node.kind ≡ IsSink powered
  pub time : ℕ
  pub next_is : next ≡ settled world line name time None (act powered)

sink_acts : (world : World) (line reading : ℕ) (name : List ℕ) (act : Powered → Out) (next : Next) → at_sink world line reading name act ≡ Ok next → AtSink world line name act next
unfolding at_sink
sink_acts world line reading name act next e = go (named name world.nodes) refl e
  where
    of_kind : (node : Node) → named name world.nodes ≡ Some node → (o : Option Powered) → as_sink node.kind ≡ o →
        ◌≡◌ {A = Result Next LineReason} (let_else o (Err Absent) (λ (powered : Powered). Ok (settled world line name (max node.time reading) None (act powered)))) (Ok next) → AtSink world line name act next
    of_kind node found None is t = absurd (not_both next Absent t)
    of_kind node found (Some powered) is t =
        record { node = node; found = found; powered = powered; is = is_a_sink node.kind powered is; time = max node.time reading; next_is = is_ok next (settled world line name (max node.time reading) None (act powered)) t }

    go : (o : Option Node) → named name world.nodes ≡ o →
        ◌≡◌ {A = Result Next LineReason} (let_else o (Err Absent) (λ (node : Node). let_else (as_sink node.kind) (Err Absent) (λ (powered : Powered). Ok (settled world line name (max node.time reading) None (act powered))))) (Ok next) →
        AtSink world line name act next
    go None found t = absurd (not_both next Absent t)
    go (Some node) found t = of_kind node found (as_sink node.kind) refl t

pub record AtDevice (world : World) (line : ℕ) (name : List ℕ) (act : Device → Out) (next : Next) : Type 0 where
  pub node : Node
  pub found : named name world.nodes ≡ Some node
  pub device : Device
  pub is : node.kind ≡ IsDevice device
  pub time : ℕ
  pub next_is : next ≡ settled world line name time None (act device)

device_acts : (world : World) (line reading : ℕ) (name : List ℕ) (act : Device → Out) (next : Next) → at_device world line reading name act ≡ Ok next → AtDevice world line name act next
unfolding at_device
device_acts world line reading name act next e = go (named name world.nodes) refl e
  where
    of_kind : (node : Node) → named name world.nodes ≡ Some node → (o : Option Device) → as_device node.kind ≡ o →
        ◌≡◌ {A = Result Next LineReason} (let_else o (Err Absent) (λ (device : Device). Ok (settled world line name (max node.time reading) None (act device)))) (Ok next) → AtDevice world line name act next
    of_kind node found None is t = absurd (not_both next Absent t)
    of_kind node found (Some device) is t =
        record { node = node; found = found; device = device; is = is_a_device node.kind device is; time = max node.time reading; next_is = is_ok next (settled world line name (max node.time reading) None (act device)) t }

    go : (o : Option Node) → named name world.nodes ≡ o →
        ◌≡◌ {A = Result Next LineReason} (let_else o (Err Absent) (λ (node : Node). let_else (as_device node.kind) (Err Absent) (λ (device : Device). Ok (settled world line name (max node.time reading) None (act device))))) (Ok next) →
        AtDevice world line name act next
    go None found t = absurd (not_both next Absent t)
    go (Some node) found t = of_kind node found (as_device node.kind) refl t

-- a sink that does this, whatever it is, does one of the things that a node does
comes_at : (world : World) (line reading : ℕ) (event : Event) (bit : Bool) (name : List ℕ) (act : Powered → Out) (next : Next) →
    ((powered : Powered) (kind : Kind) → kind ≡ IsSink powered → Does event bit kind (act powered)) →
    at_sink world line reading name act ≡ Ok next → Comes world line event bit next
comes_at world line reading event bit name act next does e =
    let a = sink_acts world line reading name act next e in
    Acts name a.node a.time (act a.powered) a.found (does a.powered a.node.kind a.is) a.next_is

comes_press : (world : World) (line reading : ℕ) (event : Event) (bit : Bool) (name command : List ℕ) (next : Next) → (HasOctets event → IsOctets command) → at_device world line reading name (device_presses command) ≡ Ok next → Comes world line event bit next
comes_press world line reading event bit name command next octets e =
    let a = device_acts world line reading name (device_presses command) next e in
    Acts name a.node a.time (device_presses command a.device) a.found (Presses a.device command octets a.is refl) a.next_is

-- ---- a node hears

comes_hear : (world : World) (line reading frame link : ℕ) (event : Event) (bit : Bool) (name : List ℕ) (next : Next) → event ≡ Line reading (actions.Hear frame name link) →
    hears world line reading frame name bit ≡ Ok next → Comes world line event bit next
unfolding hears
comes_hear world line reading frame link event bit name next asked e = go (named name world.nodes) refl e
  where
    of_frame : (node : Node) → named name world.nodes ≡ Some node → (o : Option (List ℕ)) → slice_get world.air frame ≡ o →
        ◌≡◌ {A = Result Next LineReason} (let_else o (Err Missing) (λ (octets : List ℕ). Ok (settled world line name (max node.time reading) (Some frame) (node_hears octets bit node.kind)))) (Ok next) → Comes world line event bit next
    of_frame node found None sent t = absurd (not_both next Missing t)
    of_frame node found (Some octets) sent t =
        Hears reading frame link name node octets asked found sent (is_ok next (settled world line name (max node.time reading) (Some frame) (node_hears octets bit node.kind)) t)

    go : (o : Option Node) → named name world.nodes ≡ o →
        ◌≡◌ {A = Result Next LineReason} (let_else o (Err Absent) (λ (node : Node). let_else (slice_get world.air frame) (Err Missing) (λ (octets : List ℕ). Ok (settled world line name (max node.time reading) (Some frame) (node_hears octets bit node.kind))))) (Ok next) →
        Comes world line event bit next
    go None found t = absurd (not_both next Absent t)
    go (Some node) found t = of_frame node found (slice_get world.air frame) refl t

-- ---- any line

comes_action : (world : World) (line reading : ℕ) (bit : Bool) (action : Action) (next : Next) → acted_on world line reading bit action ≡ Ok next → Comes world line (Line reading action) bit next
unfolding acted_on reaches
comes_action world line reading bit (actions.Sink name address ieee mode channel link shared) next e =
    comes_sink world line reading _ bit name (config_of address ieee mode channel link shared) next e
comes_action world line reading bit (actions.Device name source key kind level device counter) next e =
    comes_device world line reading _ bit name (record { source = source; key = key; kind = kind; level = level; device = device; counter = counter; sent = 0 }) next (λ h. h) e
comes_action world line reading bit (actions.Pair name source key kind level device counter) next e =
    let values : Sink → Values = λ sink. offered sink.config source key kind level device in
    comes_at world line reading _ bit name (at_running (pairs_with values counter) bit) next (λ powered node is. Pairs powered values counter is refl) e
comes_action world line reading bit (actions.Announce name source) next e =
    comes_at world line reading _ bit name (at_running (sink_announces source) bit) next (λ powered node is. Announces powered source is refl) e
comes_action world line reading bit (actions.Rule name source command endpoint form) next e =
    comes_at world line reading _ bit name (adds_rule (rule_of source command endpoint form)) next (λ powered node is. Rules powered (rule_of source command endpoint form) is refl) e
comes_action world line reading bit (actions.Table name) next e = comes_at world line reading _ bit name lists next (λ powered node is. Lists powered is refl) e
comes_action world line reading bit (actions.Cut name commit calls way) next e =
    comes_at world line reading _ bit name (arms (ToCut commit calls)) next (λ powered node is. Arms powered (ToCut commit calls) is refl) e
comes_action world line reading bit (actions.Fault name commit calls) next e =
    comes_at world line reading _ bit name (arms (ToFail commit calls)) next (λ powered node is. Arms powered (ToFail commit calls) is refl) e
comes_action world line reading bit (actions.On name) next e = comes_at world line reading _ bit name turns_on next (λ powered node is. TurnsOn powered is refl) e
comes_action world line reading bit (actions.OnCut name calls way) next e = comes_at world line reading _ bit name flickers next (λ powered node is. Flickers powered is refl) e
comes_action world line reading bit (actions.Off name) next e = comes_at world line reading _ bit name (turns_off bit) next (λ powered node is. TurnsOff powered is refl) e
comes_action world line reading bit (actions.Inject octets) next e = Injects octets (λ h. h) (is_ok next (injected world line octets) e)
comes_action world line reading bit (actions.Press name command) next e = comes_press world line reading _ bit name command next (λ h. h.octets) e
comes_action world line reading bit (actions.Hear frame name link) next e = comes_hear world line reading frame link _ bit name next refl e

pub comes : (world : World) (line : ℕ) (event : Event) (bit : Bool) (next : Next) → step world line event bit ≡ Ok next → Comes world line event bit next
unfolding step
comes world line Nothing bit next e = Stays (is_ok next (record { world = world; told = []; choice = Fixed }) e)
comes world line (Line reading action) bit next e = comes_action world line reading bit action next e
