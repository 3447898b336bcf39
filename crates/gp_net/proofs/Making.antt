-- A sink and a device come as they come in the ideal network.
use Rattle.std.proofs.Common.{◌≡◌, ℕ, ◌*◌, ◌<◌, ◌≤◌, ◌||◌, Bool, true, false, cond, List, [], ◌∷◌, ◌++◌, None, Result, Ok, Err, is_some, refl, sym, ◌∙◌, ap, subst, arith, append-nil}
use Rattle.std.specs.Prelude.{nat_le}
use Rattle.std.specs.List.{count_by, list_any}
use Rattle.std.proofs.lemmas.List.Elements.{All-push}
use Rattle.std.proofs.lemmas.Bool.{le-leb, lt-leb}
use Rattle.gp_script.specs.declared.report.Entry.{Entry}
use Rattle.gp_script.specs.declared.reason.LineReason.{LineReason}
use Rattle.gp_script.specs.declared.reason.LineReason.TheVariants.{Taken, Many}
use Rattle.gp_ideal.specs.declared.config.Config.{Config}
use Rattle.gp_world.specs.Run.{IsRight}
use Rattle.gp_world.specs.Step.{makes_sink, makes_device, new_sink}
use Rattle.gp_world.specs.World as ideal
use Rattle.gp_world.specs.World.{IsSink, IsDevice, joined}
use Rattle.gp_power.specs.declared.power.Powered.{Powered}
use Rattle.gp_power.specs.Stands.{StandsFor}
use Rattle.gp_net.specs.declared.device.Device.{Device}
use Rattle.gp_net.specs.declared.fault.NetFault.{NetFault}
use Rattle.gp_net.specs.declared.fault.NetFault.TheVariants.{NoMemory, Bad}
use Rattle.gp_net.specs.declared.net.Net.{Net}
use Rattle.gp_net.specs.declared.node.Kind.{Kind}
use Rattle.gp_net.specs.declared.node.Kind.TheVariants as kinds
use Rattle.gp_net.specs.declared.node.Node.{Node}
use Rattle.gp_net.specs.Devices.{ideal_of}
use Rattle.gp_telling.specs.declared.telling.Telling.{Telling}
use Rattle.gp_net.specs.Inside.{ComesOf, Joins, Went, place, is_a_sink, is_a_device, is_at}
use Rattle.gp_net.specs.Made.{bit_told}
use Rattle.gp_net.specs.Steady.{IsSteadyNet, IsFewKind, AreFew}
use Rattle.gp_net.specs.Net.{IsNetOf}
use Rattle.gp_net.specs.Nodes.{IsKindOf, IsNodeOf, AreNodesOf}
use Rattle.gp_net.proofs.Keeping.{kind_more}
use Rattle.gp_net.proofs.Joining.{taken, addressed, sinks_counted, devices_counted, joined_nodes}

-- ---- the tables of reasons, by the nodes of the network

-- the ideal sink of a configuration, and the ideal device
abbrev pub ideal_sink : Config → ℕ → ideal.Node
ideal_sink config reading = record { kind = IsSink (new_sink config); time = reading }

abbrev pub ideal_device : Device → ℕ → ideal.Node
ideal_device device reading = record { kind = IsDevice (ideal_of device); time = reading }

-- taken, many, or else a node joins
abbrev pub by_tests : Bool → ℕ → ideal.World → List ℕ → ideal.Node → Result ideal.Next LineReason
by_tests is_taken count model name node = cond is_taken (Err Taken) (cond (nat_le 64 count) (Err Many) (Ok (joined model name node)))

pub sink_by_tests : (net : Net) (model : ideal.World) (reading : ℕ) (name : List ℕ) (config : Config) → IsNetOf net model
    → makes_sink model reading name config ≡ by_tests (is_some (place name net.nodes.items) || list_any (is_at config.address) net.nodes.items) (count_by is_a_sink net.nodes.items) model name (ideal_sink config reading)
unfolding makes_sink
sink_by_tests net model reading name config h =
    rw (taken name net.nodes.items model.nodes h.nodes, addressed config.address net.nodes.items model.nodes h.nodes, sinks_counted net.nodes.items model.nodes h.nodes) refl

pub device_by_tests : (net : Net) (model : ideal.World) (reading : ℕ) (name : List ℕ) (device : Device) → IsNetOf net model
    → makes_device model reading name (ideal_of device) ≡ by_tests (is_some (place name net.nodes.items)) (count_by is_a_device net.nodes.items) model name (ideal_device device reading)
unfolding makes_device
device_by_tests net model reading name device h = rw (taken name net.nodes.items model.nodes h.nodes, devices_counted net.nodes.items model.nodes h.nodes) refl

-- ---- a node joins

pub joins : (old new : Net) (model : ideal.World) (name : List ℕ) (node : Node) (other : ideal.Node) → IsNetOf old model → IsNodeOf node other
    → new.air.items ≡ old.air.items → new.sent ≡ old.sent → new.nodes.items ≡ old.nodes.items ++ (name, node) ∷ []
    → Joins (Ok (joined model name other)) new (Ok tt)
unfolding joined
joins old new model name node other h k air sent nodes = (
  record {
    air = air ∙ h.air;
    sent = sent ∙ h.sent;
    nodes = subst (λ (ns : List (List ℕ × Node)). AreNodesOf ns (model.nodes ++ (name, other) ∷ [])) (sym nodes) (joined_nodes old.nodes.items model.nodes name node other h.nodes k);
  },
  refl,
  refl,
)

pub new_sink_stands : (config : Config) (powered : Powered) (reading : ℕ) (node : Node) → StandsFor powered (new_sink config) → node.kind ≡ kinds.Sink powered → node.time ≡ reading → IsNodeOf node (ideal_sink config reading)
new_sink_stands config powered reading node h e t = record {
  kind = subst (λ (kind : Kind). IsKindOf kind (ideal_sink config reading).kind) (sym e) h;
  time = t;
}

pub new_device_stands : (device : Device) (reading : ℕ) (node : Node) → device.sequence ≡ 0 → node.kind ≡ kinds.Device device → node.time ≡ reading → IsNodeOf node (ideal_device device reading)
new_device_stands device reading node z e t = record {
  kind = subst (λ (kind : Kind). IsKindOf kind (ideal_device device reading).kind) (sym e) (record { fields = refl; sequence = omega (arith, z) });
  time = t;
}

-- ---- the network stays steady

pub steady_joined : (old new : Net) (line : ℕ) (name : List ℕ) (node : Node) → IsSteadyNet line old → new.sent ≡ old.sent → new.nodes.items ≡ old.nodes.items ++ (name, node) ∷ []
    → IsFewKind 0 node.kind → IsSteadyNet line new
steady_joined old new line name node h sent nodes few = record {
  sent = omega (arith, sent, h.sent);
  nodes = subst (λ (ns : List (List ℕ × Node)). AreFew (2 * line) ns) (sym nodes)
      (All-push (λ (n : List ℕ × Node). IsFewKind (2 * line) n.1.kind) old.nodes.items (name, node) h.nodes (kind_more 0 (2 * line) node.kind (omega arith) few));
}

-- ---- as the calls of a network need it

taken_first : (is_taken : Bool) (count : ℕ) (model : ideal.World) (name : List ℕ) (node : ideal.Node) → is_taken ≡ true → by_tests is_taken count model name node ≡ Err Taken
taken_first is_taken count model name node t = rw t refl

many_then : (is_taken : Bool) (count : ℕ) (model : ideal.World) (name : List ℕ) (node : ideal.Node) → is_taken ≡ false → 64 ≤ count → by_tests is_taken count model name node ≡ Err Many
many_then is_taken count model name node t m = let many : nat_le 64 count ≡ true = le-leb 64 count m in rw (t, many) refl

else_joins : (is_taken : Bool) (count : ℕ) (model : ideal.World) (name : List ℕ) (node : ideal.Node) → is_taken ≡ false → count < 64 → by_tests is_taken count model name node ≡ Ok (joined model name node)
else_joins is_taken count model name node t m = let few : nat_le 64 count ≡ false = lt-leb 64 count m in rw (t, few) refl

-- the tests of a sink, over the nodes of the network
pub sink_taken : (net : Net) (nodes : List (List ℕ × Node)) (model : ideal.World) (reading : ℕ) (name : List ℕ) (config : Config) → nodes ≡ net.nodes.items → IsNetOf net model
    → (is_some (place name nodes) || list_any (is_at config.address) nodes) ≡ true → makes_sink model reading name config ≡ Err Taken
sink_taken net nodes model reading name config e h t =
    sink_by_tests net model reading name config h
    ∙ taken_first _ _ model name (ideal_sink config reading) (subst (λ (ns : List (List ℕ × Node)). (is_some (place name ns) || list_any (is_at config.address) ns) ≡ true) e t)

pub sink_many : (net : Net) (nodes : List (List ℕ × Node)) (model : ideal.World) (reading count : ℕ) (name : List ℕ) (config : Config) → nodes ≡ net.nodes.items → IsNetOf net model
    → (is_some (place name nodes) || list_any (is_at config.address) nodes) ≡ false → count ≡ count_by is_a_sink net.nodes.items → 64 ≤ count → makes_sink model reading name config ≡ Err Many
sink_many net nodes model reading count name config e h t n m =
    sink_by_tests net model reading name config h
    ∙ many_then _ _ model name (ideal_sink config reading) (subst (λ (ns : List (List ℕ × Node)). (is_some (place name ns) || list_any (is_at config.address) ns) ≡ false) e t) (subst (λ (k : ℕ). 64 ≤ k) n m)

pub sink_joins : (net : Net) (nodes : List (List ℕ × Node)) (model : ideal.World) (reading count : ℕ) (name : List ℕ) (config : Config) → nodes ≡ net.nodes.items → IsNetOf net model
    → (is_some (place name nodes) || list_any (is_at config.address) nodes) ≡ false → count ≡ count_by is_a_sink net.nodes.items → count < 64 → makes_sink model reading name config ≡ Ok (joined model name (ideal_sink config reading))
sink_joins net nodes model reading count name config e h t n m =
    sink_by_tests net model reading name config h
    ∙ else_joins _ _ model name (ideal_sink config reading) (subst (λ (ns : List (List ℕ × Node)). (is_some (place name ns) || list_any (is_at config.address) ns) ≡ false) e t) (subst (λ (k : ℕ). k < 64) n m)

-- and of a device
pub device_taken : (net : Net) (nodes : List (List ℕ × Node)) (model : ideal.World) (reading : ℕ) (name : List ℕ) (device : Device) → nodes ≡ net.nodes.items → IsNetOf net model
    → is_some (place name nodes) ≡ true → makes_device model reading name (ideal_of device) ≡ Err Taken
device_taken net nodes model reading name device e h t =
    device_by_tests net model reading name device h
    ∙ taken_first _ _ model name (ideal_device device reading) (subst (λ (ns : List (List ℕ × Node)). is_some (place name ns) ≡ true) e t)

pub device_many : (net : Net) (nodes : List (List ℕ × Node)) (model : ideal.World) (reading count : ℕ) (name : List ℕ) (device : Device) → nodes ≡ net.nodes.items → IsNetOf net model
    → is_some (place name nodes) ≡ false → count ≡ count_by is_a_device net.nodes.items → 64 ≤ count → makes_device model reading name (ideal_of device) ≡ Err Many
device_many net nodes model reading count name device e h t n m =
    device_by_tests net model reading name device h
    ∙ many_then _ _ model name (ideal_device device reading) (subst (λ (ns : List (List ℕ × Node)). is_some (place name ns) ≡ false) e t) (subst (λ (k : ℕ). 64 ≤ k) n m)

pub device_joins : (net : Net) (nodes : List (List ℕ × Node)) (model : ideal.World) (reading count : ℕ) (name : List ℕ) (device : Device) → nodes ≡ net.nodes.items → IsNetOf net model
    → is_some (place name nodes) ≡ false → count ≡ count_by is_a_device net.nodes.items → count < 64 → makes_device model reading name (ideal_of device) ≡ Ok (joined model name (ideal_device device reading))
device_joins net nodes model reading count name device e h t n m =
    device_by_tests net model reading name device h
    ∙ else_joins _ _ model name (ideal_device device reading) (subst (λ (ns : List (List ℕ × Node)). is_some (place name ns) ≡ false) e t) (subst (λ (k : ℕ). k < 64) n m)

-- a line by which a node joins tells nothing, and takes no bit
pub joins_went : (next : Result ideal.Next LineReason) (net : Net) (telling : Telling) → Joins next net (Ok tt) → Went (λ bit. next) net telling telling None
joins_went (Ok next) net telling h = record {
  bit = false;
  next = next;
  steps = refl;
  takes = sym (ap (λ (c : ideal.Choice). bit_told c false) h.2);
  right = subst (λ (c : ideal.Choice). IsRight c false) (sym h.2) tt;
  exact = λ some other is stands. absurd cc;
  stands = h.0;
  told = record { line = refl; entries = sym (append-nil telling.entries.items) ∙ ap (λ (told : List Entry). telling.entries.items ++ told) (sym h.1) };
}
joins_went (Err reason) net telling h = absurd h

pub joins_comes : (next : Result ideal.Next LineReason) (net : Net) (telling : Telling) (fault : NetFault) → Joins next net (Err fault) → ComesOf (λ bit. next) net telling telling (Err fault)
joins_comes (Ok next) net telling NoMemory h = tt
joins_comes (Ok next) net telling (Bad reason) h = absurd h
joins_comes (Err reason) net telling NoMemory h = tt
joins_comes (Err reason) net telling (Bad other) h = λ bit. ap Err (sym h)
