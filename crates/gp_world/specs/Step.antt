-- One line of a script: the next world and what is reported, or why the line is refused.
use Rattle.std.specs.Prelude.{ℕ, max, Bool, ◌||◌, List, [], ◌∷◌, slice_get, codes, Option, Some, None, Result, Ok, Err}
use Rattle.std.specs.Option.{unwrap_or}
use Rattle.gp_base.specs.declared.identity.Key.{Key}
use Rattle.gp_base.specs.declared.identity.Mode.{Mode}
use Rattle.gp_base.specs.declared.identity.Mode.TheVariants as modes
use Rattle.gp_base.specs.Table.{by_table, let_else}
use Rattle.gp_translate.specs.Rules.{standard}
use Rattle.gp_script.specs.declared.reason.LineReason.{LineReason}
use Rattle.gp_script.specs.declared.reason.LineReason.TheVariants.{Taken, Many, Absent, Missing}
use Rattle.gp_script.specs.declared.script.Action.{Action}
use Rattle.gp_script.specs.declared.script.Action.TheVariants as actions
use Rattle.gp_script.specs.declared.script.Event.{Event}
use Rattle.gp_script.specs.declared.script.Event.TheVariants.{Nothing, Line}
use Rattle.gp_script.specs.declared.script.SinkMode.{SinkMode}
use Rattle.gp_script.specs.declared.script.SinkMode.TheVariants as asked
use Rattle.gp_ideal.specs.declared.config.Config.{Config}
use Rattle.gp_world.specs.Devices.{device_presses, device_hears}
use Rattle.gp_ideal.specs.Paired.{offered}
use Rattle.gp_world.specs.Power.{at_running, adds_rule, lists, arms, turns_off, turns_on, flickers}
use Rattle.gp_world.specs.Sinks.{sink_hears, sink_pairs, sink_announces, rule_of}
use Rattle.gp_world.specs.World.{World, Sink, Unarmed, ToCut, ToFail, Runs, Powered, Device, Kind, IsSink, IsDevice, Effect, Next, Out, Fixed, named, is_named, is_addressed, is_sink, is_device, are_many, as_sink, as_device, settled, joined, injected}

-- ---- a node comes

-- the mode that a script asks for, and its group
abbrev pub mode_of : SinkMode → Mode
mode_of asked.Derived = modes.Derived
mode_of asked.Unicast = modes.Unicast
mode_of (asked.Group address) = modes.Commissioned

abbrev pub group_of : SinkMode → ℕ
group_of asked.Derived = 0
group_of asked.Unicast = 0
group_of (asked.Group address) = address

-- the link key where none is named
abbrev pub default_link : Key
default_link = record { 0 = codes "ZigBeeAlliance09" }

abbrev pub config_of : ℕ → ℕ → SinkMode → ℕ → Option Key → Key → Config
config_of address ieee mode channel link shared = record {
  address = address;
  ieee = ieee;
  mode = mode_of mode;
  group = group_of mode;
  channel = channel;
  link = unwrap_or link default_link;
  shared = shared;
}

-- names are distinct over all nodes, addresses over those that have one, and there are at most 64 of a kind
abbrev pub sink_lines : World → List ℕ → ℕ → List (Bool × Result Next LineReason)
sink_lines world name address =
    (is_named name world.nodes || is_addressed address world.nodes, Err Taken)
    ∷ (are_many is_sink world.nodes, Err Many)
    ∷ []

abbrev pub device_lines : World → List ℕ → List (Bool × Result Next LineReason)
device_lines world name =
    (is_named name world.nodes, Err Taken)
    ∷ (are_many is_device world.nodes, Err Many)
    ∷ []

-- a sink that runs, with the standard rules, and that remembers nothing
abbrev pub new_sink : Config → Powered
new_sink config = record { sink = record { config = config; rules = standard; ledger = [] }; armed = Unarmed; phase = Runs }

unfoldable pub makes_sink : World → ℕ → List ℕ → Config → Result Next LineReason
makes_sink world reading name config =
    by_table (sink_lines world name config.address) (Ok (joined world name (record { kind = IsSink (new_sink config); time = reading })))

unfoldable pub makes_device : World → ℕ → List ℕ → Device → Result Next LineReason
makes_device world reading name device =
    by_table (device_lines world name) (Ok (joined world name (record { kind = IsDevice device; time = reading })))

-- ---- an event of a node

-- the sink, and the device, of this name takes part in an event, which came of a frame or of none
unfoldable pub at_sink : World → ℕ → ℕ → List ℕ → (Powered → Out) → Result Next LineReason
at_sink world line reading name event =
    let_else (named name world.nodes) (Err Absent) (λ node.
    let_else (as_sink node.kind) (Err Absent) (λ powered.
    Ok (settled world line name (max node.time reading) None (event powered))))

unfoldable pub at_device : World → ℕ → ℕ → List ℕ → (Device → Out) → Result Next LineReason
at_device world line reading name event =
    let_else (named name world.nodes) (Err Absent) (λ node.
    let_else (as_device node.kind) (Err Absent) (λ device.
    Ok (settled world line name (max node.time reading) None (event device))))

-- octets reach a node
abbrev pub node_hears : List ℕ → Bool → Kind → Out
node_hears octets bit (IsSink powered) = at_running (sink_hears octets) bit powered
node_hears octets bit (IsDevice device) = device_hears octets device

-- the frame of this number reaches a node of any kind
unfoldable pub hears : World → ℕ → ℕ → ℕ → List ℕ → Bool → Result Next LineReason
hears world line reading frame name bit =
    let_else (named name world.nodes) (Err Absent) (λ node.
    let_else (slice_get world.air frame) (Err Missing) (λ octets.
    Ok (settled world line name (max node.time reading) (Some frame) (node_hears octets bit node.kind))))

-- ---- the lines

-- the lines that reach a running sink alone
unfoldable pub reaches : World → ℕ → ℕ → Bool → List ℕ → (Sink → Effect) → Result Next LineReason
reaches world line reading bit name event = at_sink world line reading name (at_running event bit)

unfoldable pub acted_on : World → ℕ → ℕ → Bool → Action → Result Next LineReason
acted_on world line reading bit (actions.Sink name address ieee mode channel link shared) =
    makes_sink world reading name (config_of address ieee mode channel link shared)
acted_on world line reading bit (actions.Device name source key kind level device counter) =
    makes_device world reading name (record { source = source; key = key; kind = kind; level = level; device = device; counter = counter; sent = 0 })
acted_on world line reading bit (actions.Pair name source key kind level device counter) =
    reaches world line reading bit name (λ sink. sink_pairs (offered sink.config source key kind level device) counter sink)
acted_on world line reading bit (actions.Announce name source) = reaches world line reading bit name (sink_announces source)
acted_on world line reading bit (actions.Rule name source command endpoint form) = at_sink world line reading name (adds_rule (rule_of source command endpoint form))
acted_on world line reading bit (actions.Table name) = at_sink world line reading name lists
acted_on world line reading bit (actions.Press name command) = at_device world line reading name (device_presses command)
acted_on world line reading bit (actions.Inject octets) = Ok (injected world line octets)
acted_on world line reading bit (actions.Hear frame name link) = hears world line reading frame name bit
acted_on world line reading bit (actions.Cut name commit calls way) = at_sink world line reading name (arms (ToCut commit calls))
acted_on world line reading bit (actions.Fault name commit calls) = at_sink world line reading name (arms (ToFail commit calls))
acted_on world line reading bit (actions.On name) = at_sink world line reading name turns_on
acted_on world line reading bit (actions.OnCut name calls way) = at_sink world line reading name flickers
acted_on world line reading bit (actions.Off name) = at_sink world line reading name (turns_off bit)

-- An empty line and a comment do nothing. The bit says whether a change is remembered whose commit doesn't come to its end; where
-- there is none it says nothing.
unfoldable pub step : World → ℕ → Event → Bool → Result Next LineReason
step world line Nothing bit = Ok (record { world = world; told = []; choice = Fixed })
step world line (Line reading action) bit = acted_on world line reading bit action
