-- The network: what is on the air, the messages, and the nodes. Nothing is ever lost of it: a line of a script says which
-- frame reaches which node, and when.
use Rattle.std.specs.Prelude.{ℕ, suc, Bool, true, false, ◌==◌, nat_le, if◌then◌else◌, List, [], ◌∷◌, ◌++◌, map, length, Option, Some, None}
use Rattle.std.specs.List.{list_any, count_by}
use Rattle.std.specs.Str.{bytes_eq}
use Rattle.gp_base.specs.declared.identity.Key.{Key}
use Rattle.gp_base.specs.declared.identity.KeyKind.{KeyKind}
use Rattle.gp_base.specs.declared.identity.Level.{Level}
use Rattle.gp_base.specs.declared.identity.Src.{Src}
use Rattle.gp_cluster.specs.declared.message.Sent.{Sent}
use Rattle.gp_translate.specs.declared.rule.Rule.{Rule}
use Rattle.gp_script.specs.declared.report.Entry.{Entry}
use Rattle.gp_script.specs.declared.report.Report.{Report}
use Rattle.gp_script.specs.declared.report.Report.TheVariants.{Put, Air}
use Rattle.gp_ideal.specs.declared.config.Config.{Config}
use Rattle.gp_ideal.specs.declared.ledger.Change.{Change}
use Rattle.gp_ideal.specs.Messages.{octets_of, dest_word}

-- ---- nodes

-- a sink: how it is set up, its rules, and what it remembers
pub record Sink : Type 0 where
  pub config : Config
  pub rules : List Rule
  pub ledger : List Change

-- a device: its SrcID, key and DeviceID, the counter of its last secured frame, and how many frames it has sent
pub record Device : Type 0 where
  pub source : Src
  pub key : Key
  pub kind : KeyKind
  pub level : Level
  pub device : ℕ
  pub counter : ℕ
  pub sent : ℕ

-- What is to befall a sink: nothing; or, in the commit of this number from now on, of which the next is 1, once so many of its
-- device calls have returned, its power is cut, or its disk fails.
pub data Armed : Type 0 where
  Unarmed : Armed
  ToCut : (commit calls : ℕ) → Armed
  ToFail : (commit calls : ℕ) → Armed

-- A sink runs; it has no power; or its disk has failed in the commit of this change, which it remembers or doesn't: that is
-- settled when its power goes.
pub data Phase : Type 0 where
  Runs : Phase
  Dark : Phase
  Halted : Change → Phase

-- a sink with its power
pub record Powered : Type 0 where
  pub sink : Sink
  pub armed : Armed
  pub phase : Phase

pub data Kind : Type 0 where
  IsSink : Powered → Kind
  IsDevice : Device → Kind

-- a node: what it is, and the greatest reading of the clock that it has had
pub record Node : Type 0 where
  pub kind : Kind
  pub time : ℕ

-- ---- the world

-- a message: the node that sent it, where it goes and what it says, and the number of the frame that it came of, where it
-- came of one
pub record Message : Type 0 where
  pub sender : List ℕ
  pub sent : Sent
  pub origin : Option ℕ

-- frames and messages are numbered from 0 in the order in which they were sent; nodes have their names
pub record World : Type 0 where
  pub air : List (List ℕ)
  pub messages : List Message
  pub nodes : List (List ℕ × Node)

-- nothing was sent, and there is no node
unfoldable pub empty : World
empty = record { air = []; messages = []; nodes = [] }

-- the first node of this name
abbrev pub named : List ℕ → List (List ℕ × Node) → Option Node
named name [] = None
named name (node ∷ nodes) = if bytes_eq node.0 name then Some node.1 else named name nodes

-- the nodes with another one in its place
abbrev pub replaced : List ℕ → Node → List (List ℕ × Node) → List (List ℕ × Node)
replaced name new [] = []
replaced name new (node ∷ nodes) = if bytes_eq node.0 name then (name, new) ∷ nodes else node ∷ replaced name new nodes

-- ---- what an event makes

-- the effect of an event on a running sink: the sink afterwards, the change that it has remembered, what it reports, and the
-- messages that it sends
pub record Effect : Type 0 where
  pub sink : Sink
  pub change : Option Change
  pub says : List Report
  pub puts : List Sent

-- an effect that is a report alone
abbrev pub told : Sink → List Report → Effect
told sink says = record { sink = sink; change = None; says = says; puts = [] }

-- Whether what an event makes is settled by the line, or one more bit says whether a change is remembered: freely, or it always is.
pub data Choice : Type 0 where
  Fixed : Choice
  Free : Choice
  Made : Choice

-- what an event makes of a node: the node afterwards, what it reports, the messages and the frames that it sends, and
-- whether anything was free
pub record Out : Type 0 where
  pub node : Kind
  pub says : List Report
  pub puts : List Sent
  pub airs : List (List ℕ)
  pub choice : Choice

-- the node afterwards, and what it reports; nothing is sent
abbrev pub out : Kind → List Report → Out
out node says = record { node = node; says = says; puts = []; airs = []; choice = Fixed }

-- the messages are numbered from this one on
abbrev pub put_reports : ℕ → List Sent → List Report
put_reports number [] = []
put_reports number (sent ∷ others) = Put number (dest_word sent.to) (octets_of number sent) ∷ put_reports (suc number) others

-- the frames are numbered from this one on
abbrev pub air_reports : ℕ → List (List ℕ) → List Report
air_reports number [] = []
air_reports number (octets ∷ others) = Air number octets ∷ air_reports (suc number) others

-- what is reported of a node in one line of the script
abbrev pub entries : ℕ → Option (List ℕ) → List Report → List Entry
entries line name reports = map (λ report. record { line = line; node = name; report = report }) reports

-- all that is reported: what the node did, then the messages and the frames that it sent
abbrev pub reports : World → Out → List Report
reports world made = made.says ++ (put_reports (length world.messages) made.puts ++ air_reports (length world.air) made.airs)

-- messages of a sender, which came of a frame or of none
abbrev pub messages_of : List ℕ → Option ℕ → List Sent → List Message
messages_of name origin puts = map (λ sent. record { sender = name; sent = sent; origin = origin }) puts

-- the next world, what is reported, and whether anything was free
pub record Next : Type 0 where
  pub world : World
  pub told : List Entry
  pub choice : Choice

-- what comes of what an event makes of the node of this name, which has this time from then on
unfoldable pub settled : World → ℕ → List ℕ → ℕ → Option ℕ → Out → Next
settled world line name time origin made = record {
  world = record {
    air = world.air ++ made.airs;
    messages = world.messages ++ messages_of name origin made.puts;
    nodes = replaced name (record { kind = made.node; time = time }) world.nodes;
  };
  told = entries line (Some name) (reports world made);
  choice = made.choice;
}

-- a node comes, behind all others
unfoldable pub joined : World → List ℕ → Node → Next
joined world name node = record { world = record world { nodes = world.nodes ++ (name, node) ∷ [] }; told = []; choice = Fixed }

-- octets come on the air that no node sent
unfoldable pub injected : World → ℕ → List ℕ → Next
injected world line octets = record {
  world = record world { air = world.air ++ octets ∷ [] };
  told = entries line None (air_reports (length world.air) (octets ∷ []));
  choice = Fixed;
}

-- ---- which nodes there are

-- a name is taken by a node
abbrev pub is_named : List ℕ → List (List ℕ × Node) → Bool
is_named name nodes = list_any (λ node. bytes_eq node.0 name) nodes

-- the address of a node that has one
abbrev pub has_address : ℕ → Kind → Bool
has_address address (IsSink powered) = powered.sink.config.address == address
has_address address (IsDevice device) = false

abbrev pub is_addressed : ℕ → List (List ℕ × Node) → Bool
is_addressed address nodes = list_any (λ node. has_address address node.1.kind) nodes

abbrev pub is_sink : Kind → Bool
is_sink (IsSink powered) = true
is_sink (IsDevice device) = false

abbrev pub is_device : Kind → Bool
is_device (IsSink powered) = false
is_device (IsDevice device) = true

-- as many nodes of a kind as there may be
abbrev pub are_many : (Kind → Bool) → List (List ℕ × Node) → Bool
are_many test nodes = nat_le 64 (count_by (λ node. test node.1.kind) nodes)

-- the sink, and the device, of a name
abbrev pub as_sink : Kind → Option Powered
as_sink (IsSink powered) = Some powered
as_sink (IsDevice device) = None

abbrev pub as_device : Kind → Option Device
as_device (IsSink powered) = None
as_device (IsDevice device) = Some device
