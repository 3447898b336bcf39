-- What a node makes is settled in the network as in the ideal one.
use Rattle.std.proofs.Common.{◌≡◌, ℕ, ◌+◌, List, ◌++◌, Option, length, sym, ◌∙◌, ap, subst, slice_set, length-append}
use Rattle.std.proofs.lemmas.List.{length-map}
use Rattle.gp_cluster.specs.declared.message.Sent.{Sent}
use Rattle.gp_world.specs.World as ideal
use Rattle.gp_world.specs.World.{Message, named, settled, reports, entries, put_reports, air_reports, messages_of}
use Rattle.gp_net.specs.declared.net.Net.{Net}
use Rattle.gp_net.specs.declared.node.Node.{Node}
use Rattle.gp_net.specs.Nodes.{IsKindOf, AreNodesOf}
use Rattle.gp_net.specs.Net.{IsNetOf}
use Rattle.gp_net.proofs.Places.{Found}

-- The network after what an ideal node makes: its frames and messages came, and the node is another.
pub record Makes (old new : Net) (at : ℕ) (name : List ℕ) (node : Node) (puts : List Sent) (airs : List (List ℕ)) : Type 0 where
  pub air : new.air.items ≡ old.air.items ++ airs
  pub sent : new.sent ≡ old.sent + length puts
  pub nodes : new.nodes.items ≡ slice_set old.nodes.items at (name, node)

length-messages : (messages : List Message) (name : List ℕ) (origin : Option ℕ) (puts : List Sent) → length (messages ++ messages_of name origin puts) ≡ length messages + length puts
length-messages messages name origin puts = length-append messages (messages_of name origin puts) ∙ ap (λ (n : ℕ). length messages + n) (length-map puts _)

pub settles : (old new : Net) (model : ideal.World) (line : ℕ) (name : List ℕ) (time : ℕ) (origin : Option ℕ) (out : ideal.Out) (at : ℕ) (f : Found name old.nodes.items model.nodes at) (node : Node)
    → IsNetOf old model → IsKindOf node.kind out.node → node.time ≡ time → Makes old new at f.node.0 node out.puts out.airs → IsNetOf new (settled model line name time origin out).world
unfolding settled
settles old new model line name time origin out at f node net kind is m = record {
  air = m.air ∙ ap (λ (air : List (List ℕ)). air ++ out.airs) net.air;
  sent = m.sent ∙ ap (λ (n : ℕ). n + length out.puts) net.sent ∙ sym (length-messages model.messages name origin out.puts);
  nodes = subst (λ (ns : List (List ℕ × Node)). AreNodesOf ns (settled model line name time origin out).world.nodes) (sym m.nodes) (f.moves node _ (record { kind = kind; time = is }));
}
