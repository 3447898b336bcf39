-- A network stays steady.
use Rattle.std.proofs.Common.{◌≡◌, ℕ, ◌+◌, ◌*◌, ◌<◌, ◌≤◌, ◌^◌, ◌-◌, List, Some, length, subst, slice_get, slice_set, arith}
use Rattle.std.proofs.lemmas.List.Elements.{All-set}
use Rattle.std.proofs.lemmas.Option.{get_or_from_slice_get, slice_get_within}
use Rattle.gp_cluster.specs.declared.message.Sent.{Sent}
use Rattle.gp_sink.specs.declared.verdict.Verdict.{Verdict}
use Rattle.gp_sink.specs.declared.verdict.Verdict.TheVariants.{Acted, Paired, Unpaired, Refused, Full, Dropped}
use Rattle.gp_sink.specs.Verdict.{verdict_of}
use Rattle.gp_world.specs.Sinks.{verdict_puts}
use Rattle.gp_power.specs.declared.power.Supply.{Supply}
use Rattle.gp_power.specs.declared.power.Supply.TheVariants.{On, Off, Moved}
use Rattle.gp_power.specs.Few.{IsSupplyBelow}
use Rattle.gp_net.specs.declared.net.Net.{Net}
use Rattle.gp_net.specs.declared.node.Kind.{Kind}
use Rattle.gp_net.specs.declared.node.Kind.TheVariants as kinds
use Rattle.gp_net.specs.declared.node.Node.{Node}
use Rattle.gp_net.specs.declared.reply.Reply.{Reply}
use Rattle.gp_net.specs.declared.reply.Reply.TheVariants as replies
use Rattle.gp_net.specs.Replies.{puts}
use Rattle.gp_net.specs.Steady.{IsSteadyNet, IsFewKind, AreFew}

-- a verdict has at most one message, and so has a reply
pub few_puts : (v : Verdict) → length (verdict_puts (verdict_of v)) ≤ 1
few_puts (Acted row source counter command acts) = omega arith
few_puts (Paired row source floor message) = omega arith
few_puts (Unpaired row source counter message) = omega arith
few_puts (Refused reason) = omega arith
few_puts Full = omega arith
few_puts (Dropped cause) = omega arith

pub few_replied : (reply : Reply) → length (puts reply) ≤ 1
few_replied (replies.Verdict verdict) = few_puts verdict
few_replied (replies.Put sent) = omega arith
few_replied (replies.Report report) = omega arith

-- ---- last generations

supply_more : (most more : ℕ) (supply : Supply) → most ≤ more → IsSupplyBelow most supply → IsSupplyBelow more supply
supply_more most more (On sink) l h = record { last = omega (arith, l, h.last); images = λ c last left is. let below = h.images c last left is in omega (arith, l, below) }
supply_more most more (Off rules disk) l h = λ c last left is. let below = h c last left is in omega (arith, l, below)
supply_more most more Moved l h = h

pub kind_more : (most more : ℕ) (kind : Kind) → most ≤ more → IsFewKind most kind → IsFewKind more kind
kind_more most more (kinds.Sink powered) l h = supply_more most more powered.supply l h
kind_more most more (kinds.Device device) l h = tt

pub nodes_more : (most more : ℕ) (nodes : List (List ℕ × Node)) → most ≤ more → AreFew most nodes → AreFew more nodes
nodes_more most more nodes l h = λ k d b. kind_more most more (Rattle.std.proofs.Common.get_or nodes k d).1.kind l (h k d b)

-- a node at a place
pub few_at : (most at : ℕ) (nodes : List (List ℕ × Node)) (was : List ℕ × Node) → AreFew most nodes → slice_get nodes at ≡ Some was → IsFewKind most was.1.kind
few_at most at nodes was h e = subst (λ (n : List ℕ × Node). IsFewKind most n.1.kind) (get_or_from_slice_get nodes at was was e) (h at was (slice_get_within nodes at was e))

-- there is room for another commit
pub has_room : (net : Net) (before line at : ℕ) (was : List ℕ × Node) → IsSteadyNet before net → before < line → line ≤ 1000000000 → slice_get net.nodes.items at ≡ Some was → IsFewKind (2 ^ 64 - 2) was.1.kind
has_room net before line at was h l few e = kind_more (2 * before) (2 ^ 64 - 2) was.1.kind (omega (arith, l, few)) (few_at (2 * before) at net.nodes.items was h.nodes e)

-- ---- a line

-- one that is refused
pub stays : (net : Net) (before line : ℕ) → IsSteadyNet before net → before < line → IsSteadyNet line net
stays net before line h l = record { sent = omega (arith, h.sent); nodes = nodes_more (2 * before) (2 * line) net.nodes.items (omega (arith, l)) h.nodes }

-- an event of the node at a place, which made at most one commit and sent at most one message
pub goes_on : (old new : Net) (before line at : ℕ) (name : List ℕ) (was : List ℕ × Node) (node : Node) (sent : List Sent)
    → IsSteadyNet before old → before < line → new.sent ≡ old.sent + length sent → length sent ≤ 1 → new.nodes.items ≡ slice_set old.nodes.items at (name, node)
    → slice_get old.nodes.items at ≡ Some was → ((most : ℕ) → IsFewKind most was.1.kind → IsFewKind (most + 2) node.kind) → IsSteadyNet line new
goes_on old new before line at name was node sent h l sends few nodes there more = record {
  sent = omega (arith, h.sent);
  nodes = subst (λ (ns : List (List ℕ × Node)). AreFew (2 * line) ns) (Rattle.std.proofs.Common.sym nodes)
      (All-set (λ (n : List ℕ × Node). IsFewKind (2 * line) n.1.kind) old.nodes.items at (name, node)
      (kind_more (2 * before + 2) (2 * line) node.kind (omega (arith, l)) (more (2 * before) (few_at (2 * before) at old.nodes.items was h.nodes there)))
      (nodes_more (2 * before) (2 * line) old.nodes.items (omega (arith, l)) h.nodes));
}

-- a node whose last generation hasn't grown is in its place
pub stays_few : (old new : Net) (line at : ℕ) (name : List ℕ) (was : List ℕ × Node) (node : Node) → new.sent ≡ old.sent → new.nodes.items ≡ slice_set old.nodes.items at (name, node)
    → slice_get old.nodes.items at ≡ Some was → ((most : ℕ) → IsFewKind most was.1.kind → IsFewKind most node.kind) → IsSteadyNet line old → IsSteadyNet line new
stays_few old new line at name was node sent nodes there same h = record {
  sent = omega (arith, sent, h.sent);
  nodes = subst (λ (ns : List (List ℕ × Node)). AreFew (2 * line) ns) (Rattle.std.proofs.Common.sym nodes)
      (All-set (λ (n : List ℕ × Node). IsFewKind (2 * line) n.1.kind) old.nodes.items at (name, node) (same (2 * line) (few_at (2 * line) at old.nodes.items was h.nodes there)) h.nodes);
}
