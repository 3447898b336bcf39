use Rattle.std.proofs.Common.{subst}
use Rattle.gp_net.specs.declared.node.Kind.{Kind}
use Rattle.gp_net.specs.Nodes.{IsKindOf}
use Rattle.gp_net.proofs.Listing.{lists_make, dark_makes}
use Rattle.gp_net.proofs.node.Node.list.Goals as goal
use Rattle.gp_net.proofs.node.Node.list.Goals.{in-Some, in-None}

pub returns-clause-made : goal.returns-clause-made
returns-clause-made c = elim c.match-rows.branch [
  | in-Some w ↦ λ model h.
      rw (w.self-is, w.telling-is, c.in-Sink.is)
      (lists_make c.args.name.now c.in-Sink.powered w.in-Some.table.now c.args.telling.now w.list.new.self w.in-Some.ensures.shows w.list.ensures model (subst (λ (k : Kind). IsKindOf k model) c.in-Sink.is h))
  | in-None w ↦ λ model h.
      rw (w.self-is, w.telling-is, c.in-Sink.is)
      (dark_makes c.args.name.now c.in-Sink.powered c.args.telling.now w.say.new.self w.in-None.ensures.shows w.say.ensures model (subst (λ (k : Kind). IsKindOf k model) c.in-Sink.is h))
]
