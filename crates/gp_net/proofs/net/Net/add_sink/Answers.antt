use Rattle.std.proofs.Common.{◌≡◌, List, ℕ, refl, sym, ap, ◌∙◌, ◌∷◌, [], ◌++◌}
use Rattle.std.specs.List.{count_by}
use Rattle.gp_net.specs.declared.node.Kind.TheVariants as kinds
use Rattle.gp_net.specs.declared.node.Node.{Node}
use Rattle.gp_net.specs.Inside.{is_a_sink}
use Rattle.gp_net.proofs.Making.{sink_taken, sink_many, sink_joins, joins, new_sink_stands, ideal_sink, steady_joined}
use Rattle.gp_net.proofs.net.Net.add_sink.Goals as goal

pub returns-then-is_claimed-clause-joins : goal.returns-then-is_claimed-clause-joins
returns-then-is_claimed-clause-joins c = λ model h.
    rw (sink_taken c.args.self.now c.deref.result.now model c.args.reading c.args.name.now c.args.config c.deref.ensures.value h (sym c.is_claimed.ensures ∙ c.if-is_claimed.true)) refl

pub returns-then-sinks_among-ge-MOST-clause-joins : goal.returns-then-sinks_among-ge-MOST-clause-joins
returns-then-sinks_among-ge-MOST-clause-joins c = λ model h.
    let count : c.sinks_among.result ≡ count_by is_a_sink c.args.self.now.nodes.items = c.sinks_among.ensures ∙ ap (count_by is_a_sink) c.deref-2.ensures.value in
    rw (sink_many c.args.self.now c.deref.result.now model c.args.reading c.sinks_among.result c.args.name.now c.args.config c.deref.ensures.value h (sym c.is_claimed.ensures ∙ c.if-is_claimed.false) count c.if-sinks_among-ge-MOST.true) refl

pub returns-in_default-clause-joins : goal.returns-in_default-clause-joins
returns-in_default-clause-joins c = λ model h.
    let count : c.sinks_among.result ≡ count_by is_a_sink c.args.self.now.nodes.items = c.sinks_among.ensures ∙ ap (count_by is_a_sink) c.deref-2.ensures.value in
    rw (sink_joins c.args.self.now c.deref.result.now model c.args.reading c.sinks_among.result c.args.name.now c.args.config c.deref.ensures.value h (sym c.is_claimed.ensures ∙ c.if-is_claimed.false) count c.if-sinks_among-ge-MOST.false) tt

pub returns-clause-joins : goal.returns-clause-joins
returns-clause-joins c = λ model h.
    let count : c.sinks_among.result ≡ count_by is_a_sink c.args.self.now.nodes.items = c.sinks_among.ensures ∙ ap (count_by is_a_sink) c.deref-2.ensures.value in
    let node : Node = record { kind = kinds.Sink c.in-Ok.powered; time = c.args.reading } in
    rw (sink_joins c.args.self.now c.deref.result.now model c.args.reading c.sinks_among.result c.args.name.now c.args.config c.deref.ensures.value h (sym c.is_claimed.ensures ∙ c.if-is_claimed.false) count c.if-sinks_among-ge-MOST.false)
    (joins c.args.self.now _ model c.args.name.now node (ideal_sink c.args.config c.args.reading) h (new_sink_stands c.args.config c.in-Ok.powered c.args.reading node c.in-Ok.ensures.stands refl refl) refl refl
    (c.put_last.ensures.added ∙ ap (λ (name : List ℕ). c.args.self.now.nodes.items ++ (name, node) ∷ []) c.copy.ensures))

pub returns-clause-steady : goal.returns-clause-steady
returns-clause-steady c = λ line h.
    let node : Node = record { kind = kinds.Sink c.in-Ok.powered; time = c.args.reading } in
    steady_joined c.args.self.now _ line c.args.name.now node h refl (c.put_last.ensures.added ∙ ap (λ (name : List ℕ). c.args.self.now.nodes.items ++ (name, node) ∷ []) c.copy.ensures) c.in-Ok.ensures.few
