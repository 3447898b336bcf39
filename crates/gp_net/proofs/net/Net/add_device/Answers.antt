use Rattle.std.proofs.Common.{◌≡◌, List, ℕ, refl, sym, ap, ◌∙◌, ◌∷◌, [], ◌++◌}
use Rattle.std.specs.List.{count_by}
use Rattle.gp_net.specs.declared.node.Kind.TheVariants as kinds
use Rattle.gp_net.specs.declared.node.Node.{Node}
use Rattle.gp_net.specs.Inside.{is_a_device}
use Rattle.gp_net.proofs.Making.{device_taken, device_many, device_joins, joins, new_device_stands, ideal_device}
use Rattle.gp_net.proofs.net.Net.add_device.Goals as goal

pub returns-then-is_taken-clause-joins : goal.returns-then-is_taken-clause-joins
returns-then-is_taken-clause-joins c = λ model h.
    rw (device_taken c.args.self.now c.deref.result.now model c.args.reading c.args.name.now c.args.device c.deref.ensures.value h (sym c.is_taken.ensures ∙ c.if-is_taken.true)) refl

pub returns-then-devices_among-ge-MOST-clause-joins : goal.returns-then-devices_among-ge-MOST-clause-joins
returns-then-devices_among-ge-MOST-clause-joins c = λ model h.
    let count : c.devices_among.result ≡ count_by is_a_device c.args.self.now.nodes.items = c.devices_among.ensures ∙ ap (count_by is_a_device) c.deref-2.ensures.value in
    rw (device_many c.args.self.now c.deref.result.now model c.args.reading c.devices_among.result c.args.name.now c.args.device c.deref.ensures.value h (sym c.is_taken.ensures ∙ c.if-is_taken.false) count c.if-devices_among-ge-MOST.true) refl

pub returns-clause-joins : goal.returns-clause-joins
returns-clause-joins c = λ model h.
    let count : c.devices_among.result ≡ count_by is_a_device c.args.self.now.nodes.items = c.devices_among.ensures ∙ ap (count_by is_a_device) c.deref-2.ensures.value in
    let node : Node = record { kind = kinds.Device c.args.device; time = c.args.reading } in
    rw (device_joins c.args.self.now c.deref.result.now model c.args.reading c.devices_among.result c.args.name.now c.args.device c.deref.ensures.value h (sym c.is_taken.ensures ∙ c.if-is_taken.false) count c.if-devices_among-ge-MOST.false)
    (joins c.args.self.now _ model c.args.name.now node (ideal_device c.args.device c.args.reading) h (new_device_stands c.args.device c.args.reading node c.requires.first refl refl) refl refl
    (c.put_last.ensures.added ∙ ap (λ (name : List ℕ). c.args.self.now.nodes.items ++ (name, node) ∷ []) c.copy.ensures))
