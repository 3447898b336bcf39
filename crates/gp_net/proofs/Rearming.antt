-- Where memory wasn't found to switch a sink on, its arming alone may be another.
use Rattle.std.proofs.Common.{◌≡◌, ℕ, List, Some, inl, refl, sym, ◌∙◌, ap, subst, slice_get, slice_set}
use Rattle.gp_script.specs.declared.reason.LineReason.{LineReason}
use Rattle.gp_script.specs.declared.script.Action.{Action}
use Rattle.gp_script.specs.declared.script.Action.TheVariants as actions
use Rattle.gp_script.specs.declared.script.Event.{Event}
use Rattle.gp_script.specs.declared.script.Event.TheVariants.{Nothing, Line}
use Rattle.gp_world.specs.World as ideal
use Rattle.gp_net.specs.declared.fault.NetFault.{NetFault}
use Rattle.gp_net.specs.declared.fault.NetFault.TheVariants.{NoMemory, Bad}
use Rattle.gp_net.specs.declared.net.Net.{Net}
use Rattle.gp_net.specs.declared.node.Node.{Node}
use Rattle.gp_net.specs.declared.world.World.{World}
use Rattle.gp_net.specs.Inside.{MayRearm, place}
use Rattle.gp_net.specs.Made.{MayRearmKind}
use Rattle.gp_net.specs.Net.{IsNetOf, rearmed}
use Rattle.gp_net.specs.Nodes.{IsKindOf, AreNodesOf, armed_so}
use Rattle.gp_net.specs.World.{IsKept, IsSame}
use Rattle.gp_net.proofs.Places.{found}

pub rearms : (old new : Net) (name : List ℕ) (at : ℕ) (was : List ℕ × Node) (node : Node) → place name old.nodes.items ≡ Some at → slice_get old.nodes.items at ≡ Some was → MayRearmKind was.1.kind node.kind → node.time ≡ was.1.time
    → new.air.items ≡ old.air.items → new.sent ≡ old.sent → new.nodes.items ≡ slice_set old.nodes.items at (was.0, node) → MayRearm name old new
rearms old new name at was node p there may time air sent nodes model h =
    let f = found name old.nodes.items model.nodes at h.nodes p in
    let same : f.node ≡ was = cc (f.there, there) in
    let a = may f.model.kind (subst (λ (n : List ℕ × Node). IsKindOf n.1.kind f.model.kind) same f.stands.kind) in
    let next : ideal.Node = record f.model { kind = armed_so a.0 f.model.kind } in
    let timing : node.time ≡ f.model.time = time ∙ sym (ap (λ (n : List ℕ × Node). n.1.time) same) ∙ f.stands.time in
    let moved : AreNodesOf (slice_set old.nodes.items at (was.0, node)) (ideal.replaced name next model.nodes) =
    subst (λ (n : List ℕ × Node). AreNodesOf (slice_set old.nodes.items at (n.0, node)) (ideal.replaced name next model.nodes)) same (f.moves node next (record { kind = a.1; time = timing })) in
    (a.0, rw f.is (record { air = air ∙ h.air; sent = sent ∙ h.sent; nodes = subst (λ (ns : List (List ℕ × Node)). AreNodesOf ns (ideal.replaced name next model.nodes)) (sym nodes) moved }))

action-kept : (reading : ℕ) (action : Action) (fault : NetFault) (old new : World) → IsSame old new → IsKept (Line reading action) fault old new
action-kept reading (actions.On name) NoMemory old new s = inl s
action-kept reading (actions.On name) (Bad reason) old new s = s
action-kept reading (actions.OnCut name calls way) NoMemory old new s = inl s
action-kept reading (actions.OnCut name calls way) (Bad reason) old new s = s
action-kept reading (actions.Off name) fault old new s = s
action-kept reading (actions.Cut name commit calls way) fault old new s = s
action-kept reading (actions.Fault name commit calls) fault old new s = s
action-kept reading (actions.Sink name address ieee mode channel link shared) fault old new s = s
action-kept reading (actions.Device name source key kind level device counter) fault old new s = s
action-kept reading (actions.Pair sink source key kind level device counter) fault old new s = s
action-kept reading (actions.Rule sink source command endpoint form) fault old new s = s
action-kept reading (actions.Announce sink source) fault old new s = s
action-kept reading (actions.Table sink) fault old new s = s
action-kept reading (actions.Press device command) fault old new s = s
action-kept reading (actions.Inject octets) fault old new s = s
action-kept reading (actions.Hear frame node link) fault old new s = s

-- a world that is as it was is kept
pub same-kept : (event : Event) (fault : NetFault) (old new : World) → IsSame old new → IsKept event fault old new
same-kept Nothing fault old new s = s
same-kept (Line reading action) fault old new s = action-kept reading action fault old new s

-- behind a line that is refused a world is as it was
action-same : (reading : ℕ) (action : Action) (reason : LineReason) (old new : World) → IsKept (Line reading action) (Bad reason) old new → IsSame old new
action-same reading (actions.On name) reason old new s = s
action-same reading (actions.OnCut name calls way) reason old new s = s
action-same reading (actions.Off name) reason old new s = s
action-same reading (actions.Cut name commit calls way) reason old new s = s
action-same reading (actions.Fault name commit calls) reason old new s = s
action-same reading (actions.Sink name address ieee mode channel link shared) reason old new s = s
action-same reading (actions.Device name source key kind level device counter) reason old new s = s
action-same reading (actions.Pair sink source key kind level device counter) reason old new s = s
action-same reading (actions.Rule sink source command endpoint form) reason old new s = s
action-same reading (actions.Announce sink source) reason old new s = s
action-same reading (actions.Table sink) reason old new s = s
action-same reading (actions.Press device command) reason old new s = s
action-same reading (actions.Inject octets) reason old new s = s
action-same reading (actions.Hear frame node link) reason old new s = s

pub bad_kept : (event : Event) (reason : LineReason) (old new : World) → IsKept event (Bad reason) old new → IsSame old new
bad_kept Nothing reason old new s = s
bad_kept (Line reading action) reason old new s = action-same reading action reason old new s
