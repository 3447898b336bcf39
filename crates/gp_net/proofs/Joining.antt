-- A node joins the network as it joins the ideal one.
use Rattle.std.proofs.Common.{◌≡◌, ℕ, suc, ◌+◌, Bool, true, false, not, ◌||◌, ◌==◌, cond, List, [], ◌∷◌, ◌++◌, Option, Some, None, is_some, refl, sym, ◌∙◌, ap, subst}
use Rattle.std.specs.Prelude.{option_map}
use Rattle.std.specs.List.{count_by, list_any}
use Rattle.std.specs.Str.{bytes_eq}
use Rattle.std.proofs.lemmas.List.Sums.{sum_by-cons}
use Rattle.gp_ideal.specs.declared.config.Config.{Config}
use Rattle.gp_world.specs.World as ideal
use Rattle.gp_world.specs.World.{is_named, is_addressed, is_sink, is_device, has_address, IsSink, IsDevice}
use Rattle.gp_net.specs.declared.node.Kind.{Kind}
use Rattle.gp_net.specs.declared.node.Kind.TheVariants as kinds
use Rattle.gp_net.specs.declared.node.Node.{Node}
use Rattle.gp_net.specs.Inside.{place, is_a_sink, is_a_device, is_at, is_sink_kind, is_kind_at}
use Rattle.gp_net.specs.Nodes.{IsKindOf, IsNodeOf, AreNodesOf}

some_suc : (o : Option ℕ) → is_some (option_map suc o) ≡ is_some o
some_suc None = refl
some_suc (Some k) = refl

-- a name is taken in both
pub taken : (name : List ℕ) (nodes : List (List ℕ × Node)) (models : List (List ℕ × ideal.Node)) → AreNodesOf nodes models → is_named name models ≡ is_some (place name nodes)
taken name [] [] h = refl
taken name [] (m ∷ ms) h = absurd h
taken name (n ∷ ns) [] h = absurd h
taken name (n ∷ ns) (m ∷ ms) h = subst (λ (x : List ℕ). (bytes_eq x name || is_named name ms) ≡ is_some (cond (bytes_eq n.0 name) (Some 0) (option_map suc (place name ns)))) h.0 (by (bytes_eq n.0 name) (taken name ns ms h.2))
  where
    by : (b : Bool) → is_named name ms ≡ is_some (place name ns) → (b || is_named name ms) ≡ is_some (cond b (Some 0) (option_map suc (place name ns)))
    by true e = refl
    by false e = e ∙ sym (some_suc (place name ns))

sink_same : (kind : Kind) (model : ideal.Kind) → IsKindOf kind model → is_sink model ≡ is_sink_kind kind
sink_same (kinds.Sink s) (IsSink m) h = refl
sink_same (kinds.Sink s) (IsDevice m) h = absurd h
sink_same (kinds.Device d) (IsSink m) h = absurd h
sink_same (kinds.Device d) (IsDevice m) h = refl

device_same : (kind : Kind) (model : ideal.Kind) → IsKindOf kind model → is_device model ≡ not (is_sink_kind kind)
device_same (kinds.Sink s) (IsSink m) h = refl
device_same (kinds.Sink s) (IsDevice m) h = absurd h
device_same (kinds.Device d) (IsSink m) h = absurd h
device_same (kinds.Device d) (IsDevice m) h = refl

address_same : (address : ℕ) (kind : Kind) (model : ideal.Kind) → IsKindOf kind model → has_address address model ≡ is_kind_at address kind
address_same address (kinds.Sink s) (IsSink m) h = ap (λ (c : Config). c.address == address) (sym h.config)
address_same address (kinds.Sink s) (IsDevice m) h = absurd h
address_same address (kinds.Device d) (IsSink m) h = absurd h
address_same address (kinds.Device d) (IsDevice m) h = refl

pub addressed : (address : ℕ) (nodes : List (List ℕ × Node)) (models : List (List ℕ × ideal.Node)) → AreNodesOf nodes models → is_addressed address models ≡ list_any (is_at address) nodes
unfolding is_at
addressed address [] [] h = refl
addressed address [] (m ∷ ms) h = absurd h
addressed address (n ∷ ns) [] h = absurd h
addressed address (n ∷ ns) (m ∷ ms) h = rw (address_same address n.1.kind m.1.kind h.1.kind, addressed address ns ms h.2) refl

-- as many nodes pass two tests that agree
counted : (test : List ℕ × Node → Bool) (ideal_test : List ℕ × ideal.Node → Bool) → ((n : List ℕ × Node) (m : List ℕ × ideal.Node) → IsNodeOf n.1 m.1 → ideal_test m ≡ test n)
    → (nodes : List (List ℕ × Node)) (models : List (List ℕ × ideal.Node)) → AreNodesOf nodes models → count_by ideal_test models ≡ count_by test nodes
counted test ideal_test agree [] [] h = refl
counted test ideal_test agree [] (m ∷ ms) h = absurd h
counted test ideal_test agree (n ∷ ns) [] h = absurd h
counted test ideal_test agree (n ∷ ns) (m ∷ ms) h =
    sum_by-cons (λ x. cond (ideal_test x) 1 0) m ms
    ∙ ap (λ (k : ℕ). k + count_by ideal_test ms) (ap (λ (b : Bool). let k : ℕ = cond b 1 0 in k) (agree n m h.1))
    ∙ ap (λ (k : ℕ). (let j : ℕ = cond (test n) 1 0 in j) + k) (counted test ideal_test agree ns ms h.2)
    ∙ sym (sum_by-cons (λ x. cond (test x) 1 0) n ns)

pub sinks_counted : (nodes : List (List ℕ × Node)) (models : List (List ℕ × ideal.Node)) → AreNodesOf nodes models → count_by (λ m. is_sink m.1.kind) models ≡ count_by is_a_sink nodes
unfolding is_a_sink
sinks_counted nodes models h = counted is_a_sink (λ m. is_sink m.1.kind) (λ n m k. sink_same n.1.kind m.1.kind k.kind) nodes models h

pub devices_counted : (nodes : List (List ℕ × Node)) (models : List (List ℕ × ideal.Node)) → AreNodesOf nodes models → count_by (λ m. is_device m.1.kind) models ≡ count_by is_a_device nodes
unfolding is_a_device
devices_counted nodes models h = counted is_a_device (λ m. is_device m.1.kind) (λ n m k. device_same n.1.kind m.1.kind k.kind) nodes models h

-- a node behind the others
pub joined_nodes : (nodes : List (List ℕ × Node)) (models : List (List ℕ × ideal.Node)) (name : List ℕ) (node : Node) (model : ideal.Node) → AreNodesOf nodes models → IsNodeOf node model
    → AreNodesOf (nodes ++ (name, node) ∷ []) (models ++ (name, model) ∷ [])
joined_nodes [] [] name node model h k = (refl, k, tt)
joined_nodes [] (m ∷ ms) name node model h k = absurd h
joined_nodes (n ∷ ns) [] name node model h k = absurd h
joined_nodes (n ∷ ns) (m ∷ ms) name node model h k = (h.0, h.1, joined_nodes ns ms name node model h.2 k)
