-- The place of a name among nodes, and the ideal node of that name.
use Rattle.std.proofs.Common.{◌≡◌, ℕ, suc, ◌+◌, ◌<◌, Bool, length, arith, true, false, cond, List, [], ◌∷◌, Option, Some, None, refl, sym, subst, slice_get, slice_set}
use Rattle.std.specs.Prelude.{option_map}
use Rattle.std.specs.Str.{bytes_eq}
use Rattle.std.proofs.lemmas.Slice.Eq.{bytes_eq-Decides}
use Rattle.gp_world.specs.World as ideal
use Rattle.gp_world.specs.World.{named, replaced}
use Rattle.gp_net.specs.declared.node.Node.{Node}
use Rattle.gp_net.specs.Inside.{place}
use Rattle.gp_net.specs.Nodes.{IsNodeOf, AreNodesOf}

-- a node at a place, the ideal node of its name, and what stands for the ideal nodes once both are others
pub record Found (name : List ℕ) (nodes : List (List ℕ × Node)) (models : List (List ℕ × ideal.Node)) (at : ℕ) : Type 0 where
  pub node : List ℕ × Node
  pub there : slice_get nodes at ≡ Some node
  pub same : node.0 ≡ name
  pub model : ideal.Node
  pub is : named name models ≡ Some model
  pub stands : IsNodeOf node.1 model
  pub moves : (new : Node) (next : ideal.Node) → IsNodeOf new next → AreNodesOf (slice_set nodes at (node.0, new)) (replaced name next models)

found_here : (name : List ℕ) (n : List ℕ × Node) (ns : List (List ℕ × Node)) (m : List ℕ × ideal.Node) (ms : List (List ℕ × ideal.Node))
    → AreNodesOf (n ∷ ns) (m ∷ ms) → bytes_eq n.0 name ≡ true → Found name (n ∷ ns) (m ∷ ms) 0
found_here name n ns m ms h e =
    let same : n.0 ≡ name = (bytes_eq-Decides n.0 name).0 e in
    let other : bytes_eq m.0 name ≡ true = subst (λ (x : List ℕ). bytes_eq x name ≡ true) h.0 e in
    record {
      node = n;
      there = refl;
      same = same;
      model = m.1;
      is = rw other refl;
      stands = h.1;
      moves = λ new next s. rw other (same, s, h.2);
    }

found_behind : (name : List ℕ) (n : List ℕ × Node) (ns : List (List ℕ × Node)) (m : List ℕ × ideal.Node) (ms : List (List ℕ × ideal.Node)) (at : ℕ)
    → AreNodesOf (n ∷ ns) (m ∷ ms) → bytes_eq n.0 name ≡ false → Found name ns ms at → Found name (n ∷ ns) (m ∷ ms) (suc at)
found_behind name n ns m ms at h e f =
    let other : bytes_eq m.0 name ≡ false = subst (λ (x : List ℕ). bytes_eq x name ≡ false) h.0 e in
    record {
      node = f.node;
      there = f.there;
      same = f.same;
      model = f.model;
      is = rw other f.is;
      stands = f.stands;
      moves = λ new next s. rw other (h.0, h.1, f.moves new next s);
    }

-- a place behind a node
behind : (o : Option ℕ) (at : ℕ) → option_map suc o ≡ Some at → (k : ℕ) × (o ≡ Some k) × (suc k ≡ at)
behind None at e = absurd cc
behind (Some k) at e = (k, refl, cc)

none_behind : (o : Option ℕ) → option_map suc o ≡ None → o ≡ None
none_behind None e = refl
none_behind (Some k) e = absurd cc

pub found : (name : List ℕ) (nodes : List (List ℕ × Node)) (models : List (List ℕ × ideal.Node)) (at : ℕ) → AreNodesOf nodes models → place name nodes ≡ Some at → Found name nodes models at
found name [] models at h p = absurd cc
found name (n ∷ ns) [] at h p = absurd h
found name (n ∷ ns) (m ∷ ms) at h p = by (λ k e. found name ns ms k h.2 e) (bytes_eq n.0 name) refl p
  where
    by : ((k : ℕ) → place name ns ≡ Some k → Found name ns ms k) → (b : Bool) → bytes_eq n.0 name ≡ b → cond b (Some 0) (option_map suc (place name ns)) ≡ Some at → Found name (n ∷ ns) (m ∷ ms) at
    by rest true e p = let z : 0 ≡ at = cc in subst (λ (k : ℕ). Found name (n ∷ ns) (m ∷ ms) k) z (found_here name n ns m ms h e)
    by rest false e p =
        let b = behind (place name ns) at p in
        subst (λ (k : ℕ). Found name (n ∷ ns) (m ∷ ms) k) b.2 (found_behind name n ns m ms b.0 h e (rest b.0 b.1))

pub absent : (name : List ℕ) (nodes : List (List ℕ × Node)) (models : List (List ℕ × ideal.Node)) → AreNodesOf nodes models → place name nodes ≡ None → named name models ≡ None
absent name [] [] h p = refl
absent name [] (m ∷ ms) h p = absurd h
absent name (n ∷ ns) [] h p = absurd h
absent name (n ∷ ns) (m ∷ ms) h p = by (λ e. absent name ns ms h.2 e) (bytes_eq n.0 name) refl p
  where
    by : (place name ns ≡ None → named name ms ≡ None) → (b : Bool) → bytes_eq n.0 name ≡ b → cond b (Some 0) (option_map suc (place name ns)) ≡ None → named name (m ∷ ms) ≡ None
    by rest true e p = absurd cc
    by rest false e p =
        let other : bytes_eq m.0 name ≡ false = subst (λ (x : List ℕ). bytes_eq x name ≡ false) h.0 e in
        rw other (rest (none_behind (place name ns) p))

-- a place so many nodes further on
abbrev pub behind_by : ℕ → Option ℕ → Option ℕ
behind_by n None = None
behind_by n (Some k) = Some (n + k)

-- a place is below the length, and has a node
pub there : (name : List ℕ) (nodes : List (List ℕ × Node)) (at : ℕ) → place name nodes ≡ Some at → (at < length nodes) × ((node : List ℕ × Node) × (slice_get nodes at ≡ Some node))
there name [] at p = absurd cc
there name (n ∷ ns) at p = by (λ k e. there name ns k e) (bytes_eq n.0 name) refl p
  where
    by : ((k : ℕ) → place name ns ≡ Some k → (k < length ns) × ((node : List ℕ × Node) × (slice_get ns k ≡ Some node)))
        → (b : Bool) → bytes_eq n.0 name ≡ b → cond b (Some 0) (option_map suc (place name ns)) ≡ Some at
        → (at < length (n ∷ ns)) × ((node : List ℕ × Node) × (slice_get (n ∷ ns) at ≡ Some node))
    by rest true e p = let z : 0 ≡ at = cc in subst (λ (k : ℕ). (k < length (n ∷ ns)) × ((node : List ℕ × Node) × (slice_get (n ∷ ns) k ≡ Some node))) z (omega arith, (n, refl))
    by rest false e p =
        let b = behind (place name ns) at p in
        let r = rest b.0 b.1 in
        subst (λ (k : ℕ). (k < length (n ∷ ns)) × ((node : List ℕ × Node) × (slice_get (n ∷ ns) k ≡ Some node))) b.2 (omega (arith, r.0), r.1)

-- a node in the place of another stands for the ideal node in the place of that
pub replaced_stands : (name : List ℕ) (nodes : List (List ℕ × Node)) (models : List (List ℕ × ideal.Node)) (at : ℕ) (own : List ℕ) (node : Node) (model : ideal.Node) → AreNodesOf nodes models → place name nodes ≡ Some at
    → AreNodesOf (slice_set nodes at (own, node)) (replaced name model models) → IsNodeOf node model
replaced_stands name [] models at own node model h p k = absurd cc
replaced_stands name (n ∷ ns) [] at own node model h p k = absurd h
replaced_stands name (n ∷ ns) (m ∷ ms) at own node model h p k = by (λ i e. replaced_stands name ns ms i own node model h.2 e) (bytes_eq n.0 name) refl p
  where
    by : ((i : ℕ) → place name ns ≡ Some i → AreNodesOf (slice_set ns i (own, node)) (replaced name model ms) → IsNodeOf node model)
        → (b : Bool) → bytes_eq n.0 name ≡ b → cond b (Some 0) (option_map suc (place name ns)) ≡ Some at → IsNodeOf node model
    by rest true e p =
        let z : 0 ≡ at = cc in
        let other : bytes_eq m.0 name ≡ true = subst (λ (x : List ℕ). bytes_eq x name ≡ true) h.0 e in
        let here : AreNodesOf (slice_set (n ∷ ns) 0 (own, node)) (cond true ((name, model) ∷ ms) (m ∷ replaced name model ms)) =
        subst (λ (b : Bool). AreNodesOf (slice_set (n ∷ ns) 0 (own, node)) (cond b ((name, model) ∷ ms) (m ∷ replaced name model ms))) other
        (subst (λ (i : ℕ). AreNodesOf (slice_set (n ∷ ns) i (own, node)) (replaced name model (m ∷ ms))) (sym z) k) in
        here.1
    by rest false e p =
        let b = behind (place name ns) at p in
        let other : bytes_eq m.0 name ≡ false = subst (λ (x : List ℕ). bytes_eq x name ≡ false) h.0 e in
        let here : AreNodesOf (slice_set (n ∷ ns) (suc b.0) (own, node)) (cond false ((name, model) ∷ ms) (m ∷ replaced name model ms)) =
        subst (λ (c : Bool). AreNodesOf (slice_set (n ∷ ns) (suc b.0) (own, node)) (cond c ((name, model) ∷ ms) (m ∷ replaced name model ms))) other
        (subst (λ (i : ℕ). AreNodesOf (slice_set (n ∷ ns) i (own, node)) (replaced name model (m ∷ ms))) (sym b.2) k) in
        rest b.0 b.1 here.2
