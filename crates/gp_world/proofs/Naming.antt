-- Nodes by their names.
use Rattle.std.proofs.Common.{◌≡◌, inl, inr, ℕ, Bool, true, false, ◌||◌, cond, List, [], ◌∷◌, ◌++◌, Option, Some, None, refl, sym, ap, ◌∙◌}
use Rattle.std.specs.Str.{bytes_eq}
use Rattle.std.proofs.lemmas.Slice.Eq.{bytes_eq-Decides}
use Rattle.gp_world.specs.World.{Node, named, replaced, is_named}
use Rattle.gp_ideal.proofs.Pairs.{bool_cases, cond_true, cond_false}

pub same_name : (one other : List ℕ) → bytes_eq one other ≡ true → one ≡ other
same_name one other e = (bytes_eq-Decides one other).0 e

pub name_same : (name : List ℕ) → bytes_eq name name ≡ true
name_same name = (bytes_eq-Decides name name).1 refl

-- where one name is another, it is a third one exactly where that is
same_for : (one other name : List ℕ) → bytes_eq one other ≡ true → bytes_eq one name ≡ bytes_eq other name
same_for one other name e = ap (λ (x : List ℕ). bytes_eq x name) (same_name one other e)

-- a node that is there takes another's place
pub named-replaced : (name : List ℕ) (old new : Node) (nodes : List (List ℕ × Node)) → named name nodes ≡ Some old → named name (replaced name new nodes) ≡ Some new
named-replaced name old new [] e = absurd cc
named-replaced name old new (node ∷ nodes) e = elim (bool_cases (bytes_eq node.0 name)) [
  | inl is ↦ rw (cond_true (bytes_eq node.0 name) ((name, new) ∷ nodes) (node ∷ replaced name new nodes) is)
      (cond_true (bytes_eq name name) (Some new) (named name nodes) (name_same name))
  | inr isnt ↦ rw (cond_false (bytes_eq node.0 name) ((name, new) ∷ nodes) (node ∷ replaced name new nodes) isnt)
      (cond_false (bytes_eq node.0 name) (Some node.1) (named name (replaced name new nodes)) isnt
      ∙ named-replaced name old new nodes (sym (cond_false (bytes_eq node.0 name) (Some node.1) (named name nodes) isnt) ∙ e))
]

-- and the others stay
pub named-replaced_other : (name other : List ℕ) (new : Node) (nodes : List (List ℕ × Node)) → bytes_eq name other ≡ false → named other (replaced name new nodes) ≡ named other nodes
named-replaced_other name other new [] n = refl
named-replaced_other name other new (node ∷ nodes) n = elim (bool_cases (bytes_eq node.0 name)) [
  | inl is ↦ rw (cond_true (bytes_eq node.0 name) ((name, new) ∷ nodes) (node ∷ replaced name new nodes) is)
      (cond_false (bytes_eq name other) (Some new) (named other nodes) n
      ∙ sym (cond_false (bytes_eq node.0 other) (Some node.1) (named other nodes) (same_for node.0 name other is ∙ n)))
  | inr isnt ↦ rw (cond_false (bytes_eq node.0 name) ((name, new) ∷ nodes) (node ∷ replaced name new nodes) isnt)
      (ap (λ (o : Option Node). cond (bytes_eq node.0 other) (Some node.1) o) (named-replaced_other name other new nodes n))
]

-- a node that comes is found where its name is free, and the others stay
pub named-joined : (name : List ℕ) (new : Node) (nodes : List (List ℕ × Node)) → is_named name nodes ≡ false → named name (nodes ++ (name, new) ∷ []) ≡ Some new
named-joined name new [] free = cond_true (bytes_eq name name) (Some new) None (name_same name)
named-joined name new (node ∷ nodes) free =
    let parts = neither (bytes_eq node.0 name) (is_named name nodes) free in
    cond_false (bytes_eq node.0 name) (Some node.1) (named name (nodes ++ (name, new) ∷ [])) parts.0 ∙ named-joined name new nodes parts.1
  where
    neither : (a b : Bool) → a || b ≡ false → (a ≡ false) × (b ≡ false)
    neither false b e = (refl, e)
    neither true b e = absurd cc

pub named-joined_other : (name other : List ℕ) (new : Node) (nodes : List (List ℕ × Node)) → bytes_eq name other ≡ false → named other (nodes ++ (name, new) ∷ []) ≡ named other nodes
named-joined_other name other new [] n = cond_false (bytes_eq name other) (Some new) None n
named-joined_other name other new (node ∷ nodes) n = ap (λ (o : Option Node). cond (bytes_eq node.0 other) (Some node.1) o) (named-joined_other name other new nodes n)

-- no node has a free name
pub named-free : (name : List ℕ) (nodes : List (List ℕ × Node)) → is_named name nodes ≡ false → named name nodes ≡ None
named-free name [] free = refl
named-free name (node ∷ nodes) free =
    let parts = neither (bytes_eq node.0 name) (is_named name nodes) free in
    cond_false (bytes_eq node.0 name) (Some node.1) (named name nodes) parts.0 ∙ named-free name nodes parts.1
  where
    neither : (a b : Bool) → a || b ≡ false → (a ≡ false) × (b ≡ false)
    neither false b e = (refl, e)
    neither true b e = absurd cc
