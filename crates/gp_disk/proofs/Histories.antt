-- A history that goes on.
use Rattle.std.proofs.Common.{◌≡◌, ℕ, zero, suc, ◌≤◌, ◌⊎◌, List, [], ◌∷◌, ◌++◌, length, refl, sym, subst, inl, inr, ⊎_elim, arith}
use Rattle.gp_disk.specs.Disk.{put, Outside}
use Rattle.gp_disk.specs.History.{Range, Done, Wrote, Synced, Held, happen, after_all, Replaced, MayLeave, LeftSince}
use Rattle.gp_disk.specs.Traced.{AllTraced}

pub after_all-append : (held : Held) (xs ys : List Done) → after_all held (xs ++ ys) ≡ after_all (after_all held xs) ys
unfolding after_all
after_all-append held [] ys = refl
after_all-append held (x ∷ xs) ys = after_all-append (happen held x) xs ys

-- where all has happened before, it is the only one
pub LeftSince-begun : (count : ℕ) (held : Held) (xs : List Done) (c : List ℕ) → length xs ≤ count → LeftSince count held xs c → MayLeave (after_all held xs) c
unfolding after_all LeftSince
LeftSince-begun count held [] c enough left = left
LeftSince-begun zero held (x ∷ xs) c enough left = absurd (omega arith)
LeftSince-begun (suc count) held (x ∷ xs) c enough left = LeftSince-begun count (happen held x) xs c (omega arith) left

pub LeftSince-kept : (count : ℕ) (held : Held) (xs : List Done) (x : Done) (c : List ℕ) → count ≤ length xs → LeftSince count held xs c → LeftSince count held (xs ++ x ∷ []) c
unfolding LeftSince
LeftSince-kept zero held [] x c enough left = inl left
LeftSince-kept (suc count) held [] x c enough left = absurd (omega arith)
LeftSince-kept zero held (y ∷ ys) x c enough left = ⊎_elim (λ now. inl now) (λ later. inr (LeftSince-kept zero (happen held y) ys x c (omega arith) later)) left
LeftSince-kept (suc count) held (y ∷ ys) x c enough left = LeftSince-kept count (happen held y) ys x c (omega arith) left

pub LeftSince-last : (count : ℕ) (held : Held) (xs : List Done) (x : Done) (c : List ℕ) → count ≤ length xs → LeftSince count held (xs ++ x ∷ []) c → LeftSince count held xs c ⊎ MayLeave (after_all held (xs ++ x ∷ [])) c
unfolding after_all LeftSince
LeftSince-last zero held [] x c enough left = left
LeftSince-last (suc count) held [] x c enough left = absurd (omega arith)
LeftSince-last zero held (y ∷ ys) x c enough left =
    ⊎_elim (λ now. inl (inl now)) (λ later. ⊎_elim (λ old. inl (inr old)) (λ new. inr new) (LeftSince-last zero (happen held y) ys x c (omega arith) later)) left
LeftSince-last (suc count) held (y ∷ ys) x c enough left = LeftSince-last count (happen held y) ys x c (omega arith) left

pub Replaced-last : (base : List ℕ) (ranges : List Range) (range : Range) (c : List ℕ) → Replaced base (ranges ++ range ∷ []) c → (d : List ℕ) × Replaced base ranges d × Outside range.at (length range.octets) d c
unfolding Replaced
Replaced-last base [] range c (d, outside, is) = (base, refl, subst (λ (x : List ℕ). Outside range.at (length range.octets) base x) (sym is) outside)
Replaced-last base (r ∷ rs) range c (e, first, rest) = let (d, before, outside) = Replaced-last e rs range c rest in (d, (e, first, before), outside)

pub AllTraced-wrote : (held : Held) (xs : List Done) (range : Range) → AllTraced held xs → Outside range.at (length range.octets) (after_all held xs).seen (put range.at range.kept (after_all held xs).seen) → AllTraced held (xs ++ Wrote range ∷ [])
unfolding AllTraced after_all
AllTraced-wrote held [] range traced outside = (outside, tt)
AllTraced-wrote held (Wrote r ∷ xs) range (first, rest) outside = (first, AllTraced-wrote (happen held (Wrote r)) xs range rest outside)
AllTraced-wrote held (Synced ∷ xs) range traced outside = AllTraced-wrote (happen held Synced) xs range traced outside

pub AllTraced-synced : (held : Held) (xs : List Done) → AllTraced held xs → AllTraced held (xs ++ Synced ∷ [])
unfolding AllTraced
AllTraced-synced held [] traced = tt
AllTraced-synced held (Wrote r ∷ xs) (first, rest) = (first, AllTraced-synced (happen held (Wrote r)) xs rest)
AllTraced-synced held (Synced ∷ xs) traced = AllTraced-synced (happen held Synced) xs traced

pub AllTraced-rest : (held : Held) (xs ys : List Done) → AllTraced held (xs ++ ys) → AllTraced (after_all held xs) ys
unfolding AllTraced after_all
AllTraced-rest held [] ys traced = traced
AllTraced-rest held (Wrote r ∷ xs) ys (first, rest) = AllTraced-rest (happen held (Wrote r)) xs ys rest
AllTraced-rest held (Synced ∷ xs) ys traced = AllTraced-rest (happen held Synced) xs ys traced
