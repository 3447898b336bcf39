-- How the images since the last `begin` grow over several writes.
use Rattle.std.proofs.Common.{◌≡◌, inl, inr, ⊎_elim, ℕ, List, Option, Some, None, option_map, refl, sym, subst}
use Rattle.gp_disk.specs.Disk.{Outside, GrowsTorn}
use Rattle.gp_store.specs.Writes.{GrowsBy, Becomes}

-- one write that may be torn
pub grows_torn : (at n : ℕ) (P : List ℕ → List ℕ → Type 0) (image : Option (List ℕ)) (old new : List ℕ → Type 0) → GrowsTorn at n image old new
    → ((d c : List ℕ) → image ≡ Some d → Outside at n d c → P d c) → GrowsBy P image old new
grows_torn at n P image old new g step = record { kept = g.kept; none = λ c left. ⊎_elim (λ was. inl was) (λ t. inr (t.0, t.1, step t.0 c t.1 t.2)) (g.none c left) }

-- what one write that succeeded makes of an image
pub becomes_put : (P : List ℕ → List ℕ → Type 0) (f : List ℕ → List ℕ) (image new : Option (List ℕ)) → new ≡ option_map f image → ((d : List ℕ) → image ≡ Some d → P d (f d)) → Becomes P image new
becomes_put P f None new is step = subst (λ n. Becomes P None n) (sym is) tt
becomes_put P f (Some d) new is step = subst (λ n. Becomes P (Some d) n) (sym is) (step d refl)

-- images that stand so to one another also stand so by a weaker relation
pub becomes_weaker : (P Q : List ℕ → List ℕ → Type 0) (image new : Option (List ℕ)) → Becomes P image new → ((d e : List ℕ) → image ≡ Some d → P d e → Q d e) → Becomes Q image new
becomes_weaker P Q None None b step = tt
becomes_weaker P Q None (Some e) b step = b
becomes_weaker P Q (Some d) None b step = b
becomes_weaker P Q (Some d) (Some e) b step = step d e refl b

-- the image that became this one
pub became_from : (P : List ℕ → List ℕ → Type 0) (image new : Option (List ℕ)) (e : List ℕ) → Becomes P image new → new ≡ Some e → (d : List ℕ) × (image ≡ Some d) × P d e
became_from P None None e b is = absurd (none_is_not e is)
  where
    none_is_not : (x : List ℕ) → None ≡ Some x → ⊥
    none_is_not x h = cc
became_from P None (Some f) e b is = absurd b
became_from P (Some d) None e b is = absurd b
became_from P (Some d) (Some f) e b is = (d, refl, subst (λ x. P d x) (let same : f ≡ e = cc in same) b)

-- what this image has become
pub becomes_to : (P : List ℕ → List ℕ → Type 0) (image new : Option (List ℕ)) (d : List ℕ) → Becomes P image new → image ≡ Some d → (e : List ℕ) × (new ≡ Some e) × P d e
becomes_to P None None d b is = absurd (none_is_not d is)
  where
    none_is_not : (x : List ℕ) → None ≡ Some x → ⊥
    none_is_not x h = cc
becomes_to P None (Some f) d b is = absurd b
becomes_to P (Some d') None d b is = absurd b
becomes_to P (Some d') (Some e) d b is = (e, refl, subst (λ x. P x e) (let same : d' ≡ d = cc in same) b)

pub grows_weaker : (P Q : List ℕ → List ℕ → Type 0) (image : Option (List ℕ)) (old new : List ℕ → Type 0) → GrowsBy P image old new → ((d c : List ℕ) → image ≡ Some d → P d c → Q d c) → GrowsBy Q image old new
grows_weaker P Q image old new g step = record { kept = g.kept; none = λ c left. ⊎_elim (λ was. inl was) (λ t. inr (t.0, t.1, step t.0 c t.1 t.2)) (g.none c left) }

-- a second run of writes after a first one that has succeeded
pub grows_on : (P Q R : List ℕ → List ℕ → Type 0) (image middle : Option (List ℕ)) (old mid new : List ℕ → Type 0) → GrowsBy P image old mid → Becomes Q image middle → GrowsBy R middle mid new
    → ((d e c : List ℕ) → Q d e → R e c → P d c) → GrowsBy P image old new
grows_on P Q R image middle old mid new g b h step = record {
  kept = λ c was. h.kept c (g.kept c was);
  none = λ c left. ⊎_elim (g.none c) (λ t. let from = became_from Q image middle t.0 b t.1 in inr (from.0, from.1, step from.0 t.0 c from.2 t.2)) (h.none c left);
}

-- images that stand so by steps
pub becomes_on : (P Q R : List ℕ → List ℕ → Type 0) (image middle new : Option (List ℕ)) → Becomes Q image middle → Becomes R middle new → ((d e c : List ℕ) → Q d e → R e c → P d c) → Becomes P image new
becomes_on P Q R None None None b h step = tt
becomes_on P Q R None None (Some c) b h step = h
becomes_on P Q R None (Some e) new b h step = absurd b
becomes_on P Q R (Some d) None new b h step = absurd b
becomes_on P Q R (Some d) (Some e) None b h step = h
becomes_on P Q R (Some d) (Some e) (Some c) b h step = step d e c b h
