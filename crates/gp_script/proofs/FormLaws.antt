-- Words in a row: what is read is their texts, and their texts are read.
use Rattle.std.proofs.Common.{◌≡◌, ℕ, true, List, [], ◌∷◌, Option, Some, None, refl, sym, ap, subst, inl, inr}
use Rattle.std.specs.Prelude.{if◌then◌else◌}
use Rattle.std.specs.Option.{option_map}
use Rattle.std.specs.Str.{bytes_eq}
use Rattle.std.proofs.lemmas.Bool.{and_parts, and_from, cases_Bool}
use Rattle.std.proofs.lemmas.Slice.Eq.{bytes_eq-Decides}
use Rattle.gp_base.specs.Table.{let_else}
use Rattle.gp_script.specs.Kinds.{Kind, Parse, no_more, keyed, applied, whole, next, nothing, one, two, three, four, five, six, seven, eight, nine, by, all_fit}
use Rattle.gp_script.specs.Words.{words, is_done}
use Rattle.gp_script.proofs.Splitting.{are_plain}
use Rattle.gp_script.proofs.KindLaws.{IsKind}

-- whatever is read from these words has the property, with the words that are left
abbrev pub Back : {B : Type 0} → Parse B → (List (List ℕ) → B → List (List ℕ) → Type 0) → Type 0
Back {B} parse Fact = (ws : List (List ℕ)) (value : B) (rest : List (List ℕ)) → parse ws ≡ Some (value, rest) → Fact ws value rest

-- the first word, and what is read behind it
first_read : {A B : Type 0} (kind : Kind A) → IsKind kind → (next_ : A → Parse B) (Fact : List (List ℕ) → B → List (List ℕ) → Type 0)
    → ((x : A) → kind.fits x ≡ true → Back (next_ x) (λ ws value rest. Fact (kind.text x ∷ ws) value rest))
    → (w : List ℕ) (ws : List (List ℕ)) (value : B) (rest : List (List ℕ)) (o : Option A) → kind.read w ≡ o
    → let_else {A = A × List (List ℕ)} (option_map (λ x. (x, ws)) o) None (λ found. next_ found.0 found.1) ≡ Some (value, rest) → Fact (w ∷ ws) value rest
first_read kind k next_ Fact h w ws value rest None e read = absurd cc
first_read {A} {B} kind k next_ Fact h w ws value rest (Some x) e read =
    let b = k.back w x e in
    subst (λ (v : List ℕ). Fact (v ∷ ws) value rest) (sym b.0) (h x b.1 ws value rest read)

pub first_back : {A B : Type 0} (kind : Kind A) → IsKind kind → (next_ : A → Parse B) (Fact : List (List ℕ) → B → List (List ℕ) → Type 0)
    → ((x : A) → kind.fits x ≡ true → Back (next_ x) (λ ws value rest. Fact (kind.text x ∷ ws) value rest)) → Back (λ ws. let_else {A = A × List (List ℕ)} (next kind ws) None (λ found. next_ found.0 found.1)) Fact
first_back kind k next_ Fact h [] value rest e = absurd cc
first_back kind k next_ Fact h (w ∷ ws) value rest e = first_read kind k next_ Fact h w ws value rest (kind.read w) refl e

pub nothing_back : {B : Type 0} (make : B) (Fact : List (List ℕ) → B → List (List ℕ) → Type 0) → ((rest : List (List ℕ)) → Fact rest make rest) → Back (nothing make) Fact
nothing_back {B} make Fact h ws value rest e =
    let pair : (make, ws) ≡ (value, rest) = cc in
    let q : make ≡ value = ap (λ (p : B × List (List ℕ)). p.0) pair in
    let r : ws ≡ rest = ap (λ (p : B × List (List ℕ)). p.1) pair in
    subst (λ (v : B). Fact ws v rest) q (subst (λ (l : List (List ℕ)). Fact ws make l) r (h ws))

pub one_back : {A R : Type 0} {a : Kind A} → IsKind a → (make : A → R) (Fact : List (List ℕ) → R → List (List ℕ) → Type 0)
    → ((x : A) (rest : List (List ℕ)) → all_fit (by a x ∷ []) ≡ true → Fact (a.text x ∷ rest) (make x) rest) → Back (one a make) Fact
one_back {a = a} ka make Fact step = first_back a ka (λ x. nothing (make x)) Fact (λ x fit. nothing_back (make x) _ (λ rest. step x rest (and_from _ _ fit refl)))

pub two_back : {A B R : Type 0} {a : Kind A} {b : Kind B} → IsKind a → IsKind b → (make : A → B → R) (Fact : List (List ℕ) → R → List (List ℕ) → Type 0)
    → ((x : A) (y : B) (rest : List (List ℕ)) → all_fit (by a x ∷ by b y ∷ []) ≡ true → Fact (a.text x ∷ b.text y ∷ rest) (make x y) rest) → Back (two a b make) Fact
two_back {a = a} {b = b} ka kb make Fact step = first_back a ka (λ x. one b (make x)) Fact (λ x fit. one_back kb (make x) (λ ws value rest. Fact (a.text x ∷ ws) value rest) (λ y rest fits. step x y rest (and_from _ _ fit fits)))

pub three_back : {A B C R : Type 0} {a : Kind A} {b : Kind B} {c : Kind C} → IsKind a → IsKind b → IsKind c → (make : A → B → C → R) (Fact : List (List ℕ) → R → List (List ℕ) → Type 0)
    → ((x : A) (y : B) (z : C) (rest : List (List ℕ)) → all_fit (by a x ∷ by b y ∷ by c z ∷ []) ≡ true → Fact (a.text x ∷ b.text y ∷ c.text z ∷ rest) (make x y z) rest) → Back (three a b c make) Fact
three_back {a = a} {b = b} {c = c} ka kb kc make Fact step = first_back a ka (λ x. two b c (make x)) Fact (λ x fit. two_back kb kc (make x) (λ ws value rest. Fact (a.text x ∷ ws) value rest) (λ y z rest fits. step x y z rest (and_from _ _ fit fits)))

pub four_back : {A B C D R : Type 0} {a : Kind A} {b : Kind B} {c : Kind C} {d : Kind D} → IsKind a → IsKind b → IsKind c → IsKind d → (make : A → B → C → D → R) (Fact : List (List ℕ) → R → List (List ℕ) → Type 0)
    → ((x : A) (y : B) (z : C) (u : D) (rest : List (List ℕ)) → all_fit (by a x ∷ by b y ∷ by c z ∷ by d u ∷ []) ≡ true → Fact (a.text x ∷ b.text y ∷ c.text z ∷ d.text u ∷ rest) (make x y z u) rest) → Back (four a b c d make) Fact
four_back {a = a} {b = b} {c = c} {d = d} ka kb kc kd make Fact step = first_back a ka (λ x. three b c d (make x)) Fact (λ x fit. three_back kb kc kd (make x) (λ ws value rest. Fact (a.text x ∷ ws) value rest) (λ y z u rest fits. step x y z u rest (and_from _ _ fit fits)))

pub five_back : {A B C D E R : Type 0} {a : Kind A} {b : Kind B} {c : Kind C} {d : Kind D} {e : Kind E} → IsKind a → IsKind b → IsKind c → IsKind d → IsKind e → (make : A → B → C → D → E → R) (Fact : List (List ℕ) → R → List (List ℕ) → Type 0)
    → ((x : A) (y : B) (z : C) (u : D) (v : E) (rest : List (List ℕ)) → all_fit (by a x ∷ by b y ∷ by c z ∷ by d u ∷ by e v ∷ []) ≡ true → Fact (a.text x ∷ b.text y ∷ c.text z ∷ d.text u ∷ e.text v ∷ rest) (make x y z u v) rest) → Back (five a b c d e make) Fact
five_back {a = a} {b = b} {c = c} {d = d} {e = e} ka kb kc kd ke make Fact step = first_back a ka (λ x. four b c d e (make x)) Fact (λ x fit. four_back kb kc kd ke (make x) (λ ws value rest. Fact (a.text x ∷ ws) value rest) (λ y z u v rest fits. step x y z u v rest (and_from _ _ fit fits)))

pub six_back : {A B C D E F R : Type 0} {a : Kind A} {b : Kind B} {c : Kind C} {d : Kind D} {e : Kind E} {f : Kind F} → IsKind a → IsKind b → IsKind c → IsKind d → IsKind e → IsKind f → (make : A → B → C → D → E → F → R) (Fact : List (List ℕ) → R → List (List ℕ) → Type 0)
    → ((x : A) (y : B) (z : C) (u : D) (v : E) (w : F) (rest : List (List ℕ)) → all_fit (by a x ∷ by b y ∷ by c z ∷ by d u ∷ by e v ∷ by f w ∷ []) ≡ true → Fact (a.text x ∷ b.text y ∷ c.text z ∷ d.text u ∷ e.text v ∷ f.text w ∷ rest) (make x y z u v w) rest) → Back (six a b c d e f make) Fact
six_back {a = a} {b = b} {c = c} {d = d} {e = e} {f = f} ka kb kc kd ke kf make Fact step = first_back a ka (λ x. five b c d e f (make x)) Fact (λ x fit. five_back kb kc kd ke kf (make x) (λ ws value rest. Fact (a.text x ∷ ws) value rest) (λ y z u v w rest fits. step x y z u v w rest (and_from _ _ fit fits)))

pub seven_back : {A B C D E F G R : Type 0} {a : Kind A} {b : Kind B} {c : Kind C} {d : Kind D} {e : Kind E} {f : Kind F} {g : Kind G} → IsKind a → IsKind b → IsKind c → IsKind d → IsKind e → IsKind f → IsKind g → (make : A → B → C → D → E → F → G → R) (Fact : List (List ℕ) → R → List (List ℕ) → Type 0)
    → ((x : A) (y : B) (z : C) (u : D) (v : E) (w : F) (s : G) (rest : List (List ℕ)) → all_fit (by a x ∷ by b y ∷ by c z ∷ by d u ∷ by e v ∷ by f w ∷ by g s ∷ []) ≡ true → Fact (a.text x ∷ b.text y ∷ c.text z ∷ d.text u ∷ e.text v ∷ f.text w ∷ g.text s ∷ rest) (make x y z u v w s) rest) → Back (seven a b c d e f g make) Fact
seven_back {a = a} {b = b} {c = c} {d = d} {e = e} {f = f} {g = g} ka kb kc kd ke kf kg make Fact step = first_back a ka (λ x. six b c d e f g (make x)) Fact (λ x fit. six_back kb kc kd ke kf kg (make x) (λ ws value rest. Fact (a.text x ∷ ws) value rest) (λ y z u v w s rest fits. step x y z u v w s rest (and_from _ _ fit fits)))

pub eight_back : {A B C D E F G H R : Type 0} {a : Kind A} {b : Kind B} {c : Kind C} {d : Kind D} {e : Kind E} {f : Kind F} {g : Kind G} {h : Kind H} → IsKind a → IsKind b → IsKind c → IsKind d → IsKind e → IsKind f → IsKind g → IsKind h → (make : A → B → C → D → E → F → G → H → R) (Fact : List (List ℕ) → R → List (List ℕ) → Type 0)
    → ((x : A) (y : B) (z : C) (u : D) (v : E) (w : F) (s : G) (t : H) (rest : List (List ℕ)) → all_fit (by a x ∷ by b y ∷ by c z ∷ by d u ∷ by e v ∷ by f w ∷ by g s ∷ by h t ∷ []) ≡ true → Fact (a.text x ∷ b.text y ∷ c.text z ∷ d.text u ∷ e.text v ∷ f.text w ∷ g.text s ∷ h.text t ∷ rest) (make x y z u v w s t) rest) → Back (eight a b c d e f g h make) Fact
eight_back {a = a} {b = b} {c = c} {d = d} {e = e} {f = f} {g = g} {h = h} ka kb kc kd ke kf kg kh make Fact step = first_back a ka (λ x. seven b c d e f g h (make x)) Fact (λ x fit. seven_back kb kc kd ke kf kg kh (make x) (λ ws value rest. Fact (a.text x ∷ ws) value rest) (λ y z u v w s t rest fits. step x y z u v w s t rest (and_from _ _ fit fits)))

pub nine_back : {A B C D E F G H I R : Type 0} {a : Kind A} {b : Kind B} {c : Kind C} {d : Kind D} {e : Kind E} {f : Kind F} {g : Kind G} {h : Kind H} {i : Kind I} → IsKind a → IsKind b → IsKind c → IsKind d → IsKind e → IsKind f → IsKind g → IsKind h → IsKind i → (make : A → B → C → D → E → F → G → H → I → R) (Fact : List (List ℕ) → R → List (List ℕ) → Type 0)
    → ((x : A) (y : B) (z : C) (u : D) (v : E) (w : F) (s : G) (t : H) (p : I) (rest : List (List ℕ)) → all_fit (by a x ∷ by b y ∷ by c z ∷ by d u ∷ by e v ∷ by f w ∷ by g s ∷ by h t ∷ by i p ∷ []) ≡ true → Fact (a.text x ∷ b.text y ∷ c.text z ∷ d.text u ∷ e.text v ∷ f.text w ∷ g.text s ∷ h.text t ∷ i.text p ∷ rest) (make x y z u v w s t p) rest) → Back (nine a b c d e f g h i make) Fact
nine_back {a = a} {b = b} {c = c} {d = d} {e = e} {f = f} {g = g} {h = h} {i = i} ka kb kc kd ke kf kg kh ki make Fact step = first_back a ka (λ x. eight b c d e f g h i (make x)) Fact (λ x fit. eight_back kb kc kd ke kf kg kh ki (make x) (λ ws value rest. Fact (a.text x ∷ ws) value rest) (λ y z u v w s t p rest fits. step x y z u v w s t p rest (and_from _ _ fit fits)))

-- the texts of words are read, and none has a space
first_again : {A B : Type 0} (kind : Kind A) → IsKind kind → (next_ : A → Parse B) (x : A) (ws : List (List ℕ)) (found : Option (B × List (List ℕ))) → kind.fits x ≡ true
    → next_ x ws ≡ found → let_else {A = A × List (List ℕ)} (next kind (kind.text x ∷ ws)) None (λ f. next_ f.0 f.1) ≡ found
first_again kind k next_ x ws found fit e = rw (k.again x fit) e

pub one_again : {A R : Type 0} {a : Kind A} → IsKind a → (make : A → R) (x : A) (rest : List (List ℕ)) → all_fit (by a x ∷ []) ≡ true
    → (one a make (a.text x ∷ rest) ≡ Some (make x, rest)) × (are_plain (a.text x ∷ []) ≡ true)
one_again {a = a} ka make x rest fits =
    let fit = and_parts _ _ fits in
    (first_again a ka (λ x. nothing (make x)) x rest _ fit.0 refl, and_from _ _ (ka.plain x fit.0) refl)

pub two_again : {A B R : Type 0} {a : Kind A} {b : Kind B} → IsKind a → IsKind b → (make : A → B → R) (x : A) (y : B) (rest : List (List ℕ)) → all_fit (by a x ∷ by b y ∷ []) ≡ true
    → (two a b make (a.text x ∷ b.text y ∷ rest) ≡ Some (make x y, rest)) × (are_plain (a.text x ∷ b.text y ∷ []) ≡ true)
two_again {a = a} {b = b} ka kb make x y rest fits =
    let fit = and_parts _ _ fits in
    let more = one_again kb (make x) y rest fit.1 in
    (first_again a ka (λ x. one b (make x)) x _ _ fit.0 more.0, and_from _ _ (ka.plain x fit.0) more.1)

pub three_again : {A B C R : Type 0} {a : Kind A} {b : Kind B} {c : Kind C} → IsKind a → IsKind b → IsKind c → (make : A → B → C → R) (x : A) (y : B) (z : C) (rest : List (List ℕ)) → all_fit (by a x ∷ by b y ∷ by c z ∷ []) ≡ true
    → (three a b c make (a.text x ∷ b.text y ∷ c.text z ∷ rest) ≡ Some (make x y z, rest)) × (are_plain (a.text x ∷ b.text y ∷ c.text z ∷ []) ≡ true)
three_again {a = a} {b = b} {c = c} ka kb kc make x y z rest fits =
    let fit = and_parts _ _ fits in
    let more = two_again kb kc (make x) y z rest fit.1 in
    (first_again a ka (λ x. two b c (make x)) x _ _ fit.0 more.0, and_from _ _ (ka.plain x fit.0) more.1)

pub four_again : {A B C D R : Type 0} {a : Kind A} {b : Kind B} {c : Kind C} {d : Kind D} → IsKind a → IsKind b → IsKind c → IsKind d → (make : A → B → C → D → R) (x : A) (y : B) (z : C) (u : D) (rest : List (List ℕ)) → all_fit (by a x ∷ by b y ∷ by c z ∷ by d u ∷ []) ≡ true
    → (four a b c d make (a.text x ∷ b.text y ∷ c.text z ∷ d.text u ∷ rest) ≡ Some (make x y z u, rest)) × (are_plain (a.text x ∷ b.text y ∷ c.text z ∷ d.text u ∷ []) ≡ true)
four_again {a = a} {b = b} {c = c} {d = d} ka kb kc kd make x y z u rest fits =
    let fit = and_parts _ _ fits in
    let more = three_again kb kc kd (make x) y z u rest fit.1 in
    (first_again a ka (λ x. three b c d (make x)) x _ _ fit.0 more.0, and_from _ _ (ka.plain x fit.0) more.1)

pub five_again : {A B C D E R : Type 0} {a : Kind A} {b : Kind B} {c : Kind C} {d : Kind D} {e : Kind E} → IsKind a → IsKind b → IsKind c → IsKind d → IsKind e → (make : A → B → C → D → E → R) (x : A) (y : B) (z : C) (u : D) (v : E) (rest : List (List ℕ)) → all_fit (by a x ∷ by b y ∷ by c z ∷ by d u ∷ by e v ∷ []) ≡ true
    → (five a b c d e make (a.text x ∷ b.text y ∷ c.text z ∷ d.text u ∷ e.text v ∷ rest) ≡ Some (make x y z u v, rest)) × (are_plain (a.text x ∷ b.text y ∷ c.text z ∷ d.text u ∷ e.text v ∷ []) ≡ true)
five_again {a = a} {b = b} {c = c} {d = d} {e = e} ka kb kc kd ke make x y z u v rest fits =
    let fit = and_parts _ _ fits in
    let more = four_again kb kc kd ke (make x) y z u v rest fit.1 in
    (first_again a ka (λ x. four b c d e (make x)) x _ _ fit.0 more.0, and_from _ _ (ka.plain x fit.0) more.1)

pub six_again : {A B C D E F R : Type 0} {a : Kind A} {b : Kind B} {c : Kind C} {d : Kind D} {e : Kind E} {f : Kind F} → IsKind a → IsKind b → IsKind c → IsKind d → IsKind e → IsKind f → (make : A → B → C → D → E → F → R) (x : A) (y : B) (z : C) (u : D) (v : E) (w : F) (rest : List (List ℕ)) → all_fit (by a x ∷ by b y ∷ by c z ∷ by d u ∷ by e v ∷ by f w ∷ []) ≡ true
    → (six a b c d e f make (a.text x ∷ b.text y ∷ c.text z ∷ d.text u ∷ e.text v ∷ f.text w ∷ rest) ≡ Some (make x y z u v w, rest)) × (are_plain (a.text x ∷ b.text y ∷ c.text z ∷ d.text u ∷ e.text v ∷ f.text w ∷ []) ≡ true)
six_again {a = a} {b = b} {c = c} {d = d} {e = e} {f = f} ka kb kc kd ke kf make x y z u v w rest fits =
    let fit = and_parts _ _ fits in
    let more = five_again kb kc kd ke kf (make x) y z u v w rest fit.1 in
    (first_again a ka (λ x. five b c d e f (make x)) x _ _ fit.0 more.0, and_from _ _ (ka.plain x fit.0) more.1)

pub seven_again : {A B C D E F G R : Type 0} {a : Kind A} {b : Kind B} {c : Kind C} {d : Kind D} {e : Kind E} {f : Kind F} {g : Kind G} → IsKind a → IsKind b → IsKind c → IsKind d → IsKind e → IsKind f → IsKind g → (make : A → B → C → D → E → F → G → R) (x : A) (y : B) (z : C) (u : D) (v : E) (w : F) (s : G) (rest : List (List ℕ)) → all_fit (by a x ∷ by b y ∷ by c z ∷ by d u ∷ by e v ∷ by f w ∷ by g s ∷ []) ≡ true
    → (seven a b c d e f g make (a.text x ∷ b.text y ∷ c.text z ∷ d.text u ∷ e.text v ∷ f.text w ∷ g.text s ∷ rest) ≡ Some (make x y z u v w s, rest)) × (are_plain (a.text x ∷ b.text y ∷ c.text z ∷ d.text u ∷ e.text v ∷ f.text w ∷ g.text s ∷ []) ≡ true)
seven_again {a = a} {b = b} {c = c} {d = d} {e = e} {f = f} {g = g} ka kb kc kd ke kf kg make x y z u v w s rest fits =
    let fit = and_parts _ _ fits in
    let more = six_again kb kc kd ke kf kg (make x) y z u v w s rest fit.1 in
    (first_again a ka (λ x. six b c d e f g (make x)) x _ _ fit.0 more.0, and_from _ _ (ka.plain x fit.0) more.1)

pub eight_again : {A B C D E F G H R : Type 0} {a : Kind A} {b : Kind B} {c : Kind C} {d : Kind D} {e : Kind E} {f : Kind F} {g : Kind G} {h : Kind H} → IsKind a → IsKind b → IsKind c → IsKind d → IsKind e → IsKind f → IsKind g → IsKind h → (make : A → B → C → D → E → F → G → H → R) (x : A) (y : B) (z : C) (u : D) (v : E) (w : F) (s : G) (t : H) (rest : List (List ℕ)) → all_fit (by a x ∷ by b y ∷ by c z ∷ by d u ∷ by e v ∷ by f w ∷ by g s ∷ by h t ∷ []) ≡ true
    → (eight a b c d e f g h make (a.text x ∷ b.text y ∷ c.text z ∷ d.text u ∷ e.text v ∷ f.text w ∷ g.text s ∷ h.text t ∷ rest) ≡ Some (make x y z u v w s t, rest)) × (are_plain (a.text x ∷ b.text y ∷ c.text z ∷ d.text u ∷ e.text v ∷ f.text w ∷ g.text s ∷ h.text t ∷ []) ≡ true)
eight_again {a = a} {b = b} {c = c} {d = d} {e = e} {f = f} {g = g} {h = h} ka kb kc kd ke kf kg kh make x y z u v w s t rest fits =
    let fit = and_parts _ _ fits in
    let more = seven_again kb kc kd ke kf kg kh (make x) y z u v w s t rest fit.1 in
    (first_again a ka (λ x. seven b c d e f g h (make x)) x _ _ fit.0 more.0, and_from _ _ (ka.plain x fit.0) more.1)

pub nine_again : {A B C D E F G H I R : Type 0} {a : Kind A} {b : Kind B} {c : Kind C} {d : Kind D} {e : Kind E} {f : Kind F} {g : Kind G} {h : Kind H} {i : Kind I} → IsKind a → IsKind b → IsKind c → IsKind d → IsKind e → IsKind f → IsKind g → IsKind h → IsKind i → (make : A → B → C → D → E → F → G → H → I → R) (x : A) (y : B) (z : C) (u : D) (v : E) (w : F) (s : G) (t : H) (p : I) (rest : List (List ℕ)) → all_fit (by a x ∷ by b y ∷ by c z ∷ by d u ∷ by e v ∷ by f w ∷ by g s ∷ by h t ∷ by i p ∷ []) ≡ true
    → (nine a b c d e f g h i make (a.text x ∷ b.text y ∷ c.text z ∷ d.text u ∷ e.text v ∷ f.text w ∷ g.text s ∷ h.text t ∷ i.text p ∷ rest) ≡ Some (make x y z u v w s t p, rest)) × (are_plain (a.text x ∷ b.text y ∷ c.text z ∷ d.text u ∷ e.text v ∷ f.text w ∷ g.text s ∷ h.text t ∷ i.text p ∷ []) ≡ true)
nine_again {a = a} {b = b} {c = c} {d = d} {e = e} {f = f} {g = g} {h = h} {i = i} ka kb kc kd ke kf kg kh ki make x y z u v w s t p rest fits =
    let fit = and_parts _ _ fits in
    let more = eight_again kb kc kd ke kf kg kh ki (make x) y z u v w s t p rest fit.1 in
    (first_again a ka (λ x. eight b c d e f g h i (make x)) x _ _ fit.0 more.0, and_from _ _ (ka.plain x fit.0) more.1)

-- a line of a table
pub line_back : {B : Type 0} (keyword here : List ℕ) (parse others : Parse B) (Fact : List ℕ → List (List ℕ) → B → List (List ℕ) → Type 0)
    → Back parse (Fact here) → Back others (Fact keyword) → Back (λ ws. if bytes_eq keyword here then parse ws else others ws) (Fact keyword)
line_back {B} keyword here parse others Fact p o ws value rest e = elim (cases_Bool (bytes_eq keyword here)) [
  | inl t ↦ subst (λ (k : List ℕ). Fact k ws value rest) (sym ((bytes_eq-Decides keyword here).0 t)) (p ws value rest (rw t at e))
  | inr f ↦ o ws value rest (rw f at e)
]

pub last_back : {B : Type 0} (keyword : List ℕ) (Fact : List (List ℕ) → B → List (List ℕ) → Type 0) → Back (no_more keyword) Fact
last_back keyword Fact ws value rest e = absurd cc

pub keyed_back : {B : Type 0} (table : List ℕ → Parse B) (Fact : List (List ℕ) → B → List (List ℕ) → Type 0)
    → ((keyword : List ℕ) → Back (table keyword) (λ ws value rest. Fact (keyword ∷ ws) value rest)) → Back (keyed table) Fact
keyed_back table Fact t [] value rest e = absurd cc
keyed_back table Fact t (w ∷ ws) value rest e = t w ws value rest e

-- a value that is made of what is read
made_from : {A B : Type 0} (make : A → B) (value : B) (rest : List (List ℕ)) (Goal : B → List (List ℕ) → Type 0) (o : Option (A × List (List ℕ)))
    → ((a : A) (left : List (List ℕ)) → o ≡ Some (a, left) → Goal (make a) left) → let_else {B = Option (B × List (List ℕ))} o None (λ y. Some (make y.0, y.1)) ≡ Some (value, rest) → Goal value rest
made_from make value rest Goal None step e = absurd cc
made_from {A} {B} make value rest Goal (Some y) step e =
    let pair : (make y.0, y.1) ≡ (value, rest) = cc in
    subst (λ (p : B × List (List ℕ)). Goal p.0 p.1) pair (step y.0 y.1 refl)

pub made_back : {A B : Type 0} (parse : Parse A) (make : A → B) (Part : List (List ℕ) → A → List (List ℕ) → Type 0) (Fact : List (List ℕ) → B → List (List ℕ) → Type 0)
    → Back parse Part → ((ws : List (List ℕ)) (a : A) (rest : List (List ℕ)) → Part ws a rest → Fact ws (make a) rest) → Back (λ ws. let_else {B = Option (B × List (List ℕ))} (parse ws) None (λ y. Some (make y.0, y.1))) Fact
made_back parse make Part Fact p step ws value rest e = made_from make value rest (λ v left. Fact ws v left) (parse ws) (λ a left h. step ws a left (p ws a left h)) e

-- what words in front make of what is read behind them
applied_from : {A B : Type 0} (last : Parse A) (value : B) (rest : List (List ℕ)) (Goal : B → List (List ℕ) → Type 0) (o : Option ((A → B) × List (List ℕ)))
    → ((f : A → B) (left : List (List ℕ)) (a : A) (end : List (List ℕ)) → o ≡ Some (f, left) → last left ≡ Some (a, end) → Goal (f a) end)
    → let_else {B = Option (B × List (List ℕ))} o None (λ x. let_else {B = Option (B × List (List ℕ))} (last x.1) None (λ y. Some (x.0 y.0, y.1))) ≡ Some (value, rest) → Goal value rest
applied_from last value rest Goal None step e = absurd cc
applied_from last value rest Goal (Some x) step e = made_from x.0 value rest Goal (last x.1) (λ a end h. step x.0 x.1 a end refl h) e

pub applied_back : {A B : Type 0} (front : Parse (A → B)) (last : Parse A) (Front : List (List ℕ) → (A → B) → List (List ℕ) → Type 0) (Last : List (List ℕ) → A → List (List ℕ) → Type 0)
    → (Fact : List (List ℕ) → B → List (List ℕ) → Type 0) → Back front Front → Back last Last
    → ((ws : List (List ℕ)) (f : A → B) (left : List (List ℕ)) (a : A) (end : List (List ℕ)) → Front ws f left → Last left a end → Fact ws (f a) end) → Back (applied front last) Fact
applied_back front last Front Last Fact f l step ws value rest e = applied_from last value rest (λ v end. Fact ws v end) (front ws) (λ g left a end h k. step ws g left a end (f ws g left h) (l left a end k)) e

-- a whole line
whole_from : {B : Type 0} (value : B) (Goal : B → List (List ℕ) → Type 0) (o : Option (B × List (List ℕ))) → ((v : B) (left : List (List ℕ)) → o ≡ Some (v, left) → Goal v left)
    → let_else o None (λ found. if is_done found.1 then Some found.0 else None) ≡ Some value → Goal value []
whole_from value Goal None step e = absurd cc
whole_from {B} value Goal (Some (v, [])) step e = let q : v ≡ value = cc in subst (λ (x : B). Goal x []) q (step v [] refl)
whole_from value Goal (Some (v, w ∷ ws)) step e = absurd cc

pub whole_back : {B : Type 0} (parse : Parse B) (Fact : List (List ℕ) → B → List (List ℕ) → Type 0) → Back parse Fact → (line : List ℕ) (value : B) → whole parse line ≡ Some value → Fact (words line) value []
whole_back parse Fact p line value e = whole_from value (λ v left. Fact (words line) v left) (parse (words line)) (λ v left h. p (words line) v left h) e
