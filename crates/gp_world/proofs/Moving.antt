-- The counters that a sink takes lie between the floors before and after, and rise.
use Rattle.std.proofs.Common.{◌≡◌, inl, inr, ℕ, zero, suc, ◌<◌, ◌≤◌, Bool, true, ◌==◌, if◌then◌else◌, List, [], ◌∷◌, ◌++◌, Option, Some, None, refl, ◌∙◌, ap, subst, arith, slice_get}
use Rattle.std.proofs.lemmas.Slice.Eq.{bytes_eq-Decides}
use Rattle.std.proofs.lemmas.Bool.{eq-eqb, cases_order}
use Rattle.gp_script.specs.declared.report.Entry.{Entry}
use Rattle.gp_world.specs.Properties.{taken_in, Takes, Rising, Once, is_by}

-- ---- numbers that rise from f to g

abbrev pub Moves : ℕ → ℕ → List ℕ → Type 0
Moves f g [] = f ≤ g
Moves f g (n ∷ ns) = (f < n) × Moves n g ns

pub moves_from : (e f g : ℕ) (ns : List ℕ) → e ≤ f → Moves f g ns → Moves e g ns
moves_from e f g [] h m = omega arith
moves_from e f g (n ∷ ns) h m = let above = m.0 in (omega arith, m.1)

pub moves_to : (f g h : ℕ) (ns : List ℕ) → Moves f g ns → g ≤ h → Moves f h ns
moves_to f g h [] m e = omega arith
moves_to f g h (n ∷ ns) m e = (m.0, moves_to n g h ns m.1 e)

pub moves_on : (f g h : ℕ) (ns ms : List ℕ) → Moves f g ns → Moves g h ms → Moves f h (ns ++ ms)
moves_on f g h [] ms m k = moves_from f g h ms m k
moves_on f g h (n ∷ ns) ms m k = (m.0, moves_on n g h ns ms m.1 k)

-- ---- the counters in a report

abbrev pub counter_if : ℕ → Option (ℕ × ℕ) → Option ℕ
counter_if row None = None
counter_if row (Some taken) = if taken.0 == row then Some taken.1 else None

-- the counter that an entry says was taken, of this row by this sink
abbrev pub taking : List ℕ → ℕ → Entry → Option ℕ
taking name row entry = if is_by name entry.node then counter_if row (taken_in entry.report) else None

abbrev pub and_then : Option ℕ → List ℕ → List ℕ
and_then None ns = ns
and_then (Some n) ns = n ∷ ns

-- those of a report
unfoldable pub takings : List ℕ → ℕ → List Entry → List ℕ
takings name row [] = []
takings name row (entry ∷ entries) = and_then (taking name row entry) (takings name row entries)

pub takings-append : (name : List ℕ) (row : ℕ) (xs ys : List Entry) → takings name row (xs ++ ys) ≡ takings name row xs ++ takings name row ys
unfolding takings
takings-append name row [] ys = refl
takings-append name row (x ∷ xs) ys = ap (and_then (taking name row x)) (takings-append name row xs ys) ∙ behind (taking name row x)
  where
    behind : (o : Option ℕ) → and_then o (takings name row xs ++ takings name row ys) ≡ and_then o (takings name row xs) ++ takings name row ys
    behind None = refl
    behind (Some n) = refl

-- ---- an entry that takes a counter is among them

pub is_by-name : (name : List ℕ) → is_by name (Some name) ≡ true
is_by-name name = (bytes_eq-Decides name name).1 refl

pub takes_it : (name : List ℕ) (row c : ℕ) (entry : Entry) → Takes name row c entry → taking name row entry ≡ Some c
takes_it name row c entry t =
    ap (λ (node : Option (List ℕ)). if is_by name node then counter_if row (taken_in entry.report) else None) t.node
    ∙ ap (λ (b : Bool). if b then counter_if row (taken_in entry.report) else None) (is_by-name name)
    ∙ ap (counter_if row) t.taken
    ∙ ap (λ (b : Bool). if b then Some c else None) (eq-eqb row row refl)

-- each counter of a report that moves is above the floor before it
pub takes_above : (name : List ℕ) (row f g : ℕ) (entries : List Entry) → Moves f g (takings name row entries) →
    (j : ℕ) (entry : Entry) (c : ℕ) → slice_get entries j ≡ Some entry → Takes name row c entry → f < c
unfolding takings
takes_above name row f g [] m j entry c is t = absurd cc
takes_above name row f g (x ∷ xs) m zero entry c is t =
    let same : x ≡ entry = cc in
    let first = subst (λ (o : Option ℕ). Moves f g (and_then o (takings name row xs))) (ap (taking name row) same ∙ takes_it name row c entry t) m in
    first.0
takes_above name row f g (x ∷ xs) m (suc j) entry c is t = go (taking name row x) m (λ h n. takes_above name row h g xs n j entry c is t)
  where
    go : (o : Option ℕ) → Moves f g (and_then o (takings name row xs)) → ((h : ℕ) → Moves h g (takings name row xs) → h < c) → f < c
    go None n later = later f n
    go (Some b) n later = let above = later b n.1 in let below = n.0 in omega arith

-- ---- a report that moves rises

pub rises : (name : List ℕ) (row f g : ℕ) (entries : List Entry) → Moves f g (takings name row entries) →
    (i j : ℕ) (one other : Entry) (c d : ℕ) → slice_get entries i ≡ Some one → slice_get entries j ≡ Some other → i < j →
    Takes name row c one → Takes name row d other → c < d
unfolding takings
rises name row f g [] m i j one other c d is at h t u = absurd cc
rises name row f g (x ∷ xs) m i zero one other c d is at h t u = absurd (omega arith)
rises name row f g (x ∷ xs) m zero (suc j) one other c d is at h t u =
    let same : x ≡ one = cc in
    let first = subst (λ (o : Option ℕ). Moves f g (and_then o (takings name row xs))) (ap (taking name row) same ∙ takes_it name row c one t) m in
    takes_above name row c g xs first.1 j other d at u
rises name row f g (x ∷ xs) m (suc i) (suc j) one other c d is at h t u =
    let before : i < j = omega arith in
    go (taking name row x) m (λ e n. rises name row e g xs n i j one other c d is at before t u)
  where
    go : (o : Option ℕ) → Moves f g (and_then o (takings name row xs)) → ((e : ℕ) → Moves e g (takings name row xs) → c < d) → c < d
    go None n later = later f n
    go (Some b) n later = later b n.1

-- of every row of every sink
abbrev pub AllMove : List Entry → Type 0
AllMove report = (name : List ℕ) (row : ℕ) → (g : ℕ) × Moves 0 g (takings name row report)

pub all_rise : (report : List Entry) → AllMove report → Rising report
all_rise report m i j earlier later name row c d is at h t u =
    let moves = m name row in rises name row 0 moves.0 report moves.1 i j earlier later c d is at h t u

neither : (i j : ℕ) → (i < j → ⊥) → (j < i → ⊥) → i ≡ j
neither i j forth back = elim (cases_order i j) [ inl e ↦ e | inr other ↦ elim other [ inl h ↦ absurd (forth h) | inr h ↦ absurd (back h) ] ]

-- and then no counter is taken twice
pub rising-once : (report : List Entry) → Rising report → Once report
rising-once report r i j one other name row c is at t u =
    let forth : i < j → ⊥ = λ h. let less = r i j one other name row c c is at h t u in omega arith in
    let back : j < i → ⊥ = λ h. let less = r j i other one name row c c at is h u t in omega arith in
    neither i j forth back
