-- Rows that fit a ledger have the current pairings of the ledger.
use Rattle.std.proofs.Common.{◌≡◌, inl, inr, ℕ, ◌≤◌, List, Option, Some, None, option_map, refl, sym, ◌∙◌, ap, arith, slice_get}
use Rattle.std.proofs.lemmas.Bool.{cases_eq, cases_lt}
use Rattle.std.proofs.lemmas.Option.{slice_get-map}
use Rattle.gp_rows.specs.declared.row.Row.{Row}
use Rattle.gp_rows.specs.Rows.{IsTable, IsNewest, IsCurrent}
use Rattle.gp_ideal.specs.declared.ledger.Values.{Values}
use Rattle.gp_ideal.specs.declared.ledger.Change.{Change}
use Rattle.gp_ideal.specs.Ledger.{Pairing, pairing_of, values_of, live, floor, last_row, where_live, current, known}
use Rattle.gp_sink.specs.Fits.{shown, pairing_in, Fits}
use Rattle.gp_ideal.proofs.Pairs.{bool_cases, cond_true, cond_false}
use Rattle.gp_ideal.proofs.Ledgers.{values-pair, last-values, last-latest, last-none}

-- one place has one row
same_row : (table : List Row) (i j : ℕ) (a b : Row) → slice_get table i ≡ Some a → slice_get table j ≡ Some b → i ≡ j → a ≡ b
same_row table i j a b p q e = some_is a b (sym p ∙ ap (slice_get table) e ∙ q)
  where
    some_is : (x y : Row) → Some x ≡ Some y → x ≡ y
    some_is x y h = cc

-- a row of the ledger is one of the table
row_there : (table : List Row) (ledger : List Change) (at : ℕ) (v : Values) → Fits table ledger → values_of ledger at ≡ Some v → (row : Row) × (slice_get table at ≡ Some row) × (shown row ≡ v)
row_there table ledger at v f h = from (slice_get table at) refl (sym (slice_get-map pairing_in table at) ∙ ap (λ (l : List Pairing). slice_get l at) f.pairs ∙ values-pair ledger at v h)
  where
    from : (x : Option Row) → slice_get table at ≡ x → option_map pairing_in x ≡ Some (pairing_of v) → (row : Row) × (slice_get table at ≡ Some row) × (shown row ≡ v)
    from None is e = absurd cc
    from (Some row) is e = let both : Some (shown row) ≡ Some v = sym (f.each at row is).values ∙ h in (row, is, (let same : shown row ≡ v = cc in same))

-- the newest row of a SrcID is the one that was paired last
pub newest_is : (table : List Row) (ledger : List Change) (src at : ℕ) (row : Row) → IsTable table → Fits table ledger → IsNewest table src at row → last_row ledger src ≡ Some (at, shown row)
newest_is table ledger src at row t f n = from (last_row ledger src) refl
  where
    from : (x : Option (ℕ × Values)) → last_row ledger src ≡ x → x ≡ Some (at, shown row)
    from None is = absurd (last-none ledger src at (shown row) is (f.each at row n.there).values n.source)
    from (Some found) is =
        let its = last-values ledger src found is in
        let there = row_there table ledger found.0 found.1 f its.0 in
        elim (cases_eq at found.0) [
          | inl e ↦
              let same = same_row table at found.0 row there.0 n.there there.1 e in
              ap (λ (k : ℕ). Some (k, found.1)) (sym e) ∙ ap (λ (v : Values). Some (at, v)) (sym there.2 ∙ ap shown (sym same))
          | inr differs ↦
              let source : there.0.src.0 ≡ src = ap (λ (v : Values). v.src.0) there.2 ∙ its.1 in
              let below = n.newest found.0 there.0 there.1 source in
              let apart : there.0.order ≡ row.order → ⊥ = λ e. differs (t.orders at found.0 row there.0 n.there there.1 (n.source ∙ sym source) (sym e)) in
              let later = last-latest ledger src found at (shown row) is (f.each at row n.there).values n.source differs in
              elim (cases_lt there.0.order row.order) [
                | inl less ↦ let earlier = f.order found.0 at there.0 row there.1 n.there (source ∙ sym n.source) less in absurd (omega arith)
                | inr more ↦ absurd (apart (omega arith))
              ]
        ]

-- the row that was paired last is the newest of its SrcID
pub last_is : (table : List Row) (ledger : List Change) (src : ℕ) (found : ℕ × Values) → Fits table ledger → last_row ledger src ≡ Some found → (row : Row) × IsNewest table src found.0 row × (shown row ≡ found.1)
last_is table ledger src found f is =
    let its = last-values ledger src found is in
    let there = row_there table ledger found.0 found.1 f its.0 in
    let source : there.0.src.0 ≡ src = ap (λ (v : Values). v.src.0) there.2 ∙ its.1 in
    (there.0, record { there = there.1; source = source; newest = λ k other h of_src. newest k other h of_src there.0 there.1 source }, there.2)
  where
    newest : (k : ℕ) (other : Row) → slice_get table k ≡ Some other → other.src.0 ≡ src → (row : Row) → slice_get table found.0 ≡ Some row → row.src.0 ≡ src → other.order ≤ row.order
    newest k other h of_src row there source = elim (cases_eq k found.0) [
      | inl e ↦ let same = same_row table k found.0 other row h there e in let orders = ap (λ (r : Row). r.order) same in omega arith
      | inr differs ↦ elim (cases_lt row.order other.order) [
        | inl less ↦
            let earlier = f.order found.0 k row other there h (source ∙ sym of_src) less in
            let later = last-latest ledger src found k (shown other) is (f.each k other h).values of_src differs in absurd (omega arith)
        | inr more ↦ more
      ]
    ]

-- what a search finds is the current row
pub current_is : (table : List Row) (ledger : List Change) (src at : ℕ) → IsTable table → Fits table ledger → (is : IsCurrent table src at) → current ledger src ≡ Some (at, shown is.0)
unfolding current
current_is table ledger src at t f is =
    ap (where_live ledger) (newest_is table ledger src at is.0 t f is.1)
    ∙ cond_true (live ledger at) (Some (at, shown is.0)) None ((f.each at is.0 is.1.there).is_live ∙ is.2)

-- and where it finds none there is no current row
pub current_none : (table : List Row) (ledger : List Change) (src : ℕ) → Fits table ledger → ((at : ℕ) → IsCurrent table src at → ⊥) → current ledger src ≡ None
unfolding current
current_none table ledger src f none = from (last_row ledger src) refl
  where
    from : (x : Option (ℕ × Values)) → last_row ledger src ≡ x → where_live ledger x ≡ None
    from None is = refl
    from (Some found) is = elim (bool_cases (live ledger found.0)) [
      | inl e ↦ let row = last_is table ledger src found f is in absurd (none found.0 (row.0, row.1, sym (f.each found.0 row.0 row.1.there).is_live ∙ e))
      | inr e ↦ cond_false (live ledger found.0) (Some found) None e
    ]

-- what is known of a SrcID is what its current row has
pub known_is : (table : List Row) (ledger : List Change) (src at : ℕ) (row : Row) → IsTable table → Fits table ledger → IsCurrent table src at → slice_get table at ≡ Some row
    → known ledger src ≡ Some (record { row = at; values = shown row; floor = row.floor })
known_is table ledger src at row t f is there =
    let same = same_row table at at is.0 row is.1.there there refl in
    ap (option_map (λ (found : ℕ × Values). record { row = found.0; values = found.1; floor = floor ledger found.0 })) (current_is table ledger src at t f is)
    ∙ ap (λ (v : Values). Some (record { row = at; values = v; floor = floor ledger at })) (ap shown same)
    ∙ ap (λ (n : ℕ). Some (record { row = at; values = shown row; floor = n })) (f.each at row there).has_floor

pub known_none : (table : List Row) (ledger : List Change) (src : ℕ) → Fits table ledger → ((at : ℕ) → IsCurrent table src at → ⊥) → known ledger src ≡ None
known_none table ledger src f none = ap (option_map (λ (found : ℕ × Values). record { row = found.0; values = found.1; floor = floor ledger found.0 })) (current_none table ledger src f none)

-- a SrcID has one current row
pub current_one : (table : List Row) (src i j : ℕ) → IsTable table → IsCurrent table src i → IsCurrent table src j → i ≡ j
current_one table src i j t a b =
    let above = a.1.newest j b.0 b.1.there b.1.source in
    let below = b.1.newest i a.0 a.1.there a.1.source in
    t.orders i j a.0 b.0 a.1.there b.1.there (a.1.source ∙ sym b.1.source) (omega (arith, above, below))
