-- Where the rows as they are fit a ledger with one more change too.
use Rattle.std.proofs.Common.{◌≡◌, inl, inr, ℕ, zero, suc, ◌<◌, ◌≤◌, true, List, [], ◌∷◌, Some, length, map, refl, sym, ◌∙◌, ap, subst, arith, slice_get}
use Rattle.std.proofs.lemmas.Bool.{cases_eq, cases_lt}
use Rattle.std.proofs.lemmas.List.{length-map}
use Rattle.std.proofs.lemmas.Option.{slice_get_within}
use Rattle.gp_rows.specs.declared.row.Row.{Row}
use Rattle.gp_ideal.specs.declared.ledger.Values.{Values}
use Rattle.gp_ideal.specs.declared.ledger.Change.{Change}
use Rattle.gp_ideal.specs.declared.ledger.Change.TheVariants.{Pair, Accept, Retire}
use Rattle.gp_ideal.specs.Ledger.{Pairing, rows, row_of, live, floor, paired_at}
use Rattle.gp_ideal.proofs.Ledgers.{floor-here, other_row, live-here, paired-here, accept-keeps, retire-keeps, paired-within}
use Rattle.gp_sink.specs.Fits.{shown, pairing_in, IsRow, Fits}
use Rattle.gp_sink.specs.Ruled.{MayMake}
use Rattle.gp_rows.specs.Changes.{with_row}
use Rattle.gp_power.specs.Inside.{Repeats}
use Rattle.gp_power.proofs.Alike.{alike_is}

pub written : (rows : List Row) (at : ℕ) (v : Row) → at ≤ length rows → slice_get (with_row rows at v) at ≡ Some v
written [] zero v h = refl
written [] (suc at) v h = absurd (omega arith)
written (r ∷ rows) zero v h = refl
written (r ∷ rows) (suc at) v h = written rows at v (omega arith)

-- what is there already
pub written_same : (rows : List Row) (at : ℕ) (v : Row) → slice_get rows at ≡ Some v → with_row rows at v ≡ rows
written_same [] at v h = absurd cc
written_same (r ∷ rows) zero v h = let e : r ≡ v = cc in ap (λ (x : Row). x ∷ rows) (sym e)
written_same (r ∷ rows) (suc at) v h = ap (λ (l : List Row). r ∷ l) (written_same rows at v h)

elsewhere : (rows : List Row) (at : ℕ) (v : Row) (k : ℕ) → at ≤ length rows → (k ≡ at → ⊥) → slice_get (with_row rows at v) k ≡ slice_get rows k
elsewhere [] at v zero h n = absurd (n (omega arith))
elsewhere [] at v (suc k) h n = refl
elsewhere (r ∷ rows) zero v zero h n = absurd (n refl)
elsewhere (r ∷ rows) zero v (suc k) h n = refl
elsewhere (r ∷ rows) (suc at) v zero h n = refl
elsewhere (r ∷ rows) (suc at) v (suc k) h n = elsewhere rows at v k (omega arith) (λ e. n (ap suc e))

longer : (rows : List Row) (at : ℕ) (v : Row) → at ≤ length rows → at < length (with_row rows at v)
longer [] at v h = omega arith
longer (r ∷ rows) zero v h = omega arith
longer (r ∷ rows) (suc at) v h = let rest = longer rows at v (omega arith) in omega arith

as_long : (rows : List Row) (at : ℕ) (v : Row) → at < length rows → length (with_row rows at v) ≡ length rows
as_long [] at v h = absurd (omega arith)
as_long (r ∷ rows) zero v h = refl
as_long (r ∷ rows) (suc at) v h = ap suc (as_long rows at v (omega arith))

there_is : (rows : List Row) (at : ℕ) → at < length rows → (row : Row) × (slice_get rows at ≡ Some row)
there_is [] at h = absurd (omega arith)
there_is (r ∷ rows) zero h = (r, refl)
there_is (r ∷ rows) (suc at) h = there_is rows at (omega arith)

pairing-grows : (x : Change) (ledger : List Change) (at : ℕ) → row_of x ledger ≡ at → paired_at ledger at ≤ paired_at (x ∷ ledger) at
pairing-grows (Pair v c) ledger at e =
    let here : paired_at (Pair v c ∷ ledger) at ≡ suc (length ledger) = subst (λ (k : ℕ). paired_at (Pair v c ∷ ledger) k ≡ suc (length ledger)) e (paired-here v c ledger) in
    let before = paired-within ledger at in omega arith
pairing-grows (Accept r c) ledger at e = let same = (accept-keeps r c at ledger).2 in omega arith
pairing-grows (Retire r c) ledger at e = let same = (retire-keeps r c at ledger).1 in omega arith

module _ (table : List Row) (ledger : List Change) (x : Change) (at : ℕ) (v : Row) (f : Fits table ledger) (after : Fits (with_row table at v) (x ∷ ledger)) (place : at ≡ row_of x ledger) (within : at ≤ length table) where
  there_after : IsRow (x ∷ ledger) at v
  there_after = after.each at v (written table at v within)

  -- the rows fit with the change too only where they repeat it
  pub twice : MayMake table x → Fits table (x ∷ ledger) → Repeats table at v
  twice due g =
      let lengths : length table ≡ length (with_row table at v) = sym (length-map table pairing_in) ∙ ap length (g.pairs ∙ sym after.pairs) ∙ length-map (with_row table at v) pairing_in in
      let room = longer table at v within in
      let there = there_is table at (omega arith) in
      let a = g.each at there.0 there.1 in
      let values : Some (shown there.0) ≡ Some (shown v) = sym a.values ∙ there_after.values in
      let same : shown there.0 ≡ shown v = cc in
      let is_live : there.0.live ≡ v.live = sym a.is_live ∙ there_after.is_live in
      let floors : there.0.floor ≡ v.floor = sym a.has_floor ∙ there_after.has_floor in
      let pairs = is_pair x due place there.0 there.1 a.has_floor in
      record {
        row = there.0;
        newest = record { there = there.1; source = ap (λ (w : Values). w.src.0) same; newest = λ k other h src. newest pairs k other h there.0 (src ∙ sym (ap (λ (w : Values). w.src.0) same)) there.1 };
        is_live = sym a.is_live ∙ pairs.0;
        same = record {
          src = ap (λ (w : Values). w.src.0) same;
          key = ap (λ (w : Values). w.key.0) same;
          kind = ap (λ (w : Values). w.kind) same;
          level = ap (λ (w : Values). w.level) same;
          mode = ap (λ (w : Values). w.mode) same;
          group = ap (λ (w : Values). w.group) same;
          device = ap (λ (w : Values). w.device) same;
          live = is_live;
          floor = floors;
        };
      }
    where
      is_pair : (y : Change) → MayMake table y → at ≡ row_of y ledger → (row : Row) → slice_get table at ≡ Some row → floor (y ∷ ledger) at ≡ row.floor → (live (y ∷ ledger) at ≡ true) × (paired_at (y ∷ ledger) at ≡ suc (length ledger))
      is_pair (Pair w c) d e row there h = (ap (live (Pair w c ∷ ledger)) e ∙ live-here w c ledger, ap (paired_at (Pair w c ∷ ledger)) e ∙ paired-here w c ledger)
      is_pair (Accept r c) d e row there h =
          let both : Some d.0 ≡ Some row = sym d.1 ∙ ap (slice_get table) (sym e) ∙ there in
          let is : d.0 ≡ row = cc in
          let here = floor-here (Accept r c) ledger at (sym e) in
          let low = d.2 in
          let same = ap (λ (q : Row). q.floor) is in absurd (omega arith)
      is_pair (Retire r c) d e row there h =
          let both : Some d.0 ≡ Some row = sym d.1 ∙ ap (slice_get table) (sym e) ∙ there in
          let is : d.0 ≡ row = cc in
          let here = floor-here (Retire r c) ledger at (sym e) in
          let low = d.2 in
          let same = ap (λ (q : Row). q.floor) is in absurd (omega arith)

      newest : (live (x ∷ ledger) at ≡ true) × (paired_at (x ∷ ledger) at ≡ suc (length ledger)) → (k : ℕ) (other : Row) → slice_get table k ≡ Some other → (row : Row) → other.src.0 ≡ row.src.0 → slice_get table at ≡ Some row → other.order ≤ row.order
      newest p k other h row src there = elim (cases_lt row.order other.order) [
        | inl less ↦ let later = g.order at k row other there h (sym src) less in let most = paired-within (x ∷ ledger) k in let is = p.1 in absurd (omega arith)
        | inr more ↦ more
      ]

  -- and where they repeat it they do
  pub repeated : Repeats table at v → Fits table (x ∷ ledger)
  repeated r =
      let there = r.newest.there in
      let short = slice_get_within table at r.row there in
      let values : shown r.row ≡ shown v = ap shown (alike_is r.row v r.same) in
      let lives : r.row.live ≡ v.live = r.same.live in
      let floors : r.row.floor ≡ v.floor = r.same.floor in
      record {
        pairs = sym (same_pairs table at r.row there (ap pairing_in (sym (alike_is r.row v r.same)))) ∙ after.pairs;
        each = λ k row h. each r.row there values lives floors k row h;
        order = λ i j a b p q s less. order r i j a b p q s less;
        behind = λ k past. after.behind k (let l = as_long table at v short in omega arith);
      }
    where
      same_pairs : (l : List Row) (k : ℕ) (before : Row) → slice_get l k ≡ Some before → pairing_in v ≡ pairing_in before → map pairing_in (with_row l k v) ≡ map pairing_in l
      same_pairs [] k before h e = absurd cc
      same_pairs (y ∷ l) zero before h e = let is : y ≡ before = cc in ap (λ (p : Pairing). p ∷ map pairing_in l) (e ∙ ap pairing_in (sym is))
      same_pairs (y ∷ l) (suc k) before h e = ap (λ (m : List Pairing). pairing_in y ∷ m) (same_pairs l k before h e)

      each : (row : Row) → slice_get table at ≡ Some row → shown row ≡ shown v → row.live ≡ v.live → row.floor ≡ v.floor → (k : ℕ) (y : Row) → slice_get table k ≡ Some y → IsRow (x ∷ ledger) k y
      each row there values lives floors k y h = elim (cases_eq k at) [
        | inl e ↦
            let both : Some row ≡ Some y = sym there ∙ ap (slice_get table) (sym e) ∙ h in
            let is : row ≡ y = cc in
            subst (λ (n : ℕ). IsRow (x ∷ ledger) n y) (sym e) (subst (λ (q : Row). IsRow (x ∷ ledger) at q) is
            (record { values = there_after.values ∙ ap (λ (w : Values). Some w) (sym values); is_live = there_after.is_live ∙ sym lives; has_floor = there_after.has_floor ∙ sym floors }))
        | inr n ↦ after.each k y (elsewhere table at v k within n ∙ h)
      ]

      later : (j : ℕ) → paired_at ledger j ≤ paired_at (x ∷ ledger) j
      later j = elim (cases_eq (row_of x ledger) j) [
        | inl e ↦ pairing-grows x ledger j e
        | inr n ↦ let same = (other_row x ledger j n).paired in omega arith
      ]

      order : Repeats table at v → (i j : ℕ) (a b : Row) → slice_get table i ≡ Some a → slice_get table j ≡ Some b → a.src.0 ≡ b.src.0 → a.order < b.order → paired_at (x ∷ ledger) i < paired_at (x ∷ ledger) j
      order r i j a b p q s less = elim (cases_eq i at) [
        | inl e ↦
            let both : Some r.row ≡ Some a = sym r.newest.there ∙ ap (slice_get table) (sym e) ∙ p in
            let is : r.row ≡ a = cc in
            let most = r.newest.newest j b q (sym s ∙ ap (λ (y : Row). y.src.0) (sym is) ∙ r.newest.source) in
            let orders = ap (λ (y : Row). y.order) is in absurd (omega arith)
        | inr n ↦
            let was = f.order i j a b p q s less in
            let one = (other_row x ledger i (λ e. n (sym e ∙ sym place))).paired in
            let grows = later j in omega arith
      ]
