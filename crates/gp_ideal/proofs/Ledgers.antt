-- What one change more makes of a ledger's readings, and which row of a SrcID was paired last.
use Rattle.std.proofs.Common.{◌≡◌, inl, inr, ℕ, suc, ◌<◌, ◌≤◌, max, true, false, List, [], ◌∷◌, Some, None, length, refl, sym, ◌∙◌, ap, subst, arith, slice_get}
use Rattle.std.proofs.lemmas.Bool.{cases_eq}
use Rattle.gp_ideal.specs.declared.ledger.Values.{Values}
use Rattle.gp_ideal.specs.declared.ledger.Change.{Change}
use Rattle.gp_ideal.specs.declared.ledger.Change.TheVariants.{Pair, Accept, Retire}
use Rattle.gp_ideal.specs.Ledger.{Pairing, pairing_of, with_pairing, rows, row_of, counter_in, values_of, live, floor, paired_at, last_row}
use Rattle.gp_ideal.proofs.Pairs.{if_eq, if_other, slice_get-with_pairing, slice_get-with_pairing_other, place_is}

pub floor-here : (x : Change) (ledger : List Change) (at : ℕ) → row_of x ledger ≡ at → floor (x ∷ ledger) at ≡ max (floor ledger at) (counter_in x)
unfolding floor
floor-here x ledger at e = if_eq (row_of x ledger) at _ _ e

-- what a change leaves of the other rows
pub record SameRow (old new : List Change) (at : ℕ) : Type 0 where
  pub values : values_of new at ≡ values_of old at
  pub is_live : live new at ≡ live old at
  pub has_floor : floor new at ≡ floor old at
  pub paired : paired_at new at ≡ paired_at old at

pub other_row : (x : Change) (ledger : List Change) (at : ℕ) → (row_of x ledger ≡ at → ⊥) → SameRow ledger (x ∷ ledger) at
unfolding floor values_of live paired_at
other_row (Pair values counter) ledger at n = record {
  values = if_other (row_of (Pair values counter) ledger) at _ _ n;
  is_live = if_other (row_of (Pair values counter) ledger) at _ _ n;
  has_floor = if_other (row_of (Pair values counter) ledger) at _ _ n;
  paired = if_other (row_of (Pair values counter) ledger) at _ _ n;
}
other_row (Accept row counter) ledger at n = record { values = refl; is_live = refl; has_floor = if_other row at _ _ n; paired = refl }
other_row (Retire row counter) ledger at n = record { values = refl; is_live = if_other row at _ _ n; has_floor = if_other row at _ _ n; paired = refl }

pub values-here : (v : Values) (c : ℕ) (ledger : List Change) → values_of (Pair v c ∷ ledger) (row_of (Pair v c) ledger) ≡ Some v
unfolding values_of
values-here v c ledger = if_eq (row_of (Pair v c) ledger) (row_of (Pair v c) ledger) _ _ refl

pub live-here : (v : Values) (c : ℕ) (ledger : List Change) → live (Pair v c ∷ ledger) (row_of (Pair v c) ledger) ≡ true
unfolding live
live-here v c ledger = if_eq (row_of (Pair v c) ledger) (row_of (Pair v c) ledger) _ _ refl

pub paired-here : (v : Values) (c : ℕ) (ledger : List Change) → paired_at (Pair v c ∷ ledger) (row_of (Pair v c) ledger) ≡ suc (length ledger)
unfolding paired_at
paired-here v c ledger = if_eq (row_of (Pair v c) ledger) (row_of (Pair v c) ledger) _ _ refl

pub retired-here : (at c : ℕ) (ledger : List Change) → live (Retire at c ∷ ledger) at ≡ false
unfolding live
retired-here at c ledger = if_eq at at _ _ refl

pub rows-pair : (v : Values) (c : ℕ) (ledger : List Change) → rows (Pair v c ∷ ledger) ≡ with_pairing (pairing_of v) (rows ledger)
unfolding rows
rows-pair v c ledger = refl

pub rows-accept : (at c : ℕ) (ledger : List Change) → rows (Accept at c ∷ ledger) ≡ rows ledger
unfolding rows
rows-accept at c ledger = refl

pub rows-retire : (at c : ℕ) (ledger : List Change) → rows (Retire at c ∷ ledger) ≡ rows ledger
unfolding rows
rows-retire at c ledger = refl

-- an Accept or a Retire leaves the values and the pairing of each row
pub accept-keeps : (at c k : ℕ) (ledger : List Change) → (values_of (Accept at c ∷ ledger) k ≡ values_of ledger k) × (live (Accept at c ∷ ledger) k ≡ live ledger k) × (paired_at (Accept at c ∷ ledger) k ≡ paired_at ledger k)
unfolding values_of live paired_at
accept-keeps at c k ledger = (refl, refl, refl)

pub retire-keeps : (at c k : ℕ) (ledger : List Change) → (values_of (Retire at c ∷ ledger) k ≡ values_of ledger k) × (paired_at (Retire at c ∷ ledger) k ≡ paired_at ledger k)
unfolding values_of paired_at
retire-keeps at c k ledger = (refl, refl)

pub paired-within : (ledger : List Change) (at : ℕ) → paired_at ledger at ≤ length ledger
unfolding paired_at
paired-within [] at = omega arith
paired-within (Pair v c ∷ ledger) at = elim (cases_eq (row_of (Pair v c) ledger) at) [
  | inl e ↦ rw (if_eq (row_of (Pair v c) ledger) at (suc (length ledger)) (paired_at ledger at) e) (omega arith)
  | inr n ↦ let within = paired-within ledger at in rw (if_other (row_of (Pair v c) ledger) at (suc (length ledger)) (paired_at ledger at) n) (omega arith)
]
paired-within (Accept row c ∷ ledger) at = let within = paired-within ledger at in omega arith
paired-within (Retire row c ∷ ledger) at = let within = paired-within ledger at in omega arith

-- a row with values is that of their pair
pub values-pair : (ledger : List Change) (at : ℕ) (v : Values) → values_of ledger at ≡ Some v → slice_get (rows ledger) at ≡ Some (pairing_of v)
unfolding values_of rows
values-pair [] at v h = absurd cc
values-pair (Pair w c ∷ ledger) at v h = elim (cases_eq (row_of (Pair w c) ledger) at) [
  | inl e ↦ let is : Some w ≡ Some v = sym (if_eq (row_of (Pair w c) ledger) at (Some w) (values_of ledger at) e) ∙ h in
      let same : w ≡ v = cc in
      subst (λ (k : ℕ). slice_get (with_pairing (pairing_of w) (rows ledger)) k ≡ Some (pairing_of v)) e (slice_get-with_pairing (pairing_of w) (rows ledger) ∙ ap (λ (x : Values). Some (pairing_of x)) same)
  | inr n ↦ slice_get-with_pairing_other (pairing_of w) (rows ledger) at n
      ∙ values-pair ledger at v (sym (if_other (row_of (Pair w c) ledger) at (Some w) (values_of ledger at) n) ∙ h)
]
values-pair (Accept row c ∷ ledger) at v h = values-pair ledger at v h
values-pair (Retire row c ∷ ledger) at v h = values-pair ledger at v h

-- a pairing of another SrcID concerns another row
pub apart : (ledger : List Change) (w v : Values) (c at : ℕ) → (w.src.0 ≡ v.src.0 → ⊥) → values_of ledger at ≡ Some v → row_of (Pair w c) ledger ≡ at → ⊥
apart ledger w v c at n h e =
    n (ap (λ (p : Pairing). p.0) (place_is (pairing_of w) (pairing_of v) (rows ledger) (subst (λ (k : ℕ). slice_get (rows ledger) k ≡ Some (pairing_of v)) (sym e) (values-pair ledger at v h))))

-- the row that was paired last has its values and this SrcID
pub last-values : (ledger : List Change) (src : ℕ) (f : ℕ × Values) → last_row ledger src ≡ Some f → (values_of ledger f.0 ≡ Some f.1) × (f.1.src.0 ≡ src)
unfolding last_row
last-values [] src f h = absurd cc
last-values (Pair w c ∷ ledger) src f h = elim (cases_eq w.src.0 src) [
  | inl e ↦ let is : Some (row_of (Pair w c) ledger, w) ≡ Some f = sym (if_eq w.src.0 src (Some (row_of (Pair w c) ledger, w)) (last_row ledger src) e) ∙ h in
      let same : (row_of (Pair w c) ledger, w) ≡ f = cc in
      subst (λ (x : ℕ × Values). (values_of (Pair w c ∷ ledger) x.0 ≡ Some x.1) × (x.1.src.0 ≡ src)) same (values-here w c ledger, e)
  | inr n ↦ let before = last-values ledger src f (sym (if_other w.src.0 src (Some (row_of (Pair w c) ledger, w)) (last_row ledger src) n) ∙ h) in
      let other = apart ledger w f.1 c f.0 (λ e. n (e ∙ before.1)) before.0 in
      ((other_row (Pair w c) ledger f.0 other).values ∙ before.0, before.1)
]
last-values (Accept row c ∷ ledger) src f h = let before = last-values ledger src f h in ((accept-keeps row c f.0 ledger).0 ∙ before.0, before.1)
last-values (Retire row c ∷ ledger) src f h = let before = last-values ledger src f h in ((retire-keeps row c f.0 ledger).0 ∙ before.0, before.1)

-- each other row of its SrcID was paired before
pub last-latest : (ledger : List Change) (src : ℕ) (f : ℕ × Values) (k : ℕ) (v : Values) → last_row ledger src ≡ Some f → values_of ledger k ≡ Some v → v.src.0 ≡ src → (k ≡ f.0 → ⊥) → paired_at ledger k < paired_at ledger f.0
unfolding last_row
last-latest [] src f k v h is of_src differs = absurd cc
last-latest (Pair w c ∷ ledger) src f k v h is of_src differs = elim (cases_eq w.src.0 src) [
  | inl e ↦ let found : Some (row_of (Pair w c) ledger, w) ≡ Some f = sym (if_eq w.src.0 src (Some (row_of (Pair w c) ledger, w)) (last_row ledger src) e) ∙ h in
      let same : (row_of (Pair w c) ledger, w) ≡ f = cc in
      let row : row_of (Pair w c) ledger ≡ f.0 = ap (λ (x : ℕ × Values). x.0) same in
      let here = subst (λ (n : ℕ). paired_at (Pair w c ∷ ledger) n ≡ suc (length ledger)) row (paired-here w c ledger) in
      let there = (other_row (Pair w c) ledger k (λ q. differs (sym q ∙ row))).paired in
      let within = paired-within ledger k in
      omega arith
  | inr n ↦ let before : last_row ledger src ≡ Some f = sym (if_other w.src.0 src (Some (row_of (Pair w c) ledger, w)) (last_row ledger src) n) ∙ h in
      let its = last-values ledger src f before in
      let other = apart ledger w f.1 c f.0 (λ e. n (e ∙ its.1)) its.0 in
      let stays = (other_row (Pair w c) ledger f.0 other).paired in
      elim (cases_eq (row_of (Pair w c) ledger) k) [
        | inl q ↦ let found : Some w ≡ Some v = sym (subst (λ (n : ℕ). values_of (Pair w c ∷ ledger) n ≡ Some w) q (values-here w c ledger)) ∙ is in
            let same : w ≡ v = cc in absurd (n (ap (λ (x : Values). x.src.0) same ∙ of_src))
        | inr q ↦ let its_row = other_row (Pair w c) ledger k q in
            let there = its_row.paired in
            let rest = last-latest ledger src f k v before (sym its_row.values ∙ is) of_src differs in omega arith
      ]
]
last-latest (Accept row c ∷ ledger) src f k v h is of_src differs =
    let a = accept-keeps row c k ledger in let b = accept-keeps row c f.0 ledger in
    let rest = last-latest ledger src f k v h (sym a.0 ∙ is) of_src differs in
    let p = a.2 in let q = b.2 in omega arith
last-latest (Retire row c ∷ ledger) src f k v h is of_src differs =
    let a = retire-keeps row c k ledger in let b = retire-keeps row c f.0 ledger in
    let rest = last-latest ledger src f k v h (sym a.0 ∙ is) of_src differs in
    let p = a.1 in let q = b.1 in omega arith

some_is_not_none : {A : Type 0} (x : A) → Some x ≡ None → ⊥
some_is_not_none x h = cc

-- where no row of a SrcID was paired, none has it
pub last-none : (ledger : List Change) (src k : ℕ) (v : Values) → last_row ledger src ≡ None → values_of ledger k ≡ Some v → v.src.0 ≡ src → ⊥
unfolding last_row values_of
last-none [] src k v h is of_src = none_is_not v is
  where
    none_is_not : (v : Values) → None ≡ Some v → ⊥
    none_is_not v is = cc
last-none (Pair w c ∷ ledger) src k v h is of_src = elim (cases_eq w.src.0 src) [
  | inl e ↦ some_is_not_none (row_of (Pair w c) ledger, w) (sym (if_eq w.src.0 src (Some (row_of (Pair w c) ledger, w)) (last_row ledger src) e) ∙ h)
  | inr n ↦ elim (cases_eq (row_of (Pair w c) ledger) k) [
    | inl q ↦ let found : Some w ≡ Some v = sym (subst (λ (n : ℕ). values_of (Pair w c ∷ ledger) n ≡ Some w) q (values-here w c ledger)) ∙ is in
        let same : w ≡ v = cc in n (ap (λ (x : Values). x.src.0) same ∙ of_src)
    | inr q ↦ last-none ledger src k v (sym (if_other w.src.0 src (Some (row_of (Pair w c) ledger, w)) (last_row ledger src) n) ∙ h) (sym (other_row (Pair w c) ledger k q).values ∙ is) of_src
  ]
]
last-none (Accept row c ∷ ledger) src k v h is of_src = last-none ledger src k v h (sym (accept-keeps row c k ledger).0 ∙ is) of_src
last-none (Retire row c ∷ ledger) src k v h is of_src = last-none ledger src k v h (sym (retire-keeps row c k ledger).0 ∙ is) of_src
