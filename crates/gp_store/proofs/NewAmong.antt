-- The rows that a new one was compared with.
use Rattle.std.proofs.Common.{◌≡◌, inl, inr, ⊎_elim, ℕ, ◌+◌, ◌<◌, ◌≤◌, max, List, [], ◌∷◌, ◌++◌, length-append, length, get_or, Some, sym, ◌∙◌, ap, subst, arith, slice_get}
use Rattle.std.proofs.lemmas.Bool.{cases_eq}
use Rattle.std.proofs.lemmas.Option.{slice_get-get_or, slice_get_within}
use Rattle.gp_rows.specs.declared.row.Row.{Row}
use Rattle.gp_rows.specs.Rows.{IsNewPair, IsNewOrder}
use Rattle.gp_rows.proofs.Tables.{IsTable-push}
use Rattle.gp_rows.proofs.Lists.{slice_get_in_push}
use Rattle.gp_store.specs.declared.commit.Stale.{Stale}
use Rattle.gp_store.specs.Slot.{source, key, order, Shows}
use Rattle.gp_store.specs.Reading.{IsOther, IsNewAmong, IsJudged, IsFound}

module _ (rows : List Row) (older : List ℕ) (at : ℕ) (row : Row) (its_source : ℕ) (its_key : List ℕ) (its_order : ℕ) (there : slice_get rows at ≡ Some row) (as_many : length older ≡ length rows) where
  before_there : slice_get older at ≡ Some (get_or older at 0)
  before_there = let h = slice_get_within rows at row there in slice_get-get_or older at 0 (omega (arith, h, as_many))

  pub new_more : ((k : ℕ) (r : Row) (before : ℕ) → k < at → slice_get rows k ≡ Some r → slice_get older k ≡ Some before → IsOther r before its_source its_key its_order)
      → IsOther row (get_or older at 0) its_source its_key its_order → (k : ℕ) (r : Row) (before : ℕ) → k < at + 1 → slice_get rows k ≡ Some r → slice_get older k ≡ Some before → IsOther r before its_source its_key its_order
  new_more below here k r before h is was = elim (cases_eq k at) [
    | inl e ↦
        let same : r ≡ row = some_is (sym is ∙ ap (λ q. slice_get rows q) e ∙ there) in
        let same_before : before ≡ get_or older at 0 = some_is (sym was ∙ ap (λ q. slice_get older q) e ∙ before_there) in
        subst (λ x. IsOther x before its_source its_key its_order) (sym same) (subst (λ x. IsOther row x its_source its_key its_order) (sym same_before) here)
    | inr other ↦ below k r before (omega (arith, h, other)) is was
  ]
    where
      some_is : {X : Type 0} {x y : X} → Some x ≡ Some y → x ≡ y
      some_is h = cc

  pub new_here : IsNewAmong rows older its_source its_key its_order → IsOther row (get_or older at 0) its_source its_key its_order
  new_here new = new at row (get_or older at 0) there before_there

-- a slot that shows a row is compared as that row
pub new_as_row : (rows : List Row) (older octets : List ℕ) (row : Row) → Shows octets 0 row → IsNewAmong rows older (source octets) (key octets) (order octets) → IsNewAmong rows older row.src.0 row.key.0 row.order
new_as_row rows older octets row shows new =
    subst (λ s. IsNewAmong rows older s row.key.0 row.order) (sym shows.has_source)
    (subst (λ k. IsNewAmong rows older (source octets) k row.order) (sym shows.has_key)
    (subst (λ o. IsNewAmong rows older (source octets) (key octets) o) (sym shows.has_order) new))

-- a judged slot's row is new in the table
module _ (rows : List Row) (older octets : List ℕ) (at : ℕ) (row : Row) (as_many : length older ≡ length rows) (judged : IsJudged rows older at octets) (shows : Shows octets 0 row) where
  before_of : (k : ℕ) (other : Row) → slice_get rows k ≡ Some other → slice_get older k ≡ Some (get_or older k 0)
  before_of k other there = let h = slice_get_within rows k other there in slice_get-get_or older k 0 (omega (arith, h, as_many))

  pub pair_of : IsNewPair rows row
  pair_of k other there src key_is = (judged.new k other (get_or older k 0) there (before_of k other there) (src ∙ shows.has_source)).0 (key_is ∙ shows.has_key)

  pub order_of : IsNewOrder rows row
  order_of k other there src order_is = (judged.new k other (get_or older k 0) there (before_of k other there) (src ∙ shows.has_source)).1 (order_is ∙ shows.has_order)

-- one row more is found
pub found_more : (rows : List Row) (stale : List Stale) (older : List ℕ) (last : ℕ) (row : Row) (st : Stale) (bf next : ℕ) → IsFound rows stale older last → row.order ≤ next → length rows < 1024 → IsNewPair rows row → IsNewOrder rows row
    → IsFound (rows ++ row ∷ []) (stale ++ st ∷ []) (older ++ bf ∷ []) (max last next)
found_more rows stale older last row st bf next f within room pair order = record {
  table = IsTable-push rows row f.table room pair order;
  as_many = omega (arith, f.as_many, length-append rows (row ∷ []), length-append stale (st ∷ []));
  as_many_older = omega (arith, f.as_many_older, length-append rows (row ∷ []), length-append older (bf ∷ []));
  orders = λ k r is. ⊎_elim (λ p. let o = f.orders k r p.1 in omega (arith, o)) (λ p. let e : r.order ≡ row.order = ap (λ (x : Row). x.order) p.1 in omega (arith, e, within)) (slice_get_in_push rows row r k is);
}
