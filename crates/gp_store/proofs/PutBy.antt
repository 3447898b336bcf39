-- Which change puts which row where.
use Rattle.std.proofs.Common.{◌≡◌, ◌≢◌, inl, inr, ℕ, ◌+◌, ◌-◌, ◌^◌, ◌<◌, ◌≤◌, min, max, List, length, Some, refl, sym, ◌∙◌, ap, arith, slice_get}
use Rattle.gp_rows.specs.declared.row.Row.{Row}
use Rattle.gp_rows.specs.Rows.{IsTable, IsPair, IsNewPair, IsNewOrder, AreWithin, Revives, CAPACITY}
use Rattle.gp_rows.specs.Changes.{Pairs, Raises, Retires, place_of, with_floor, retired_row}
use Rattle.gp_rows.proofs.Applied.{place_of-there, place_of-new, value-raises, value-retires, value-again, value-new}
use Rattle.gp_store.specs.Commit.{ordered}
use Rattle.gp_store.specs.State.{State}
use Rattle.gp_store.specs.Kept.{Puts, MayPut}

-- equal stores have the same rows
pub rows_of : {D : Type 0} {a b : State D} → a ≡ b → a.rows ≡ b.rows
rows_of {D} e = ap (λ (s : State D). s.rows) e

-- a counter is accepted
pub raise_puts : (rows : List Row) (last at counter : ℕ) (row : Row) → slice_get rows at ≡ Some row → Puts (Raises at counter) rows last at (with_floor counter row)
raise_puts rows last at counter row there = record { room = λ full. full; here = λ small. refl; gives = λ small. value-raises rows at counter row there }

-- a row is unpaired
pub retire_puts : (rows : List Row) (last at counter : ℕ) (row : Row) → slice_get rows at ≡ Some row → Puts (Retires at counter) rows last at (retired_row counter row)
retire_puts rows last at counter row there = record { room = λ full. full; here = λ small. refl; gives = λ small. value-retires rows at counter row there }

module _ (rows : List Row) (row : Row) (next last : ℕ) (order_is : next ≡ min (last + 1) (2 ^ 64 - 1)) where
  order_next : last < 2 ^ 64 - 1 → next ≡ last + 1
  order_next small = omega (arith, order_is, small)

  -- a pair that is there is paired again
  module _ (at floor : ℕ) (before : Row) (table : IsTable rows) (pair : IsPair rows row.src.0 row.key.0 at) (there : slice_get rows at ≡ Some before) (floor_is : floor ≡ max before.floor row.floor) where
    same : pair.0 ≡ before
    same = some_same (sym pair.1 ∙ there)
      where
        some_same : {x y : Row} → Some x ≡ Some y → x ≡ y
        some_same h = cc

    source_is : row.src.0 ≡ before.src.0
    source_is = sym pair.2 ∙ ap (λ (r : Row). r.src.0) same

    key_is : row.key.0 ≡ before.key.0
    key_is = sym pair.3 ∙ ap (λ (r : Row). r.key.0) same

    pub again_place : at ≡ place_of row.src.0 row.key.0 rows
    again_place = sym (place_of-there rows row.src.0 row.key.0 at table pair)

    pub again_puts : Puts (Pairs (ordered last row)) rows last at (record row { order = next; floor = floor })
    again_puts = record {
      room = λ full. full.0 at before there (sym source_is) (sym key_is);
      here = λ small. sym again_place;
      gives = λ small. value-again rows (ordered last row) before at (sym again_place) there ∙ ap (λ (o : ℕ). Some (record row { order = o; floor = max before.floor row.floor })) (sym (order_next small)) ∙ ap (λ (f : ℕ). Some (record row { order = next; floor = f })) (sym floor_is);
    }

    pub again_may : last < 2 ^ 64 - 1 → MayPut rows last at (record row { order = next; floor = floor })
    again_may small = inl (record { before = before; there = there; source = source_is; key = key_is; order = inr (order_next small) })

    pub again_revives : AreWithin last rows → last < 2 ^ 64 - 1 → Revives rows at (record row { order = next; floor = floor })
    again_revives within small = record {
      before = before;
      there = there;
      source = source_is;
      key = key_is;
      floor = omega (arith, floor_is);
      newest = λ k other is apart. let o = within k other is in let e = order_next small in omega (arith, o, e);
    }

  -- a new pair is added
  module _ (at : ℕ) (new : IsNewPair rows row) (end : at ≡ length rows) where
    pub new_place : at ≡ place_of row.src.0 row.key.0 rows
    new_place = end ∙ sym (place_of-new rows row new)

    pub new_puts : at ≢ CAPACITY → Puts (Pairs (ordered last row)) rows last at (record row { order = next })
    new_puts room = record {
      room = λ full. room (end ∙ full.1);
      here = λ small. sym new_place;
      gives = λ small. value-new rows (ordered last row) new ∙ ap (λ (o : ℕ). Some (record row { order = o })) (sym (order_next small));
    }

    pub new_may : 1 ≤ row.src.0 → row.src.0 ≤ 0xFFFFFFF8 → last < 2 ^ 64 - 1 → MayPut rows last at (record row { order = next })
    new_may above below small = inr (record { end = end; new = new; order = order_next small; above = above; below = below })

    pub new_order : AreWithin last rows → last < 2 ^ 64 - 1 → IsNewOrder rows (record row { order = next })
    new_order within small k other is source order = let o = within k other is in let e = order_next small in omega (arith, o, e, order)
