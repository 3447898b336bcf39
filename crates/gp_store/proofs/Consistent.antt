-- What stays true of slots where one of them closes, or opens with newer octets.
use Rattle.std.proofs.Common.{◌≡◌, ◌⊎◌, inl, inr, ⊎_elim, ℕ, suc, ◌<◌, Bool, true, false, List, Option, Some, None, IsSome, refl, sym, ◌∙◌, ap, subst, arith}
use Rattle.std.proofs.lemmas.Bool.{cases_eq}
use Rattle.std.proofs.lemmas.Bool.Decides.{nat_tests}
use Rattle.gp_store.specs.Slot.{generation}
use Rattle.gp_store.specs.Slots.{Slots, other_side, newer, newest, IsSamePair, IsSameOrder, IsFormed, IsWell, IsConsistent}
use Rattle.gp_store.proofs.Images.{IsAt}

-- all slots but one are the same
abbrev pub SameButAt : ℕ → Bool → Slots → Slots → Type 0
SameButAt row side old new = (r : ℕ) (s : Bool) → ((r ≡ row) × (s ≡ side) → ⊥) → new r s ≡ old r s

-- slots of which none opens, and whose rows have the same newest ones, stay consistent
pub consistent_fewer : (old new : Slots) → ((r : ℕ) (s : Bool) (o : List ℕ) → new r s ≡ Some o → old r s ≡ Some o) → ((r : ℕ) → newest new r ≡ newest old r) → IsConsistent old → IsConsistent new
consistent_fewer old new fewer same c r s o is =
    let w = c r s o (fewer r s o is) in
    record {
      formed = w.formed;
      follows = λ before e. subst IsSome (sym (same before)) (w.follows before e);
      twin = λ even odd e. w.twin even odd (fewer r false even e);
      apart = λ even odd e. w.apart even odd (fewer r false even e);
      new_pair = λ above other h e. w.new_pair above other h (sym (same above) ∙ e);
      new_order = λ above t other h e. w.new_order above t other h (fewer above t other e);
    }

newer-some : (a b : Option (List ℕ)) (o : List ℕ) → newer a b ≡ Some o → (a ≡ Some o) ⊎ (b ≡ Some o)
newer-some None b o h = inr h
newer-some (Some a) None o h = inl h
newer-some (Some a) (Some b) o h = grind (arith, nat_tests)

pub newer-none : (a : Option (List ℕ)) → newer a None ≡ a
newer-none None = refl
newer-none (Some a) = refl

pub newer_odd : (a : Option (List ℕ)) (b : List ℕ) → ((o : List ℕ) → a ≡ Some o → generation o < generation b) → newer a (Some b) ≡ Some b
newer_odd None b h = refl
newer_odd (Some a) b h = let lower = h a refl in grind (arith, nat_tests)

pub newer_even : (a : List ℕ) (b : Option (List ℕ)) → ((o : List ℕ) → b ≡ Some o → generation o < generation a) → newer (Some a) b ≡ Some a
newer_even a None h = refl
newer_even a (Some b) h = let lower = h b refl in grind (arith, nat_tests)

-- the newest open slot of a row is open
pub newest_is_open : (slots : Slots) (row : ℕ) (o : List ℕ) → newest slots row ≡ Some o → (s : Bool) × (slots row s ≡ Some o)
newest_is_open slots row o h = ⊎_elim (λ e. (false, e)) (λ e. (true, e)) (newer-some (slots row false) (slots row true) o h)

pub cases_at : (row : ℕ) (side : Bool) (r : ℕ) (s : Bool) → IsAt row side r s ⊎ (IsAt row side r s → ⊥)
cases_at row side r s = elim (cases_eq r row) [ inl e ↦ sides side s e | inr other ↦ inr (λ at. other at.0) ]
  where
    sides : (x y : Bool) → r ≡ row → ((r ≡ row) × (y ≡ x)) ⊎ ((r ≡ row) × (y ≡ x) → ⊥)
    sides false false e = inl (e, refl)
    sides true true e = inl (e, refl)
    sides false true e = inr (λ at. let h : true ≡ false = at.1 in cc)
    sides true false e = inr (λ at. let h : false ≡ true = at.1 in cc)

-- these octets may open in that slot: they are well formed and newer than all, the row before is there, an open other
-- slot of the row has the same SrcID and key, and no slot of another row has that pair or, of that SrcID, that order
pub record Opens (slots : Slots) (row : ℕ) (side : Bool) (b : List ℕ) : Type 0 where
  pub formed : IsFormed b
  pub follows : (before : ℕ) → row ≡ suc before → IsSome (newest slots before)
  pub greatest : (r : ℕ) (s : Bool) (o : List ℕ) → slots r s ≡ Some o → generation o < generation b
  pub twin : (o : List ℕ) → slots row (other_side side) ≡ Some o → IsSamePair o b
  pub new_pair : (r : ℕ) (s : Bool) (o : List ℕ) → (r ≡ row → ⊥) → slots r s ≡ Some o → IsSamePair o b → ⊥
  pub new_order : (r : ℕ) (s : Bool) (o : List ℕ) → (r ≡ row → ⊥) → slots r s ≡ Some o → IsSameOrder o b → ⊥

module _ (row : ℕ) (side : Bool) (old new : Slots) (same : SameButAt row side old new) where
  pub newest_elsewhere : (r : ℕ) → (r ≡ row → ⊥) → newest new r ≡ newest old r
  newest_elsewhere r other =
      ap (λ (a : Option (List ℕ)). newer a (new r true)) (same r false (λ e. other e.0)) ∙ ap (λ (b : Option (List ℕ)). newer (old r false) b) (same r true (λ e. other e.0))

  -- a slot that isn't its row's newest one closes
  pub newest_closes : newest old row ≡ old row (other_side side) → new row side ≡ None → newest new row ≡ newest old row
  newest_closes stale closed = from side same closed stale
    where
      from : (s : Bool) → SameButAt row s old new → new row s ≡ None → newest old row ≡ old row (other_side s) → newest new row ≡ newest old row
      from false same closed stale = ap (λ (a : Option (List ℕ)). newer a (new row true)) closed ∙ same row true (λ e. true_is_not e.1) ∙ sym stale
        where
          true_is_not : true ≡ false → ⊥
          true_is_not e = cc
      from true same closed stale = ap (λ (b : Option (List ℕ)). newer (new row false) b) closed ∙ newer-none (new row false) ∙ same row false (λ e. false_is_not e.1) ∙ sym stale
        where
          false_is_not : false ≡ true → ⊥
          false_is_not e = cc

  -- every slot that is open afterwards was open before, but for that one
  pub was_open : (r : ℕ) (s : Bool) (o : List ℕ) → new r s ≡ Some o → IsAt row side r s ⊎ (old r s ≡ Some o)
  was_open r s o is = elim (cases_at row side r s) [ inl at ↦ inl at | inr other ↦ inr (sym (same r s other) ∙ is) ]

  pub consistent_closes : IsConsistent old → newest old row ≡ old row (other_side side) → new row side ≡ None → IsConsistent new
  consistent_closes c stale closed = consistent_fewer old new fewer each c
    where
      fewer : (r : ℕ) (s : Bool) (o : List ℕ) → new r s ≡ Some o → old r s ≡ Some o
      fewer r s o is = ⊎_elim (λ at. absurd (none_is_not o (sym (subst (λ q. new q side ≡ None) (sym at.0) closed) ∙ ap (λ q. new r q) (sym at.1) ∙ is))) (λ e. e) (was_open r s o is)
        where
          none_is_not : (x : List ℕ) → None ≡ Some x → ⊥
          none_is_not x h = cc

      each : (r : ℕ) → newest new r ≡ newest old r
      each r = elim (cases_eq r row) [ inl e ↦ subst (λ q. newest new q ≡ newest old q) (sym e) (newest_closes stale closed) | inr other ↦ newest_elsewhere r other ]

  module _ (b : List ℕ) (opened : new row side ≡ Some b) where
    -- a slot opens with a greater generation than the row's other slot has
    pub newest_opens : ((o : List ℕ) → old row (other_side side) ≡ Some o → generation o < generation b) → newest new row ≡ Some b
    newest_opens greater = from side same opened greater
      where
        from : (s : Bool) → SameButAt row s old new → new row s ≡ Some b → ((o : List ℕ) → old row (other_side s) ≡ Some o → generation o < generation b) → newest new row ≡ Some b
        from false same opened greater = ap (λ (a : Option (List ℕ)). newer a (new row true)) opened ∙ newer_even b (new row true) (λ o e. greater o (sym (same row true (λ e'. true_is_not e'.1)) ∙ e))
          where
            true_is_not : true ≡ false → ⊥
            true_is_not e = cc
        from true same opened greater = ap (λ (a : Option (List ℕ)). newer (new row false) a) opened ∙ newer_odd (new row false) b (λ o e. greater o (sym (same row false (λ e'. false_is_not e'.1)) ∙ e))
          where
            false_is_not : false ≡ true → ⊥
            false_is_not e = cc

    is_b : (r : ℕ) (s : Bool) (o : List ℕ) → IsAt row side r s → new r s ≡ Some o → o ≡ b
    is_b r s o at is = let e : Some o ≡ Some b = sym is ∙ ap (λ q. new q s) at.0 ∙ ap (λ t. new row t) at.1 ∙ opened in cc

    still_some : ((o : List ℕ) → old row (other_side side) ≡ Some o → generation o < generation b) → (r : ℕ) → IsSome (newest old r) → IsSome (newest new r)
    still_some greater r h = elim (cases_eq r row) [
      | inl e ↦ subst IsSome (sym (newest_opens greater) ∙ ap (λ q. newest new q) (sym e)) refl
      | inr other ↦ subst IsSome (sym (newest_elsewhere r other)) h
    ]

    same_pair_sym : (x y : List ℕ) → IsSamePair x y → IsSamePair y x
    same_pair_sym x y p = record { same_source = sym p.same_source; same_key = sym p.same_key }

    same_order_sym : (x y : List ℕ) → IsSameOrder x y → IsSameOrder y x
    same_order_sym x y p = record { same_source = sym p.same_source; same_order = sym p.same_order }

    module _ (c : IsConsistent old) (f : Opens old row side b) where
      greater : (o : List ℕ) → old row (other_side side) ≡ Some o → generation o < generation b
      greater o e = f.greatest row (other_side side) o e

      -- what is open in another row was so before
      in_other : (r : ℕ) (s : Bool) (o : List ℕ) → (r ≡ row → ⊥) → new r s ≡ Some o → old r s ≡ Some o
      in_other r s o ne e = sym (same r s (λ at. ne at.0)) ∙ e

      opened_well : IsWell new row side b
      opened_well = record {
        formed = f.formed;
        follows = λ before e. still_some greater before (f.follows before e);
        twin = λ even odd e. f.twin even (ap (λ t. old row (other_side t)) odd ∙ sym (same row false (λ at. false_is_not (at.1 ∙ odd))) ∙ e);
        apart = λ even odd e g. let less = f.greatest row false even (sym (same row false (λ at. false_is_not (at.1 ∙ odd))) ∙ e) in omega (arith, less, g);
        new_pair = λ above other h e.
            let t = newest_is_open new above other e in
            f.new_pair above t.0 other (λ q. omega (arith, q, h)) (in_other above t.0 other (λ q. omega (arith, q, h)) t.1);
        new_order = λ above t other h e. f.new_order above t other (λ q. omega (arith, q, h)) (in_other above t other (λ q. omega (arith, q, h)) e);
      }
        where
          false_is_not : false ≡ true → ⊥
          false_is_not e = cc

      module _ (r : ℕ) (s : Bool) (o : List ℕ) (e : old r s ≡ Some o) where
        w : IsWell old r s o
        w = c r s o e

        twin_well : (even : List ℕ) → s ≡ true → IsAt row side r false ⊎ (old r false ≡ Some even) → new r false ≡ Some even → IsSamePair even o
        twin_well even odd (inl at) is =
            let o_is : old row (other_side side) ≡ Some o = ap (λ t. old row (other_side t)) (sym at.1) ∙ ap (λ q. old q true) (sym at.0) ∙ ap (λ t. old r t) (sym odd) ∙ e in
            subst (λ x. IsSamePair x o) (sym (is_b r false even at is)) (same_pair_sym o b (f.twin o o_is))
        twin_well even odd (inr was) is = w.twin even odd was

        apart_well : (even : List ℕ) → s ≡ true → IsAt row side r false ⊎ (old r false ≡ Some even) → new r false ≡ Some even → generation even ≡ generation o → ⊥
        apart_well even odd (inl at) is g = let less = f.greatest r s o e in let even_is = ap generation (is_b r false even at is) in omega (arith, less, g, even_is)
        apart_well even odd (inr was) is g = w.apart even odd was g

        pair_well : (above : ℕ) (other : List ℕ) → above < r → newest new above ≡ Some other → IsSamePair other o → ⊥
        pair_well above other h is p = elim (cases_eq above row) [
          | inl at ↦
              let opened_is : Some other ≡ Some b = sym is ∙ ap (λ q. newest new q) at ∙ newest_opens greater in
              let other_is : other ≡ b = cc in
              f.new_pair r s o (λ q. omega (arith, q, h, at)) e (same_pair_sym b o (subst (λ x. IsSamePair x o) other_is p))
          | inr ne ↦ w.new_pair above other h (sym (newest_elsewhere above ne) ∙ is) p
        ]

        order_well : (above : ℕ) (t : Bool) (other : List ℕ) → above < r → IsAt row side above t ⊎ (old above t ≡ Some other) → new above t ≡ Some other → IsSameOrder other o → ⊥
        order_well above t other h (inl at) is p =
            f.new_order r s o (λ q. omega (arith, q, h, at.0)) e (same_order_sym b o (subst (λ x. IsSameOrder x o) (is_b above t other at is) p))
        order_well above t other h (inr was) is p = w.new_order above t other h was p

        kept_well : IsWell new r s o
        kept_well = record {
          formed = w.formed;
          follows = λ before is. still_some greater before (w.follows before is);
          twin = λ even odd is. twin_well even odd (was_open r false even is) is;
          apart = λ even odd is. apart_well even odd (was_open r false even is) is;
          new_pair = pair_well;
          new_order = λ above t other h is. order_well above t other h (was_open above t other is) is;
        }

      pub consistent_opens : IsConsistent new
      consistent_opens r s o is = elim (was_open r s o is) [
        | inl at ↦ subst (λ x. IsWell new r s x) (sym (is_b r s o at is)) (subst (λ t. IsWell new r t b) (sym at.1) (subst (λ q. IsWell new q side b) (sym at.0) opened_well))
        | inr was ↦ kept_well r s o was
      ]
