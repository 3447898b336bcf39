-- One row of the rows that an image holds.
use Rattle.std.proofs.Common.{◌≡◌, ℕ, ◌≤◌, Bool, true, false, List, Option, Some, None, IfSome, IsSome, refl, sym, ◌∙◌, ap, subst, slice_get, ◌==◌, cond}
use Rattle.gp_base.specs.declared.identity.Level.{Level}
use Rattle.gp_base.specs.declared.identity.Level.TheVariants.{Two, Three}
use Rattle.gp_base.specs.declared.identity.KeyKind.{KeyKind}
use Rattle.gp_base.specs.declared.identity.KeyKind.TheVariants.{Nwk, Group, DerivedGroup, OutOfBox, DerivedIndividual}
use Rattle.gp_base.specs.declared.identity.Mode.{Mode}
use Rattle.gp_base.specs.declared.identity.Mode.TheVariants.{Derived, Commissioned, Unicast}
use Rattle.gp_rows.specs.declared.row.Row.{Row}
use Rattle.gp_base.specs.Identity.{kind_number, level_number, mode_number}
use Rattle.gp_store.specs.Slot.{Shows, live_number}
use Rattle.gp_store.specs.Slots.{newer, newest, IsFormed}
use Rattle.gp_store.specs.Image.{slots, format_1, HoldsRow, HoldsRows}
use Rattle.gp_store.proofs.Consistent.{newest_is_open}
use Rattle.gp_store.proofs.Recovered.{none_newest_of}

kind_back : ℕ → KeyKind
kind_back n = cond (n == 1) Nwk (cond (n == 2) Group (cond (n == 3) DerivedGroup (cond (n == 4) OutOfBox DerivedIndividual)))

kind_back_of : (k : KeyKind) → kind_back (kind_number k) ≡ k
unfolding kind_back
kind_back_of Nwk = refl
kind_back_of Group = refl
kind_back_of DerivedGroup = refl
kind_back_of OutOfBox = refl
kind_back_of DerivedIndividual = refl

level_back : ℕ → Level
level_back n = cond (n == 2) Two Three

level_back_of : (l : Level) → level_back (level_number l) ≡ l
unfolding level_back
level_back_of Two = refl
level_back_of Three = refl

mode_back : ℕ → Mode
mode_back n = cond (n == 1) Derived (cond (n == 2) Commissioned Unicast)

mode_back_of : (m : Mode) → mode_back (mode_number m) ≡ m
unfolding mode_back
mode_back_of Derived = refl
mode_back_of Commissioned = refl
mode_back_of Unicast = refl

live_back : ℕ → Bool
live_back n = n == 1

live_back_of : (b : Bool) → live_back (live_number b) ≡ b
unfolding live_back
live_back_of true = refl
live_back_of false = refl

-- a slot shows one row
pub shows_one : (octets : List ℕ) (counter : ℕ) (a b : Row) → Shows octets counter a → Shows octets counter b → a ≡ b
shows_one octets counter a b p q =
    let source = p.has_source ∙ sym q.has_source in
    let key = p.has_key ∙ sym q.has_key in
    let kind = sym (kind_back_of a.kind) ∙ ap kind_back (p.has_kind ∙ sym q.has_kind) ∙ kind_back_of b.kind in
    let level = sym (level_back_of a.level) ∙ ap level_back (p.has_level ∙ sym q.has_level) ∙ level_back_of b.level in
    let mode = sym (mode_back_of a.mode) ∙ ap mode_back (p.has_mode ∙ sym q.has_mode) ∙ mode_back_of b.mode in
    let group = p.has_group ∙ sym q.has_group in
    let device = p.has_device ∙ sym q.has_device in
    let order = p.has_order ∙ sym q.has_order in
    let live = sym (live_back_of a.live) ∙ ap live_back (p.has_live ∙ sym q.has_live) ∙ live_back_of b.live in
    let floor = p.has_floor ∙ sym q.has_floor in
    λ i. record { src = record { 0 = source i }; key = record { 0 = key i }; kind = kind i; level = level i; mode = mode i; group = group i; device = device i; order = order i; live = live i; floor = floor i }

-- where no slot is open there is no row
no_row : (x : Option (List ℕ)) (y : Option Row) → HoldsRow 0 x y → x ≡ None → y ≡ None
no_row None None h e = refl
no_row None (Some row) h e = absurd h
no_row (Some o) None h e = refl
no_row (Some o) (Some row) h e = absurd (some_is_not o e)
  where
    some_is_not : (x : List ℕ) → Some x ≡ None → ⊥
    some_is_not x h = cc

pub row_past : (d : List ℕ) (rows : List Row) (at : ℕ) → HoldsRows d rows → 1024 ≤ at → None ≡ slice_get rows at
unfolding HoldsRows
row_past d rows at h past = sym (no_row (newest (slots format_1 d) at) (slice_get rows at) (h.each at) (none_newest_of d at past))

-- the row of an open slot
some_row : (o : List ℕ) (r y : Option Row) → IfSome r (Shows o 0) → IsSome r → HoldsRow 0 (Some o) y → r ≡ y
some_row o None y shows is h = absurd (false_is_not is)
  where
    false_is_not : false ≡ true → ⊥
    false_is_not h = cc
some_row o (Some a) None shows is h = absurd h
some_row o (Some a) (Some b) shows is h = ap (λ (x : Row). Some x) (shows_one o 0 a b shows h)

pub row_is : (d : List ℕ) (rows : List Row) (at : ℕ) (even odd : Option (List ℕ)) (r : Option Row) → HoldsRows d rows → slots format_1 d at false ≡ even → slots format_1 d at true ≡ odd
    → (newer even odd ≡ None → r ≡ None) → ((o : List ℕ) → newer even odd ≡ Some o → IsFormed o → IfSome r (Shows o 0)) → ((o : List ℕ) → newer even odd ≡ Some o → IsFormed o → IsSome r) → r ≡ slice_get rows at
unfolding HoldsRows
row_is d rows at even odd r h e o none some there = from (newest (slots format_1 d) at) refl
  where
    same : newest (slots format_1 d) at ≡ newer even odd
    same = ap (λ (x : Option (List ℕ)). newer x (slots format_1 d at true)) e ∙ ap (λ (y : Option (List ℕ)). newer even y) o

    from : (x : Option (List ℕ)) → newest (slots format_1 d) at ≡ x → r ≡ slice_get rows at
    from None is = none (sym same ∙ is) ∙ sym (no_row (newest (slots format_1 d) at) (slice_get rows at) (h.each at) is)
    from (Some n) is =
        let open_at = newest_is_open (slots format_1 d) at n is in
        let well = (h.consistent at open_at.0 n open_at.1).formed in
        some_row n r (slice_get rows at) (some n (sym same ∙ is) well) (there n (sym same ∙ is) well) (subst (λ x. HoldsRow 0 x (slice_get rows at)) is (h.each at))
