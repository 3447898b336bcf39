-- What a verdict tells stands in the rows once its change is made.
use Rattle.std.proofs.Common.{◌≡◌, ◌≤◌, ℕ, max, false, List, Option, Some, None, Ok, IfSome, refl, sym, ◌∙◌, ap, subst, arith, slice_get, length}
use Rattle.std.proofs.lemmas.Option.{slice_get_within, slice_get_past}
use Rattle.gp_rows.specs.declared.row.Row.{Row}
use Rattle.gp_rows.specs.Rows.{IsTable, IsPair}
use Rattle.gp_rows.specs.Changes.{Pairs, Raises, Retires, place_of, paired_row, with_floor, retired_row, value, with_row, applied}
use Rattle.gp_rows.proofs.Applied.{slice_get-with_row_same, place_of-within, place_of-there, place_of-new, applied-is, value-raises, value-retires}
use Rattle.gp_store.specs.Commit.{ordered, Commits}
use Rattle.gp_ideal.specs.declared.ledger.Values.{Values}
use Rattle.gp_ideal.specs.declared.ledger.Change.{Change}
use Rattle.gp_ideal.specs.declared.ledger.Change.TheVariants.{Pair, Accept, Retire}
use Rattle.gp_sink.specs.declared.verdict.Verdict.{Verdict}
use Rattle.gp_sink.specs.declared.verdict.Verdict.TheVariants.{Acted, Paired, Unpaired, Refused, Full, Dropped}
use Rattle.gp_sink.specs.Ruled.{MayMake}
use Rattle.gp_sink.specs.Inside.{Agrees, PairsAt}
use Rattle.gp_store.specs.State.{State}
use Rattle.gp_disk.specs.declared.device.Disk.{Ghosts}
use Rattle.gp_sink.specs.Sink.{SinkState, StandsIn, IsKept}
use Rattle.gp_sink.specs.Stored.{row_with, stored}

-- the row that is written stands there
there : (rows : List Row) (as_rows : Rattle.gp_rows.specs.Changes.Change) (at : ℕ) (row : Row) → at ≤ length rows → applied as_rows rows ≡ with_row rows at row → slice_get (applied as_rows rows) at ≡ Some row
there rows as_rows at row within is = ap (λ (l : List Row). slice_get l at) is ∙ slice_get-with_row_same rows at row within

same_change : (x y : Change) → Some x ≡ Some y → x ≡ y
same_change x y h = cc

-- a row that a pairing leaves has its source and is live
paired_row-live : (row : Row) (before : Option Row) → ((paired_row row before).src ≡ row.src) × ((paired_row row before).live ≡ row.live)
paired_row-live row None = (refl, refl)
paired_row-live row (Some before) = (refl, refl)

-- its floor doesn't hang on its order
paired_row-floor : (row : Row) (last : ℕ) (before : Option Row) → (paired_row (ordered last row) before).floor ≡ (paired_row row before).floor
paired_row-floor row last None = refl
paired_row-floor row last (Some before) = refl

accepted : (rows : List Row) (last at counter : ℕ) (verdict : Verdict) → MayMake rows (Accept at counter) → (row : Row) × (slice_get (applied (stored last (Accept at counter)) rows) at ≡ Some row) × (row.floor ≡ counter)
accepted rows last at counter verdict due =
    let within = slice_get_within rows at due.0 due.1 in
    (with_floor counter due.0, there rows (Raises at counter) at (with_floor counter due.0) (omega (arith, within)) (applied-is (Raises at counter) rows at (with_floor counter due.0) refl (value-raises rows at counter due.0 due.1)), refl)

retired : (rows : List Row) (last at counter : ℕ) → MayMake rows (Retire at counter) → (row : Row) × (slice_get (applied (stored last (Retire at counter)) rows) at ≡ Some row) × ((row.floor ≡ counter) × (row.live ≡ false))
retired rows last at counter due =
    let within = slice_get_within rows at due.0 due.1 in
    (retired_row counter due.0, there rows (Retires at counter) at (retired_row counter due.0) (omega (arith, within)) (applied-is (Retires at counter) rows at (retired_row counter due.0) refl (value-retires rows at counter due.0 due.1)), (refl, refl))

-- what a verdict tells stands in the rows after its change
pub kept-after : (rows : List Row) (last : ℕ) (verdict : Verdict) (change : Change) → MayMake rows change → Agrees rows verdict (Some change) → StandsIn verdict (applied (stored last change) rows)
unfolding value
kept-after rows last (Acted row source counter command acts) change due is =
    let e = same_change change (Accept row counter) is in
    subst (λ (x : Change). StandsIn (Acted row source counter command acts) (applied (stored last x) rows)) (sym e) (accepted rows last row counter (Acted row source counter command acts) (subst (MayMake rows) e due))
kept-after rows last (Unpaired row source counter message) change due is =
    let e = same_change change (Retire row counter) is in
    subst (λ (x : Change). StandsIn (Unpaired row source counter message) (applied (stored last x) rows)) (sym e) (retired rows last row counter (subst (MayMake rows) e due))
kept-after rows last (Paired row source floor message) (Pair values counter) due is =
    let r = ordered last (row_with values counter) in
    let before = slice_get rows row in
    let at : place_of values.src.0 values.key.0 rows ≡ row = sym is.0.0 in
    let v = paired_row r before in
    let within : row ≤ length rows = subst (λ (k : ℕ). k ≤ length rows) at (place_of-within values.src.0 values.key.0 rows) in
    let stands = there rows (Pairs r) row v within (applied-is (Pairs r) rows row v at (ap (λ (k : ℕ). Some (paired_row r (slice_get rows k))) at)) in
    let live = paired_row-live r before in
    (v, stands, (live.0 ∙ is.1, paired_row-floor (row_with values counter) last before ∙ sym is.0.1, live.1))
kept-after rows last (Paired row source floor message) (Accept at counter) due is = absurd is.0
kept-after rows last (Paired row source floor message) (Retire at counter) due is = absurd is.0
kept-after rows last (Refused reason) change due is = tt
kept-after rows last Full change due is = tt
kept-after rows last (Dropped cause) change due is = tt

-- where a verdict has no change, it tells nothing of the rows
pub kept-before : (rows : List Row) (verdict : Verdict) → Agrees rows verdict None → StandsIn verdict rows
kept-before rows (Acted row source counter command acts) is = absurd cc
kept-before rows (Unpaired row source counter message) is = absurd cc
kept-before rows (Paired row source floor message) is = absurd is.0
kept-before rows (Refused reason) is = tt
kept-before rows Full is = tt
kept-before rows (Dropped cause) is = tt

-- the row of a pair that is there, and that of a new one
pub pairs-there : (rows : List Row) (values : Values) (counter at : ℕ) (row : Row) → IsTable rows → IsPair rows values.src.0 values.key.0 at → slice_get rows at ≡ Some row → PairsAt rows at (max row.floor counter) (Some (Pair values counter))
pairs-there rows values counter at row t is there =
    (sym (place_of-there rows values.src.0 values.key.0 at t is), sym (ap (λ (x : Option Row). (paired_row (row_with values counter) x).floor) there))

pub pairs-new : (rows : List Row) (values : Values) (counter at : ℕ) → ((k : ℕ) → IsPair rows values.src.0 values.key.0 k → ⊥) → at ≡ length rows → PairsAt rows at counter (Some (Pair values counter))
pairs-new rows values counter at none is =
    let here = place_of-new rows (row_with values counter) (λ k other h s q. none k (other, h, s, q)) in
    (is ∙ sym here, sym (ap (λ (x : Option Row). (paired_row (row_with values counter) x).floor) (slice_get_past rows at (omega (arith, is)))))

-- a verdict whose change is committed is kept
pub keeps : {D : Type 0} (disk : Ghosts D) (wanted : Option Change) (change : Change) (now old new : SinkState D) (verdict : Verdict)
    → old ≡ now → wanted ≡ Some change → IfSome wanted (MayMake now.store.rows) → Agrees now.store.rows verdict wanted
    → Commits disk (stored old.store.last change) old.store new.store (Ok tt) → IsKept disk new verdict
keeps {D} disk wanted change now old new verdict view want due agrees c =
    let due : MayMake now.store.rows change = subst (λ (x : Option Change). IfSome x (MayMake now.store.rows)) want due in
    let agrees : Agrees now.store.rows verdict (Some change) = subst (Agrees now.store.rows verdict) want agrees in
    let told : StandsIn verdict (applied (stored old.store.last change) old.store.rows) =
    subst (λ (s : SinkState D). StandsIn verdict (applied (stored s.store.last change) s.store.rows)) (sym view) (kept-after now.store.rows now.store.last verdict change due agrees) in
    record {
      told = subst (StandsIn verdict) (sym (ap (λ (s : State D). s.rows) c.store)) told;
      stands = c.stands;
    }
