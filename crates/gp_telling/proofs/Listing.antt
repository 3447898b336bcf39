-- Rows that are listed one by one.
use Rattle.std.proofs.Common.{◌≡◌, ℕ, zero, suc, ◌+◌, ◌<◌, ◌≤◌, List, [], ◌∷◌, ◌++◌, Option, Some, refl, sym, ◌∙◌, ap, subst, length, map, take, slice_get, length-append, append_assoc, arith}
use Rattle.std.specs.Prelude.{vec_capacity}
use Rattle.std.proofs.lemmas.List.{length-map, length-take-le, map-append}
use Rattle.gp_rows.specs.declared.row.Row.{Row}
use Rattle.gp_ideal.specs.declared.ledger.Change.{Change}
use Rattle.gp_ideal.specs.Ledger.{rows}
use Rattle.gp_sink.specs.Fits.{Fits, IsRow, pairing_in}
use Rattle.gp_script.specs.declared.report.Report.{Report}
use Rattle.gp_script.specs.declared.report.Report.TheVariants.{Rows}
use Rattle.gp_world.specs.Sinks.{row_reports}
use Rattle.gp_world.specs.World.{entries}
use Rattle.gp_telling.specs.declared.telling.Telling.{Telling}
use Rattle.gp_telling.specs.Telling.{Said, listed, listed_row}

-- ---- a list of rows, row by row

pub length-listed : (at : ℕ) (table : List Row) → length (listed at table) ≡ length table
length-listed at [] = refl
length-listed at (row ∷ others) = ap suc (length-listed (suc at) others)

pub length-said : (node : Option (List ℕ)) (reports : List Report) (old new : Telling) → Said node reports old new → length new.entries.items ≡ length old.entries.items + length reports
length-said node reports old new h =
    ap length h.added ∙ length-append old.entries.items (entries old.line node reports) ∙ ap (λ (n : ℕ). length old.entries.items + n) (length-map reports _)

pub said_more : (node : Option (List ℕ)) (first second : List Report) (old between new : Telling) → Said node first old between → Said node second between new → Said node (first ++ second) old new
said_more node first second old between new a b = record {
  line = b.line ∙ a.line;
  added = b.added ∙ ap (λ (items : List _). items ++ entries between.line node second) a.added ∙ append_assoc old.entries.items (entries old.line node first) (entries between.line node second)
      ∙ ap (λ (line : ℕ). old.entries.items ++ (entries old.line node first ++ entries line node second)) a.line
      ∙ ap (λ (told : List _). old.entries.items ++ told) (sym (map-append _ first second));
  room = omega (arith, a.room, b.room);
}

pub listed_more : (at k : ℕ) (table : List Row) (row : Row) → slice_get table k ≡ Some row → listed at (take (suc k) table) ≡ listed at (take k table) ++ listed_row (at + k) row ∷ []
listed_more at k [] row e = absurd cc
listed_more at zero (first ∷ others) row e = let same : first ≡ row = cc in rw (same) (let none : at + 0 ≡ at = omega arith in rw none refl)
listed_more at (suc k) (first ∷ others) row e =
    let further : suc at + k ≡ at + suc k = omega arith in
    ap (λ (reports : List Report). listed_row at first ∷ reports) (listed_more (suc at) k others row e ∙ ap (λ (n : ℕ). listed (suc at) (take k others) ++ listed_row n row ∷ []) further)

-- there is room for one row more
pub list_room : (node : Option (List ℕ)) (k : ℕ) (table : List Row) (first : Report) (old new : Telling) → Said node (first ∷ listed 0 (take k table)) old new → k < length table
    → length old.entries.items + length table + 1 ≤ vec_capacity old.entries → length new.entries.items < vec_capacity new.entries
list_room node k table first old new h l room =
    let said = length-said node (first ∷ listed 0 (take k table)) old new h in
    let some = length-listed 0 (take k table) in
    let taken : length (take k table) ≡ k = length-take-le k table (omega arith) in
    omega (arith, said, some, taken, h.room)

-- one row more
pub listed_on : (node : Option (List ℕ)) (k next : ℕ) (table : List Row) (row : Row) (first : Report) (old between new : Telling) → slice_get table k ≡ Some row → next ≡ k + 1
    → Said node (first ∷ listed 0 (take k table)) old between → Said node (listed_row k row ∷ []) between new → Said node (first ∷ listed 0 (take next table)) old new
listed_on node k next table row first old between new e n a b =
    let none : 0 + k ≡ k = omega arith in
    let more : next ≡ suc k = omega arith in
    let all : listed 0 (take next table) ≡ listed 0 (take k table) ++ listed_row k row ∷ [] =
    ap (λ (m : ℕ). listed 0 (take m table)) more ∙ listed_more 0 k table row e ∙ ap (λ (m : ℕ). listed 0 (take k table) ++ listed_row m row ∷ []) none in
    subst (λ (reports : List Report). Said node reports old new) (ap (λ (rest : List Report). first ∷ rest) (sym all)) (said_more node (first ∷ listed 0 (take k table)) (listed_row k row ∷ []) old between new a b)

-- ---- the rows of a sink are those of its ledger

rows_listed : (ledger : List Change) (at : ℕ) (table : List Row) → ((k : ℕ) (row : Row) → slice_get table k ≡ Some row → IsRow ledger (at + k) row) → row_reports ledger at (map pairing_in table) ≡ listed at table
rows_listed ledger at [] h = refl
rows_listed ledger at (row ∷ others) h =
    let none : at + 0 ≡ at = omega arith in
    let here : IsRow ledger at row = subst (λ (n : ℕ). IsRow ledger n row) none (h 0 row refl) in
    let rest : row_reports ledger (suc at) (map pairing_in others) ≡ listed (suc at) others =
    rows_listed ledger (suc at) others (λ k r e. let further : at + suc k ≡ suc at + k = omega arith in subst (λ (n : ℕ). IsRow ledger n r) further (h (suc k) r e)) in
    rw (here.values, here.is_live, here.has_floor, rest) refl

pub all_listed : (ledger : List Change) (table : List Row) → Fits table ledger → (Rows (length (rows ledger)) ∷ row_reports ledger 0 (rows ledger)) ≡ Rows (length table) ∷ listed 0 table
all_listed ledger table h =
    sym (ap (λ (pairs : List _). Rows (length pairs) ∷ row_reports ledger 0 pairs) h.pairs)
    ∙ ap (λ (n : ℕ). Rows n ∷ row_reports ledger 0 (map pairing_in table)) (length-map table pairing_in)
    ∙ ap (λ (reports : List Report). Rows (length table) ∷ reports) (rows_listed ledger 0 table (λ k row e. let none : k ≡ 0 + k = omega arith in subst (λ (n : ℕ). IsRow ledger n row) none (h.each k row e)))
