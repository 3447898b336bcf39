-- The rows that a sink lists are those of the ideal one.
use Rattle.std.proofs.Common.{◌≡◌, ℕ, zero, suc, ◌+◌, ◌<◌, ◌≤◌, List, [], ◌∷◌, ◌++◌, Option, Some, None, refl, sym, ◌∙◌, ap, subst, length, map, take, slice_get, length-append, append_assoc, arith}
use Rattle.std.specs.Prelude.{vec_capacity}
use Rattle.std.proofs.lemmas.List.{length-map, length-take-le, map-append}
use Rattle.gp_rows.specs.declared.row.Row.{Row}
use Rattle.gp_script.specs.declared.report.Report.{Report}
use Rattle.gp_script.specs.declared.report.Report.TheVariants.{Rows, Dark}
use Rattle.gp_ideal.specs.declared.ledger.Change.{Change}
use Rattle.gp_ideal.specs.Ledger.{rows}
use Rattle.gp_world.specs.Sinks.{sink_lists, row_reports}
use Rattle.gp_world.specs.World as ideal
use Rattle.gp_world.specs.World.{IsSink, IsDevice, entries}
use Rattle.gp_sink.specs.Fits.{Fits, IsRow, pairing_in}
use Rattle.gp_power.specs.declared.power.Powered.{Powered}
use Rattle.gp_power.specs.Comes.{Shows}
use Rattle.gp_power.specs.Stands.{StandsFor}
use Rattle.gp_world.specs.Power.{passed}
use Rattle.gp_net.specs.declared.node.Kind.TheVariants as kinds
use Rattle.gp_telling.specs.declared.telling.Telling.{Telling}
use Rattle.gp_net.specs.Made.{ListsAtSink}
use Rattle.gp_net.specs.Nodes.{IsKindOf}
use Rattle.gp_telling.specs.Telling.{Said, listed, listed_row}

-- ---- the rows of a ledger

rows_listed : (ledger : List Change) (at : ℕ) (table : List Row) → ((k : ℕ) (row : Row) → slice_get table k ≡ Some row → IsRow ledger (at + k) row) → row_reports ledger at (map pairing_in table) ≡ listed at table
rows_listed ledger at [] h = refl
rows_listed ledger at (row ∷ others) h =
    let none : at + 0 ≡ at = omega arith in
    let here : IsRow ledger at row = subst (λ (n : ℕ). IsRow ledger n row) none (h 0 row refl) in
    let rest : row_reports ledger (suc at) (map pairing_in others) ≡ listed (suc at) others =
    rows_listed ledger (suc at) others (λ k r e. let further : at + suc k ≡ suc at + k = omega arith in subst (λ (n : ℕ). IsRow ledger n r) further (h (suc k) r e)) in
    rw (here.values, here.is_live, here.has_floor, rest) refl

all_listed : (ledger : List Change) (table : List Row) → Fits table ledger → (Rows (length (rows ledger)) ∷ row_reports ledger 0 (rows ledger)) ≡ Rows (length table) ∷ listed 0 table
all_listed ledger table h =
    sym (ap (λ (pairs : List _). Rows (length pairs) ∷ row_reports ledger 0 pairs) h.pairs)
    ∙ ap (λ (n : ℕ). Rows n ∷ row_reports ledger 0 (map pairing_in table)) (length-map table pairing_in)
    ∙ ap (λ (reports : List Report). Rows (length table) ∷ reports) (rows_listed ledger 0 table (λ k row e. let none : k ≡ 0 + k = omega arith in subst (λ (n : ℕ). IsRow ledger n row) none (h.each k row e)))

-- the listing of a sink with power, and of one without
pub lists_make : (name : List ℕ) (powered : Powered) (rows : List Row) (before after : Telling) → ((model : ideal.Powered) → StandsFor powered model → Shows (Some rows) model) → Said (Some name) (Rows (length rows) ∷ listed 0 rows) before after
    → (model : ideal.Kind) → IsKindOf (kinds.Sink powered) model → ListsAtSink name before after (kinds.Sink powered) model
unfolding passed sink_lists
lists_make name powered rows before after shows said (IsDevice device) h = absurd h
lists_make name powered rows before after shows said (IsSink model) h =
    let shown = shows model h in
    (model, refl, rw shown.1 h, rw shown.1 (subst (λ (reports : List Report). Said (Some name) reports before after) (sym (all_listed model.sink.ledger rows shown.0)) said))

pub dark_makes : (name : List ℕ) (powered : Powered) (before after : Telling) → ((model : ideal.Powered) → StandsFor powered model → Shows None model) → Said (Some name) (Dark ∷ []) before after
    → (model : ideal.Kind) → IsKindOf (kinds.Sink powered) model → ListsAtSink name before after (kinds.Sink powered) model
dark_makes name powered before after shows said (IsDevice device) h = absurd h
dark_makes name powered before after shows said (IsSink model) h = let shown = shows model h in (model, refl, rw shown h, rw shown said)
