-- The verdict on a pairing, by where its row is or is to be.
use Rattle.std.proofs.Common.{◌≡◌, ℕ, max, List, length, sym, ◌∙◌, ap}
use Rattle.gp_base.specs.Table.{by_table}
use Rattle.gp_rows.specs.declared.row.Row.{Row}
use Rattle.gp_rows.specs.Rows.{IsTable, IsPair}
use Rattle.gp_rows.proofs.Applied.{place_of-there, place_of-new}
use Rattle.gp_ideal.specs.declared.config.Config.{Config}
use Rattle.gp_ideal.specs.declared.ledger.Values.{Values}
use Rattle.gp_ideal.specs.declared.ledger.Change.{Change}
use Rattle.gp_ideal.specs.declared.ledger.Change.TheVariants.{Pair}
use Rattle.gp_ideal.specs.Ledger.{pairing_of, place, rows, floor}
use Rattle.gp_ideal.specs.Messages.{pairing_sent}
use Rattle.gp_ideal.specs.Paired.{room_lines, pairs}
use Rattle.gp_ideal.specs.Verdict.{Paired, Full, remembers, says}
use Rattle.gp_sink.specs.Fits.{Fits}
use Rattle.gp_sink.specs.Stored.{row_with}
use Rattle.gp_ideal.proofs.Pairs.{if_eq, if_other}
use Rattle.gp_sink.proofs.Fitting.{place-paired}

-- there is room, or the row is there
pub pairs_in : (config : Config) (ledger : List Change) (values : Values) (counter at fl : ℕ) → place (pairing_of values) (rows ledger) ≡ at → floor ledger at ≡ fl → (at ≡ 1024 → ⊥)
    → by_table (room_lines ledger values) (pairs config ledger values counter) ≡ remembers (Pair values counter) (Paired at values.src (max fl counter) (pairing_sent config values (max fl counter)))
pairs_in config ledger values counter at fl here has n =
    if_other (place (pairing_of values) (rows ledger)) 1024 _ _ (λ e. n (sym here ∙ e))
    ∙ ap (λ (k : ℕ). remembers (Pair values counter) (Paired k values.src (max (floor ledger k) counter) (pairing_sent config values (max (floor ledger k) counter)))) here
    ∙ ap (λ (k : ℕ). remembers (Pair values counter) (Paired at values.src (max k counter) (pairing_sent config values (max k counter)))) has

-- there is no room
pub pairs_full : (config : Config) (ledger : List Change) (values : Values) (counter : ℕ) → place (pairing_of values) (rows ledger) ≡ 1024 → by_table (room_lines ledger values) (pairs config ledger values counter) ≡ says Full
pairs_full config ledger values counter here = if_eq (place (pairing_of values) (rows ledger)) 1024 _ _ here

-- the row of a pair has its number in the ledger
pub place_of_pair : (table : List Row) (ledger : List Change) (values : Values) (at : ℕ) → IsTable table → Fits table ledger → IsPair table values.src.0 values.key.0 at → place (pairing_of values) (rows ledger) ≡ at
place_of_pair table ledger values at t f is = sym (place-paired table ledger values f) ∙ place_of-there table values.src.0 values.key.0 at t is

-- and that of a new pair comes behind all
pub place_of_new : (table : List Row) (ledger : List Change) (values : Values) → Fits table ledger → ((at : ℕ) → IsPair table values.src.0 values.key.0 at → ⊥) → place (pairing_of values) (rows ledger) ≡ length table
place_of_new table ledger values f none = sym (place-paired table ledger values f) ∙ place_of-new table (row_with values 0) (λ k other h s q. none k (other, h, s, q))
