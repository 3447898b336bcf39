use Rattle.std.proofs.Common.{◌≡◌, ◌∙◌, ℕ, Bool, List, Option, Some, IfSome, ◌||◌, refl, sym, subst}
use Rattle.gp_rows.specs.declared.row.Row.{Row}
use Rattle.gp_disk.specs.declared.memory.MemoryDisk.{MemoryDisk}
use Rattle.gp_power.specs.Inside.{DecidesOf, IsCrashed, Repeats}
use Rattle.gp_power.proofs.Crashing.{looked}
use Rattle.gp_power.proofs.Deciding.{decides_bit}
use Rattle.gp_power.proofs.falling.fall.Goals as goal

pub returns-in-Some-clause-crashed : goal.returns-in-Some-clause-crashed
returns-in-Some-clause-crashed c = looked c.args.sink.store.disk c.crash-disk.result c.holds-found.new.disk
    (subst (λ (d : MemoryDisk). IsCrashed d c.crash-disk.result) c.into_parts-rules-in-Some.ensures.disk c.crash-disk.ensures.crashed)
    c.holds-found.ensures.image c.holds-found.ensures.images c.holds-found.ensures.fuse

pub returns-in-Some-clause-bit : goal.returns-in-Some-clause-bit
returns-in-Some-clause-bit c = λ ledger change o.
    let store = c.args.sink.store in
    let before = c.crash-disk.result.content.image.items in
    let found = c.holds-found.ensures.found before refl in
    let crashed : IsCrashed c.args.sink.store.disk c.crash-disk.result = subst (λ (d : MemoryDisk). IsCrashed d c.crash-disk.result) c.into_parts-rules-in-Some.ensures.disk c.crash-disk.ensures.crashed in
    let told : store.undecided ≡ Some (c.in-Some.at, c.in-Some.value) = sym c.undecided.ensures ∙ c.in-Some.is in
    subst (λ (b : Bool). DecidesOf b change ledger c.holds-found.new.disk.content.image.items) (sym c.either.ensures)
    (subst (λ (x : Option (List ℕ)). IfSome x (DecidesOf (c.repeats-once.result || c.holds-found.result) change ledger)) (sym c.holds-found.ensures.image)
    (decides_bit store ledger change o before crashed.image c.in-Some.at c.in-Some.value c.repeats-once.result c.holds-found.result told (record {
      repeats = λ e. subst (λ (l : List Row). Repeats l c.in-Some.at c.in-Some.value) c.rows.ensures.rows (c.repeats-once.ensures.yes e);
      repeats_not = λ e r. c.repeats-once.ensures.no e (subst (λ (l : List Row). Repeats l c.in-Some.at c.in-Some.value) (sym c.rows.ensures.rows) r);
      row = found.0;
      is_row = found.1;
      is_there = found.2;
      is_not_there = found.3;
    })))
