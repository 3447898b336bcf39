-- The counts of calls of a stable write, whatever it answers, and calls that have all gone through.
use Rattle.std.proofs.Common.{◌≡◌, ◌⊎◌, inl, inr, ℕ, ◌+◌, ◌-◌, ◌≤◌, nat_le, true, Result, Ok, Err, OnOk, OnErr, refl, ◌∙◌, ap, subst, arith}
use Rattle.std.proofs.lemmas.Bool.Decides.{nat_tests}
use Rattle.gp_disk.specs.Disk.{Tally, after_write, after_sync, after_failed_sync, IsCutShort}
use Rattle.gp_disk.specs.Fuse.{Unarmed, Waits, Due, Spent, Fuse, Untold, Running, Stopped, burnt, Foretold}
use Rattle.gp_disk.proofs.Fuses.{burnt-burnt, Foretold-both}
use Rattle.gp_store.specs.Untouched.{AllGone, GoesOn}

-- no read is among its calls
cut_alone : (count : ℕ) (old new : Tally) → IsCutShort count old new → old.writes + 2 ≤ 16 → old.calls ≡ old.writes → new.calls ≡ new.writes
cut_alone count old new cut few same = from cut.counted
  where
    from : (new ≡ after_write count old) ⊎ (new ≡ after_failed_sync (after_write count old)) → new.calls ≡ new.writes
    from (inl is) = let c = ap (λ (t : Tally). t.calls) is in let w = ap (λ (t : Tally). t.writes) is in omega (arith, c, w, few, same)
    from (inr is) = let c = ap (λ (t : Tally). t.calls) is in let w = ap (λ (t : Tally). t.writes) is in omega (arith, c, w, few, same)

pub stable_alone : {T E : Type 0} (count : ℕ) (old new : Tally) (r : Result T E) → OnOk r (new ≡ after_sync (after_write count old)) → OnErr r (IsCutShort count old new) → old.writes + 2 ≤ 16 → old.calls ≡ old.writes → new.calls ≡ new.writes
stable_alone count old new (Ok x) ok err few same = let c = ap (λ (t : Tally). t.calls) ok in let w = ap (λ (t : Tally). t.writes) ok in omega (arith, c, w, few, same)
stable_alone count old new (Err e) ok err few same = cut_alone count old new err few same

-- it makes two calls at most
pub stable_few : {T E : Type 0} (count : ℕ) (old new : Tally) (r : Result T E) → OnOk r (new ≡ after_sync (after_write count old)) → OnErr r (IsCutShort count old new) → new.writes ≤ old.writes + 2
stable_few count old new (Ok x) ok err = let w = ap (λ (t : Tally). t.writes) ok in omega (arith, w)
stable_few count old new (Err e) ok err = from err.counted
  where
    from : (new ≡ after_write count old) ⊎ (new ≡ after_failed_sync (after_write count old)) → new.writes ≤ old.writes + 2
    from (inl is) = let w = ap (λ (t : Tally). t.writes) is in omega (arith, w)
    from (inr is) = let w = ap (λ (t : Tally). t.writes) is in omega (arith, w)

none_le : (n : ℕ) → nat_le 0 n ≡ true
none_le n = grind (arith, nat_tests)

none_less : (n : ℕ) → n - 0 ≡ n
none_less n = omega arith

burnt-none : (fuse : Fuse) → burnt 0 fuse ≡ fuse
burnt-none Untold = refl
burnt-none (Running Unarmed) = refl
burnt-none (Running (Waits begins calls ending)) = refl
burnt-none (Running (Due calls ending)) = rw (none_le calls, none_less calls) refl
burnt-none (Running Spent) = refl
burnt-none (Stopped arming) = refl

pub one_went : (n : ℕ) (old new : Fuse) → new ≡ burnt n old → Foretold n old true → GoesOn n old new
one_went n old new fuse told = record { count = n; at_most = omega arith; fuse = fuse; all_gone = inr told }

-- m calls that have all gone through, and then n at most
pub went_on : (m n most : ℕ) (old middle new : Fuse) → m + n ≤ most → middle ≡ burnt m old → AllGone m old → GoesOn n middle new → GoesOn most old new
went_on m n most old middle new fits is gone then_goes = from gone then_goes.all_gone
  where
    within : then_goes.count ≤ n
    within = then_goes.at_most

    from : AllGone m old → AllGone then_goes.count middle → GoesOn most old new
    from (inl none) later =
        let same : middle ≡ old = is ∙ ap (λ (k : ℕ). burnt k old) none ∙ burnt-none old in
        record { count = then_goes.count; at_most = omega (arith, within, fits); fuse = then_goes.fuse ∙ ap (λ (f : Fuse). burnt then_goes.count f) same; all_gone = subst (λ (f : Fuse). AllGone then_goes.count f) same later }
    from (inr told) (inl none) =
        record { count = m; at_most = omega (arith, fits); fuse = then_goes.fuse ∙ ap (λ (k : ℕ). burnt k middle) none ∙ burnt-none middle ∙ is; all_gone = inr told }
    from (inr told) (inr later) =
        record {
          count = m + then_goes.count;
          at_most = omega (arith, within, fits);
          fuse = then_goes.fuse ∙ ap (λ (f : Fuse). burnt then_goes.count f) is ∙ burnt-burnt m then_goes.count old told;
          all_gone = inr (Foretold-both m then_goes.count old true told (subst (λ (f : Fuse). Foretold then_goes.count f true) is later));
        }
