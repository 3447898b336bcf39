-- Device calls one after the other, and what is told of their failures.
use Rattle.std.proofs.Common.{◌≡◌, ℕ, ◌+◌, ◌-◌, ◌≤◌, Bool, true, false, nat_le, if◌then◌else◌, refl, arith, sym, ◌∙◌}
use Rattle.std.proofs.lemmas.Bool.Decides.{nat_tests}
use Rattle.gp_disk.specs.Fuse.{Ending, Stop, Fault, Arming, Unarmed, Waits, Due, Spent, Fuse, Untold, Running, Stopped, fuse_from, begun, blown, burnt, goes, crashed, undue, is_due, has_stopped, Foretold}

nat_le-sub : (m n calls : ℕ) → nat_le m calls ≡ true → nat_le n (calls - m) ≡ nat_le (m + n) calls
nat_le-sub m n calls fits = grind (arith, nat_tests)

nat_le-more : (m n calls : ℕ) → m ≤ n → nat_le m calls ≡ false → nat_le n calls ≡ false
nat_le-more m n calls more told = grind (arith, nat_tests)

sub-sub : (m n calls : ℕ) → calls - m - n ≡ calls - (m + n)
sub-sub m n calls = omega arith

-- m calls that were good, and then n more
pub burnt-burnt : (m n : ℕ) (fuse : Fuse) → Foretold m fuse true → burnt n (burnt m fuse) ≡ burnt (m + n) fuse
burnt-burnt m n Untold told = refl
burnt-burnt m n (Running Unarmed) told = refl
burnt-burnt m n (Running (Waits begins calls ending)) told = refl
burnt-burnt m n (Running (Due calls ending)) told = rw (sym told, nat_le-sub m n calls (sym told), sub-sub m n calls) refl
burnt-burnt m n (Running Spent) told = refl
burnt-burnt m n (Stopped arming) told = refl

pub Foretold-both : (m n : ℕ) (fuse : Fuse) (good : Bool) → Foretold m fuse true → Foretold n (burnt m fuse) good → Foretold (m + n) fuse good
Foretold-both m n Untold good told then_told = tt
Foretold-both m n (Running Unarmed) good told then_told = then_told
Foretold-both m n (Running (Waits begins calls ending)) good told then_told = then_told
Foretold-both m n (Running (Due calls ending)) good told then_told =
    let here = rw (sym told) at then_told in
    here ∙ nat_le-sub m n calls (sym told)
Foretold-both m n (Running Spent) good told then_told = then_told
Foretold-both m n (Stopped arming) good told then_told = then_told

-- where one of m calls has failed, more calls would have failed too, and leave the same
pub burnt-failed : (m n : ℕ) (fuse : Fuse) → m ≤ n → Foretold m fuse false → burnt n fuse ≡ burnt m fuse
burnt-failed m n Untold more told = refl
burnt-failed m n (Running Unarmed) more told = refl
burnt-failed m n (Running (Waits begins calls ending)) more told = refl
burnt-failed m n (Running (Due calls ending)) more told = rw (sym told, nat_le-more m n calls more (sym told)) refl
burnt-failed m n (Running Spent) more told = refl
burnt-failed m n (Stopped arming) more told = refl

pub Foretold-failed : (m n : ℕ) (fuse : Fuse) → m ≤ n → Foretold m fuse false → Foretold n fuse false
Foretold-failed m n Untold more told = tt
Foretold-failed m n (Running Unarmed) more told = told
Foretold-failed m n (Running (Waits begins calls ending)) more told = told
Foretold-failed m n (Running (Due calls ending)) more told = sym (nat_le-more m n calls more (sym told))
Foretold-failed m n (Running Spent) more told = told
Foretold-failed m n (Stopped arming) more told = told

-- device calls change nothing about whether an arming is due
pub is_due-burnt : (count : ℕ) (fuse : Fuse) → is_due (burnt count fuse) ≡ is_due fuse
is_due-burnt count Untold = refl
is_due-burnt count (Running Unarmed) = refl
is_due-burnt count (Running (Waits begins calls ending)) = refl
is_due-burnt count (Running (Due calls ending)) = by ending (nat_le count calls)
  where
    by : (e : Ending) (b : Bool) → is_due (if b then Running (Due (calls - count) e) else blown e) ≡ true
    by e true = refl
    by Stop false = refl
    by Fault false = refl
is_due-burnt count (Running Spent) = refl
is_due-burnt count (Stopped arming) = refl

-- where none is due, because nothing is armed or it waits, device calls change nothing, and any number of them goes
-- through unless the disk has stopped
pub burnt-not_due : (count : ℕ) (fuse : Fuse) → is_due fuse ≡ false → burnt count fuse ≡ fuse
burnt-not_due count Untold due = refl
burnt-not_due count (Running Unarmed) due = refl
burnt-not_due count (Running (Waits begins calls ending)) due = refl
burnt-not_due count (Running (Due calls ending)) due = absurd cc
burnt-not_due count (Running Spent) due = refl
burnt-not_due count (Stopped arming) due = refl

pub goes-not_due : (count : ℕ) (fuse : Fuse) → is_due fuse ≡ false → has_stopped fuse ≡ false → goes count fuse ≡ true
goes-not_due count Untold due running = refl
goes-not_due count (Running Unarmed) due running = refl
goes-not_due count (Running (Waits begins calls ending)) due running = refl
goes-not_due count (Running (Due calls ending)) due running = absurd cc
goes-not_due count (Running Spent) due running = refl
goes-not_due count (Stopped arming) due running = absurd cc

-- calls that went through leave the disk running
pub has_stopped-burnt : (count : ℕ) (fuse : Fuse) → goes count fuse ≡ true → has_stopped (burnt count fuse) ≡ false
has_stopped-burnt count Untold went = refl
has_stopped-burnt count (Running Unarmed) went = refl
has_stopped-burnt count (Running (Waits begins calls ending)) went = refl
has_stopped-burnt count (Running (Due calls ending)) went = rw went refl
has_stopped-burnt count (Running Spent) went = refl
has_stopped-burnt count (Stopped arming) went = absurd cc

-- calls of a running disk after which none is due have all gone through, and have left what is armed as it was
pub record Passes (count : ℕ) (arming : Arming) : Type 0 where
  pub went : goes count (Running arming) ≡ true
  pub kept : burnt count (Running arming) ≡ Running arming

pub passes : (count : ℕ) (arming : Arming) → is_due (burnt count (Running arming)) ≡ false → Passes count arming
passes count arming due =
    let before : is_due (Running arming) ≡ false = sym (is_due-burnt count (Running arming)) ∙ due in
    record { went = goes-not_due count (Running arming) before refl; kept = burnt-not_due count (Running arming) before }

-- a crashed disk runs, no arming of it is due, and any number of calls goes through
pub crashed-runs : (stopped : Bool) (arming : Arming) → crashed (fuse_from stopped arming) ≡ Running (undue arming)
crashed-runs true arming = refl
crashed-runs false arming = refl

not_due-undue : (arming : Arming) → is_due (Running (undue arming)) ≡ false
not_due-undue Unarmed = refl
not_due-undue (Waits begins calls ending) = refl
not_due-undue (Due calls ending) = refl
not_due-undue Spent = refl

pub is_due-crashed : (fuse : Fuse) → is_due (crashed fuse) ≡ false
is_due-crashed Untold = refl
is_due-crashed (Running arming) = not_due-undue arming
is_due-crashed (Stopped arming) = not_due-undue arming

pub has_stopped-crashed : (fuse : Fuse) → has_stopped (crashed fuse) ≡ false
has_stopped-crashed Untold = refl
has_stopped-crashed (Running arming) = refl
has_stopped-crashed (Stopped arming) = refl

pub goes-crashed : (count : ℕ) (fuse : Fuse) → goes count (crashed fuse) ≡ true
goes-crashed count fuse = goes-not_due count (crashed fuse) (is_due-crashed fuse) (has_stopped-crashed fuse)

pub burnt-crashed : (count : ℕ) (fuse : Fuse) → burnt count (crashed fuse) ≡ crashed fuse
burnt-crashed count fuse = burnt-not_due count (crashed fuse) (is_due-crashed fuse)

-- an arming that waits for a later `begin` comes one nearer
pub begun-later : (begins calls : ℕ) (ending : Ending) → 2 ≤ begins → begun (Waits begins calls ending) ≡ Waits (begins - 1) calls ending
begun-later begins calls ending later = rw (more begins later) refl
  where
    more : (n : ℕ) → 2 ≤ n → nat_le n 1 ≡ false
    more n h = grind (arith, nat_tests)
