-- What a commit, a recovery and a crash make of what is armed.
use Rattle.std.proofs.Common.{◌≡◌, ◌⊎◌, inl, inr, ℕ, ◌+◌, ◌-◌, ◌<◌, ◌≤◌, min, Bool, true, false, nat_le, if◌then◌else◌, refl, sym, ◌∙◌, ap, subst, arith}
use Rattle.std.proofs.lemmas.Bool.Decides.{nat_tests}
use Rattle.gp_base.specs.Outside.{one_more}
use Rattle.gp_disk.specs.Fuse.{Ending, Stop, Fault, Arming, Unarmed, Waits, Due, Spent, Fuse, Running, Stopped, fuse_from, begun, lit, burnt, blown, crashed, undue, rearmed, deferred, is_due, Foretold}
use Rattle.gp_ideal.proofs.Pairs.{cond_true, cond_false, bool_cases}
use Rattle.gp_store.specs.Commit.{Burns}
use Rattle.gp_world.specs.Power.{Fate, Passes, CutAfter, Fails, fate, behind}
use Rattle.gp_world.specs.World as ideal
use Rattle.gp_power.specs.Stands.{arming_of, IsAhead, IsToCome}

-- ---- crashes

-- after a crash no call fails
pub calm : (stopped : Bool) (arming : Arming) (count : ℕ) → Foretold count (crashed (fuse_from stopped arming)) false → ⊥
calm true Unarmed count e = absurd cc
calm true (Waits b c x) count e = absurd cc
calm true (Due c x) count e = absurd cc
calm true Spent count e = absurd cc
calm false Unarmed count e = absurd cc
calm false (Waits b c x) count e = absurd cc
calm false (Due c x) count e = absurd cc
calm false Spent count e = absurd cc

-- ---- an arming that is still to come

-- it isn't due, and a crash keeps it
pub not_due : (armed : ideal.Armed) → is_due (Running (arming_of armed)) ≡ false
not_due ideal.Unarmed = refl
not_due (ideal.ToCut commit calls) = refl
not_due (ideal.ToFail commit calls) = refl

pub kept : (armed : ideal.Armed) → undue (arming_of armed) ≡ arming_of armed
kept ideal.Unarmed = refl
kept (ideal.ToCut commit calls) = refl
kept (ideal.ToFail commit calls) = refl

-- calls change nothing of it, and go through
still : (armed : ideal.Armed) (count : ℕ) → burnt count (Running (arming_of armed)) ≡ Running (arming_of armed)
still ideal.Unarmed count = refl
still (ideal.ToCut commit calls) count = refl
still (ideal.ToFail commit calls) count = refl

through : (armed : ideal.Armed) (count : ℕ) (good : Bool) → Foretold count (Running (arming_of armed)) good → good ≡ true
through ideal.Unarmed count good f = f
through (ideal.ToCut commit calls) count good f = f
through (ideal.ToFail commit calls) count good f = f

first : (n : ℕ) → 1 ≤ n → nat_le n 1 ≡ true → n ≡ 1
first n some h = grind (arith, nat_tests)

more : (n : ℕ) → nat_le n 1 ≡ false → 2 ≤ n
more n h = grind (arith, nat_tests)

beyond : (n : ℕ) → 2 ≤ n → nat_le n 1 ≡ false
beyond n h = grind (arith, nat_tests)

-- ---- a commit before the armed one

-- it goes through, and the arming comes one commit nearer
pub record GoesThrough (armed : ideal.Armed) (new : Fuse) (good : Bool) : Type 0 where
  pub good_is : good ≡ true
  pub fuse : new ≡ Running (arming_of (behind armed))
  pub ahead : IsAhead (behind armed)

-- ---- the armed commit

-- what befalls it
abbrev pub fate_of : Ending → ℕ → Fate
fate_of Stop calls = CutAfter calls
fate_of Fault calls = Fails

-- a fault falls at one of the first four calls
abbrev pub IsIn : Ending → ℕ → Type 0
IsIn Stop calls = Unit {0}
IsIn Fault calls = calls < 4

pub record IsNow (armed : ideal.Armed) : Type 0 where
  pub calls : ℕ
  pub ending : Ending
  pub due : begun (arming_of armed) ≡ Due calls ending
  pub fate_is : fate armed ≡ fate_of ending calls
  pub within : IsIn ending calls

-- of its device calls, four to sixteen, so many go through: where there are no more it is made, and else it isn't
pub record Spends (calls : ℕ) (ending : Ending) (new : Fuse) (good : Bool) : Type 0 where
  pub count : ℕ
  pub at_least : 4 ≤ count
  pub at_most : count ≤ 16
  pub ends : ((good ≡ true) × (count ≤ calls) × (new ≡ Running (Due (calls - count) ending))) ⊎ ((good ≡ false) × (calls < count) × (new ≡ blown ending))

-- ---- the next commit is the one or the other

-- it is an earlier one
pub record IsLater (armed : ideal.Armed) : Type 0 where
  pub fate_is : fate armed ≡ Passes
  pub nearer : begun (arming_of armed) ≡ arming_of (behind armed)
  pub ahead : IsAhead (behind armed)

waits : (begins calls : ℕ) (ending : Ending) → nat_le begins 1 ≡ false → begun (Waits begins calls ending) ≡ Waits (begins - 1) calls ending
waits begins calls ending h = cond_false (nat_le begins 1) (Due calls ending) (Waits (begins - 1) calls ending) h

comes_due : (begins calls : ℕ) (ending : Ending) → nat_le begins 1 ≡ true → begun (Waits begins calls ending) ≡ Due calls ending
comes_due begins calls ending h = cond_true (nat_le begins 1) (Due calls ending) (Waits (begins - 1) calls ending) h

one_less : (commit : ℕ) → IsToCome commit → nat_le commit 1 ≡ false → IsToCome (commit - 1)
one_less commit a h = let least = more commit h in (omega arith, (let less = a.1 in omega arith))

pub turn : (armed : ideal.Armed) → IsAhead armed → IsLater armed ⊎ IsNow armed
turn ideal.Unarmed a = inl (record { fate_is = refl; nearer = refl; ahead = tt })
turn (ideal.ToCut commit calls) a = elim (bool_cases (nat_le commit 1)) [
  | inl t ↦ inr (record { calls = calls; ending = Stop; due = comes_due commit calls Stop t; fate_is = cond_true (nat_le commit 1) (CutAfter calls) Passes t; within = tt })
  | inr f ↦
      let b : behind (ideal.ToCut commit calls) ≡ ideal.ToCut (commit - 1) calls = cond_false (nat_le commit 1) ideal.Unarmed (ideal.ToCut (commit - 1) calls) f in
      inl (record {
        fate_is = cond_false (nat_le commit 1) (CutAfter calls) Passes f;
        nearer = waits commit calls Stop f ∙ ap arming_of (sym b);
        ahead = subst IsAhead (sym b) (one_less commit a f);
      })
]
turn (ideal.ToFail commit calls) a = elim (bool_cases (nat_le commit 1)) [
  | inl t ↦ inr (record { calls = min calls 3; ending = Fault; due = comes_due commit (min calls 3) Fault t; fate_is = cond_true (nat_le commit 1) Fails Passes t; within = omega arith })
  | inr f ↦
      let b : behind (ideal.ToFail commit calls) ≡ ideal.ToFail (commit - 1) calls = cond_false (nat_le commit 1) ideal.Unarmed (ideal.ToFail (commit - 1) calls) f in
      inl (record {
        fate_is = cond_false (nat_le commit 1) Fails Passes f;
        nearer = waits commit (min calls 3) Fault f ∙ ap arming_of (sym b);
        ahead = subst IsAhead (sym b) (one_less commit a f);
      })
]

pub goes_through : (armed : ideal.Armed) (new : Fuse) (good : Bool) → IsLater armed → Burns (Running (arming_of armed)) new good → GoesThrough armed new good
goes_through armed new good l b = record {
  good_is = through (behind armed) b.count good (subst (λ (x : Arming). Foretold b.count (Running x) good) l.nearer b.foretold);
  fuse = b.fuse ∙ ap (λ (x : Arming). burnt b.count (Running x)) l.nearer ∙ still (behind armed) b.count;
  ahead = l.ahead;
}

fits : (m n : ℕ) → nat_le m n ≡ true → m ≤ n
fits m n h = grind (arith, nat_tests)

short : (m n : ℕ) → nat_le m n ≡ false → n < m
short m n h = grind (arith, nat_tests)

pub spends : (armed : ideal.Armed) (new : Fuse) (good : Bool) (n : IsNow armed) → Burns (Running (arming_of armed)) new good → Spends n.calls n.ending new good
spends armed new good n b = record { count = b.count; at_least = b.at_least; at_most = b.at_most; ends = ends (nat_le b.count n.calls) refl }
  where
    told : Foretold b.count (Running (Due n.calls n.ending)) good
    told = subst (λ (x : Arming). Foretold b.count (Running x) good) n.due b.foretold

    left : new ≡ burnt b.count (Running (Due n.calls n.ending))
    left = b.fuse ∙ ap (λ (x : Arming). burnt b.count (Running x)) n.due

    ends : (t : Bool) → nat_le b.count n.calls ≡ t → ((good ≡ true) × (b.count ≤ n.calls) × (new ≡ Running (Due (n.calls - b.count) n.ending))) ⊎ ((good ≡ false) × (n.calls < b.count) × (new ≡ blown n.ending))
    ends true e = inl (told ∙ e, fits b.count n.calls e, left ∙ rw e refl)
    ends false e = inr (told ∙ e, short b.count n.calls e, left ∙ rw e refl)

-- ---- recoveries

-- an arming that is put off by one `begin` is as it was after that `begin`
put_off : (n begins calls : ℕ) (ending : Ending) → n ≡ begins + 1 → 1 ≤ begins → begun (Waits n calls ending) ≡ Waits begins calls ending
put_off n begins calls ending e some =
    waits n calls ending (beyond n (omega arith)) ∙ ap (λ (m : ℕ). let w : Arming = Waits m calls ending in w) (omega arith)

pub deferred_stays : (armed : ideal.Armed) → IsAhead armed → lit (deferred (Running (arming_of armed))) ≡ Running (arming_of armed)
deferred_stays ideal.Unarmed a = refl
deferred_stays (ideal.ToCut commit calls) a = ap Running (put_off (one_more commit) commit calls Stop (let less = a.1 in omega arith) a.0)
deferred_stays (ideal.ToFail commit calls) a = ap Running (put_off (one_more commit) commit (min calls 3) Fault (let less = a.1 in omega arith) a.0)

-- none of its calls fails, and what is armed is as it was
pub deferred_calm : (armed : ideal.Armed) (count : ℕ) → IsAhead armed → Foretold count (lit (deferred (Running (arming_of armed)))) false → ⊥
deferred_calm armed count a f = let no : false ≡ true = through armed count false (subst (λ (x : Fuse). Foretold count x false) (deferred_stays armed a) f) in absurd cc

pub deferred_same : (armed : ideal.Armed) (count : ℕ) → IsAhead armed → burnt count (lit (deferred (Running (arming_of armed)))) ≡ Running (arming_of armed)
deferred_same armed count a = ap (burnt count) (deferred_stays armed a) ∙ still armed count

-- a cut that was armed for a recovery is gone after a crash
pub spent : (count calls : ℕ) → crashed (burnt count (lit (Running (Waits 1 calls Stop)))) ≡ Running Unarmed
spent count calls = by (nat_le count calls)
  where
    by : (b : Bool) → crashed (if b then Running (Due (calls - count) Stop) else Stopped Spent) ≡ Running Unarmed
    by true = refl
    by false = refl

-- an arming under other names for its numbers
pub rearmed_as : (a b begins calls : ℕ) (ending : Ending) (new old : Fuse) → a ≡ begins → b ≡ calls → new ≡ rearmed (Waits a b ending) old → new ≡ rearmed (Waits begins calls ending) old
rearmed_as a b begins calls ending new old p q h = h ∙ ap (λ (n : ℕ). rearmed (Waits n b ending) old) p ∙ ap (λ (n : ℕ). rearmed (Waits begins n ending) old) q
