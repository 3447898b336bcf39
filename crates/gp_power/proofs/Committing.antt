-- What comes of a change at a running sink: of its commit, and of a cut of the power or a fault of the disk in it.
use Rattle.std.proofs.Common.{◌≡◌, ◌⊎◌, inl, inr, ◌∙◌, ℕ, ◌-◌, ◌<◌, ◌≤◌, ◌^◌, Bool, true, false, nat_le, if◌then◌else◌, List, ◌∷◌, length, Option, Some, None, IfSome, is_some, unwrap_or, Result, Ok, Err, refl, sym, ap, subst, arith}
use Rattle.std.specs.Option.{option_map}
use Rattle.std.proofs.lemmas.Bool.Decides.{nat_tests}
use Rattle.std.proofs.lemmas.Option.{slice_get_within}
use Rattle.gp_disk.specs.declared.memory.MemoryDisk.{MemoryDisk}
use Rattle.gp_disk.specs.Fuse.{Fuse, Ending, Stop, Fault, Due, Spent, Running, Stopped, blown, crashed, is_due, has_stopped}
use Rattle.gp_disk.specs.Fuse as fuses
use Rattle.gp_disk.specs.Memory.{memory_may_leave, memory_fuse}
use Rattle.gp_disk.specs.MemoryLaws.{memory_counts_now}
use Rattle.gp_rows.specs.declared.row.Row.{Row}
use Rattle.gp_rows.specs.Changes.{place, value, with_row, with_floor, retired_row, applied, Change as RowChange}
use Rattle.gp_rows.proofs.Applied.{place_of-within, applied-is, value-raises, value-retires}
use Rattle.gp_store.specs.Commit.{Burns}
use Rattle.gp_store.specs.Image.{HoldsRows}
use Rattle.gp_store.specs.State.{State}
use Rattle.gp_ideal.specs.declared.ledger.Change.{Change}
use Rattle.gp_ideal.specs.declared.ledger.Change.TheVariants.{Pair, Accept, Retire}
use Rattle.gp_ideal.specs.Verdict.{Ruling}
use Rattle.gp_ideal.specs.Verdict as verdicts
use Rattle.gp_sink.specs.declared.verdict.Verdict.{Verdict}
use Rattle.gp_sink.specs.declared.verdict.SinkFault.{SinkFault}
use Rattle.gp_sink.specs.declared.verdict.SinkFault.TheVariants as faults
use Rattle.gp_sink.specs.Fits.{Fits, ImageFits}
use Rattle.gp_sink.specs.Ruled.{MayMake}
use Rattle.gp_sink.specs.Sink.{SinkState, Makes}
use Rattle.gp_sink.specs.Stored.{stored}
use Rattle.gp_world.specs.Power.{Fate, Passes, CutAfter, Fails, fate, behind, committed, cut_choice}
use Rattle.gp_world.specs.Run.{IsRight}
use Rattle.gp_world.specs.Sinks.{ruled, verdict_reports, verdict_puts}
use Rattle.gp_world.specs.World.{IsSink, Out, Choice, Fixed, Free, Made, Runs, Dark, Halted}
use Rattle.gp_world.specs.World as ideal
use Rattle.gp_power.specs.declared.answer.Answer.{Answer}
use Rattle.gp_power.specs.declared.power.Powered.{Powered}
use Rattle.gp_power.specs.declared.power.Supply.{Supply}
use Rattle.gp_power.specs.Stands.{AllFit, IsOpen, RunsAs, arming_of}
use Rattle.gp_power.specs.Said.{says_of, puts_of}
use Rattle.gp_power.specs.Comes.{Outcome, Decides, taken}
use Rattle.gp_power.specs.Inside.{in_memory, IsAfter, IsCut, Settles, DecidesOf, with_bit}
use Rattle.gp_power.proofs.Crashing.{dark_images}
use Rattle.gp_power.proofs.Fuses.{IsLater, IsIn, Spends, turn, goes_through, spends, not_due, fate_of}
use Rattle.gp_power.proofs.Standing.{stands_on, stands_off, settled}

-- ---- the row that a change gives

-- a change that may be made gives its row these values
record Gives (rows : List Row) (as_rows : RowChange) : Type 0 where
  pub row : Row
  pub value_is : value as_rows rows ≡ Some row
  pub within : place as_rows rows ≤ length rows

gives : (rows : List Row) (last : ℕ) (change : Change) → MayMake rows change → Gives rows (stored last change)
unfolding value
gives rows last (Pair values counter) d = record { row = _; value_is = refl; within = place_of-within values.src.0 values.key.0 rows }
gives rows last (Accept at counter) d = let short = slice_get_within rows at d.0 d.1 in record { row = with_floor counter d.0; value_is = value-raises rows at counter d.0 d.1; within = omega arith }
gives rows last (Retire at counter) d = let short = slice_get_within rows at d.0 d.1 in record { row = retired_row counter d.0; value_is = value-retires rows at counter d.0 d.1; within = omega arith }

-- ---- a change that a sink made

differ : (b : Bool) → b ≡ true → b ≡ false → ⊥
differ b t f = cc

-- a commit that has failed leaves its change open
opened : (ledger : List Change) (change : Change) (verdict : verdicts.Verdict) (old new : SinkState MemoryDisk) → Fits old.store.rows ledger → Makes in_memory ledger change verdict old new (Err faults.DiskFault) → IsOpen new.store ledger change
opened ledger change verdict old new f m =
    let g = gives old.store.rows old.store.last change m.due in
    let at : ℕ = place (stored old.store.last change) old.store.rows in
    let same : old.store.rows ≡ new.store.rows = sym (ap (λ (s : State MemoryDisk). s.rows) m.commits.store) in
    let written : applied (stored old.store.last change) old.store.rows ≡ with_row old.store.rows at g.row = applied-is (stored old.store.last change) old.store.rows at g.row refl g.value_is in
    record {
      at = at;
      value = g.row;
      told = ap (λ (s : State MemoryDisk). s.undecided) m.commits.store ∙ told (value (stored old.store.last change) old.store.rows) g.row g.value_is;
      place = m.stores.at;
      within = subst (λ (l : List Row). at ≤ length l) same g.within;
      due = subst (λ (l : List Row). MayMake l change) same m.due;
      before = subst (λ (l : List Row). Fits l ledger) same f;
      after = subst (λ (l : List Row). Fits (with_row l at g.row) (change ∷ ledger)) same (subst (λ (l : List Row). Fits l (change ∷ ledger)) written m.stores.fits);
      images = λ c left. subst (λ (l : List Row). HoldsRows c l ⊎ HoldsRows c (with_row l at g.row)) same
          (subst (λ (l : List Row). HoldsRows c old.store.rows ⊎ HoldsRows c l) written (m.commits.made.moments.rows c (memory_counts_now new.store.disk c left)));
    }
  where
    at_row : Row → ℕ × Row
    at_row r = (place (stored old.store.last change) old.store.rows, r)

    told : (v : Option Row) (row : Row) → v ≡ Some row → option_map at_row v ≡ Some (at_row row)
    told None row e = absurd cc
    told (Some x) row e = let is : x ≡ row = cc in ap (λ (r : Row). let o : Option (ℕ × Row) = Some (at_row r) in o) is

-- ---- what comes of it

module _ (ideal_sink : ideal.Sink) (armed : ideal.Armed) (change : Change) (verdict : verdicts.Verdict) (was sink : SinkState MemoryDisk) (new : Powered) (said : Answer) (took : Option Bool)
    (config : new.config ≡ ideal_sink.config) (set_up : was.config ≡ ideal_sink.config) (rules : was.rules ≡ ideal_sink.rules) (runs : RunsAs ideal_sink.ledger armed was.store) (room : was.store.last < 2 ^ 64 - 1) where
  powered : ideal.Powered
  powered = record { sink = ideal_sink; armed = armed; phase = Runs }

  -- what the ideal sink makes of it
  abbrev of_fate : Fate → Bool → Out
  of_fate f bit = committed (record { sink = ideal_sink; armed = armed; phase = Runs }) bit (ruled ideal_sink (record { verdict = verdict; change = Some change })) change f

  abbrev Comes_by : Fate → Type 0
  Comes_by f = Outcome (of_fate f) (says_of said) (puts_of said) new took

  burns : {good : Bool} → Burns (memory_fuse was.store.disk) (memory_fuse sink.store.disk) good → Burns (Running (arming_of armed)) (memory_fuse sink.store.disk) good
  burns {good} b = subst (λ (f : Fuse). Burns f (memory_fuse sink.store.disk) good) runs.fuse b

  same_config : {answer : Result Verdict SinkFault} → Makes in_memory ideal_sink.ledger change verdict was sink answer → sink.config ≡ ideal_sink.config
  same_config m = ap (λ (s : SinkState MemoryDisk). s.config) m.same ∙ set_up

  same_rules : {answer : Result Verdict SinkFault} → Makes in_memory ideal_sink.ledger change verdict was sink answer → sink.rules ≡ ideal_sink.rules
  same_rules m = ap (λ (s : SinkState MemoryDisk). s.rules) m.same ∙ rules

  -- it never was halted before, nor worn
  failed : {P : Type 0} (fault : SinkFault) → Makes in_memory ideal_sink.ledger change verdict was sink (Err fault) → (fault ≡ faults.DiskFault → P) → P
  failed faults.DiskFault m go = go refl
  failed faults.Halted m go = absurd (differ was.store.halted m.commits.reason runs.running)
  failed (faults.Worn generation) m go = let last = m.commits.reason.2 in absurd (omega (arith, last, room))

  -- ---- an earlier commit than the armed one: the change is remembered

  later_ok : (v : Verdict) → Makes in_memory ideal_sink.ledger change verdict was sink (Ok v) → IsAfter sink (Ok v) new.supply said took → IsLater armed → Comes_by Passes
  unfolding committed ruled
  later_ok v m a l =
      let g = goes_through armed (memory_fuse sink.store.disk) true l (burns m.commits.made.fuse) in
      let quiet = a.stays (ap is_due g.fuse ∙ not_due (behind armed)) in
      let next : ideal.Powered = record { sink = record ideal_sink { ledger = change ∷ ideal_sink.ledger }; armed = behind armed; phase = Runs } in
      settled (of_fate Passes) (says_of said) (puts_of said) new took next refl
      (stands_on new sink next config quiet.0 (same_config m) (same_rules m) (record {
        running = ap (λ (s : State MemoryDisk). s.halted) m.commits.store ∙ runs.running;
        decided = ap (λ (s : State MemoryDisk). s.undecided) m.commits.store ∙ runs.decided;
        fits = m.rows;
        images = m.stands;
        fuse = g.fuse;
        ahead = g.ahead;
      }))
      (ap verdict_reports (sym m.answer) ∙ ap says_of (sym quiet.1)) (ap verdict_puts (sym m.answer) ∙ ap puts_of (sym quiet.1)) refl refl quiet.2

  later_err : Makes in_memory ideal_sink.ledger change verdict was sink (Err faults.DiskFault) → IsLater armed → ⊥
  later_err m l = let no = (goes_through armed (memory_fuse sink.store.disk) false l (burns m.commits.made.fuse)).good_is in absurd cc

  -- ---- the armed commit, in which the power is cut

  right_of : (calls : ℕ) (bit : Bool) → (16 ≤ calls → bit ≡ true) → IsRight (cut_choice calls) bit
  right_of calls bit h = by (nat_le 16 calls) refl
    where
      many : (n : ℕ) → nat_le 16 n ≡ true → 16 ≤ n
      many n e = grind (arith, nat_tests)

      by : (t : Bool) → nat_le 16 calls ≡ t → IsRight (if t then Made else Free) bit
      by true e = h (many calls e)
      by false e = tt

  taken_of : (calls : ℕ) (bit : Bool) → taken (cut_choice calls) bit ≡ Some bit
  taken_of calls bit = by (nat_le 16 calls)
    where
      by : (t : Bool) → taken (if t then Made else Free) bit ≡ Some bit
      by true = refl
      by false = refl

  decided : (bit : Bool) (image : List ℕ) → DecidesOf bit change ideal_sink.ledger image → (bit ≡ true → ImageFits (change ∷ ideal_sink.ledger) image) × (ImageFits (change ∷ ideal_sink.ledger) image → bit ≡ true)
  decided true image d = (λ e. d.chosen, λ f. refl)
  decided false image d = (λ e. absurd cc, λ f. absurd (d.exactly refl f))

  cut_comes : (calls : ℕ) (bit : Bool) (k : IsCut sink new.supply said took) → took ≡ Some bit → (16 ≤ calls → bit ≡ true) → DecidesOf bit change ideal_sink.ledger k.falls.disk.content.image.items
      → crashed (memory_fuse sink.store.disk) ≡ Running fuses.Unarmed → sink.rules ≡ ideal_sink.rules → Comes_by (CutAfter calls)
  unfolding committed
  cut_comes calls bit k took_is whole d unarmed same = by bit took_is whole d
    where
      images : (b : Bool) → DecidesOf b change ideal_sink.ledger k.falls.disk.content.image.items → AllFit (memory_may_leave k.falls.disk) (with_bit b change ideal_sink.ledger)
      images b d = dark_images sink.store.disk k.falls.disk (ImageFits (with_bit b change ideal_sink.ledger)) k.falls.crashed_is d.chosen

      decides : (b : Bool) → took ≡ Some b → DecidesOf b change ideal_sink.ledger k.falls.disk.content.image.items → IfSome took (Decides (of_fate (CutAfter calls)) new.supply)
      decides b e d =
          subst (λ (t : Option Bool). IfSome t (Decides (of_fate (CutAfter calls)) new.supply)) (sym e)
          (subst (λ (s : Supply). Decides (of_fate (CutAfter calls)) s b) (sym k.falls.supply_is)
          (dark_images sink.store.disk k.falls.disk (λ image. (b ≡ true → ImageFits (change ∷ ideal_sink.ledger) image) × (ImageFits (change ∷ ideal_sink.ledger) image → b ≡ true)) k.falls.crashed_is (decided b k.falls.disk.content.image.items d)))

      by : (b : Bool) → took ≡ Some b → (16 ≤ calls → b ≡ true) → DecidesOf b change ideal_sink.ledger k.falls.disk.content.image.items → Comes_by (CutAfter calls)
      by true e w d =
          let next : ideal.Powered = record { sink = record ideal_sink { ledger = change ∷ ideal_sink.ledger }; armed = ideal.Unarmed; phase = Dark } in
          record {
            bit = true;
            next = next;
            node = refl;
            stands = stands_off new sink.rules k.falls.disk next config k.falls.supply_is same (record { images = images true d; fuse = k.falls.crashed_is.fuse ∙ unarmed; ahead = tt });
            says_are = ap says_of (sym k.said_is);
            puts_are = ap puts_of (sym k.said_is);
            airs_are = refl;
            right = right_of calls true w;
            takes = e ∙ sym (taken_of calls true);
            decides = decides true e d;
          }
      by false e w d =
          let next : ideal.Powered = record { sink = ideal_sink; armed = ideal.Unarmed; phase = Dark } in
          record {
            bit = false;
            next = next;
            node = refl;
            stands = stands_off new sink.rules k.falls.disk next config k.falls.supply_is same (record { images = images false d; fuse = k.falls.crashed_is.fuse ∙ unarmed; ahead = tt });
            says_are = ap says_of (sym k.said_is);
            puts_are = ap puts_of (sym k.said_is);
            airs_are = refl;
            right = right_of calls false w;
            takes = e ∙ sym (taken_of calls false);
            decides = decides false e d;
          }

  -- the whole commit was made
  now_ok : (v : Verdict) → Makes in_memory ideal_sink.ledger change verdict was sink (Ok v) → IsAfter sink (Ok v) new.supply said took
      → (calls : ℕ) (ending : Ending) → IsIn ending calls → Spends calls ending (memory_fuse sink.store.disk) true → Comes_by (fate_of ending calls)
  now_ok v m a calls ending within s = by ending within s.ends
    where
      none : (bit : Option Bool) → is_some bit ≡ false → unwrap_or bit true ≡ true
      none None e = refl
      none (Some b) e = absurd cc

      undecided : sink.store.undecided ≡ None
      undecided = ap (λ (s : State MemoryDisk). s.undecided) m.commits.store ∙ runs.decided

      by : (e : Ending) → IsIn e calls → ((true ≡ true) × (s.count ≤ calls) × (memory_fuse sink.store.disk ≡ Running (Due (calls - s.count) e))) ⊎ ((true ≡ false) × (calls < s.count) × (memory_fuse sink.store.disk ≡ blown e)) → Comes_by (fate_of e calls)
      by Fault w (inl p) = let least = s.at_least in let less = p.1 in absurd (omega (arith, w, less, least))
      by e w (inr p) = let no = p.0 in absurd cc
      by Stop w (inl p) =
          let k = a.cut (ap is_due p.2) in
          let yes : took ≡ Some true = k.took_is ∙ ap (λ (x : Bool). let t : Option Bool = Some x in t) (none k.bit (k.falls.there ∙ ap is_some undecided)) in
          let fit : ImageFits (change ∷ ideal_sink.ledger) k.falls.disk.content.image.items = m.stands k.falls.disk.content.image.items k.falls.crashed_is.image in
          cut_comes calls true k yes (λ many. refl) (record { chosen = fit; exactly = λ no. absurd cc }) (ap crashed p.2) (same_rules m)

  -- it wasn't
  now_err : Makes in_memory ideal_sink.ledger change verdict was sink (Err faults.DiskFault) → IsAfter sink (Err faults.DiskFault) new.supply said took
      → (calls : ℕ) (ending : Ending) → IsIn ending calls → Spends calls ending (memory_fuse sink.store.disk) false → Comes_by (fate_of ending calls)
  unfolding committed
  now_err m a calls ending within s = by ending s.ends
    where
      open_change : IsOpen sink.store ideal_sink.ledger change
      open_change = opened ideal_sink.ledger change verdict was sink runs.fits m

      of_bit : memory_fuse sink.store.disk ≡ blown Stop → calls < s.count → (k : IsCut sink new.supply said took) (bit : Option Bool) → Settles sink.store k.falls.disk bit → is_some bit ≡ true → took ≡ Some (unwrap_or bit true) → Comes_by (CutAfter calls)
      of_bit e less k None settles there took_is = absurd cc
      of_bit e less k (Some bit) settles there took_is = cut_comes calls bit k took_is (λ many. let most = s.at_most in absurd (omega (arith, less, many, most))) (settles ideal_sink.ledger change open_change) (ap crashed e) (same_rules m)

      by : (e : Ending) → ((false ≡ true) × (s.count ≤ calls) × (memory_fuse sink.store.disk ≡ Running (Due (calls - s.count) e))) ⊎ ((false ≡ false) × (calls < s.count) × (memory_fuse sink.store.disk ≡ blown e)) → Comes_by (fate_of e calls)
      by e (inl p) = let no = p.0 in absurd cc
      by Stop (inr p) =
          let k = a.cut (ap has_stopped p.2) in
          of_bit p.2 p.1 k k.bit k.falls.settles (k.falls.there ∙ ap is_some open_change.told) k.took_is
      by Fault (inr p) =
          let quiet = a.stays (ap has_stopped p.2) in
          let next : ideal.Powered = record { sink = ideal_sink; armed = ideal.Unarmed; phase = Halted change } in
          settled (of_fate Fails) (says_of said) (puts_of said) new took next refl
          (stands_on new sink next config quiet.0 (same_config m) (same_rules m) (record {
            halted = ap (λ (s : State MemoryDisk). s.halted) m.commits.store;
            undecided = open_change;
            now = Spent;
            fuse = p.2;
            kept = refl;
            ahead = tt;
          }))
          (ap says_of (sym quiet.1)) (ap puts_of (sym quiet.1)) refl refl quiet.2

  pub change_comes : (answer : Result Verdict SinkFault) → Makes in_memory ideal_sink.ledger change verdict was sink answer → IsAfter sink answer new.supply said took → Comes_by (fate armed)
  change_comes (Ok v) m a = elim (turn armed runs.ahead) [
    | inl l ↦ subst Comes_by (sym l.fate_is) (later_ok v m a l)
    | inr n ↦ subst Comes_by (sym n.fate_is) (now_ok v m a n.calls n.ending n.within (spends armed (memory_fuse sink.store.disk) true n (burns m.commits.made.fuse)))
  ]
  change_comes (Err fault) m a = failed fault m (λ is.
      let d = subst (λ (f : SinkFault). Makes in_memory ideal_sink.ledger change verdict was sink (Err f)) is m in
      let after = subst (λ (f : SinkFault). IsAfter sink (Err f) new.supply said took) is a in
      elim (turn armed runs.ahead) [
        | inl l ↦ absurd (later_err d l)
        | inr n ↦ subst Comes_by (sym n.fate_is) (now_err d after n.calls n.ending n.within (spends armed (memory_fuse sink.store.disk) false n (burns d.commits.made.fuse)))
      ])
