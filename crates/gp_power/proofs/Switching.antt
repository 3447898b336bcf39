-- What becomes of a sink whose power goes or comes, and of what is armed at it.
use Rattle.std.proofs.Common.{◌≡◌, ◌⊎◌, ◌∙◌, ℕ, ◌≤◌, Bool, true, false, List, [], ◌∷◌, length, Option, Some, None, IfSome, is_some, refl, sym, ap, subst}
use Rattle.std.proofs.lemmas.List.{length-map}
use Rattle.gp_disk.specs.declared.memory.MemoryDisk.{MemoryDisk}
use Rattle.gp_disk.specs.Fuse.{Running, crashed, rearmed}
use Rattle.gp_disk.specs.Memory.{memory_fuse, SameButFuse}
use Rattle.gp_rows.specs.declared.row.Row.{Row}
use Rattle.gp_rows.specs.Changes.{with_row}
use Rattle.gp_translate.specs.declared.rule.Rule.{Rule}
use Rattle.gp_script.specs.declared.report.Report.{Report}
use Rattle.gp_script.specs.declared.report.Report.TheVariants as reports
use Rattle.gp_store.specs.Image.{HoldsRows}
use Rattle.gp_store.specs.State.{SameButDisk}
use Rattle.gp_ideal.specs.declared.ledger.Change.{Change}
use Rattle.gp_ideal.specs.Ledger.{rows as ledger_rows}
use Rattle.gp_sink.specs.Fits.{Fits, ImageFits, pairing_in}
use Rattle.gp_sink.specs.Ruled.{MayMake}
use Rattle.gp_sink.specs.Sink.{SinkState}
use Rattle.gp_world.specs.Power.{arms, turns_off, turns_on, flickers}
use Rattle.gp_world.specs.World.{IsSink, Out, Phase, Runs, Dark, Halted}
use Rattle.gp_world.specs.World as ideal
use Rattle.gp_power.specs.declared.power.Powered.{Powered}
use Rattle.gp_power.specs.declared.power.Supply.{Supply}
use Rattle.gp_power.specs.declared.power.Supply.TheVariants.{On, Off, Moved}
use Rattle.gp_power.specs.Stands.{RunsAs, IsDarkAs, IsHaltedAs, StandsFor, StandsIn, StandsButArmed, IsSetUp, rules_of, arming_of, IsAhead}
use Rattle.gp_power.specs.Comes.{Outcome, Comes, Decides}
use Rattle.gp_power.specs.Inside.{Falls, DecidesOf, Settles, with_bit, IsUp, IsBack, IsCutAgain, IsArmed}
use Rattle.gp_power.proofs.Crashing.{dark_images}
use Rattle.gp_power.proofs.Fuses.{kept}
use Rattle.gp_power.proofs.Standing.{stands_on, stands_off, restated, settled}

-- ---- the supply of a sink that stands for an ideal one

-- what it stands for by its supply
pub phase_by : (old : Powered) (supply : Supply) (model : ideal.Powered) → old.supply ≡ supply → StandsFor old model → StandsIn model.phase model.sink.ledger model.armed supply
phase_by old supply model e h = subst (StandsIn model.phase model.sink.ledger model.armed) e h.phase

-- one without power has none in the ideal network
dark_phase : (kept_rules : List Rule) (disk : MemoryDisk) (model : ideal.Powered) → StandsIn model.phase model.sink.ledger model.armed (Off kept_rules disk) → (model.phase ≡ Dark) × IsDarkAs model.sink.ledger model.armed disk
dark_phase kept_rules disk model s = by model.phase refl s
  where
    by : (phase : Phase) → model.phase ≡ phase → StandsIn phase model.sink.ledger model.armed (Off kept_rules disk) → (model.phase ≡ Dark) × IsDarkAs model.sink.ledger model.armed disk
    by Dark e s = (e, s)
    by Runs e s = absurd s
    by (Halted change) e s = absurd s

-- ---- what is armed

module _ (armed : ideal.Armed) (ahead : IsAhead armed) where
  -- at a sink with power
  arms_on : (old new : SinkState MemoryDisk) → memory_fuse new.store.disk ≡ rearmed (arming_of armed) (memory_fuse old.store.disk) → SameButFuse old.store.disk new.store.disk → SameButDisk old.store new.store
      → (phase : Phase) (ledger : List Change) (before : ideal.Armed) → StandsIn phase ledger before (On old) → StandsIn phase ledger armed (On new)
  arms_on old new fuse disk same Runs ledger before r = record {
    running = same.same_halted ∙ r.running;
    decided = same.same_undecided ∙ r.decided;
    fits = subst (λ (l : List Row). Fits l ledger) (sym same.same_rows) r.fits;
    images = λ c left. r.images c (disk.now.none c left);
    fuse = fuse ∙ ap (rearmed (arming_of armed)) r.fuse;
    ahead = ahead;
  }
  arms_on old new fuse disk same Dark ledger before r = absurd r
  arms_on old new fuse disk same (Halted change) ledger before r =
      let u = r.undecided in
      let rows : old.store.rows ≡ new.store.rows = sym same.same_rows in
      record {
        halted = same.same_halted ∙ r.halted;
        undecided = record {
          at = u.at;
          value = u.value;
          told = same.same_undecided ∙ u.told;
          place = u.place;
          within = subst (λ (l : List Row). u.at ≤ length l) rows u.within;
          due = subst (λ (l : List Row). MayMake l change) rows u.due;
          before = subst (λ (l : List Row). Fits l ledger) rows u.before;
          after = subst (λ (l : List Row). Fits (with_row l u.at u.value) (change ∷ ledger)) rows u.after;
          images = λ c left. subst (λ (l : List Row). HoldsRows c l ⊎ HoldsRows c (with_row l u.at u.value)) rows (u.images c (disk.now.none c left));
        };
        now = arming_of armed;
        fuse = fuse ∙ ap (rearmed (arming_of armed)) r.fuse;
        kept = kept armed;
        ahead = ahead;
      }

  pub arms_with_power : (old new : Powered) (was sink : SinkState MemoryDisk) → old.supply ≡ On was → new.config ≡ old.config → new.supply ≡ On sink → memory_fuse sink.store.disk ≡ rearmed (arming_of armed) (memory_fuse was.store.disk)
      → SameButFuse was.store.disk sink.store.disk → SameButDisk was.store sink.store → sink ≡ record was { store = sink.store } → Comes (λ bit. arms armed) (reports.Armed ∷ []) [] old new None
  unfolding arms
  arms_with_power old new was sink on same_config on_new fuse disk same all model h =
      let next : ideal.Powered = record model { armed = armed } in
      let set_up : was.config ≡ old.config = subst (IsSetUp old.config) on h.set_up in
      settled (λ bit. arms armed model) (reports.Armed ∷ []) [] new None next refl
      (stands_on new sink next (same_config ∙ h.config) on_new (ap (λ (s : SinkState MemoryDisk). s.config) all ∙ set_up ∙ h.config) (ap (λ (s : SinkState MemoryDisk). s.rules) all ∙ sym (ap rules_of on) ∙ h.rules)
      (arms_on was sink fuse disk same model.phase model.sink.ledger model.armed (phase_by old (On was) model on h)))
      refl refl refl refl refl

  -- and without
  pub arms_dark : (old new : Powered) (rules : List Rule) (was disk : MemoryDisk) → old.supply ≡ Off rules was → new.config ≡ old.config → new.supply ≡ Off rules disk → memory_fuse disk ≡ rearmed (arming_of armed) (memory_fuse was)
      → SameButFuse was disk → Comes (λ bit. arms armed) (reports.Armed ∷ []) [] old new None
  unfolding arms
  arms_dark old new rules was disk off same_config off_new fuse same model h =
      let next : ideal.Powered = record model { armed = armed } in
      let d = dark_phase rules was model (phase_by old (Off rules was) model off h) in
      settled (λ bit. arms armed model) (reports.Armed ∷ []) [] new None next refl
      (stands_off new rules disk next (same_config ∙ h.config) off_new (sym (ap rules_of off) ∙ h.rules)
      (subst (λ (p : Phase). StandsIn p model.sink.ledger armed (Off rules disk)) (sym d.0) (record { images = λ c left. d.1.images c (same.now.none c left); fuse = fuse ∙ ap (rearmed (arming_of armed)) d.1.fuse; ahead = ahead })))
      refl refl refl refl refl

-- ---- the power goes

pub goes_off : (old new : Powered) (was : SinkState MemoryDisk) (bit : Option Bool) → old.supply ≡ On was → new.config ≡ old.config → Falls was new.supply bit → Comes turns_off (reports.Off ∷ []) [] old new bit
unfolding turns_off
goes_off old new was bit on same_config f model h = by model.phase refl (phase_by old (On was) model on h)
  where
    rules : was.rules ≡ model.sink.rules
    rules = sym (ap rules_of on) ∙ h.rules

    none : (b : Option Bool) → is_some b ≡ false → b ≡ None
    none None e = refl
    none (Some b) e = absurd cc

    runs : RunsAs model.sink.ledger model.armed was.store → Outcome (λ b. turns_off b (record model { phase = Runs })) (reports.Off ∷ []) [] new bit
    runs r =
        let next : ideal.Powered = record model { phase = Dark } in
        settled (λ b. turns_off b (record model { phase = Runs })) (reports.Off ∷ []) [] new bit next refl
        (stands_off new was.rules f.disk next (same_config ∙ h.config) f.supply_is rules (record {
          images = dark_images was.store.disk f.disk (ImageFits model.sink.ledger) f.crashed_is (r.images f.disk.content.image.items f.crashed_is.image);
          fuse = f.crashed_is.fuse ∙ ap crashed r.fuse ∙ ap Running (kept model.armed);
          ahead = r.ahead;
        }))
        refl refl refl refl (none bit (f.there ∙ ap is_some r.decided))

    halted : (change : Change) → IsHaltedAs model.sink.ledger change model.armed was.store → (b : Option Bool) → bit ≡ b → is_some b ≡ true → Settles was.store f.disk b → Outcome (λ x. turns_off x (record model { phase = Halted change })) (reports.Off ∷ []) [] new bit
    halted change r None e there s = absurd cc
    halted change r (Some b) e there s = chosen b e (s model.sink.ledger change r.undecided)
      where
        dark : (x : Bool) → DecidesOf x change model.sink.ledger f.disk.content.image.items → IsDarkAs (with_bit x change model.sink.ledger) model.armed f.disk
        dark x d = record {
          images = dark_images was.store.disk f.disk (ImageFits (with_bit x change model.sink.ledger)) f.crashed_is d.chosen;
          fuse = f.crashed_is.fuse ∙ ap crashed r.fuse ∙ ap Running r.kept;
          ahead = r.ahead;
        }

        decided : (x : Bool) (image : List ℕ) → DecidesOf x change model.sink.ledger image → (x ≡ true → ImageFits (change ∷ model.sink.ledger) image) × (ImageFits (change ∷ model.sink.ledger) image → x ≡ true)
        decided true image d = (λ e. d.chosen, λ f. refl)
        decided false image d = (λ e. absurd cc, λ f. absurd (d.exactly refl f))

        decides : (x : Bool) → bit ≡ Some x → DecidesOf x change model.sink.ledger f.disk.content.image.items → IfSome bit (Decides (λ y. turns_off y (record model { phase = Halted change })) new.supply)
        decides x e d =
            subst (λ (t : Option Bool). IfSome t (Decides (λ y. turns_off y (record model { phase = Halted change })) new.supply)) (sym e)
            (subst (λ (s : Supply). Decides (λ y. turns_off y (record model { phase = Halted change })) s x) (sym f.supply_is)
            (dark_images was.store.disk f.disk (λ image. (x ≡ true → ImageFits (change ∷ model.sink.ledger) image) × (ImageFits (change ∷ model.sink.ledger) image → x ≡ true)) f.crashed_is (decided x f.disk.content.image.items d)))

        chosen : (x : Bool) → bit ≡ Some x → DecidesOf x change model.sink.ledger f.disk.content.image.items → Outcome (λ y. turns_off y (record model { phase = Halted change })) (reports.Off ∷ []) [] new bit
        chosen true e d =
            let next : ideal.Powered = record { sink = record model.sink { ledger = change ∷ model.sink.ledger }; armed = model.armed; phase = Dark } in
            record {
              bit = true;
              next = next;
              node = refl;
              stands = stands_off new was.rules f.disk next (same_config ∙ h.config) f.supply_is rules (dark true d);
              says_are = refl;
              puts_are = refl;
              airs_are = refl;
              right = tt;
              takes = e;
              decides = decides true e d;
            }
        chosen false e d =
            let next : ideal.Powered = record { sink = model.sink; armed = model.armed; phase = Dark } in
            record {
              bit = false;
              next = next;
              node = refl;
              stands = stands_off new was.rules f.disk next (same_config ∙ h.config) f.supply_is rules (dark false d);
              says_are = refl;
              puts_are = refl;
              airs_are = refl;
              right = tt;
              takes = e;
              decides = decides false e d;
            }

    by : (phase : Phase) → model.phase ≡ phase → StandsIn phase model.sink.ledger model.armed (On was) → Outcome (λ b. turns_off b model) (reports.Off ∷ []) [] new bit
    by Dark e s = absurd s
    by Runs e s = subst (λ (p : Phase). Outcome (λ b. turns_off b (record model { phase = p })) (reports.Off ∷ []) [] new bit) (sym e) (runs s)
    by (Halted change) e s = subst (λ (p : Phase). Outcome (λ b. turns_off b (record model { phase = p })) (reports.Off ∷ []) [] new bit) (sym e) (halted change s bit refl (f.there ∙ ap is_some s.undecided.told) f.settles)

-- there was none
pub stays_off : (old new : Powered) → ((sink : SinkState MemoryDisk) → old.supply ≡ On sink → ⊥) → new.config ≡ old.config → new.supply ≡ old.supply → Comes turns_off (reports.Dark ∷ []) [] old new None
unfolding turns_off
stays_off old new off config supply model h = by model.phase refl old.supply refl h.phase
  where
    by : (phase : Phase) → model.phase ≡ phase → (s : Supply) → old.supply ≡ s → StandsIn phase model.sink.ledger model.armed s → Outcome (λ b. turns_off b model) (reports.Dark ∷ []) [] new None
    by Dark e s is st = settled (λ b. turns_off b model) (reports.Dark ∷ []) [] new None model (rw e refl) (restated old new model config supply h) (rw e refl) (rw e refl) (rw e refl) (rw e refl) refl
    by Runs e (On sink) is st = absurd (off sink is)
    by Runs e (Off rules disk) is st = absurd st
    by Runs e Moved is st = absurd st
    by (Halted change) e (On sink) is st = absurd (off sink is)
    by (Halted change) e (Off rules disk) is st = absurd st
    by (Halted change) e Moved is st = absurd st

-- ---- the power comes

pub comes_on : (old new : Powered) (rules : List Rule) (disk : MemoryDisk) (sink : SinkState MemoryDisk) (count : ℕ) → count ≡ length sink.store.rows → old.supply ≡ Off rules disk → new.config ≡ old.config → new.supply ≡ On sink → IsUp old.config rules disk sink
    → Comes (λ bit. turns_on) (reports.Up count ∷ []) [] old new None
unfolding turns_on
comes_on old new rules disk sink count counted off same_config on u model h =
    let d = dark_phase rules disk model (phase_by old (Off rules disk) model off h) in
    let f = u.fits model.sink.ledger d.1.images in
    let all : count ≡ length (ledger_rows model.sink.ledger) = counted ∙ sym (length-map sink.store.rows pairing_in) ∙ ap length f.0.pairs in
    let next : ideal.Powered = record model { phase = Runs } in
    subst (λ (p : Phase). Outcome (λ bit. turns_on (record model { phase = p })) (reports.Up count ∷ []) [] new None) (sym d.0)
    (settled (λ bit. turns_on (record model { phase = Dark })) (reports.Up count ∷ []) [] new None next refl
    (stands_on new sink next (same_config ∙ h.config) on (u.set_up ∙ h.config) (u.rules_are ∙ sym (ap rules_of off) ∙ h.rules) (record {
      running = u.runs;
      decided = u.decided;
      fits = f.0;
      images = f.1;
      fuse = u.fuse model.armed d.1.fuse d.1.ahead;
      ahead = d.1.ahead;
    }))
    (ap (λ (n : ℕ). let r : List Report = reports.Up n ∷ [] in r) (sym all)) refl refl refl refl)

-- it was there: the same line for both ways to switch on
there_is : (old : Powered) (model : ideal.Powered) → ((rules : List Rule) (disk : MemoryDisk) → old.supply ≡ Off rules disk → ⊥) → StandsFor old model → (model.phase ≡ Dark → ⊥)
there_is old model on h e = by old.supply refl (subst (λ (p : Phase). StandsIn p model.sink.ledger model.armed old.supply) e h.phase)
  where
    by : (s : Supply) → old.supply ≡ s → StandsIn Dark model.sink.ledger model.armed s → ⊥
    by (On sink) is st = st
    by (Off rules disk) is st = on rules disk is
    by Moved is st = st

pub stays_on : (old new : Powered) → ((rules : List Rule) (disk : MemoryDisk) → old.supply ≡ Off rules disk → ⊥) → new.config ≡ old.config → new.supply ≡ old.supply → Comes (λ bit. turns_on) (reports.Running ∷ []) [] old new None
unfolding turns_on
stays_on old new on config supply model h = by model.phase refl
  where
    by : (phase : Phase) → model.phase ≡ phase → Outcome (λ b. turns_on model) (reports.Running ∷ []) [] new None
    by Dark e = absurd (there_is old model on h e)
    by Runs e = settled (λ b. turns_on model) (reports.Running ∷ []) [] new None model (rw e refl) (restated old new model config supply h) (rw e refl) (rw e refl) (rw e refl) (rw e refl) refl
    by (Halted change) e = settled (λ b. turns_on model) (reports.Running ∷ []) [] new None model (rw e refl) (restated old new model config supply h) (rw e refl) (rw e refl) (rw e refl) (rw e refl) refl

pub never_dark : (old new : Powered) → ((rules : List Rule) (disk : MemoryDisk) → old.supply ≡ Off rules disk → ⊥) → new.config ≡ old.config → new.supply ≡ old.supply → Comes (λ bit. flickers) (reports.Running ∷ []) [] old new None
unfolding flickers
never_dark old new on config supply model h = by model.phase refl
  where
    by : (phase : Phase) → model.phase ≡ phase → Outcome (λ b. flickers model) (reports.Running ∷ []) [] new None
    by Dark e = absurd (there_is old model on h e)
    by Runs e = settled (λ b. flickers model) (reports.Running ∷ []) [] new None model (rw e refl) (restated old new model config supply h) (rw e refl) (rw e refl) (rw e refl) (rw e refl) refl
    by (Halted change) e = settled (λ b. flickers model) (reports.Running ∷ []) [] new None model (rw e refl) (restated old new model config supply h) (rw e refl) (rw e refl) (rw e refl) (rw e refl) refl

-- a start that wants memory leaves it as it was
pub stays_dark : (old new : Powered) (rules : List Rule) (disk back : MemoryDisk) → old.supply ≡ Off rules disk → new.config ≡ old.config → new.supply ≡ Off rules back → IsBack disk back → (model : ideal.Powered) → StandsFor old model → StandsFor new model
stays_dark old new rules disk back off same_config off_new b model h =
    let d = dark_phase rules disk model (phase_by old (Off rules disk) model off h) in
    stands_off new rules back model (same_config ∙ h.config) off_new (sym (ap rules_of off) ∙ h.rules)
    (subst (λ (p : Phase). StandsIn p model.sink.ledger model.armed (Off rules back)) (sym d.0) (record { images = λ c left. d.1.images c (b.images c left); fuse = b.fuse model.armed model.sink.ledger d.1.fuse d.1.ahead d.1.images; ahead = d.1.ahead }))

-- ---- the power comes and is cut

pub is_cut_again : (old new : Powered) (rules : List Rule) (disk again : MemoryDisk) → old.supply ≡ Off rules disk → new.config ≡ old.config → new.supply ≡ Off rules again → IsCutAgain disk again → Comes (λ bit. flickers) (reports.Cut ∷ []) [] old new None
unfolding flickers
is_cut_again old new rules disk again off same_config off_new k model h =
    let d = dark_phase rules disk model (phase_by old (Off rules disk) model off h) in
    let next : ideal.Powered = record model { armed = ideal.Unarmed; phase = Dark } in
    subst (λ (p : Phase). Outcome (λ bit. flickers (record model { phase = p })) (reports.Cut ∷ []) [] new None) (sym d.0)
    (settled (λ bit. flickers (record model { phase = Dark })) (reports.Cut ∷ []) [] new None next refl
    (stands_off new rules again next (same_config ∙ h.config) off_new (sym (ap rules_of off) ∙ h.rules) (record { images = λ c left. d.1.images c (k.images c left); fuse = k.fuse model.armed model.sink.ledger d.1.fuse d.1.images; ahead = tt }))
    refl refl refl refl refl)

-- it wants memory
pub is_armed : (armed : ideal.Armed) → IsAhead armed → (old new : Powered) (rules : List Rule) (disk again : MemoryDisk) → old.supply ≡ Off rules disk → new.config ≡ old.config → new.supply ≡ Off rules again → IsArmed armed disk again
    → (model : ideal.Powered) → StandsFor old model → StandsButArmed new model
is_armed armed ahead old new rules disk again off same_config off_new k model h =
    let d = dark_phase rules disk model (phase_by old (Off rules disk) model off h) in
    let next : ideal.Powered = record model { armed = armed } in (
      armed,
      stands_off new rules again next (same_config ∙ h.config) off_new (sym (ap rules_of off) ∙ h.rules)
          (subst (λ (p : Phase). StandsIn p model.sink.ledger armed (Off rules again)) (sym d.0) (record { images = λ c left. d.1.images c (k.images c left); fuse = k.fuse model.armed d.1.fuse; ahead = ahead })),
    )
