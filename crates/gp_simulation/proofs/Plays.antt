-- Lines that are taken one after the other are a run of the ideal network.
use Rattle.std.proofs.Common.{◌≡◌, ℕ, suc, ◌+◌, Bool, List, [], ◌∷◌, ◌++◌, map, length, Option, Some, Ok, refl, sym, ap, subst, ◌∙◌, append_assoc, arith}
use Rattle.std.proofs.lemmas.Grind.{flat_map-append}
use Rattle.std.proofs.lemmas.List.{append-nil, length-append, map-append}
use Rattle.gp_script.specs.declared.script.Event.{Event}
use Rattle.gp_lines.specs.declared.work.Halt.{Halt}
use Rattle.gp_lines.specs.declared.work.Halt.TheVariants.{Bad, NoMemory, DiskFault, DiskRefused, Worn}
use Rattle.gp_lines.specs.Work as work
use Rattle.gp_world.specs.Run.{Moment, Run, world_after, events_of, report_of, bits_of, bit_taken}
use Rattle.gp_world.specs.Step.{step}
use Rattle.gp_world.specs.World.{World, empty}
use Rattle.gp_world.proofs.EveryRun.{every_run}
use Rattle.gp_telling.specs.Texts.{line_of_entry, report_text}
use Rattle.gp_simulation.specs.Playing.{asked, AreOf, Plays, StopsAt}
use Rattle.gp_simulation.specs.Simulation.{Goes, Stops}

-- A part of the work is the world, which stands for ideal ones.
module _ {S W : Type 0} (part : S → W) (Stands : W → World → Type 0) (bits : W → List Bool) where
  abbrev pub goes : S → ℕ → List ℕ → List ℕ → S → Type 0
  goes old number line text new = Goes Stands bits (part old) number line text (part new)

  abbrev pub stops : S → ℕ → List ℕ → Halt → S → Type 0
  stops old number line halt new = Stops Stands bits (part old) number line halt (part new)

  -- the lines are those of a run
  record Runs (script : List (List ℕ)) (text : List ℕ) (world : W) : Type 0 where
    moments : List Moment
    run : Run moments
    count : length moments ≡ length script
    events : AreOf script moments
    text_is : text ≡ report_text (report_of moments)
    stands : Stands world (world_after moments)
    bits_are : bits world ≡ bits_of moments

  none : (world : W) → Stands world empty → bits world ≡ [] → Runs [] [] world
  unfolding events_of report_of bits_of
  none world h no_bits = record { moments = []; run = tt; count = refl; events = refl; text_is = refl; stands = h; bits_are = no_bits }

  -- one line more
  one : (script : List (List ℕ)) (text : List ℕ) (s : S) (n : ℕ) (line first : List ℕ) (s' : S) → Runs script text (part s) → n ≡ length script + 1
      → goes s n line first s' → Runs (script ++ line ∷ []) (text ++ first) (part s')
  unfolding asked events_of report_of bits_of
  one script text s n line first s' h e g =
      let event = g.0 in
      let before = world_after h.moments in
      let steps = g.2 before h.stands in
      let next = steps.next in
      let moment : Moment = record { event = event; before = before; bit = steps.bit; next = next } in
      let number : n ≡ suc (length h.moments) = omega (arith, e, h.count) in
      let longer = length-append script (line ∷ []) in
      let some : Event → Option Event = λ x. Some x in
      record {
        moments = moment ∷ h.moments;
        run = (record { asked = (line, g.1); begins = refl; steps = subst (λ (m : ℕ). step before m event steps.bit ≡ Ok next) number steps.steps; right = steps.right }, h.run);
        count = (let same = h.count in omega (arith, longer, same));
        events = map-append asked script (line ∷ []) ∙ ap (λ (xs : List (Option Event)). xs ++ asked line ∷ []) h.events
            ∙ ap (λ (o : Option Event). map some (events_of h.moments) ++ o ∷ []) g.1 ∙ sym (map-append some (events_of h.moments) (event ∷ []));
        text_is = ap (λ (xs : List ℕ). xs ++ first) h.text_is ∙ ap (λ (xs : List ℕ). report_text (report_of h.moments) ++ xs) steps.text_is
            ∙ sym (flat_map-append line_of_entry (report_of h.moments) next.told);
        stands = steps.stands;
        bits_are = steps.takes ∙ ap (λ (bs : List Bool). bs ++ bit_taken next.choice steps.bit) h.bits_are;
      }

  on : (others script : List (List ℕ)) (text : List ℕ) (s : S) (n : ℕ) (more : List ℕ) (s' : S) → Runs script text (part s) → n ≡ length script + 1
      → work.Chain goes s n others more s' → Runs (script ++ others) (text ++ more) (part s')
  on [] script text s n more s' h e g =
      subst (λ (ls : List (List ℕ)). Runs ls (text ++ more) (part s')) (sym (append-nil script))
      (subst (λ (xs : List ℕ). Runs script xs (part s')) (sym (ap (λ (xs : List ℕ). text ++ xs) g.0 ∙ append-nil text))
      (subst (λ (x : S). Runs script text (part x)) (sym g.1) h))
  on (line ∷ others) script text s n more s' h e g =
      let longer = length-append script (line ∷ []) in
      let count : n + 1 ≡ length (script ++ line ∷ []) + 1 = omega (arith, longer, e) in
      let all = on others (script ++ line ∷ []) (text ++ g.1) g.0 (n + 1) g.2 s' (one script text s n line g.1 g.0 h e g.3) count g.4 in
      subst (λ (xs : List ℕ). Runs (script ++ line ∷ others) xs (part s')) (append_assoc text g.1 g.2 ∙ ap (λ (xs : List ℕ). text ++ xs) (sym g.5))
      (subst (λ (ls : List (List ℕ)). Runs ls ((text ++ g.1) ++ g.2) (part s')) (append_assoc script (line ∷ []) others) all)

  pub plays : (s : S) → Stands (part s) empty → bits (part s) ≡ [] → (script : List (List ℕ)) (text : List ℕ) (s' : S) → work.Chain goes s 1 script text s' → Plays Stands bits script text (part s')
  plays s h no_bits script text s' g =
      let runs = on script [] [] s 1 text s' (none (part s) h no_bits) refl g in
      record { moments = runs.moments; run = runs.run; events = runs.events; text_is = runs.text_is; stands = runs.stands; bits_are = runs.bits_are; properties = every_run runs.moments runs.run }

  pub stops_at : (s : S) → Stands (part s) empty → bits (part s) ≡ [] → (script : List (List ℕ)) (text line : List ℕ) (halt : Halt) (s' : S) → work.Halts goes stops s script text line halt s'
      → StopsAt Stands bits script text line halt (part s')
  stops_at s h no_bits script text line (Bad reason) s' g =
      let before = plays s h no_bits script text g.0 g.1 in
      let refused = g.2 (world_after before.moments) before.stands in
      (record { moments = before.moments; run = before.run; events = before.events; text_is = before.text_is; stands = refused.1; bits_are = refused.2 ∙ before.bits_are; properties = before.properties }, refused.0)
  stops_at s h no_bits script text line NoMemory s' g = (part g.0, plays s h no_bits script text g.0 g.1)
  stops_at s h no_bits script text line DiskFault s' g = absurd g.2
  stops_at s h no_bits script text line (DiskRefused reason) s' g = absurd g.2
  stops_at s h no_bits script text line (Worn generation) s' g = absurd g.2
