-- A line on the stage that a life has come to.
use Rattle.std.proofs.Common.{◌≡◌, ℕ, List, [], ◌++◌, Option, Some, None, Result, Ok, Err, IfErr, OnOk, refl, sym, ◌∙◌, ap, subst, append-nil}
use Rattle.gp_disk.specs.declared.device.Disk.{Ghosts}
use Rattle.gp_script.specs.declared.reason.LineReason.TheVariants.{Form}
use Rattle.gp_script.specs.declared.sink_script.SinkAction.{SinkAction}
use Rattle.gp_script.specs.declared.sink_script.SinkAction.TheVariants as actions
use Rattle.gp_script.specs.declared.sink_script.SinkEvent.{SinkEvent}
use Rattle.gp_script.specs.declared.sink_script.SinkEvent.TheVariants.{Nothing, Line}
use Rattle.gp_telling.specs.Texts.{report_text}
use Rattle.gp_lines.specs.Work.{Grows, UnlessNoMemory}
use Rattle.gp_lines.specs.declared.work.Halt.{Halt}
use Rattle.gp_lines.specs.declared.work.Halt.TheVariants.{Bad, DiskFault, DiskRefused, Worn, NoMemory}
use Rattle.gp_life.specs.declared.stage.Stage.{Stage}
use Rattle.gp_life.specs.declared.stage.Stage.TheVariants as stages
use Rattle.gp_life.specs.Lived.{asked}
use Rattle.gp_life.specs.Stages.{Acts, Awaits, Begins, Goes, GoesBy, IsThere, Stops, StopsBy, Wakes}

unless : (halt : Halt) (fact : Type 0) → fact → UnlessNoMemory halt fact
unless (Bad reason) fact h = h
unless DiskFault fact h = h
unless (DiskRefused reason) fact h = h
unless (Worn generation) fact h = h
unless NoMemory fact h = tt

is_there : {D : Type 0} (stage : Stage D) (number : ℕ) → Awaits stage number → IsThere stage
is_there (stages.Waiting disk) number h = tt
is_there (stages.Awake awake) number h = tt
is_there stages.Moved number h = absurd h

abbrev okay : Result (Unit {0}) Halt
okay = Ok tt

abbrev err : Halt → Result (Unit {0}) Halt
err halt = Err halt

same_halt : (one other : Halt) → err one ≡ err other → one ≡ other
same_halt one other e = cc

no_err : (halt : Halt) → okay ≡ err halt → ⊥
no_err halt e = cc

module _ {D : Type 0} (of : Ghosts D) where
  -- what a line does, and why it stops, by what it asks for
  pub goes : (old : Stage D) (number : ℕ) (line text : List ℕ) (new : Stage D) (event : Option SinkEvent) → asked line ≡ event → GoesBy of event old number text new → Goes of old number line text new
  goes old number line text new event e h = subst (λ (x : Option SinkEvent). GoesBy of x old number text new) (sym e) h

  pub stops : (old : Stage D) (number : ℕ) (line : List ℕ) (halt : Halt) (new : Stage D) (event : Option SinkEvent) → asked line ≡ event → StopsBy of event old number halt new → Stops of old number line halt new
  stops old number line halt new event e h = subst (λ (x : Option SinkEvent). StopsBy of x old number halt new) (sym e) h

  -- a line without a form, and one that does nothing
  pub formless : (stage : Stage D) (number : ℕ) (line : List ℕ) → asked line ≡ None → Awaits stage number → Stops of stage number line (Bad Form) stage
  formless stage number line e h = stops stage number line (Bad Form) stage None e (refl, refl, is_there stage number h)

  pub nothing : (stage : Stage D) (number : ℕ) (line : List ℕ) → asked line ≡ Some Nothing → Awaits stage number → Goes of stage number line [] stage
  nothing (stages.Waiting disk) number line e h = goes (stages.Waiting disk) number line [] (stages.Waiting disk) (Some Nothing) e (refl, refl)
  nothing (stages.Awake awake) number line e h = goes (stages.Awake awake) number line [] (stages.Awake awake) (Some Nothing) e (refl, refl)
  nothing stages.Moved number line e h = absurd h

  -- ---- an action

  woke : (disk : D) (action : SinkAction) (number reading : ℕ) (new : Stage D) → Wakes of disk action new (Ok tt) → GoesBy of (Some (Line reading action)) (stages.Waiting disk) number [] new
  woke disk (actions.Config address ieee mode channel link shared) number reading (stages.Awake awake) h = (refl, h)
  woke disk (actions.Config address ieee mode channel link shared) number reading (stages.Waiting other) h = absurd h
  woke disk (actions.Config address ieee mode channel link shared) number reading stages.Moved h = absurd h
  woke disk (actions.Hear octets) number reading new h = absurd (no_err (Bad Form) h.0)
  woke disk (actions.Pair source key kind level device counter) number reading new h = absurd (no_err (Bad Form) h.0)
  woke disk (actions.Rule source command endpoint form) number reading new h = absurd (no_err (Bad Form) h.0)
  woke disk (actions.Announce source) number reading new h = absurd (no_err (Bad Form) h.0)
  woke disk actions.Table number reading new h = absurd (no_err (Bad Form) h.0)

  refused : (disk : D) (action : SinkAction) (number reading : ℕ) (halt : Halt) (new : Stage D) → ((x : D) → (halt ≡ Bad Form) × (x ≡ disk) → StopsBy of (Some (Line reading action)) (stages.Waiting disk) number halt (stages.Waiting x))
      → (err halt ≡ err (Bad Form)) × (new ≡ stages.Waiting disk) → StopsBy of (Some (Line reading action)) (stages.Waiting disk) number halt new
  refused disk action number reading halt new to h =
      subst (λ (x : Stage D). StopsBy of (Some (Line reading action)) (stages.Waiting disk) number halt x) (sym h.1) (to disk (same_halt halt (Bad Form) h.0, refl))

  slept : (disk : D) (action : SinkAction) (number reading : ℕ) (halt : Halt) (new : Stage D) → Wakes of disk action new (Err halt) → StopsBy of (Some (Line reading action)) (stages.Waiting disk) number halt new
  slept disk (actions.Config address ieee mode channel link shared) number reading halt (stages.Waiting other) h = h
  slept disk (actions.Config address ieee mode channel link shared) number reading halt (stages.Awake awake) h = absurd h
  slept disk (actions.Config address ieee mode channel link shared) number reading halt stages.Moved h = absurd h
  slept disk (actions.Hear octets) number reading halt new h = refused disk (actions.Hear octets) number reading halt new (λ x k. k) h
  slept disk (actions.Pair source key kind level device counter) number reading halt new h = refused disk (actions.Pair source key kind level device counter) number reading halt new (λ x k. k) h
  slept disk (actions.Rule source command endpoint form) number reading halt new h = refused disk (actions.Rule source command endpoint form) number reading halt new (λ x k. k) h
  slept disk (actions.Announce source) number reading halt new h = refused disk (actions.Announce source) number reading halt new (λ x k. k) h
  slept disk actions.Table number reading halt new h = refused disk actions.Table number reading halt new (λ x k. k) h

  went : (old : Stage D) (number reading : ℕ) (action : SinkAction) (before after : List ℕ) (new : Stage D) → Acts of old number action before after new (Ok tt)
      → Grows before after (λ told. GoesBy of (Some (Line reading action)) old number told new)
  went (stages.Waiting disk) number reading action before after new h = ([], h.1 ∙ sym (append-nil before), woke disk action number reading new h.0)
  went (stages.Awake old) number reading action before after (stages.Awake new) h = (report_text h.0, h.1, (h.0, refl, h.2))
  went (stages.Awake old) number reading action before after (stages.Waiting disk) h = absurd h
  went (stages.Awake old) number reading action before after stages.Moved h = absurd h
  went stages.Moved number reading action before after new h = absurd h

  stopped : (old : Stage D) (number reading : ℕ) (action : SinkAction) (before after : List ℕ) (halt : Halt) (new : Stage D) → Acts of old number action before after new (Err halt)
      → StopsBy of (Some (Line reading action)) old number halt new × UnlessNoMemory halt (after ≡ before)
  stopped (stages.Waiting disk) number reading action before after halt new h = (slept disk action number reading halt new h.0, unless halt (after ≡ before) h.1)
  stopped (stages.Awake old) number reading action before after halt (stages.Awake new) h = h
  stopped (stages.Awake old) number reading action before after halt (stages.Waiting disk) h = absurd h
  stopped (stages.Awake old) number reading action before after halt stages.Moved h = absurd h
  stopped stages.Moved number reading action before after halt new h = absurd h

  pub acts_ok : (old : Stage D) (number reading : ℕ) (line : List ℕ) (action : SinkAction) (before after : List ℕ) (new : Stage D) (result : Result (Unit {0}) Halt) → asked line ≡ Some (Line reading action)
      → Acts of old number action before after new result → OnOk result (Grows before after (λ told. Goes of old number line told new))
  acts_ok old number reading line action before after new (Ok v) e h =
      let w = went old number reading action before after new h in (w.0, w.1, goes old number line w.0 new (Some (Line reading action)) e w.2)
  acts_ok old number reading line action before after new (Err halt) e h = tt

  pub acts_err : (old : Stage D) (number reading : ℕ) (line : List ℕ) (action : SinkAction) (before after : List ℕ) (new : Stage D) (result : Result (Unit {0}) Halt) → asked line ≡ Some (Line reading action)
      → Acts of old number action before after new result → IfErr result (λ halt. Stops of old number line halt new × UnlessNoMemory halt (after ≡ before))
  acts_err old number reading line action before after new (Ok v) e h = tt
  acts_err old number reading line action before after new (Err halt) e h =
      let s = stopped old number reading action before after halt new h in (stops old number line halt new (Some (Line reading action)) e s.0, s.1)
