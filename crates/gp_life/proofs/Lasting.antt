-- Lines that are taken one after the other are a life.
use Rattle.std.proofs.Common.{◌≡◌, ◌⊎◌, inl, inr, ℕ, ◌+◌, ◌-◌, ◌<◌, ◌≤◌, ◌^◌, List, [], ◌∷◌, ◌++◌, map, length, Option, Some, None, Result, Ok, Err, refl, sym, ◌∙◌, ap, subst, append-nil, append_assoc, arith}
use Rattle.std.proofs.lemmas.Grind.{flat_map-append}
use Rattle.gp_base.specs.Outside.{one_more}
use Rattle.gp_base.specs.Table.{let_ok}
use Rattle.gp_disk.specs.declared.device.Disk.{Ghosts}
use Rattle.gp_rows.specs.declared.row.Row.{Row}
use Rattle.gp_store.specs.Image.{HasLast}
use Rattle.gp_store.specs.Recovery.{HasRows, Told}
use Rattle.gp_translate.specs.Rules.{standard}
use Rattle.gp_script.specs.declared.reason.LineReason.{LineReason}
use Rattle.gp_script.specs.declared.reason.LineReason.TheVariants.{Form}
use Rattle.gp_script.specs.declared.report.Entry.{Entry}
use Rattle.gp_script.specs.declared.sink_script.SinkAction.{SinkAction}
use Rattle.gp_script.specs.declared.sink_script.SinkAction.TheVariants as actions
use Rattle.gp_script.specs.declared.sink_script.SinkEvent.{SinkEvent}
use Rattle.gp_script.specs.declared.sink_script.SinkEvent.TheVariants.{Nothing, Line}
use Rattle.gp_ideal.specs.declared.config.Config as ideal
use Rattle.gp_world.specs.Life.{Life, Lived, begun, gone_on, life_step}
use Rattle.gp_world.specs.Step.{config_of}
use Rattle.gp_sink.specs.Fits.{Fits}
use Rattle.gp_telling.specs.Texts.{line_of_entry, report_text}
use Rattle.gp_lines.specs.Work as work
use Rattle.gp_lines.specs.declared.work.Halt.{Halt}
use Rattle.gp_lines.specs.declared.work.Halt.TheVariants.{Bad, DiskFault, DiskRefused, Worn, NoMemory}
use Rattle.gp_life.specs.declared.awake.Awake.{Awake}
use Rattle.gp_life.specs.declared.stage.Stage.{Stage}
use Rattle.gp_life.specs.declared.stage.Stage.TheVariants.{Waiting, Awake as Woken, Moved}
use Rattle.gp_life.specs.Inside.{GoesOn, IsLifeOf, PlayEnds}
use Rattle.gp_life.specs.Lived.{asked, life_of, lived_on, next_line, unborn}
use Rattle.gp_life.specs.Living.{Ends, Holds, Lives, Stands, StopsAt}
use Rattle.gp_life.specs.Opening.{opening}
use Rattle.gp_life.specs.Stages.{Goes, GoesBy, IsBegun, IsThere, SetsUp, Stops, StopsBy, StopsWaiting, Unbegun, disk_in}
use Rattle.gp_life.specs.Exact.{HasProperties}
use Rattle.gp_life.proofs.Exactly.{acts-on-fresh, takes-only-fresh}
use Rattle.gp_life.proofs.Openings.{opening-fits}
use Rattle.gp_life.proofs.Rising.{life-once, life-rises}

has-properties : (rows : List Row) (script : List (List ℕ)) (made : Lived) → life_of rows script ≡ Ok made → HasProperties rows script made.told
has-properties rows script made e = record {
  rising = life-rises rows script made e;
  once = life-once rows script made e;
  acts = acts-on-fresh rows script;
  only = takes-only-fresh rows script made e;
}

module _ {D : Type 0} (of : Ghosts D) (disk : D) where
  -- a sink that is set up stands so behind a life of so many lines
  pub record IsAwakeAt (rows : List Row) (last : ℕ) (life : Life) (before : ℕ) (awake : Awake D) : Type 0 where
    pub on_disk : Told (of.image disk) (λ image. HasRows image rows last)
    pub is_life : IsLifeOf of awake life
    pub generation : awake.sink.store.last + length (opening rows) ≡ last + length life.sink.ledger
    pub longer : length (opening rows) ≤ length life.sink.ledger
    pub few : awake.sink.store.last ≤ last + before
    pub good : of.faults awake.sink.store.disk ≡ of.faults disk

  -- and a stage
  abbrev pub IsAt : List Row → ℕ → Option Life → ℕ → Stage D → Type 0
  IsAt rows last None before (Waiting other) = other ≡ disk
  IsAt rows last (Some life) before (Woken awake) = IsAwakeAt rows last life before awake
  IsAt rows last life before other = ⊥

  one_later : (rows : List Row) (last : ℕ) (life : Life) (before : ℕ) (awake : Awake D) → IsAwakeAt rows last life before awake → IsAwakeAt rows last life (before + 1) awake
  one_later rows last life before awake h = record {
    on_disk = h.on_disk;
    is_life = h.is_life;
    generation = h.generation;
    longer = h.longer;
    few = (let few = h.few in omega (arith, few));
    good = h.good;
  }

  next_at : (rows : List Row) (last : ℕ) (life : Life) (before line : ℕ) (action : SinkAction) (told : List Entry) (awake new : Awake D) → IsAwakeAt rows last life before awake
      → (g : GoesOn of life line action told awake new) → IsAwakeAt rows last g.next (before + 1) new
  next_at rows last life before line action told awake new h g =
      let was = h.generation in
      let long = h.longer in
      let few = h.few in
      let is = g.is_next.is_next.generation in
      let more = g.is_next.is_next.longer in
      let one = g.is_next.is_next.few in
      record {
        on_disk = h.on_disk;
        is_life = record { is_sink = g.is_next.is_next.is_sink; sent = g.is_next.sent };
        generation = omega (arith, was, is);
        longer = omega (arith, long, more);
        few = omega (arith, few, one);
        good = g.is_next.is_next.good ∙ h.good;
      }

  abbrev first_life : ideal.Config → List Row → Life
  first_life config rows = record { sink = record { config = config; rules = standard; ledger = opening rows }; sent = 0 }

  begun_at : (config : ideal.Config) (other : D) (before : ℕ) (awake : Awake D) → other ≡ disk → IsBegun of config other awake
      → IsAwakeAt awake.sink.store.rows awake.sink.store.last (first_life config awake.sink.store.rows) before awake
  begun_at config other before awake e b = let r = subst (λ (d : D). IsBegun of config d awake) e b in record {
    on_disk = r.recovered.rows;
    is_life = record {
      is_sink = record {
        runs = r.recovered.running;
        config = r.set_up;
        rules = r.rules;
        fits = opening-fits awake.sink.store.rows r.recovered.table;
        held = r.recovered.stands;
      };
      sent = r.none_sent;
    };
    generation = refl;
    longer = omega arith;
    few = omega arith;
    good = r.recovered.good;
  }

  -- ---- one line

  record OneLine (rows : List Row) (last : ℕ) (old : Lived) (number before : ℕ) (event : Option SinkEvent) (text : List ℕ) (new : Stage D) (life : Option Life) : Type 0 where
    told : List Entry
    is : next_line rows old number event ≡ Ok (record { life = life; told = old.told ++ told })
    text_is : text ≡ report_text told
    at : IsAt rows last life (before + 1) new

  -- behind what was reported comes what a line reports
  abbrev adds : List Entry → Result Lived LineReason → Result Lived LineReason
  adds told result = let_ok result (λ reason. Err reason) (λ made. Ok (record { life = made.life; told = told ++ made.told }))

  abbrev AwakeLine : List Row → ℕ → Life → List Entry → ℕ → ℕ → Option SinkEvent → List ℕ → Stage D → Type 0
  AwakeLine rows last life told number before event text new = (next : Life) × OneLine rows last (record { life = Some life; told = told }) number before event text new (Some next)

  awake_line : (rows : List Row) (last : ℕ) (life : Life) (told : List Entry) (number before : ℕ) (event : Option SinkEvent) (stage new : Stage D) (text : List ℕ) → IsAt rows last (Some life) before stage
      → GoesBy of event stage number text new → AwakeLine rows last life told number before event text new
  unfolding next_line life_step
  awake_line rows last life told number before (Some Nothing) (Woken awake) (Woken new) text h g = (
    life,
    record {
      told = [];
      is = refl;
      text_is = g.0;
      at = subst (λ (a : Awake D). IsAwakeAt rows last life (before + 1) a) (sym g.1) (one_later rows last life before awake h);
    },
  )
  awake_line rows last life told number before (Some (Line reading action)) (Woken awake) (Woken new) text h g =
      let goes = g.2 life h.is_life in (
        goes.next,
        record {
          told = g.0;
          is = ap (adds told) goes.goes;
          text_is = g.1;
          at = next_at rows last life before number action g.0 awake new h goes;
        },
      )
  awake_line rows last life told number before event (Waiting other) new text h g = absurd h
  awake_line rows last life told number before event Moved new text h g = absurd h
  awake_line rows last life told number before None (Woken awake) new text h g = absurd g
  awake_line rows last life told number before (Some Nothing) (Woken awake) (Waiting other) text h g = absurd g
  awake_line rows last life told number before (Some Nothing) (Woken awake) Moved text h g = absurd g
  awake_line rows last life told number before (Some (Line reading action)) (Woken awake) (Waiting other) text h g = absurd g
  awake_line rows last life told number before (Some (Line reading action)) (Woken awake) Moved text h g = absurd g

  -- a line before the sink is set up does nothing, whatever the rows, or sets it up
  abbrev Sleeps : ℕ → ℕ → Option SinkEvent → List ℕ → Stage D → Type 0
  Sleeps number before event text new =
      (((rows : List Row) → next_line rows unborn number event ≡ Ok unborn) × (new ≡ Waiting disk) × (text ≡ []))
      ⊎ ((rows : List Row) × (last : ℕ) × (life : Life) × OneLine rows last unborn number before event text new (Some life))

  first_line : (number before : ℕ) (event : Option SinkEvent) (other : D) (new : Stage D) (text : List ℕ) → other ≡ disk → GoesBy of event (Waiting other) number text new → Sleeps number before event text new
  unfolding next_line life_step begun
  first_line number before (Some Nothing) other (Waiting new) text e g = inl (
    λ rows. refl,
    ap (λ (d : D). Waiting d) (g.1 ∙ e),
    g.0,
  )
  first_line number before (Some (Line reading (actions.Config address ieee mode channel link shared))) other (Woken new) text e g =
      let config = config_of address ieee mode channel link shared in
      inr (
        new.sink.store.rows,
        new.sink.store.last,
        first_life config new.sink.store.rows,
        record {
          told = [];
          is = refl;
          text_is = g.0;
          at = begun_at config other (before + 1) new e g.1;
        },
      )
  first_line number before (Some (Line reading (actions.Hear octets))) other (Woken new) text e g = absurd g.1
  first_line number before (Some (Line reading (actions.Pair source key kind level device counter))) other (Woken new) text e g = absurd g.1
  first_line number before (Some (Line reading (actions.Rule source command endpoint form))) other (Woken new) text e g = absurd g.1
  first_line number before (Some (Line reading (actions.Announce source))) other (Woken new) text e g = absurd g.1
  first_line number before (Some (Line reading actions.Table)) other (Woken new) text e g = absurd g.1
  first_line number before (Some Nothing) other (Woken new) text e g = absurd g
  first_line number before (Some Nothing) other Moved text e g = absurd g
  first_line number before (Some (Line reading action)) other (Waiting new) text e g = absurd g
  first_line number before (Some (Line reading action)) other Moved text e g = absurd g
  first_line number before None other new text e g = absurd g

  -- ---- one after the other

  pub record Ran (rows : List Row) (last : ℕ) (old : Lived) (number before : ℕ) (script : List (List ℕ)) (text : List ℕ) (new : Stage D) : Type 0 where
    pub life : Option Life
    pub told : List Entry
    pub is : lived_on rows old number (map asked script) ≡ Ok (record { life = life; told = old.told ++ told })
    pub text_is : text ≡ report_text told
    pub at : IsAt rows last life (before + length script) new

  ran_none : (rows : List Row) (last : ℕ) (old : Lived) (number before : ℕ) (text : List ℕ) (new : Stage D) → text ≡ [] → IsAt rows last old.life before new → Ran rows last old number before [] text new
  unfolding lived_on
  ran_none rows last old number before text new e h = record {
    life = old.life;
    told = [];
    is = ap (λ (told : List Entry). Ok (record { life = old.life; told = told })) (sym (append-nil old.told));
    text_is = e;
    at = (let none : before ≡ before + 0 = omega arith in subst (λ (n : ℕ). IsAt rows last old.life n new) none h);
  }

  ran_one : (rows : List Row) (last : ℕ) (old : Lived) (number before : ℕ) (line : List ℕ) (others : List (List ℕ)) (first more text : List ℕ) (mid new : Stage D) (life : Option Life) (one : OneLine rows last old number before (asked line) first mid life)
      → text ≡ first ++ more → Ran rows last (record { life = life; told = old.told ++ one.told }) (number + 1) (before + 1) others more new → Ran rows last old number before (line ∷ others) text new
  unfolding lived_on
  ran_one rows last old number before line others first more text mid new life one e rest = record {
    life = rest.life;
    told = one.told ++ rest.told;
    is = ap (λ (r : Result Lived LineReason). let_ok r (λ (reason : LineReason). Err reason) (λ (made : Lived). lived_on rows made (number + 1) (map asked others))) one.is ∙ rest.is
        ∙ ap (λ (told : List Entry). Ok (record { life = rest.life; told = told })) (append_assoc old.told one.told rest.told);
    text_is = e ∙ ap (λ (xs : List ℕ). xs ++ more) one.text_is ∙ ap (λ (xs : List ℕ). report_text one.told ++ xs) rest.text_is ∙ sym (flat_map-append line_of_entry one.told rest.told);
    at = (let longer : (before + 1) + length others ≡ before + length (line ∷ others) = omega arith in subst (λ (n : ℕ). IsAt rows last rest.life n new) longer rest.at);
  }

  -- ---- why a line ends a life

  module _ (rows : List Row) (last : ℕ) (number before : ℕ) (follows : number ≡ before + 1) where
    refused : (life : Option Life) (told : List Entry) (action : SinkAction) (reading : ℕ) (reason : LineReason) → life_step (opening rows) life number (Line reading action) ≡ Err reason
        → next_line rows (record { life = life; told = told }) number (Some (Line reading action)) ≡ Err reason
    unfolding next_line
    refused life told action reading reason e = ap (adds told) e

    -- the sink isn't set up, and the line doesn't set it up
    asleep : (told : List Entry) (event : Option SinkEvent) (other new : D) (reason : LineReason) → next_line rows (record { life = None; told = told }) number event ≡ Err Form → (Bad reason ≡ Bad Form) × (new ≡ other)
        → Ends of disk rows last (record { life = None; told = told }) number event (Bad reason) other new
    asleep told event other new reason e h = let same : Form ≡ reason = cc (h.0) in (e ∙ ap (λ (r : LineReason). Err r) same, h.1)

    no_form : (life : Option Life) (told : List Entry) (stage new : Stage D) (halt : Halt) → halt ≡ Bad Form → new ≡ stage
        → Ends of disk rows last (record { life = life; told = told }) number None halt (disk_in disk stage) (disk_in disk new)
    unfolding next_line
    no_form life told stage new halt e same =
        subst (λ (h : Halt). Ends of disk rows last (record { life = life; told = told }) number None h (disk_in disk stage) (disk_in disk new)) (sym e) (refl, ap (disk_in disk) same)

    unbegun : (told : List Entry) (reading address ieee : ℕ) (mode : _) (channel : ℕ) (link : _) (shared : _) (other new : D) (halt : Halt) → other ≡ disk → Unbegun of other halt new
        → Ends of disk rows last (record { life = None; told = told }) number (Some (Line reading (actions.Config address ieee mode channel link shared))) halt other new
    unbegun told reading address ieee mode channel link shared other new (DiskRefused reason) e h = let k = subst (λ (d : D). Unbegun of d (DiskRefused reason) new) e h in (tt, k.0, k.1, k.2)
    unbegun told reading address ieee mode channel link shared other new DiskFault e h = let k = subst (λ (d : D). Unbegun of d DiskFault new) e h in ((tt, k.0), k.1)
    unbegun told reading address ieee mode channel link shared other new NoMemory e h = inl h
    unbegun told reading address ieee mode channel link shared other new (Bad reason) e h = absurd h
    unbegun told reading address ieee mode channel link shared other new (Worn generation) e h = absurd h

    not_set_up : (told : List Entry) (reading : ℕ) (action : SinkAction) (other new : D) (halt : Halt) → life_step (opening rows) None number (Line reading action) ≡ Err Form → (halt ≡ Bad Form) × (new ≡ other)
        → Ends of disk rows last (record { life = None; told = told }) number (Some (Line reading action)) halt other new
    not_set_up told reading action other new halt e h =
        subst (λ (x : Halt). Ends of disk rows last (record { life = None; told = told }) number (Some (Line reading action)) x other new) (sym h.0) (refused None told action reading Form e, h.1)

    ends_waiting : (told : List Entry) (reading : ℕ) (action : SinkAction) (other new : D) (halt : Halt) → other ≡ disk → StopsWaiting of action other halt new
        → Ends of disk rows last (record { life = None; told = told }) number (Some (Line reading action)) halt other new
    unfolding life_step begun
    ends_waiting told reading (actions.Config address ieee mode channel link shared) other new halt e h = unbegun told reading address ieee mode channel link shared other new halt e h
    ends_waiting told reading (actions.Hear octets) other new halt e h = not_set_up told reading (actions.Hear octets) other new halt refl h
    ends_waiting told reading (actions.Pair source key kind level device counter) other new halt e h = not_set_up told reading (actions.Pair source key kind level device counter) other new halt refl h
    ends_waiting told reading (actions.Rule source command endpoint form) other new halt e h = not_set_up told reading (actions.Rule source command endpoint form) other new halt refl h
    ends_waiting told reading (actions.Announce source) other new halt e h = not_set_up told reading (actions.Announce source) other new halt refl h
    ends_waiting told reading actions.Table other new halt e h = not_set_up told reading actions.Table other new halt refl h

    -- what the disk then is
    holds : (life : Life) (lines : ℕ) (awake : Awake D) → IsAwakeAt rows last life lines awake → Holds of disk rows last life awake.sink.store.disk
    holds life lines awake h = record {
      on_disk = h.on_disk;
      fit = λ c left. (awake.sink.store.rows, (h.is_life.is_sink.held c left).0, h.is_life.is_sink.fits);
      generation = λ c left.
          let is = h.generation in
          let long = h.longer in
          let same : awake.sink.store.last ≡ last + (length life.sink.ledger - length (opening rows)) = omega (arith, is, long) in
          subst (λ (n : ℕ). HasLast c n) same (h.is_life.is_sink.held c left).1;
      good = h.good;
    }

    ends_awake : (life : Life) (told : List Entry) (reading : ℕ) (action : SinkAction) (awake new : Awake D) (halt : Halt) → IsAwakeAt rows last life before awake → PlayEnds of life number action awake new halt
        → Ends of disk rows last (record { life = Some life; told = told }) number (Some (Line reading action)) halt awake.sink.store.disk new.sink.store.disk
    unfolding life_step next_line
    ends_awake life told reading action awake new (Bad reason) h k = (ap (adds told) k.0, ap (λ (a : Awake D). a.sink.store.disk) k.1)
    ends_awake life told reading action awake new (DiskRefused reason) h k = absurd k
    ends_awake life told reading action awake new (Worn generation) h k =
        let few = h.few in
        let is = k.is in
        let greatest = k.greatest in
        ((k.due, k.is_due), omega (arith, is, greatest), omega (arith, is, few, follows), k.same)
    ends_awake life told reading action awake new DiskFault h k = ((k.due, k.is_due, k.fit), k.failed ∙ ap one_more h.good)
    ends_awake life told reading action awake new NoMemory h (inl same) = inl (ap (λ (a : Awake D). a.sink.store.disk) same)
    ends_awake life told reading action awake new NoMemory h (inr k) =
        let goes = k.1 in
        inr (record { life = Some goes.next; told = told ++ k.0 }, ap (adds told) goes.goes, holds goes.next (before + 1) new (next_at rows last life before number action k.0 awake new h goes))

    ends_by : (life : Option Life) (told : List Entry) (event : Option SinkEvent) (stage new : Stage D) (halt : Halt) → IsAt rows last life before stage → StopsBy of event stage number halt new
        → Ends of disk rows last (record { life = life; told = told }) number event halt (disk_in disk stage) (disk_in disk new)
    ends_by life told None stage new halt h k = no_form life told stage new halt k.0 k.1
    ends_by life told (Some Nothing) stage new halt h k = absurd k
    ends_by None told (Some (Line reading action)) (Waiting other) (Waiting new) halt h k = ends_waiting told reading action other new halt h k
    ends_by (Some life) told (Some (Line reading action)) (Woken awake) (Woken new) halt h k = ends_awake life told reading action awake new halt h (k life h.is_life)
    ends_by None told (Some (Line reading action)) (Waiting other) (Woken new) halt h k = absurd k
    ends_by None told (Some (Line reading action)) (Waiting other) Moved halt h k = absurd k
    ends_by None told (Some (Line reading action)) (Woken awake) new halt h k = absurd h
    ends_by None told (Some (Line reading action)) Moved new halt h k = absurd h
    ends_by (Some life) told (Some (Line reading action)) (Woken awake) (Waiting new) halt h k = absurd k
    ends_by (Some life) told (Some (Line reading action)) (Woken awake) Moved halt h k = absurd k
    ends_by (Some life) told (Some (Line reading action)) (Waiting other) new halt h k = absurd h
    ends_by (Some life) told (Some (Line reading action)) Moved new halt h k = absurd h

  stands : (rows : List Row) (last : ℕ) (life : Option Life) (before : ℕ) (stage : Stage D) → IsAt rows last life before stage → Stands of disk rows last life (disk_in disk stage)
  stands rows last None before (Waiting other) h = h
  stands rows last (Some life) before (Woken awake) h = holds rows last (before + 1) before refl life before awake h
  stands rows last None before (Woken awake) h = absurd h
  stands rows last None before Moved h = absurd h
  stands rows last (Some life) before (Waiting other) h = absurd h
  stands rows last (Some life) before Moved h = absurd h

  at-there : (rows : List Row) (last : ℕ) (life : Option Life) (before : ℕ) (stage : Stage D) → IsAt rows last life before stage → IsThere stage
  at-there rows last None before (Waiting other) h = tt
  at-there rows last (Some life) before (Woken awake) h = tt
  at-there rows last None before (Woken awake) h = absurd h
  at-there rows last None before Moved h = absurd h
  at-there rows last (Some life) before (Waiting other) h = absurd h
  at-there rows last (Some life) before Moved h = absurd h

  stop-there : (event : Option SinkEvent) (stage new : Stage D) (number : ℕ) (halt : Halt) → StopsBy of event stage number halt new → IsThere new
  stop-there None stage new number halt h = h.2
  stop-there (Some Nothing) stage new number halt h = absurd h
  stop-there (Some (Line reading action)) (Waiting disk) (Waiting new) number halt h = tt
  stop-there (Some (Line reading action)) (Woken awake) (Woken new) number halt h = tt
  stop-there (Some (Line reading action)) (Waiting disk) (Woken new) number halt h = tt
  stop-there (Some (Line reading action)) (Woken awake) (Waiting new) number halt h = tt
  stop-there (Some (Line reading action)) (Waiting disk) Moved number halt h = absurd h
  stop-there (Some (Line reading action)) (Woken awake) Moved number halt h = absurd h
  stop-there (Some (Line reading action)) Moved new number halt h = absurd h

  module _ {S : Type 0} (part : S → Stage D) where
    abbrev pub goes : S → ℕ → List ℕ → List ℕ → S → Type 0
    goes old number line text new = Goes of (part old) number line text (part new)

    abbrev pub stops : S → ℕ → List ℕ → Halt → S → Type 0
    stops old number line halt new = Stops of (part old) number line halt (part new)

    -- a life that goes on
    on : (others : List (List ℕ)) (rows : List Row) (last : ℕ) (life : Life) (told : List Entry) (number before : ℕ) (s : S) (text : List ℕ) (s' : S) → IsAt rows last (Some life) before (part s)
        → work.Chain goes s number others text s' → Ran rows last (record { life = Some life; told = told }) number before others text (part s')
    on [] rows last life told number before s text s' h g =
        ran_none rows last (record { life = Some life; told = told }) number before text (part s') g.0 (subst (λ (x : S). IsAt rows last (Some life) before (part x)) (sym g.1) h)
    on (line ∷ others) rows last life told number before s text s' h g =
        let one = awake_line rows last life told number before (asked line) (part s) (part g.0) g.1 h g.3 in
        ran_one rows last (record { life = Some life; told = told }) number before line others g.1 g.2 text (part g.0) (part s') (Some one.0) one.1 g.5
        (on others rows last one.0 (told ++ one.1.told) (number + 1) (before + 1) g.0 g.2 s' one.1.at g.4)

    -- one that hasn't begun
    waits : (others : List (List ℕ)) (number before : ℕ) (s : S) (text : List ℕ) (s' : S) → part s ≡ Waiting disk → work.Chain goes s number others text s' → (rows : List Row) × (last : ℕ) × Ran rows last unborn number before others text (part s')
    waits [] number before s text s' e g =
        ([], 0, ran_none [] 0 unborn number before text (part s') g.0 (subst (λ (x : Stage D). IsAt [] 0 None before x) (sym (ap part g.1 ∙ e)) refl))
    waits (line ∷ others) number before s text s' e g =
        go (λ still. waits others (number + 1) (before + 1) g.0 g.2 s' still g.4) (first_line number before (asked line) disk (part g.0) g.1 refl (subst (λ (x : Stage D). GoesBy of (asked line) x number g.1 (part g.0)) e g.3))
      where
        go : (part g.0 ≡ Waiting disk → (rows : List Row) × (last : ℕ) × Ran rows last unborn (number + 1) (before + 1) others g.2 (part s')) → Sleeps number before (asked line) g.1 (part g.0)
            → (rows : List Row) × (last : ℕ) × Ran rows last unborn number before (line ∷ others) text (part s')
        go later (inl still) =
            let rest = later still.1 in (
              rest.0,
              rest.1,
              ran_one rest.0 rest.1 unborn number before line others g.1 g.2 text (part g.0) (part s') None
                  (record { told = []; is = still.0 rest.0; text_is = still.2; at = subst (λ (x : Stage D). IsAt rest.0 rest.1 None (before + 1) x) (sym still.1) refl }) g.5 rest.2,
            )
        go later (inr begun) =
            let one = begun.3 in (
              begun.0,
              begun.1,
              ran_one begun.0 begun.1 unborn number before line others g.1 g.2 text (part g.0) (part s') (Some begun.2) one g.5
                  (on others begun.0 begun.1 begun.2 one.told (number + 1) (before + 1) g.0 g.2 s' one.at g.4),
            )

    -- the lines are a life
    pub lives : (s : S) → part s ≡ Waiting disk → (script : List (List ℕ)) (text : List ℕ) (s' : S) → work.Chain goes s 1 script text s' → Lives of disk script text (disk_in disk (part s'))
    lives s e script text s' g =
        let all = waits script 1 0 s text s' e g in
        let ran = all.2 in
        record {
          rows = all.0;
          last = all.1;
          lived = record { life = ran.life; told = ran.told };
          is_life = ran.is;
          text_is = ran.text_is;
          stands = stands all.0 all.1 ran.life (0 + length script) (part s') ran.at;
          properties = has-properties all.0 script (record { life = ran.life; told = ran.told }) ran.is;
        }

    pub stops_at : (s : S) → part s ≡ Waiting disk → (script : List (List ℕ)) (text line : List ℕ) (halt : Halt) (s' : S) → work.Halts goes stops s script text line halt s'
        → StopsAt of disk script text line halt (disk_in disk (part s'))
    stops_at s e script text line halt s' g =
        let all = waits script 1 0 s text g.0 e g.1 in
        let ran = all.2 in
        let number : length script + 1 ≡ (0 + length script) + 1 = omega arith in
        record {
          before = disk_in disk (part g.0);
          lives = record {
            rows = all.0;
            last = all.1;
            lived = record { life = ran.life; told = ran.told };
            is_life = ran.is;
            text_is = ran.text_is;
            stands = stands all.0 all.1 ran.life (0 + length script) (part g.0) ran.at;
            properties = has-properties all.0 script (record { life = ran.life; told = ran.told }) ran.is;
          };
          ends = ends_by all.0 all.1 (length script + 1) (0 + length script) number ran.life ran.told (asked line) (part g.0) (part s') halt ran.at g.2;
        }

    -- and the disk isn't moved away
    pub there : (s : S) → part s ≡ Waiting disk → (script : List (List ℕ)) (text : List ℕ) (s' : S) → work.Chain goes s 1 script text s' → IsThere (part s')
    there s e script text s' g = let all = waits script 1 0 s text s' e g in at-there all.0 all.1 all.2.life (0 + length script) (part s') all.2.at

    pub stopped_there : (s : S) (script : List (List ℕ)) (text line : List ℕ) (halt : Halt) (s' : S) → work.Halts goes stops s script text line halt s' → IsThere (part s')
    stopped_there s script text line halt s' g = stop-there (asked line) (part g.0) (part s') (length script + 1) halt g.2
