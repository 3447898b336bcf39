-- What is lived in lines that follow others.
use Rattle.std.proofs.Common.{◌≡◌, ◌⊎◌, inl, inr, ℕ, ◌+◌, List, [], ◌∷◌, ◌++◌, map, length, Option, Some, None, Result, Ok, Err, refl, sym, ◌∙◌, ap, subst, append-nil, append_assoc, arith}
use Rattle.std.proofs.lemmas.List.{length-append, length-map, map-append}
use Rattle.gp_base.specs.Table.{let_ok}
use Rattle.gp_rows.specs.declared.row.Row.{Row}
use Rattle.gp_script.specs.declared.reason.LineReason.{LineReason}
use Rattle.gp_script.specs.declared.reason.LineReason.TheVariants.{Form}
use Rattle.gp_script.specs.declared.report.Entry.{Entry}
use Rattle.gp_script.specs.declared.sink_script.SinkAction.{SinkAction}
use Rattle.gp_script.specs.declared.sink_script.SinkAction.TheVariants.{Config, Hear, Pair, Rule, Announce, Table}
use Rattle.gp_script.specs.declared.sink_script.SinkEvent.{SinkEvent}
use Rattle.gp_script.specs.declared.sink_script.SinkEvent.TheVariants.{Nothing, Line}
use Rattle.gp_ideal.specs.declared.ledger.Change.{Change}
use Rattle.gp_ideal.specs.Ledger.{with_change}
use Rattle.gp_ideal.specs.Paired.{offered, paired}
use Rattle.gp_ideal.specs.Heard.{heard}
use Rattle.gp_ideal.specs.Verdict.{Ruling}
use Rattle.gp_world.specs.Life.{Life, Lived, begun, gone_on, life_step, lived}
use Rattle.gp_world.specs.Sinks.{ruled, sink_hears, sink_pairs}
use Rattle.gp_life.specs.Lived.{asked, change_at, life_of, lived_on, next_line, unborn}

abbrev pub okay : Lived → Result Lived LineReason
okay made = Ok made

abbrev pub refuses : LineReason → Result Lived LineReason
refuses reason = Err reason

pub same_lived : (one other : Lived) → okay one ≡ okay other → one ≡ other
same_lived one other e = cc

pub not_both : (made : Lived) (reason : LineReason) → refuses reason ≡ okay made → ⊥
not_both made reason e = cc

same_reason : (one other : LineReason) → refuses one ≡ refuses other → one ≡ other
same_reason one other e = cc

-- goes on behind what was lived
abbrev pub then : (Lived → Result Lived LineReason) → Result Lived LineReason → Result Lived LineReason
then rest result = let_ok result (λ reason. Err reason) rest

then_same : (f g : Lived → Result Lived LineReason) → ((x : Lived) → f x ≡ g x) → (r : Result Lived LineReason) → then f r ≡ then g r
then_same f g h (Ok x) = h x
then_same f g h (Err reason) = refl

then_then : (f g : Lived → Result Lived LineReason) (r : Result Lived LineReason) → then g (then f r) ≡ then (λ x. then g (f x)) r
then_then f g (Ok x) = refl
then_then f g (Err reason) = refl

-- it is Ok only where the first is
pub then_ok : (f : Lived → Result Lived LineReason) (r : Result Lived LineReason) (made : Lived) → then f r ≡ Ok made → (x : Lived) × (r ≡ Ok x) × (f x ≡ Ok made)
then_ok f (Ok x) made e = (x, refl, e)
then_ok f (Err reason) made e = absurd (not_both made reason e)

module _ (rows : List Row) where
  -- ---- lines behind lines

  lived-append : (xs : List (Option SinkEvent)) (old : Lived) (n : ℕ) (ys : List (Option SinkEvent)) → lived_on rows old n (xs ++ ys) ≡ then (λ mid. lived_on rows mid (n + length xs) ys) (lived_on rows old n xs)
  unfolding lived_on
  lived-append [] old n ys = let none : n ≡ n + 0 = omega arith in ap (λ (m : ℕ). lived_on rows old m ys) none
  lived-append (x ∷ xs) old n ys =
      then_same _ _ (λ mid. lived-append xs mid (n + 1) ys ∙ then_same _ _ (λ end. let count : (n + 1) + length xs ≡ n + length (x ∷ xs) = omega arith in ap (λ (m : ℕ). lived_on rows end m ys) count) (lived_on rows mid (n + 1) xs)) (next_line rows old n x)
      ∙ sym (then_then (λ (mid : Lived). lived_on rows mid (n + 1) xs) (λ (mid : Lived). lived_on rows mid (n + length (x ∷ xs)) ys) (next_line rows old n x))

  pub life-append : (script others : List (List ℕ)) → life_of rows (script ++ others) ≡ then (λ mid. lived_on rows mid (length script + 1) (map asked others)) (life_of rows script)
  life-append script others =
      ap (λ (xs : List (Option SinkEvent)). lived_on rows unborn 1 xs) (map-append asked script others) ∙ lived-append (map asked script) unborn 1 (map asked others)
      ∙ then_same _ _ (λ mid. let same = length-map script asked in let count : 1 + length (map asked script) ≡ length script + 1 = omega (arith, same) in ap (λ (m : ℕ). lived_on rows mid m (map asked others)) count) (life_of rows script)

  -- one line
  lived-line : (old : Lived) (n : ℕ) (event : Option SinkEvent) (others : List (Option SinkEvent)) → lived_on rows old n (event ∷ others) ≡ then (λ mid. lived_on rows mid (n + 1) others) (next_line rows old n event)
  unfolding lived_on
  lived-line old n event others = refl

  lived-one : (old : Lived) (n : ℕ) (event : Option SinkEvent) (made : Lived) → next_line rows old n event ≡ Ok made → lived_on rows old n (event ∷ []) ≡ Ok made
  unfolding lived_on
  lived-one old n event made e = ap (then (λ mid. Ok mid)) e

  -- one line more
  pub life-more : (script : List (List ℕ)) (line : List ℕ) (old made : Lived) → life_of rows script ≡ Ok old → next_line rows old (length script + 1) (asked line) ≡ Ok made → life_of rows (script ++ line ∷ []) ≡ Ok made
  life-more script line old made e k =
      life-append script (line ∷ []) ∙ ap (then (λ mid. lived_on rows mid (length script + 1) (map asked (line ∷ [])))) e ∙ lived-one old (length script + 1) (asked line) made k

  -- a line that is refused stops the life
  pub life-refused : (script : List (List ℕ)) (line : List ℕ) (others : List (List ℕ)) (old made : Lived) (reason : LineReason) → life_of rows script ≡ Ok old → next_line rows old (length script + 1) (asked line) ≡ Err reason
      → life_of rows (script ++ line ∷ others) ≡ Ok made → ⊥
  life-refused script line others old made reason e k h =
      not_both made reason (sym (life-append script (line ∷ others) ∙ ap (then (λ mid. lived_on rows mid (length script + 1) (map asked (line ∷ others)))) e
      ∙ lived-line old (length script + 1) (asked line) (map asked others) ∙ ap (then (λ mid. lived_on rows mid ((length script + 1) + 1) (map asked others))) k) ∙ h)

  -- what is lived in the first lines, and in the others
  pub life-parts : (script others : List (List ℕ)) (made : Lived) → life_of rows (script ++ others) ≡ Ok made
      → (mid : Lived) × (life_of rows script ≡ Ok mid) × (lived_on rows mid (length script + 1) (map asked others) ≡ Ok made)
  life-parts script others made e = then_ok _ (life_of rows script) made (sym (life-append script others) ∙ e)

  -- ---- what a line adds

  adds : (told : List Entry) (r : Result Lived LineReason) (made : Lived) → then (λ x. Ok (record { life = x.life; told = told ++ x.told })) r ≡ Ok made → (more : List Entry) × (made.told ≡ told ++ more)
  adds told (Ok x) made e = (x.told, ap (λ (l : Lived). l.told) (sym (same_lived _ made e)))
  adds told (Err reason) made e = absurd (not_both made reason e)

  pub line-adds : (old : Lived) (n : ℕ) (event : Option SinkEvent) (made : Lived) → next_line rows old n event ≡ Ok made → (more : List Entry) × (made.told ≡ old.told ++ more)
  unfolding next_line
  line-adds old n None made e = absurd (not_both made Form e)
  line-adds old n (Some event) made e = adds old.told (life_step _ old.life n event) made e

  -- a sink that is set up stays so
  abbrev pub IsAlive : Lived → Type 0
  IsAlive made = (life : Life) × (made.life ≡ Some life)

  alive_by : (told : List Entry) (one made : Lived) → IsAlive one → okay (record { life = one.life; told = told ++ one.told }) ≡ okay made → IsAlive made
  alive_by told one made h e = (h.0, sym (ap (λ (l : Lived). l.life) (same_lived _ made e)) ∙ h.1)

  line-alive : (life : Life) (told : List Entry) (n : ℕ) (event : Option SinkEvent) (made : Lived) → next_line rows (record { life = Some life; told = told }) n event ≡ Ok made → IsAlive made
  unfolding next_line life_step gone_on lived
  line-alive life told n None made e = absurd (not_both made Form e)
  line-alive life told n (Some Nothing) made e = alive_by told (record { life = Some life; told = [] }) made (life, refl) e
  line-alive life told n (Some (Line reading (Config address ieee mode channel link shared))) made e = absurd (not_both made Form e)
  line-alive life told n (Some (Line reading (Hear octets))) made e = alive_by told _ made (_, refl) e
  line-alive life told n (Some (Line reading (Pair source key kind level device counter))) made e = alive_by told _ made (_, refl) e
  line-alive life told n (Some (Line reading (Rule source command endpoint form))) made e = alive_by told _ made (_, refl) e
  line-alive life told n (Some (Line reading (Announce source))) made e = alive_by told _ made (_, refl) e
  line-alive life told n (Some (Line reading Table)) made e = alive_by told _ made (_, refl) e

  pub stays-alive : (events : List (Option SinkEvent)) (old : Lived) (n : ℕ) (made : Lived) → IsAlive old → lived_on rows old n events ≡ Ok made → IsAlive made
  unfolding lived_on
  stays-alive [] old n made h e = (h.0, ap (λ (l : Lived). l.life) (sym (same_lived old made e)) ∙ h.1)
  stays-alive (event ∷ others) old n made h e =
      let found = then_ok _ (next_line rows old n event) made e in
      let this : old ≡ record { life = Some h.0; told = old.told } = ap (λ (life : Option Life). record old { life = life }) h.1 in
      stays-alive others found.0 (n + 1) made (line-alive h.0 old.told n event found.0 (ap (λ (l : Lived). next_line rows l n event) (sym this) ∙ found.1)) found.2

  -- the change of a line is made
  abbrev Changes : Change → Life → Lived → Type 0
  Changes change life made = (next : Life) × (made.life ≡ Some next) × (next.sink.ledger ≡ change ∷ life.sink.ledger)

  pub line-changes : (life : Life) (told : List Entry) (n : ℕ) (event : Option SinkEvent) (change : Change) → change_at life event ≡ Some change
      → (made : Lived) × (next_line rows (record { life = Some life; told = told }) n event ≡ Ok made) × Changes change life made
  unfolding next_line life_step gone_on lived sink_hears sink_pairs ruled
  line-changes life told n None change e = absurd cc
  line-changes life told n (Some Nothing) change e = absurd cc
  line-changes life told n (Some (Line reading (Config address ieee mode channel link shared))) change e = absurd cc
  line-changes life told n (Some (Line reading (Rule source command endpoint form))) change e = absurd cc
  line-changes life told n (Some (Line reading (Announce source))) change e = absurd cc
  line-changes life told n (Some (Line reading Table)) change e = absurd cc
  line-changes life told n (Some (Line reading (Hear octets))) change e = (_, refl, (_, refl, ap (λ (o : Option Change). with_change o life.sink.ledger) e))
  line-changes life told n (Some (Line reading (Pair source key kind level device counter))) change e = (_, refl, (_, refl, ap (λ (o : Option Change). with_change o life.sink.ledger) e))

-- ---- before the sink is set up the rows are nothing to it

module _ (rows other : List Row) where
  quiet_by : (told : List Entry) (made : Lived) → okay (record { life = None; told = told ++ [] }) ≡ okay made → made.life ≡ None
  quiet_by told made e = ap (λ (l : Lived). l.life) (sym (same_lived _ made e))

  line-asleep : (told : List Entry) (n : ℕ) (event : Option SinkEvent) (made : Lived) → next_line rows (record { life = None; told = told }) n event ≡ Ok made
      → ((next_line other (record { life = None; told = told }) n event ≡ Ok made) × (made.life ≡ None)) ⊎ IsAlive rows made
  unfolding next_line life_step begun
  line-asleep told n None made e = absurd (not_both made Form e)
  line-asleep told n (Some Nothing) made e = inl (e, quiet_by told made e)
  line-asleep told n (Some (Line reading (Config address ieee mode channel link shared))) made e = inr (alive_by rows told _ made (_, refl) e)
  line-asleep told n (Some (Line reading (Hear octets))) made e = absurd (not_both made Form e)
  line-asleep told n (Some (Line reading (Pair source key kind level device counter))) made e = absurd (not_both made Form e)
  line-asleep told n (Some (Line reading (Rule source command endpoint form))) made e = absurd (not_both made Form e)
  line-asleep told n (Some (Line reading (Announce source))) made e = absurd (not_both made Form e)
  line-asleep told n (Some (Line reading Table)) made e = absurd (not_both made Form e)

  pub line-refused : (told : List Entry) (n : ℕ) (event : Option SinkEvent) (reason : LineReason) → next_line rows (record { life = None; told = told }) n event ≡ Err reason
      → next_line other (record { life = None; told = told }) n event ≡ Err reason
  unfolding next_line life_step begun
  line-refused told n None reason e = e
  line-refused told n (Some Nothing) reason e = absurd (not_both _ reason (sym e))
  line-refused told n (Some (Line reading (Config address ieee mode channel link shared))) reason e = absurd (not_both _ reason (sym e))
  line-refused told n (Some (Line reading (Hear octets))) reason e = e
  line-refused told n (Some (Line reading (Pair source key kind level device counter))) reason e = e
  line-refused told n (Some (Line reading (Rule source command endpoint form))) reason e = e
  line-refused told n (Some (Line reading (Announce source))) reason e = e
  line-refused told n (Some (Line reading Table)) reason e = e

  not_alive : (made : Lived) → IsAlive rows made → made.life ≡ None → ⊥
  not_alive made h e = let two : Some h.0 ≡ None = sym h.1 ∙ e in cc

  pub asleep : (events : List (Option SinkEvent)) (told : List Entry) (n : ℕ) (made : Lived) → lived_on rows (record { life = None; told = told }) n events ≡ Ok made → made.life ≡ None
      → lived_on other (record { life = None; told = told }) n events ≡ Ok made
  unfolding lived_on
  asleep [] told n made e none = e
  asleep (event ∷ others) told n made e none =
      let found = then_ok _ (next_line rows (record { life = None; told = told }) n event) made e in
      go found.0 found.1 found.2 (asleep others found.0.told (n + 1) made) (line-asleep told n event found.0 found.1)
    where
      go : (mid : Lived) → next_line rows (record { life = None; told = told }) n event ≡ Ok mid → lived_on rows mid (n + 1) others ≡ Ok made
          → (lived_on rows (record { life = None; told = mid.told }) (n + 1) others ≡ Ok made → made.life ≡ None → lived_on other (record { life = None; told = mid.told }) (n + 1) others ≡ Ok made)
          → ((next_line other (record { life = None; told = told }) n event ≡ Ok mid) × (mid.life ≡ None)) ⊎ IsAlive rows mid
          → then (λ x. lived_on other x (n + 1) others) (next_line other (record { life = None; told = told }) n event) ≡ Ok made
      go mid one rest later (inr alive) = absurd (not_alive made (stays-alive rows others mid (n + 1) made alive rest) none)
      go mid one rest later (inl still) =
          let this : mid ≡ record { life = None; told = mid.told } = ap (λ (life : Option Life). record mid { life = life }) still.1 in
          ap (then (λ x. lived_on other x (n + 1) others)) still.0
          ∙ subst (λ (l : Lived). lived_on other l (n + 1) others ≡ Ok made) (sym this) (later (subst (λ (l : Lived). lived_on rows l (n + 1) others ≡ Ok made) this rest) none)

  pub life-asleep : (script : List (List ℕ)) (made : Lived) → life_of rows script ≡ Ok made → made.life ≡ None → life_of other script ≡ Ok made
  life-asleep script made e none = asleep (map asked script) [] 1 made e none
