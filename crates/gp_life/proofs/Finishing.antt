-- How a life ends, whatever its status.
use Rattle.std.proofs.Common.{◌≡◌, ◌⊎◌, inl, inr, ℕ, ◌+◌, ◌-◌, ◌≤◌, ◌<◌, ◌^◌, true, List, [], ◌∷◌, ◌++◌, length, Option, Some, None, Result, Ok, Err, IsOk, is_ok, refl, sym, ◌∙◌, ap, subst, append-nil, append_assoc, map, flat_map, arith}
use Rattle.std.proofs.lemmas.Grind.{flat_map-append}
use Rattle.std.proofs.lemmas.List.{length-append}
use Rattle.std.specs.Io.KnownBytes.{IsAtEnd}
use Rattle.std.specs.Str.Lines.{lines}
use Rattle.gp_base.specs.Outside.{one_more, Rose}
use Rattle.gp_disk.specs.declared.device.Disk.{Ghosts}
use Rattle.gp_rows.specs.declared.row.Row.{Row}
use Rattle.gp_store.specs.Image.{HoldsRows, HasLast, format_1, slots}
use Rattle.gp_store.specs.Recovery.{HasRows, Refuses}
use Rattle.gp_script.specs.declared.reason.LineReason.{LineReason}
use Rattle.gp_script.specs.declared.report.Entry.{Entry}
use Rattle.gp_script.specs.declared.sink_script.SinkEvent.{SinkEvent}
use Rattle.gp_ideal.specs.declared.ledger.Change.{Change}
use Rattle.gp_world.specs.Life.{Life, Lived}
use Rattle.gp_sink.specs.Fits.{ImageFits}
use Rattle.gp_telling.specs.Texts.{line_of_entry, report_text}
use Rattle.gp_lines.specs.declared.status.DiskReason.{DiskReason}
use Rattle.gp_lines.specs.declared.status.DiskReason.TheVariants as reasons
use Rattle.gp_lines.specs.declared.status.Status.{Status}
use Rattle.gp_lines.specs.declared.status.Status.TheVariants as ending
use Rattle.gp_lines.specs.declared.work.Halt.{Halt}
use Rattle.gp_lines.specs.declared.work.Halt.TheVariants.{Bad, DiskFault, DiskRefused, Worn, NoMemory}
use Rattle.gp_lines.specs.Leaves as leaves
use Rattle.gp_lines.specs.Leaves.{AreFirst, Counts, HaveCome, IsFront, Leaves, Next, NextBeyond, Settles}
use Rattle.gp_lines.specs.Lines.{AreWithin}
use Rattle.gp_lines.proofs.Meanings.{completes, rose, unbeyond}
use Rattle.gp_life.specs.Ending.{Begin, Completes, DiskCounts, IsRemembered, Remembers, StartsFrom, Survives}
use Rattle.gp_life.specs.Lived.{asked, life_of, next_line, change_at}
use Rattle.gp_life.specs.Living.{Ends, EachFits, AllFit, FailsAt, Holds, IsAsBefore, IsDue, Lives, SetsUp, Stands, StopsAt, as_store}
use Rattle.gp_life.proofs.Lines.{IsAlive, life-asleep, life-parts, life-more, life-refused, line-adds, line-changes, line-refused, not_both, same_lived, stays-alive}

-- ---- fronts of texts

whole : (text : List ℕ) → IsFront text text
whole text = ([], sym (append-nil text))

-- a front that is no shorter is the whole
front_all : (front text : List ℕ) → IsFront front text → length text ≤ length front + 0 → text ≡ front
front_all front text h l =
    let longer = ap length h.1 in
    let both = length-append front h.0 in
    go h.0 h.1 (let none : length h.0 ≡ 0 = omega (arith, longer, both, l) in none)
  where
    go : (rest : List ℕ) → text ≡ front ++ rest → length rest ≡ 0 → text ≡ front
    go [] e none = e ∙ append-nil front
    go (x ∷ rest) e none = absurd (omega (arith, none))

-- of two fronts of a text the shorter is a front of the other
front_of : (one other text : List ℕ) → IsFront one text → IsFront other text → length one ≤ length other → IsFront one other
front_of [] other text h k l = (other, refl)
front_of (x ∷ one) [] text h k l = absurd (omega (arith, l))
front_of (x ∷ one) (y ∷ other) text h k l =
    let same : x ∷ (one ++ h.0) ≡ y ∷ (other ++ k.0) = sym h.1 ∙ k.1 in
    let first : x ≡ y = cc in
    let later : one ++ h.0 ≡ other ++ k.0 = cc in
    let rest = front_of one other (one ++ h.0) (h.0, refl) (k.0, later) (omega (arith, l)) in
    (rest.0, ap (λ (z : ℕ). z ∷ other) (sym first) ∙ ap (λ (xs : List ℕ). x ∷ xs) rest.1)

report_front : (told more all : List Entry) → all ≡ told ++ more → IsFront (report_text told) (report_text all)
report_front told more all e = (report_text more, ap report_text e ∙ flat_map-append line_of_entry told more)

-- ---- first lines

first_all : (xs : List (List ℕ)) → AreFirst xs xs
first_all xs = ([], sym (append-nil xs))

then_first : (taken : List (List ℕ)) (line : List ℕ) (all : List (List ℕ)) → Next taken line all → AreFirst taken all
then_first taken line all h = (line ∷ h.0, h.1)

with_first : (taken : List (List ℕ)) (line : List ℕ) (all : List (List ℕ)) → Next taken line all → AreFirst (taken ++ line ∷ []) all
with_first taken line all h = (h.0, h.1 ∙ sym (append_assoc taken (line ∷ []) h.0))

settles : (left : Option (List ℕ)) (read : List ℕ) (Asked Others : List (List ℕ) → Type 0) → ((all : List (List ℕ)) → Asked all → Others all) → Settles left read Asked → Settles left read Others
settles left read Asked Others to (inl always) = inl (λ rest. to (lines (read ++ rest)) (always rest))
settles left read Asked Others to (inr end) = inr (end.0, to (lines read) end.1)

no_line : (taken : List (List ℕ)) → taken ++ [] ≡ taken
no_line taken = append-nil taken

module _ {D : Type 0} (of : Ghosts D) (disk : D) where
  -- ---- the disk's count

  stands-good : (rows : List Row) (last : ℕ) (life : Option Life) (new : D) → Stands of disk rows last life new → of.faults new ≡ of.faults disk
  stands-good rows last None new h = ap of.faults h
  stands-good rows last (Some life) new h = h.good

  lives-good : (script : List (List ℕ)) (text : List ℕ) (new : D) → Lives of disk script text new → of.faults new ≡ of.faults disk
  lives-good script text new h = stands-good h.rows h.last h.lived.life new h.stands

  same-good : (script : List (List ℕ)) (text line : List ℕ) (new before : D) → Lives of disk script text before → new ≡ before → of.faults new ≡ of.faults disk
  same-good script text line new before h e = ap of.faults e ∙ lives-good script text before h

  stop-good : (script : List (List ℕ)) (text line : List ℕ) (halt : Halt) (new : D) → StopsAt of disk script text line halt new → (halt ≡ DiskFault → ⊥) → of.faults new ≡ of.faults disk
  stop-good script text line (Bad reason) new h n = same-good script text line new h.before h.lives h.ends.1
  stop-good script text line (DiskRefused reason) new h n = h.ends.3
  stop-good script text line (Worn generation) new h n = same-good script text line new h.before h.lives h.ends.3
  stop-good script text line DiskFault new h n = absurd (n refl)
  stop-good script text line NoMemory new h n = by h.ends
    where
      by : Ends of disk h.lives.rows h.lives.last h.lives.lived (length script + 1) (asked line) NoMemory h.before new → of.faults new ≡ of.faults disk
      by (inl same) = same-good script text line new h.before h.lives same
      by (inr made) = stands-good h.lives.rows h.lives.last made.0.life new made.2

  pub disk-counts : (new : D) (status : Status) (left left' written written' : Option (List ℕ)) → Leaves (Lives of disk) (StopsAt of disk) 0 new status left left' written written' → DiskCounts status (of.faults disk) (of.faults new)
  disk-counts new ending.Done left left' written written' h = lives-good _ _ new h.fits.1
  disk-counts new (ending.BadLine line reason) left left' written written' h = stop-good _ _ _ (Bad reason) new h.fits.0.halted (λ e. cc)
  disk-counts new ending.TooLong left left' written written' h = lives-good _ _ new h.fits.ran_so
  disk-counts new ending.ReadFault left left' written written' h = lives-good _ _ new h.fits.ran_so
  disk-counts new ending.WriteFault left left' written written' h = ap of.faults (h.fits.stands refl) ∙ lives-good _ _ h.fits.end h.fits.ran_all
  disk-counts new ending.NoMemory left left' written written' h = elim h.fits.ran_so [ inl k ↦ lives-good _ _ new k.2 | inr k ↦ stop-good _ _ _ NoMemory new k.1 (λ e. cc) ]
  disk-counts new ending.DiskFault left left' written written' h = h.fits.halted.ends.1
  disk-counts new (ending.DiskRefused reason) left left' written written' h = stop-good _ _ _ (DiskRefused reason) new h.fits.halted (λ e. cc)
  disk-counts new (ending.Worn generation) left left' written written' h = stop-good _ _ _ (Worn generation) new h.fits.halted (λ e. cc)
  disk-counts new ending.Usage left left' written written' h = absurd h.fits
  disk-counts new (ending.BadPcap place reason) left left' written written' h = absurd h.fits

  -- ---- what a crash leaves

  module _ (image : List ℕ) (told : of.image disk ≡ Some image) where
    as-before : (new : D) → new ≡ disk → IsAsBefore of disk new
    as-before new e = λ c left. subst (λ (d : D). of.may_leave d c) e left

    starts : (rows : List Row) (last : ℕ) (life : Option Life) (new : D) → Stands of disk rows last life new → StartsFrom image rows life
    starts rows last None new h = tt
    starts rows last (Some life) new h = (h.on_disk image told).holds

    survives : (rows : List Row) (last : ℕ) (life : Option Life) (new : D) → Stands of disk rows last life new → Survives of disk life life new
    survives rows last None new h = as-before new h
    survives rows last (Some life) new h = λ c left. inl (h.fit c left)

    -- behind one line more
    survives-more : (rows : List Row) (last : ℕ) (before after : Option Life) (new : D) → Stands of disk rows last after new → Survives of disk before after new
    survives-more rows last before None new h = as-before new h
    survives-more rows last None (Some life) new h = h.fit
    survives-more rows last (Some before) (Some life) new h = λ c left. inr (h.fit c left)

    module _ (left : Option (List ℕ)) (read : List ℕ) where
      abbrev Kept : List ℕ → D → Type 0
      Kept written new = IsRemembered of disk image left read written new

      -- all that was lived was reported
      all-told : (taken : List (List ℕ)) (text : List ℕ) (new : D) → Lives of disk taken text new → Begin left read taken → Kept text new
      all-told taken text new h b = record {
        taken = taken;
        last = [];
        at_most_one = omega arith;
        begin = subst (λ (xs : List (List ℕ)). Begin left read xs) (sym (append-nil taken)) b;
        rows = h.rows;
        before = h.lived;
        after = h.lived;
        lived_before = h.is_life;
        lived_after = subst (λ (xs : List (List ℕ)). life_of h.rows xs ≡ Ok h.lived) (sym (append-nil taken)) h.is_life;
        starts = starts h.rows h.last h.lived.life new h.stands;
        reported = subst (λ (xs : List ℕ). IsFront (report_text h.lived.told) xs) (sym h.text_is) (whole (report_text h.lived.told));
        no_more = subst (λ (xs : List ℕ). IsFront xs (report_text h.lived.told)) (sym h.text_is) (whole (report_text h.lived.told));
        survives = survives h.rows h.last h.lived.life new h.stands;
      }

      -- nothing was lived but before the sink was set up
      all-asleep : (taken : List (List ℕ)) (text : List ℕ) (before new : D) (h : Lives of disk taken text before) → h.lived.life ≡ None → IsAsBefore of disk new → Begin left read taken → Kept text new
      all-asleep taken text before new h none kept b = record {
        taken = taken;
        last = [];
        at_most_one = omega arith;
        begin = subst (λ (xs : List (List ℕ)). Begin left read xs) (sym (append-nil taken)) b;
        rows = h.rows;
        before = h.lived;
        after = h.lived;
        lived_before = h.is_life;
        lived_after = subst (λ (xs : List (List ℕ)). life_of h.rows xs ≡ Ok h.lived) (sym (append-nil taken)) h.is_life;
        starts = subst (λ (life : Option Life). StartsFrom image h.rows life) (sym none) tt;
        reported = subst (λ (xs : List ℕ). IsFront (report_text h.lived.told) xs) (sym h.text_is) (whole (report_text h.lived.told));
        no_more = subst (λ (xs : List ℕ). IsFront xs (report_text h.lived.told)) (sym h.text_is) (whole (report_text h.lived.told));
        survives = subst (λ (life : Option Life). Survives of disk life life new) (sym none) kept;
      }

      -- one line more was lived, whose report isn't written
      one-more : (taken : List (List ℕ)) (text line : List ℕ) (before new : D) (h : Lives of disk taken text before) (made : Lived) → next_line h.rows h.lived (length taken + 1) (asked line) ≡ Ok made
          → StartsFrom image h.rows made.life → Survives of disk h.lived.life made.life new → Begin left read (taken ++ line ∷ []) → Kept text new
      one-more taken text line before new h made e from left_so b =
          let more = line-adds h.rows h.lived (length taken + 1) (asked line) made e in
          record {
            taken = taken;
            last = line ∷ [];
            at_most_one = omega arith;
            begin = b;
            rows = h.rows;
            before = h.lived;
            after = made;
            lived_before = h.is_life;
            lived_after = life-more h.rows taken line h.lived made h.is_life e;
            starts = from;
            reported = subst (λ (xs : List ℕ). IsFront (report_text h.lived.told) xs) (sym h.text_is) (whole (report_text h.lived.told));
            no_more = subst (λ (xs : List ℕ). IsFront xs (report_text made.told)) (sym h.text_is) (report_front h.lived.told more.0 made.told more.1);
            survives = left_so;
          }

      -- the disk failed
      failed : (taken : List (List ℕ)) (text line : List ℕ) (before new : D) (h : Lives of disk taken text before) (life : Option Life) → h.lived.life ≡ life → FailsAt of disk life (asked line) new → Begin left read taken
          → Begin left read (taken ++ line ∷ []) → Kept text new
      failed taken text line before new h None e f b b' = all-asleep taken text before new h e f.1 b
      failed taken text line before new h (Some life) e f b b' =
          let changed = line-changes h.rows life h.lived.told (length taken + 1) (asked line) f.0 f.1 in
          let this : h.lived ≡ record { life = Some life; told = h.lived.told } = ap (λ (o : Option Life). record h.lived { life = o }) e in
          let next : Option Life = Some changed.2.0 in
          let rows : StartsFrom image h.rows (Some life) = subst (λ (o : Option Life). StartsFrom image h.rows o) e (starts h.rows h.last h.lived.life before h.stands) in
          let fit : EachFits of life.sink.ledger changed.2.0.sink.ledger new = subst (λ (l : List Change). EachFits of life.sink.ledger l new) (sym changed.2.2) f.2 in
          one-more taken text line before new h changed.0 (ap (λ (l : Lived). next_line h.rows l (length taken + 1) (asked line)) this ∙ changed.1)
          (subst (λ (o : Option Life). StartsFrom image h.rows o) (sym changed.2.1) rows)
          (subst (λ (o : Option Life). Survives of disk o changed.0.life new) (sym e) (subst (λ (o : Option Life). Survives of disk (Some life) o new) (sym changed.2.1) fit)) b'

      unset : (life : Option Life) (event : Option SinkEvent) → SetsUp life event → life ≡ None
      unset None event h = refl
      unset (Some life) event h = absurd h

      -- behind a line that stops the life
      stopped : (taken : List (List ℕ)) (text line : List ℕ) (halt : Halt) (new : D) → StopsAt of disk taken text line halt new → Settles left read (Next taken line) → Kept text new
      stopped taken text line halt new h next = by halt h.ends
        where
          b : Begin left read taken
          b = inl (settles left read (Next taken line) (AreFirst taken) (then_first taken line) next)

          b' : Begin left read (taken ++ line ∷ [])
          b' = inl (settles left read (Next taken line) (AreFirst (taken ++ line ∷ [])) (with_first taken line) next)

          same : new ≡ h.before → Kept text new
          same e = subst (λ (d : D). Kept text d) (sym e) (all-told taken text h.before h.lives b)

          by : (x : Halt) → Ends of disk h.lives.rows h.lives.last h.lives.lived (length taken + 1) (asked line) x h.before new → Kept text new
          by (Bad reason) k = same k.1
          by (DiskRefused reason) k = all-asleep taken text h.before new h.lives (unset h.lives.lived.life (asked line) k.0) k.2 b
          by (Worn generation) k = same k.3
          by DiskFault k = failed taken text line h.before new h.lives h.lives.lived.life refl k.0 b b'
          by NoMemory (inl e) = same e
          by NoMemory (inr k) = one-more taken text line h.before new h.lives k.0 k.1 (starts h.lives.rows h.lives.last k.0.life new k.2) (survives-more h.lives.rows h.lives.last h.lives.lived.life k.0.life new k.2) b'

    -- ---- a text that isn't written to its end

    -- what was lived in the first lines is the same over the rows of all lines
    alive_all : (taken last : List (List ℕ)) (rows : List Row) (one all : Lived) → life_of rows taken ≡ Ok one → life_of rows (taken ++ last) ≡ Ok all → IsAlive rows one → all.life ≡ None → ⊥
    alive_all taken last rows one all e k h none =
        let parts = life-parts rows taken last all k in
        let same : one ≡ parts.0 = same_lived one parts.0 (sym e ∙ parts.1) in
        let alive = stays-alive rows (map asked last) parts.0 (length taken + 1) all (subst (IsAlive rows) same h) parts.2 in
        let two : Some alive.0 ≡ None = sym alive.1 ∙ none in
        cc

    front-lived : (taken last : List (List ℕ)) (text other : List ℕ) (mid end : D) (first : Lives of disk taken text mid) (all : Lives of disk (taken ++ last) other end) → life_of all.rows taken ≡ Ok first.lived
    front-lived taken last text other mid end first all = go first.lived.life refl
      where
        rows-are : HoldsRows image first.rows → IsAlive first.rows first.lived → (life : Option Life) → all.lived.life ≡ life → first.rows ≡ all.rows
        rows-are a alive None e = absurd (alive_all taken last first.rows first.lived all.lived first.is_life (life-asleep all.rows first.rows (taken ++ last) all.lived all.is_life e) alive e)
        rows-are a alive (Some life) e = ((subst (λ (o : Option Life). Stands of disk all.rows all.last o end) e all.stands).on_disk image told).only first.rows a

        go : (life : Option Life) → first.lived.life ≡ life → life_of all.rows taken ≡ Ok first.lived
        go None e = life-asleep first.rows all.rows taken first.lived first.is_life e
        go (Some life) e =
            let a : HoldsRows image first.rows = subst (λ (o : Option Life). StartsFrom image first.rows o) e (starts first.rows first.last first.lived.life mid first.stands) in
            let same = rows-are a (life, e) all.lived.life refl in
            subst (λ (rows : List Row). life_of rows taken ≡ Ok first.lived) same first.is_life

    unwritten : (left : Option (List ℕ)) (read written : List ℕ) (taken last : List (List ℕ)) (text last_text : List ℕ) (mid end new : D) → Lives of disk taken text mid → Lives of disk (taken ++ last) (text ++ last_text) end
        → length last ≤ 1 → HaveCome left read (taken ++ last) → IsFront written (text ++ last_text) → length text ≤ length written + 0 → new ≡ end → IsRemembered of disk image left read written new
    unwritten left read written taken last text last_text mid end new first all one come front little e = record {
      taken = taken;
      last = last;
      at_most_one = one;
      begin = inr come;
      rows = all.rows;
      before = first.lived;
      after = all.lived;
      lived_before = front-lived taken last text (text ++ last_text) mid end first all;
      lived_after = all.is_life;
      starts = starts all.rows all.last all.lived.life end all.stands;
      reported = subst (λ (xs : List ℕ). IsFront xs written) first.text_is (front_of text written (text ++ last_text) (last_text, refl) front (let l = little in omega (arith, l)));
      no_more = subst (λ (xs : List ℕ). IsFront written xs) all.text_is front;
      survives = survives-more all.rows all.last first.lived.life all.lived.life new (subst (λ (d : D). Stands of disk all.rows all.last all.lived.life d) (sym e) all.stands);
    }

    remembers_by : (new : D) (status : Status) (left : Option (List ℕ)) (read written : List ℕ) → leaves.Fits (Lives of disk) (StopsAt of disk) 0 new status left read written → IsRemembered of disk image left read written new
    remembers_by new ending.Done left read written h = all-told left read (lines read) written new h.1 (inl (inr (h.0, first_all (lines read))))
    remembers_by new (ending.BadLine line reason) left read written h = stopped left read h.0.taken written h.0.line (Bad reason) new h.0.halted h.0.next
    remembers_by new ending.TooLong left read written h =
        all-told left read h.taken written new h.ran_so (inl (settles left read (NextBeyond h.taken) (AreFirst h.taken) (λ all n. then_first h.taken n.0 all n.1) h.next))
    remembers_by new ending.ReadFault left read written h = all-told left read h.taken written new h.ran_so (inl (inl (λ rest. (lines (h.begun ++ rest), h.are_lines.2 rest))))
    remembers_by new ending.WriteFault left read written h =
        unwritten left read written h.taken h.last h.text h.last_text h.mid h.end new h.ran_first h.ran_all h.at_most_one h.have_come h.front h.little (h.stands refl)
    remembers_by new ending.NoMemory left read written h =
        let same : h.text ≡ written = front_all written h.text h.front h.little in
        subst (λ (xs : List ℕ). IsRemembered of disk image left read xs new) same (elim h.ran_so [
          | inl k ↦ all-told left read h.taken h.text new k.2 (inr h.have_come)
          | inr k ↦ stopped left read h.taken h.text k.0 NoMemory new k.1 k.2
        ])
    remembers_by new ending.DiskFault left read written h = stopped left read h.taken written h.line DiskFault new h.halted h.next
    remembers_by new (ending.DiskRefused reason) left read written h = stopped left read h.taken written h.line (DiskRefused reason) new h.halted h.next
    remembers_by new (ending.Worn generation) left read written h = stopped left read h.taken written h.line (Worn generation) new h.halted h.next
    remembers_by new ending.Usage left read written h = absurd h
    remembers_by new (ending.BadPcap place reason) left read written h = absurd h

  pub remembers : (new : D) (status : Status) (left left' written written' : Option (List ℕ)) (image : List ℕ) → of.image disk ≡ Some image → Leaves (Lives of disk) (StopsAt of disk) 0 new status left left' written written'
      → Remembers of disk left left' written written' new image
  remembers new status left left' written written' image told h =
      record { read = h.read; written = h.written; consumed = h.consumed; appended = h.appended; remembered = remembers_by image told new status left' h.read h.written h.fits }

  -- ---- a life that nothing stops

  -- over a disk that holds rows, with room for as many generations as lines
  module _ (image : List ℕ) (rows : List Row) (last : ℕ) (told : of.image disk ≡ Some image) (holds : HoldsRows image rows) (has_last : HasLast image last) (low : last ≤ 2 ^ 64 - 1 - 2000000) where
    accepted : (reason : DiskReason) → Refuses (as_store reason) (of.tally disk).size (of.image disk) → length image ≤ (of.tally disk).size → ⊥
    unfolding HoldsRows
    accepted reasons.DiskShort r large = let size = holds.size in omega (arith, r, size, large)
    accepted reasons.NotFormatted r large = r.1 image told holds.formatted
    accepted reasons.AlreadyFormatted r large = r
    accepted (reasons.SlotForm slot) r large = let first = (r.1 image told).1 in first.ill.2 (holds.consistent first.row first.side first.ill.0 first.ill.1)

    same-rows : (script : List (List ℕ)) (text : List ℕ) (before : D) (h : Lives of disk script text before) → life_of rows script ≡ Ok h.lived
    same-rows script text before h = go h.lived.life refl
      where
        go : (life : Option Life) → h.lived.life ≡ life → life_of rows script ≡ Ok h.lived
        go None e = life-asleep h.rows rows script h.lived h.is_life e
        go (Some life) e =
            let r : HasRows image h.rows h.last = (subst (λ (o : Option Life). Stands of disk h.rows h.last o before) e h.stands).on_disk image told in
            subst (λ (rs : List Row). life_of rs script ≡ Ok h.lived) (sym (r.only rows holds)) h.is_life

    -- no line is refused
    unrefused : (script others : List (List ℕ)) (text line : List ℕ) (before : D) (reason : LineReason) (h : Lives of disk script text before) → next_line h.rows h.lived (length script + 1) (asked line) ≡ Err reason
        → IsOk (life_of rows (script ++ line ∷ others)) → ⊥
    unrefused script others text line before reason h e ok = go (life_of rows (script ++ line ∷ others)) refl ok
      where
        here : (life : Option Life) → h.lived.life ≡ life → next_line rows h.lived (length script + 1) (asked line) ≡ Err reason
        here None l =
            let this : h.lived ≡ record { life = None; told = h.lived.told } = ap (λ (o : Option Life). record h.lived { life = o }) l in
            subst (λ (x : Lived). next_line rows x (length script + 1) (asked line) ≡ Err reason) (sym this)
            (line-refused h.rows rows h.lived.told (length script + 1) (asked line) reason (subst (λ (x : Lived). next_line h.rows x (length script + 1) (asked line) ≡ Err reason) this e))
        here (Some life) l =
            let r : HasRows image h.rows h.last = (subst (λ (o : Option Life). Stands of disk h.rows h.last o before) l h.stands).on_disk image told in
            subst (λ (rs : List Row). next_line rs h.lived (length script + 1) (asked line) ≡ Err reason) (sym (r.only rows holds)) e

        go : (r : Result Lived LineReason) → life_of rows (script ++ line ∷ others) ≡ r → IsOk r → ⊥
        go (Ok made) k o = life-refused rows script line others h.lived made reason (same-rows script text before h) (here h.lived.life refl) k
        go (Err other) k o = absurd cc

    -- no generation is the greatest
    unworn : (script : List (List ℕ)) (text : List ℕ) (event : Option SinkEvent) (generation : ℕ) (before : D) (h : Lives of disk script text before) (life : Option Life) → h.lived.life ≡ life → IsDue life event → generation ≡ 2 ^ 64 - 1
        → generation < h.last + (length script + 1) → length script < 1000000 → ⊥
    unworn script text event generation before h None e due g l few = due
    unworn script text event generation before h (Some life) e due g l few =
        let r : HasRows image h.rows h.last = (subst (λ (o : Option Life). Stands of disk h.rows h.last o before) e h.stands).on_disk image told in
        let same : last ≡ h.last = r.only_last last has_last in
        omega (arith, same, g, l, few, low)

    stops-for_memory : (new : D) (script others all : List (List ℕ)) (text line : List ℕ) (halt : Halt) → all ≡ script ++ line ∷ others → AreWithin all → IsOk (life_of rows all) → length image ≤ (of.tally disk).size
        → (Rose (of.faults disk) (of.faults new) → ⊥) → StopsAt of disk script text line halt new → halt ≡ NoMemory
    stops-for_memory new script others all text line (Bad reason) e within ok large no_fault h =
        absurd (unrefused script others text line h.before reason h.lives h.ends.0 (subst (λ (ls : List (List ℕ)). IsOk (life_of rows ls)) e ok))
    stops-for_memory new script others all text line (DiskRefused reason) e within ok large no_fault h = absurd (accepted reason h.ends.1 large)
    stops-for_memory new script others all text line (Worn generation) e within ok large no_fault h =
        let few : length (script ++ line ∷ others) ≤ 1000000 = subst (λ (ls : List (List ℕ)). length ls ≤ 1000000) e within.0 in
        let longer = length-append script (line ∷ others) in
        absurd (unworn script text (asked line) generation h.before h.lives h.lives.lived.life refl h.ends.0 h.ends.1 h.ends.2 (omega (arith, few, longer)))
    stops-for_memory new script others all text line DiskFault e within ok large no_fault h = absurd (no_fault (rose (of.faults disk) (of.faults new) h.ends.1))
    stops-for_memory new script others all text line NoMemory e within ok large no_fault h = refl

  pub ends : (fits : (c : List ℕ) → of.image disk ≡ Some c → length c ≡ (of.tally disk).size) (new : D) (status : Status) (left left' written written' : Option (List ℕ)) (a b c d : ℕ)
      → Leaves (Lives of disk) (StopsAt of disk) 0 new status left left' written written' → Counts status a b c d → Completes of disk status left a b c d new
  ends fits new status left left' written written' a b c d h k = λ input image rows last e told holds has_last low within ok no_read no_write no_fault.
      let size = fits image told in
      completes (Lives of disk) (StopsAt of disk) 0 new status left left' written written' a b c d input e h k
      (λ ended line next beyond. unbeyond ended line next.0 (lines input) next.1 within beyond)
      (λ ended text line halt next halted. stops-for_memory image rows last told holds has_last low new ended next.0 (lines input) text line halt next.1 within ok (omega (arith, size)) no_fault halted)
      no_read no_write
