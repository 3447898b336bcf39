-- What has been read and written so far, and what each way to end leaves.
use Rattle.std.proofs.Common.{◌≡◌, ℕ, ◌+◌, inl, inr, ◌<◌, ◌≤◌, List, [], ◌∷◌, ◌++◌, length, take, drop, Option, Some, None, refl, sym, ap, subst, ◌∙◌, append_assoc, arith}
use Rattle.std.specs.Io.KnownBytes.{Appends, Consumes, Keeps, IsAtEnd}
use Rattle.std.specs.Str.Lines.{lines}
use Rattle.std.proofs.lemmas.List.{append-nil, length-append, take-append-drop}
use Rattle.std.proofs.lemmas.List.Elements.{All-append}
use Rattle.gp_lines.specs.declared.status.Status.{Status}
use Rattle.gp_lines.specs.declared.status.Status.TheVariants as ending
use Rattle.gp_lines.specs.declared.work.Halt.{Halt}
use Rattle.gp_lines.specs.declared.work.Halt.TheVariants.{Bad, DiskFault, DiskRefused, Worn, NoMemory}
use Rattle.gp_lines.specs.declared.stop.Stop.{Stop}
use Rattle.gp_lines.specs.declared.stop.Stop.TheVariants as stop
use Rattle.gp_lines.specs.Cutting.{MakesLine, GoesBeyond}
use Rattle.gp_lines.specs.Lines.{AreNarrow, AreWithin, HasNoEnd, MayGoOn, IsWithin, IsBeyond, complete}
use Rattle.gp_lines.specs.Work.{Grows, Chain, Halts, UnlessNoMemory}
use Rattle.gp_lines.specs.Progress.{Place, place, Advances, Cause, Stops, LineStops, TakesLast}
use Rattle.gp_lines.specs.Leaves.{IsFront, AreLines, Settles, Next, NextBeyond, HaveCome, Fits, Leaves}
use Rattle.gp_lines.specs.LastWords.{Says, SaysOr}
use Rattle.gp_lines.proofs.Streams.{Appends-then, Appends-nothing, Consumes-nothing, Consumes-then, Consumes-kept, front_is}
use Rattle.gp_lines.proofs.LineLemmas.{HasNoEnd-nil, lines-last}
use Rattle.gp_lines.proofs.Cutting.{Cuts-going, Cuts-complete, MakesLine-lines, MakesLine-complete}
use Rattle.gp_lines.proofs.CompleteLines.{complete-none}
use Rattle.gp_lines.proofs.Chains.{Chain-nothing, Chain-then}
use Rattle.gp_lines.proofs.Advancing.{Advances-start, Advances-then, flush_advances, is_narrow, narrow_nil}

-- octets without LF are one line at most
one_line : (begun : List ℕ) → HasNoEnd begun → length (lines begun) ≤ 1
one_line [] none = omega arith
one_line (octet ∷ begun) none = rw (lines-last (octet ∷ begun) none (omega arith)) (omega arith)

-- the count is that of the lines that ended
at_start : (n m : ℕ) → n ≡ 0 + m → n ≡ m
at_start n m h = omega (arith, h)

module _ {S : Type 0} (goes : S → ℕ → List ℕ → List ℕ → S → Type 0) where
  -- these octets were read, and the work came to this place
  pub record Reads (left left' written : Option (List ℕ)) (start : S) (now : Place S) : Type 0 where
    pub read : List ℕ
    pub consumed : Consumes left left' read
    pub advance : Advances goes (place 0 [] [] written start) read now

  pub Reads-start : (left written : Option (List ℕ)) (start : S) (n : ℕ) (begun waiting : List ℕ) → n ≡ 0 → begun ≡ [] → waiting ≡ [] → Reads left left written start (place n begun waiting written start)
  Reads-start left written start n begun waiting none fresh empty = rw (none, fresh, empty) (record {
    read = [];
    consumed = Consumes-nothing left;
    advance = Advances-start goes (place 0 [] [] written start) HasNoEnd-nil;
  })

  -- one more piece
  pub Reads-more : (left left' left'' written : Option (List ℕ)) (start : S) (mid new : Place S) (piece : List ℕ) → Reads left left' written start mid → Consumes left' left'' piece → Advances goes mid piece new
      → Reads left left'' written start new
  Reads-more left left' left'' written start mid new piece h consumed advance = record {
    read = h.read ++ piece;
    consumed = Consumes-then left left' left'' h.read piece h.consumed consumed;
    advance = Advances-then goes (place 0 [] [] written start) h.read mid piece new h.advance advance;
  }

  -- the text that waits was written
  pub Reads-flush : (left left' written : Option (List ℕ)) (start : S) (n n' : ℕ) (begun begun' waiting waiting' : List ℕ) (now now' : Option (List ℕ)) (s : S) → Reads left left' written start (place n begun waiting now s)
      → Appends now now' waiting → waiting' ≡ [] → n' ≡ n → begun' ≡ begun → Reads left left' written start (place n' begun' waiting' now' s)
  Reads-flush left left' written start n n' begun begun' waiting waiting' now now' s h appended empty same same' = rw (same, same') (record {
    read = h.read;
    consumed = h.consumed;
    advance = subst (λ (xs : List ℕ). Advances goes (place 0 [] [] written start) xs (place n begun waiting' now' s)) (append-nil h.read)
        (Advances-then goes (place 0 [] [] written start) h.read (place n begun waiting now s) [] (place n begun waiting' now' s) h.advance (flush_advances goes n begun waiting waiting' now now' s h.advance.cuts.begun appended empty));
  })

  -- the lines of what was read, and more
  lines_are : (written : Option (List ℕ)) (start : S) (read rest : List ℕ) (now : Place S) (h : Advances goes (place 0 [] [] written start) read now) → lines (read ++ rest) ≡ h.ended ++ lines (now.begun ++ rest)
  lines_are written start read rest now h = Cuts-going [] read h.ended now.begun rest h.cuts

  lines_end : (written : Option (List ℕ)) (start : S) (read : List ℕ) (now : Place S) (h : Advances goes (place 0 [] [] written start) read now) → lines read ≡ h.ended ++ lines now.begun
  lines_end written start read now h =
      ap lines (sym (append-nil read)) ∙ lines_are written start read [] now h ∙ ap (λ (xs : List ℕ). h.ended ++ lines xs) (append-nil now.begun)

  are_lines : (written : Option (List ℕ)) (start : S) (read : List ℕ) (now : Place S) (h : Advances goes (place 0 [] [] written start) read now) → AreLines read h.ended now.begun
  are_lines written start read now h = (
    ap (λ (xs : List ℕ). lines (complete xs)) (sym (append-nil read)) ∙ Cuts-complete [] read h.ended now.begun [] h.cuts
        ∙ ap (λ (xs : List ℕ). h.ended ++ lines xs) (ap complete (append-nil now.begun) ∙ complete-none now.begun h.cuts.begun) ∙ append-nil h.ended,
    h.cuts.begun,
    λ rest. lines_are written start read rest now h,
  )

  module _ (stops : S → ℕ → List ℕ → Halt → S → Type 0) (held : ℕ) where
    -- a read failed
    pub leaves_read_fault : (left left' left'' written written' : Option (List ℕ)) (start s : S) (n : ℕ) (begun waiting : List ℕ) → Reads left left' written start (place n begun waiting written' s) → waiting ≡ [] → MayGoOn n begun → Keeps left' left''
        → Leaves (Chain goes start 1) (Halts goes stops start) held s ending.ReadFault left left'' written written'
    leaves_read_fault left left' left'' written written' start s n begun waiting h empty goes_on keeps =
        let count : n ≡ length h.advance.ended = at_start n (length h.advance.ended) h.advance.counted in
        let text : h.advance.text ≡ h.advance.told = h.advance.texts ∙ ap (λ (xs : List ℕ). h.advance.told ++ xs) empty ∙ append-nil h.advance.told in
        record {
          read = h.read;
          written = h.advance.told;
          consumed = Consumes-kept left left' left'' h.read h.consumed keeps;
          appended = h.advance.appended;
          fits = record {
            taken = h.advance.ended;
            begun = begun;
            ran_so = subst (λ (xs : List ℕ). Chain goes start 1 h.advance.ended xs s) text h.advance.chain;
            are_within = (omega (arith, h.advance.few (omega arith), count), h.advance.narrow);
            are_lines = are_lines written start h.read (place n begun waiting written' s) h.advance;
            goes_on = subst (λ (m : ℕ). MayGoOn m begun) count goes_on;
          };
        }

    module _ (left left'' written written'' : Option (List ℕ)) (start : S) (read octets : List ℕ) (mid : Place S) (consumed : Consumes left left'' read) (advance : Advances goes (place 0 [] [] written start) octets mid) where
      counted_is : mid.count ≡ length advance.ended
      counted_is = at_start mid.count (length advance.ended) advance.counted

      within_is : AreWithin advance.ended
      within_is =
          let small : mid.count ≤ 1000000 = advance.few (omega arith) in
          (omega (arith, counted_is), advance.narrow)

      -- the text of the lines so far and of a last one was not written to its end
      leaves_lost : (last : List (List ℕ)) (late : List ℕ) (end new : S) → length mid.waiting ≤ held → Chain goes mid.state (mid.count + 1) last late end → length last ≤ 1 → (mid.count ≤ 1000000 → mid.count + length last ≤ 1000000) → AreNarrow last
          → HaveCome left'' read (advance.ended ++ last) → (count : ℕ) → Appends mid.written written'' (take count (mid.waiting ++ late)) → (held ≡ 0 → new ≡ end)
          → Leaves (Chain goes start 1) (Halts goes stops start) held new ending.WriteFault left left'' written written''
      leaves_lost last late end new little chain one few narrow first count appended stands =
          let small : mid.count ≤ 1000000 = advance.few (omega arith) in
          record {
            read = read;
            written = advance.told ++ take count (mid.waiting ++ late);
            consumed = consumed;
            appended = Appends-then written mid.written written'' advance.told (take count (mid.waiting ++ late)) advance.appended appended;
            fits = record {
              taken = advance.ended;
              last = last;
              text = advance.text;
              last_text = late;
              mid = mid.state;
              end = end;
              ran_first = advance.chain;
              ran_all = Chain-then goes start 1 advance.ended advance.text mid.state (mid.count + 1) last late end advance.chain (omega (arith, counted_is)) chain;
              at_most_one = one;
              are_within = (omega (arith, length-append advance.ended last, few small, counted_is), All-append is_narrow advance.ended last advance.narrow narrow);
              have_come = first;
              front = front_is advance.text advance.told mid.waiting late count advance.texts;
              little = omega (arith, ap length advance.texts, length-append advance.told mid.waiting, length-append advance.told (take count (mid.waiting ++ late)), little);
              stands = stands;
            };
          }

      first_nil : HaveCome left'' read advance.ended → HaveCome left'' read (advance.ended ++ [])
      first_nil first = rw (append-nil advance.ended) first

      -- the text of the lines so far was written, or not to its end
      leaves_said : (status result : Status) (new : S) (before : Option (List ℕ)) (waiting : List ℕ) (f f' : ℕ) → length mid.waiting ≤ held → HaveCome left'' read advance.ended
          → Fits (Chain goes start 1) (Halts goes stops start) held new status left'' read advance.text → waiting ≡ mid.waiting → before ≡ mid.written
          → SaysOr status result before written'' waiting f f' → Leaves (Chain goes start 1) (Halts goes stops start) held new result left left'' written written''
      leaves_said status result new before waiting f f' little first fits same kept (inl said) =
          let appended : Appends mid.written written'' mid.waiting = subst (λ (k : Option (List ℕ)). Appends k written'' mid.waiting) kept (subst (λ (xs : List ℕ). Appends before written'' xs) same said.1) in
          subst (λ (r : Status). Leaves (Chain goes start 1) (Halts goes stops start) held new r left left'' written written'') (sym said.0) (record {
            read = read;
            written = advance.text;
            consumed = consumed;
            appended = rw advance.texts (Appends-then written mid.written written'' advance.told mid.waiting advance.appended appended);
            fits = fits;
          })
      leaves_said status result new before waiting f f' little first fits same kept (inr said) =
          let appended : Appends mid.written written'' (take said.1.0 (mid.waiting ++ [])) = rw (append-nil mid.waiting) (subst (λ (k : Option (List ℕ)). Appends k written'' (take said.1.0 mid.waiting)) kept (subst (λ (xs : List ℕ). Appends before written'' (take said.1.0 xs)) same said.1.1)) in
          let some : 0 < length mid.waiting = rw same at said.2 in
          subst (λ (r : Status). Leaves (Chain goes start 1) (Halts goes stops start) held new r left left'' written written'') (sym said.0)
          (leaves_lost [] [] mid.state new little (Chain-nothing goes mid.state (mid.count + 1)) (omega arith) (λ h. omega (arith, h)) narrow_nil (first_nil first) said.1.0 appended (λ zero. absurd (omega (arith, zero, some, little))))

      -- why it goes no further, by the lines of the input
      abbrev Decided : Stop → Place S → Type 0
      Decided stop.TooLong new = Settles left'' read (NextBeyond advance.ended) × (new.waiting ≡ mid.waiting) × (new.written ≡ mid.written) × (new.state ≡ mid.state)
      Decided (stop.Halted number halt) new = (new.written ≡ mid.written) × ((line : List ℕ) × (number ≡ length advance.ended + 1) × Settles left'' read (Next advance.ended line)
          × IsWithin (length advance.ended) line × stops mid.state (length advance.ended + 1) line halt new.state × UnlessNoMemory halt (new.waiting ≡ mid.waiting))
      Decided stop.WriteFault new = (last : List (List ℕ)) × (late : List ℕ) × Chain goes mid.state (mid.count + 1) last late new.state × (length last ≤ 1) × (mid.count ≤ 1000000 → mid.count + length last ≤ 1000000) × AreNarrow last × HaveCome left'' read (advance.ended ++ last)
          × ((count : ℕ) × Appends mid.written new.written (take count (mid.waiting ++ late)))

      pub leaves_decided : (stop : Stop) (new : Place S) (result : Status) (f f' : ℕ) → length mid.waiting ≤ held → HaveCome left'' read advance.ended → Decided stop new → Says stop result new.written written'' new.waiting f f'
          → Leaves (Chain goes start 1) (Halts goes stops start) held new.state result left left'' written written''
      leaves_decided stop.TooLong new result f f' little first h says =
          leaves_said ending.TooLong result new.state new.written new.waiting f f' little first (record { taken = advance.ended; ran_so = subst (λ (x : S). Chain goes start 1 advance.ended advance.text x) (sym h.3) advance.chain; are_within = within_is; next = h.0 }) h.1 h.2 says
      leaves_decided (stop.Halted number NoMemory) new result f f' little first h says =
          subst (λ (r : Status). Leaves (Chain goes start 1) (Halts goes stops start) held new.state r left left'' written written'') (sym says.0) (record {
            read = read;
            written = advance.told;
            consumed = consumed;
            appended = rw (says.1, h.0) advance.appended;
            fits = record {
              taken = advance.ended;
              text = advance.text;
              ran_so = inr (h.1.0, (mid.state, advance.chain, h.1.4), h.1.2, h.1.3);
              are_within = within_is;
              have_come = first;
              front = (mid.waiting, advance.texts);
              little = omega (arith, ap length advance.texts, length-append advance.told mid.waiting, little);
            };
          })
      leaves_decided (stop.Halted number (Bad reason)) new result f f' little first h says =
          leaves_said (ending.BadLine number reason) result new.state new.written new.waiting f f' little first
          (record { taken = advance.ended; line = h.1.0; halted = (mid.state, advance.chain, h.1.4); are_within = within_is; next = h.1.2; within = h.1.3 }, h.1.1) h.1.5 h.0 says
      leaves_decided (stop.Halted number DiskFault) new result f f' little first h says =
          leaves_said ending.DiskFault result new.state new.written new.waiting f f' little first
          (record { taken = advance.ended; line = h.1.0; halted = (mid.state, advance.chain, h.1.4); are_within = within_is; next = h.1.2; within = h.1.3 }) h.1.5 h.0 says
      leaves_decided (stop.Halted number (DiskRefused reason)) new result f f' little first h says =
          leaves_said (ending.DiskRefused reason) result new.state new.written new.waiting f f' little first
          (record { taken = advance.ended; line = h.1.0; halted = (mid.state, advance.chain, h.1.4); are_within = within_is; next = h.1.2; within = h.1.3 }) h.1.5 h.0 says
      leaves_decided (stop.Halted number (Worn generation)) new result f f' little first h says =
          leaves_said (ending.Worn generation) result new.state new.written new.waiting f f' little first
          (record { taken = advance.ended; line = h.1.0; halted = (mid.state, advance.chain, h.1.4); are_within = within_is; next = h.1.2; within = h.1.3 }) h.1.5 h.0 says
      leaves_decided stop.WriteFault new result f f' little first h says =
          subst (λ (r : Status). Leaves (Chain goes start 1) (Halts goes stops start) held new.state r left left'' written written'') (sym says.0)
          (leaves_lost h.0 h.1 new.state new.state little h.2 h.3 h.4 h.5 h.6 h.7.0 (rw says.1 h.7.1) (λ zero. refl))

      -- ---- from octets to lines
      module _ (back : List ℕ) (parts : read ≡ octets ++ back) where
        behind : (rest : List ℕ) → lines (read ++ rest) ≡ advance.ended ++ lines (mid.begun ++ (back ++ rest))
        behind rest = ap (λ (xs : List ℕ). lines (xs ++ rest)) parts ∙ ap lines (append_assoc octets back rest) ∙ lines_are written start octets (back ++ rest) mid advance

        behind_complete : lines (complete read) ≡ advance.ended ++ lines (complete (mid.begun ++ back))
        behind_complete = ap (λ (xs : List ℕ). lines (complete xs)) parts ∙ Cuts-complete [] octets advance.ended mid.begun back advance.cuts

        pub settles_first : HaveCome left'' read advance.ended
        settles_first = inl (lines (complete (mid.begun ++ back)), behind_complete)

        settles_line : (line : List ℕ) → MakesLine mid.begun back line → Settles left'' read (Next advance.ended line)
        settles_line line makes = inl (λ rest.
            let made = MakesLine-lines mid.begun back line rest makes in
            (made.0, behind rest ∙ ap (λ (xs : List (List ℕ)). advance.ended ++ xs) made.1))

        settles_beyond : GoesBeyond mid.count mid.begun back → Settles left'' read (NextBeyond advance.ended)
        settles_beyond beyond = inl (λ rest. (
          (beyond rest).0,
          ((beyond rest).1, behind rest ∙ ap (λ (xs : List (List ℕ)). advance.ended ++ xs) (beyond rest).2),
          subst (λ (m : ℕ). IsBeyond m (beyond rest).0) counted_is (beyond rest).3,
        ))

        settles_last : (last : List (List ℕ)) → length last ≤ 1 → ((line : List ℕ) → last ≡ line ∷ [] → MakesLine mid.begun back line) → HaveCome left'' read (advance.ended ++ last)
        settles_last [] one makes = first_nil settles_first
        settles_last (line ∷ []) one makes =
            let made = MakesLine-complete mid.begun back line (makes line refl) in
            inl (made.0, behind_complete ∙ ap (λ (xs : List (List ℕ)). advance.ended ++ xs) made.1 ∙ sym (append_assoc advance.ended (line ∷ []) made.0))
        settles_last (line ∷ other ∷ others) one makes = absurd (omega (arith, one))

        pub decided_in_piece : (stop : Stop) (new : Place S) → Cause goes stops stop mid back new → Decided stop new
        decided_in_piece stop.TooLong new h = (settles_beyond h.0, h.1, h.2, h.3)
        decided_in_piece stop.WriteFault new h = (h.last, h.text, h.chain, h.at_most_one, h.few, h.narrow, settles_last h.last h.at_most_one h.makes, h.told)
        decided_in_piece (stop.Halted number halt) new h = (
          h.0,
          (
            h.1.0,
            h.1.1 ∙ ap (λ (m : ℕ). m + 1) counted_is,
            settles_line h.1.0 h.1.2,
            subst (λ (m : ℕ). IsWithin m h.1.0) counted_is h.1.3,
            subst (λ (m : ℕ). stops mid.state (m + 1) h.1.0 halt new.state) counted_is h.1.4,
            h.1.5,
          ),
        )

    -- a piece in which it stops
    pub leaves_stop : (left left' left'' written written'' : Option (List ℕ)) (start : S) (old new : Place S) (piece : List ℕ) (stop : Stop) (result : Status) (f f' : ℕ) → Reads left left' written start old → Consumes left' left'' piece
        → Stops goes stops held stop old piece new → Says stop result new.written written'' new.waiting f f' → Leaves (Chain goes start 1) (Halts goes stops start) held new.state result left left'' written written''
    leaves_stop left left' left'' written written'' start old new piece stop result f f' h consumed k says =
        let advance = Advances-then goes (place 0 [] [] written start) h.read old k.front k.mid h.advance k.advance in
        let parts : h.read ++ piece ≡ (h.read ++ k.front) ++ k.back = ap (λ (xs : List ℕ). h.read ++ xs) k.parts ∙ sym (append_assoc h.read k.front k.back) in
        let all = Consumes-then left left' left'' h.read piece h.consumed consumed in
        leaves_decided left left'' written written'' start (h.read ++ piece) (h.read ++ k.front) k.mid all advance stop new result f f' k.little
        (settles_first left left'' written written'' start (h.read ++ piece) (h.read ++ k.front) k.mid all advance k.back parts)
        (decided_in_piece left left'' written written'' start (h.read ++ piece) (h.read ++ k.front) k.mid all advance k.back parts stop new k.cause)
        says

    -- the text of a piece is not written to its end
    pub leaves_piece_fault : (left left' left'' written written'' : Option (List ℕ)) (start : S) (old new : Place S) (piece : List ℕ) → Reads left left' written start old → Consumes left' left'' piece
        → Advances goes old piece new → length new.waiting ≤ held → (count : ℕ) × Appends new.written written'' (take count new.waiting) → Leaves (Chain goes start 1) (Halts goes stops start) held new.state ending.WriteFault left left'' written written''
    leaves_piece_fault left left' left'' written written'' start old new piece h consumed k little lost =
        let advance = Advances-then goes (place 0 [] [] written start) h.read old piece new h.advance k in
        let all = Consumes-then left left' left'' h.read piece h.consumed consumed in
        let first = settles_first left left'' written written'' start (h.read ++ piece) (h.read ++ piece) new all advance [] (sym (append-nil (h.read ++ piece))) in
        leaves_lost left left'' written written'' start (h.read ++ piece) (h.read ++ piece) new all advance [] [] new.state new.state little (Chain-nothing goes new.state (new.count + 1)) (omega arith) (λ h. omega (arith, h)) narrow_nil
        (rw (append-nil advance.ended) first) lost.0 (rw (append-nil new.waiting) lost.1) (λ zero. refl)

    module _ (left left' left'' written written' written'' : Option (List ℕ)) (start s s' : S) (n : ℕ) (begun waiting text piece : List ℕ) (f f' : ℕ) (result : Status)
        (h : Reads left left' written start (place n begun waiting written' s)) (consumed : Consumes left' left'' piece) (none : piece ≡ []) (ended : IsAtEnd left'') (empty : waiting ≡ []) where
      all_read : Consumes left left'' h.read
      all_read = subst (λ (xs : List ℕ). Consumes left left'' xs) (ap (λ (xs : List ℕ). h.read ++ xs) none ∙ append-nil h.read) (Consumes-then left left' left'' h.read piece h.consumed consumed)

      count_is : n ≡ length h.advance.ended
      count_is = at_start n (length h.advance.ended) h.advance.counted

      text_is : h.advance.text ≡ h.advance.told
      text_is = h.advance.texts ∙ ap (λ (xs : List ℕ). h.advance.told ++ xs) empty ∙ append-nil h.advance.told

      lines_read : lines h.read ≡ h.advance.ended ++ lines begun
      lines_read = lines_end written start h.read (place n begun waiting written' s) h.advance

      little_waits : length waiting ≤ held
      little_waits = rw empty (omega arith)

      few_lines : (n ≤ 1000000 → n + length (lines begun) ≤ 1000000) → length (h.advance.ended ++ lines begun) ≤ 1000000
      few_lines few =
          let small : n ≤ 1000000 = h.advance.few (omega arith) in
          omega (arith, length-append h.advance.ended (lines begun), few small, count_is)

      -- the end of the input, where all went well
      pub leaves_done : Grows waiting text (TakesLast goes n (lines begun) s s') → SaysOr ending.Done result written' written'' text f f' → Leaves (Chain goes start 1) (Halts goes stops start) held s' result left left'' written written''
      leaves_done grows (inl said) =
          let told : text ≡ grows.0 = rw empty at grows.1 in
          subst (λ (r : Status). Leaves (Chain goes start 1) (Halts goes stops start) held s' r left left'' written written'') (sym said.0) (record {
            read = h.read;
            written = h.advance.told ++ text;
            consumed = all_read;
            appended = Appends-then written written' written'' h.advance.told text h.advance.appended said.1;
            fits = (
              ended,
              rw (lines_read, told, ← text_is) (Chain-then goes start 1 h.advance.ended h.advance.text s (n + 1) (lines begun) grows.0 s' h.advance.chain (omega (arith, count_is)) grows.2.2),
              rw lines_read (few_lines grows.2.0, All-append is_narrow h.advance.ended (lines begun) h.advance.narrow grows.2.1),
            );
          })
      leaves_done grows (inr said) =
          let told : waiting ++ grows.0 ≡ text = sym grows.1 in
          subst (λ (r : Status). Leaves (Chain goes start 1) (Halts goes stops start) held s' r left left'' written written'') (sym said.0)
          (leaves_lost left left'' written written'' start h.read h.read (place n begun waiting written' s) all_read h.advance (lines begun) grows.0 s' s' little_waits grows.2.2 (one_line begun h.advance.cuts.begun) grows.2.0 grows.2.1
          (inr (ended, ([], lines_read ∙ sym (append-nil (h.advance.ended ++ lines begun))))) said.1.0 (rw told said.1.1) (λ zero. refl))

      Ends : Stop → Type 0
      Ends stop = Decided left left'' written written'' start h.read h.read (place n begun waiting written' s) all_read h.advance stop (place n begun text written' s')

      first_end : HaveCome left'' h.read h.advance.ended
      first_end = inr (ended, (lines begun, lines_read))

      next_is : lines begun ≡ begun ∷ [] → Settles left'' h.read (Next h.advance.ended begun)
      next_is one = inr (ended, ([], lines_read ∙ ap (λ (xs : List (List ℕ)). h.advance.ended ++ xs) one))

      decided_at_end : (stop : Stop) → lines begun ≡ begun ∷ [] → LineStops stops stop n begun waiting text s s' → Ends stop
      unfolding Ends
      decided_at_end stop.TooLong one k =
          (inr (ended, (begun, ([], lines_read ∙ ap (λ (xs : List (List ℕ)). h.advance.ended ++ xs) one), subst (λ (m : ℕ). IsBeyond m begun) count_is k.0)), k.1, refl, k.2)
      decided_at_end stop.WriteFault one k = absurd k
      decided_at_end (stop.Halted number halt) one k = (
        refl,
        (
          begun,
          k.0 ∙ ap (λ (m : ℕ). m + 1) count_is,
          next_is one,
          subst (λ (m : ℕ). IsWithin m begun) count_is k.1,
          subst (λ (m : ℕ). stops s (m + 1) begun halt s') count_is k.2,
          k.3,
        ),
      )

      -- the end of the input, at which it stops
      pub leaves_stop_at_end : (stop : Stop) → (lines begun ≡ begun ∷ []) × LineStops stops stop n begun waiting text s s' → Says stop result written' written'' text f f' → Leaves (Chain goes start 1) (Halts goes stops start) held s' result left left'' written written''
      unfolding Ends
      leaves_stop_at_end stop k says =
          leaves_decided left left'' written written'' start h.read h.read (place n begun waiting written' s) all_read h.advance stop (place n begun text written' s') result f f' little_waits first_end (decided_at_end stop k.0 k.1) says

    -- no memory at the start
    pub leaves_at_once : (left written : Option (List ℕ)) (start : S) → Leaves (Chain goes start 1) (Halts goes stops start) held start ending.NoMemory left left written written
    leaves_at_once left written start = record {
      read = [];
      written = [];
      consumed = Consumes-nothing left;
      appended = Appends-nothing written;
      fits = record { taken = []; text = []; ran_so = inl (refl, refl, (refl, refl)); little = omega arith; are_within = (omega arith, narrow_nil); have_come = inl ([], refl); front = ([], refl) };
    }
