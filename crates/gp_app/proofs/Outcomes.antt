-- What a run over the lines of a capture leaves, told as an outcome.
use Rattle.std.proofs.Common.{◌≡◌, ℕ, ◌+◌, inl, inr, false, ◌<◌, ◌≤◌, eqb, List, [], ◌∷◌, ◌++◌, length, replicate, Option, Some, None, refl, sym, ap, subst, ◌∙◌, append_assoc, arith, suc}
use Rattle.std.specs.Str.Lines.{lines, strip_carriage_return}
use Rattle.std.proofs.lemmas.List.{append-nil, length-append, length-replicate}
use Rattle.std.proofs.lemmas.List.Elements.{All-replicate}
use Rattle.std.proofs.lemmas.Bool.{lt-ltb, le-ltb}
use Rattle.std.proofs.Common.{Bool, true, ltb, ◌||◌}
use Rattle.gp_script.specs.declared.reason.LineReason.{LineReason}
use Rattle.gp_script.specs.declared.reason.LineReason.TheVariants.{Form}
use Rattle.gp_lines.specs.declared.status.Status.{Status}
use Rattle.gp_lines.specs.declared.status.Status.TheVariants.{Done, BadLine, Usage, ReadFault, WriteFault, DiskFault, NoMemory, DiskRefused, Worn, TooLong, BadPcap}
use Rattle.gp_lines.specs.declared.work.Halt.TheVariants as cause
use Rattle.gp_lines.specs.Lines.{HasNoEnd, AreNarrow, AreWithin, IsBeyond, IsWithin, MayGoOn}
use Rattle.gp_lines.specs.Leaves as run
use Rattle.gp_lines.proofs.LineLemmas.{lines-append-end, lines-last, HasNoEnd-append}
use Rattle.gp_app.specs.Decoding.{listed, listed_before, IsListed, IsUnlisted}
use Rattle.gp_app.specs.Outcome.{Outcome, after, then_lines, outcome_of}
use Rattle.gp_app.specs.Leaves as told_as

or-true : (b : Bool) → (b || true) ≡ true
or-true true = refl
or-true false = refl

after_after : (a b : List ℕ) (o : Outcome) → after a (after b o) ≡ after (a ++ b) o
after_after a b o = ap (λ (text : List ℕ). record o { text = text }) (sym (append_assoc a b o.text))

-- more octets than a line may have, none of them LF
too_many : List ℕ
too_many = replicate 1025 0

too_many-length : length too_many ≡ 1025
unfolding too_many
too_many-length = length-replicate {A = ℕ} 1025 0

too_many-end : HasNoEnd too_many
unfolding too_many
too_many-end = All-replicate (λ octet. eqb octet 10 ≡ false) 1025 0 refl

module _ (listing : List ℕ → Option (List ℕ)) where
  beyond_is : (n : ℕ) (line : List ℕ) (others : List (List ℕ)) → IsBeyond n line → outcome_of listing (n + 1) (line ∷ others) ≡ record { text = []; status = TooLong }
  unfolding outcome_of
  beyond_is n line others (inl many) = rw (lt-ltb 1000000 (n + 1) (omega arith)) refl
  beyond_is n line others (inr wide) = rw (lt-ltb 1024 (length line) wide, or-true (ltb 1000000 (n + 1))) refl

  bad_is : (n : ℕ) (line : List ℕ) (others : List (List ℕ)) → IsWithin n line → listing line ≡ None → outcome_of listing (n + 1) (line ∷ others) ≡ record { text = []; status = BadLine (n + 1) Form }
  unfolding outcome_of
  bad_is n line others within none = rw (le-ltb 1000000 (n + 1) (omega (arith, within.0)), le-ltb 1024 (length line) within.1, none) refl

  -- listed lines, and what comes of the others
  listed_is : (n m : ℕ) (ended : List (List ℕ)) (text : List ℕ) (others : List (List ℕ)) → listed listing ended ≡ Some text → n + length ended ≤ 1000000 → AreNarrow ended → m ≡ n + length ended
      → outcome_of listing (n + 1) (ended ++ others) ≡ after text (outcome_of listing (m + 1) others)
  unfolding outcome_of
  listed_is n m [] text others h few narrow e =
      let same : n ≡ m = omega (arith, e) in
      let none : [] ≡ text = cc in
      rw (← none, same) refl
  listed_is n m (line ∷ ended) text others h few narrow e =
      let wide : length line ≤ 1024 = narrow 0 line (omega arith) in
      let fits : n + 1 ≤ 1000000 = omega (arith, few) in
      parts (listing line) (listed listing ended) refl refl fits wide (λ more q. listed_is (n + 1) m ended more others q (omega (arith, few)) (λ k d h'. narrow (suc k) d (omega arith)) (omega (arith, e))) h
    where
      parts : (one : Option (List ℕ)) (rest : Option (List ℕ)) → listing line ≡ one → listed listing ended ≡ rest → n + 1 ≤ 1000000 → length line ≤ 1024
          → ((more : List ℕ) → listed listing ended ≡ Some more → outcome_of listing (n + 1 + 1) (ended ++ others) ≡ after more (outcome_of listing (m + 1) others)) → listed_before one rest ≡ Some text
          → outcome_of listing (n + 1) (line ∷ (ended ++ others)) ≡ after text (outcome_of listing (m + 1) others)
      parts None rest p q fits wide again k = cc
      parts (Some first) None p q fits wide again k = cc
      parts (Some first) (Some more) p q fits wide again k =
          let is : (first ++ 10 ∷ []) ++ more ≡ text = cc in
          rw (le-ltb 1000000 (n + 1) fits, le-ltb 1024 (length line) wide, p)
          (ap (after (first ++ 10 ∷ [])) (again more q)
          ∙ after_after (first ++ 10 ∷ []) more (outcome_of listing (m + 1) others) ∙ ap (λ (xs : List ℕ). after xs (outcome_of listing (m + 1) others)) is)

  -- the same from the first line on
  from_start : (ended : List (List ℕ)) (text : List ℕ) (others : List (List ℕ)) → listed listing ended ≡ Some text → AreWithin ended → outcome_of listing 1 (ended ++ others) ≡ after text (outcome_of listing (length ended + 1) others)
  from_start ended text others h within = listed_is 0 (length ended) ended text others h (omega (arith, within.0)) within.1 (omega arith)

  alone : (ended : List (List ℕ)) (text : List ℕ) → listed listing ended ≡ Some text → AreWithin ended → outcome_of listing 1 ended ≡ record { text = text; status = Done }
  unfolding outcome_of
  alone ended text h within = ap (outcome_of listing 1) (sym (append-nil ended)) ∙ from_start ended text [] h within ∙ ap (λ (xs : List ℕ). record { text = xs; status = Done }) (append-nil text)

  -- with them a line that has begun is too wide, and with an LF it isn't: so nothing settles what comes of it
  widened : (n : ℕ) (begun : List ℕ) → HasNoEnd begun → (outcome_of listing (n + 1) (lines (begun ++ too_many))).status ≡ TooLong
  widened n begun none =
      let long : 1024 < length (begun ++ too_many) = omega (arith, length-append begun too_many, too_many-length) in
      ap (λ ls. (outcome_of listing (n + 1) ls).status) (lines-last (begun ++ too_many) (HasNoEnd-append begun too_many none too_many-end) (omega (arith, long)))
      ∙ ap (λ (o : Outcome). o.status) (beyond_is n (begun ++ too_many) [] (inr long))

  within : (n : ℕ) (line : List ℕ) → n < 1000000 → length line ≤ 1024 → (outcome_of listing (n + 1) (line ∷ [])).status ≡ TooLong → ⊥
  unfolding outcome_of
  within n line few narrow = rw (le-ltb 1000000 (n + 1) (omega arith), le-ltb 1024 (length line) narrow) (elim (listing line) as (λ found. (then_lines found (n + 1) (record { text = []; status = Done })).status ≡ TooLong → ⊥) [ None ↦ λ e. cc | Some text ↦ λ e. cc ])

  not_settled : (n : ℕ) (begun told : List ℕ) → HasNoEnd begun → MayGoOn n begun → (settled : Outcome) → ((rest : List ℕ) → after told (outcome_of listing (n + 1) (lines (begun ++ rest))) ≡ settled) → ⊥
  unfolding outcome_of
  not_settled n begun told none (inl fresh) settled settles =
      let long = sym (widened n begun none) ∙ ap (λ (o : Outcome). o.status) (settles too_many) in
      let short : Done ≡ settled.status = ap (λ (o : Outcome). o.status) (rw fresh at settles []) in
      let other : Done ≡ TooLong = short ∙ sym long in
      cc
  not_settled n begun told none (inr narrow) settled settles =
      let long = sym (widened n begun none) ∙ ap (λ (o : Outcome). o.status) (settles too_many) in
      let short = ap (λ (ls : List (List ℕ)). (outcome_of listing (n + 1) ls).status) (sym (lines-append-end begun [] none)) ∙ ap (λ (o : Outcome). o.status) (settles (10 ∷ [])) in
      within n (strip_carriage_return begun) narrow.0 narrow.1 (short ∙ sym long)

  module _ {S : Type 0} (held : ℕ) (state : S) (left : Option (List ℕ)) (read told : List ℕ) where
    Now : Status → Type 0
    Now status = run.Fits (IsListed listing) (IsUnlisted listing) held state status left read told

    decided_by : (ended : List (List ℕ)) (text : List ℕ) (Asked : List (List ℕ) → Type 0) (o : Outcome) → ((all : List (List ℕ)) → Asked all → outcome_of listing 1 all ≡ o) → run.Settles left read Asked → told_as.Decides listing left read o
    decided_by ended text Asked o to (inl always) = inl (λ rest. to (lines (read ++ rest)) (always rest))
    decided_by ended text Asked o to (inr end) = inr (end.0, to (lines read) end.1)

    bad_line : (number : ℕ) (reason : LineReason) → (h : run.Halted (IsListed listing) (IsUnlisted listing) held state (cause.Bad reason) left read told) → number ≡ length h.taken + 1 → told_as.Decides listing left read (record { text = told; status = BadLine number Form })
    bad_line number reason h e = decided_by h.taken told (run.Next h.taken h.line) (record { text = told; status = BadLine number Form })
        (λ all next. ap (outcome_of listing 1) next.1 ∙ from_start h.taken told (h.line ∷ next.0) h.halted.0 h.are_within ∙ ap (after told) (bad_is (length h.taken) h.line next.0 h.within h.halted.1.1)
        ∙ rw e (ap (λ (xs : List ℕ). record { text = xs; status = BadLine (length h.taken + 1) Form }) (append-nil told))) h.next

    too_long : run.Exceeded (IsListed listing) (IsUnlisted listing) held state left read told → told_as.Decides listing left read (record { text = told; status = TooLong })
    too_long h = decided_by h.taken told (run.NextBeyond h.taken) (record { text = told; status = TooLong })
        (λ all next. ap (outcome_of listing 1) next.1.1 ∙ from_start h.taken told (next.0 ∷ next.1.0) h.ran_so h.are_within ∙ ap (after told) (beyond_is (length h.taken) next.0 next.1.0 next.2)
        ∙ ap (λ (xs : List ℕ). record { text = xs; status = TooLong }) (append-nil told)) h.next

    part_of : (ended : List (List ℕ)) (text : List ℕ) → listed listing ended ≡ Some text → AreWithin ended → run.IsFront told text → run.HaveCome left read ended → told_as.IsPart listing left read told
    part_of ended text h within front (inl came) =
        let is = ap (λ (ls : List (List ℕ)). (outcome_of listing 1 ls).text) came.1 ∙ ap (λ (o : Outcome). o.text) (from_start ended text came.0 h within) in
        inl (front.0 ++ (outcome_of listing (length ended + 1) came.0).text, is ∙ ap (λ (xs : List ℕ). xs ++ (outcome_of listing (length ended + 1) came.0).text) front.1 ∙ append_assoc told front.0 (outcome_of listing (length ended + 1) came.0).text)
    part_of ended text h within front (inr end) =
        let came = end.1 in
        let is = ap (λ (ls : List (List ℕ)). (outcome_of listing 1 ls).text) came.1 ∙ ap (λ (o : Outcome). o.text) (from_start ended text came.0 h within) in
        inr (end.0, (front.0 ++ (outcome_of listing (length ended + 1) came.0).text, is ∙ ap (λ (xs : List ℕ). xs ++ (outcome_of listing (length ended + 1) came.0).text) front.1 ∙ append_assoc told front.0 (outcome_of listing (length ended + 1) came.0).text))

    is_open : run.BrokenOff (IsListed listing) (IsUnlisted listing) held state read told → told_as.IsOpen listing read told
    is_open h = (
      ap (outcome_of listing 1) h.are_lines.0 ∙ alone h.taken told h.ran_so h.are_within,
      λ settled settles. not_settled (length h.taken) h.begun told h.are_lines.1 h.goes_on settled (λ rest.
          sym (ap (outcome_of listing 1) (h.are_lines.2 rest) ∙ from_start h.taken told (lines (h.begun ++ rest)) h.ran_so h.are_within) ∙ settles rest),
    )

    was_listed : (h : run.OutOfMemory (IsListed listing) (IsUnlisted listing) held state left read told) → listed listing h.taken ≡ Some h.text
    was_listed h = elim h.ran_so as (λ ran. listed listing h.taken ≡ Some h.text) [ inl none ↦ none.2 | inr line ↦ line.1.0 ]

    outcome_fits : (status : Status) → Now status → told_as.Fits listing status left read told
    unfolding Now
    outcome_fits Done h = (h.0, alone (lines read) told h.1 h.2)
    outcome_fits (BadLine line reason) h =
        let form : reason ≡ Form = h.0.halted.1.0 in
        subst (λ (r : LineReason). told_as.Decides listing left read (record { text = told; status = BadLine line r })) (sym form) (bad_line line reason h.0 h.1)
    outcome_fits TooLong h = too_long h
    outcome_fits ReadFault h = is_open h
    outcome_fits WriteFault h = part_of (h.taken ++ h.last) (h.text ++ h.last_text) h.ran_all h.are_within h.front h.have_come
    outcome_fits NoMemory h = part_of h.taken h.text (was_listed h) h.are_within h.front h.have_come
    outcome_fits Usage h = absurd h
    outcome_fits (BadPcap place reason) h = absurd h
    outcome_fits DiskFault h = absurd h.halted.1
    outcome_fits (DiskRefused reason) h = absurd h.halted.1
    outcome_fits (Worn generation) h = absurd h.halted.1

  pub outcome_leaves : {S : Type 0} (held : ℕ) (state : S) (status : Status) (left left' written written' : Option (List ℕ)) → run.Leaves (IsListed listing) (IsUnlisted listing) held state status left left' written written' → told_as.Leaves listing status left left' written written'
  unfolding Now
  outcome_leaves held state status left left' written written' h = record { read = h.read; written = h.written; consumed = h.consumed; appended = h.appended; fits = outcome_fits held state left' h.read h.written status h.fits }
