-- What a run leaves, said of another meaning of the same work; and where nothing stops it.
use Rattle.std.proofs.Common.{◌≡◌, ℕ, suc, ◌≤◌, ◌⊎◌, inl, inr, List, [], ◌∷◌, ◌++◌, length, Option, Some, None, refl, ap, subst, arith}
use Rattle.std.specs.Str.Lines.{lines}
use Rattle.std.specs.Io.KnownBytes.{Consumes}
use Rattle.std.proofs.lemmas.List.{append-nil, length-append}
use Rattle.gp_base.specs.Outside.{one_more, Rose}
use Rattle.gp_lines.specs.declared.status.Status.{Status}
use Rattle.gp_lines.specs.declared.status.Status.TheVariants as ending
use Rattle.gp_lines.specs.declared.work.Halt.{Halt}
use Rattle.gp_lines.specs.declared.work.Halt.TheVariants.{Bad, DiskFault, DiskRefused, Worn, NoMemory}
use Rattle.gp_lines.specs.Lines.{AreNarrow, AreWithin, IsBeyond, IsWithin}
use Rattle.gp_lines.specs.Leaves.{Settles, Next, NextBeyond, Halted, Fits, Leaves, Counts}

module _ {S S' : Type 0} (part : S → S') (ran : List (List ℕ) → List ℕ → S → Type 0) (ran' : List (List ℕ) → List ℕ → S' → Type 0)
    (halts : List (List ℕ) → List ℕ → List ℕ → Halt → S → Type 0) (halts' : List (List ℕ) → List ℕ → List ℕ → Halt → S' → Type 0) (held : ℕ) (new : S)
    (to : (ended : List (List ℕ)) (text : List ℕ) (s : S) → ran ended text s → ran' ended text (part s))
    (halting : (ended : List (List ℕ)) (text line : List ℕ) (halt : Halt) → halts ended text line halt new → halts' ended text line halt (part new)) where
  Halted-as : (halt : Halt) (left : Option (List ℕ)) (read told : List ℕ) → Halted ran halts held new halt left read told → Halted ran' halts' held (part new) halt left read told
  Halted-as halt left read told h = record { taken = h.taken; line = h.line; halted = halting h.taken told h.line halt h.halted; are_within = h.are_within; next = h.next; within = h.within }

  Stands-as : (left : Option (List ℕ)) (read : List ℕ) (taken : List (List ℕ)) (text : List ℕ)
      → ((read ≡ []) × (taken ≡ []) × ran taken text new) ⊎ ((line : List ℕ) × halts taken text line NoMemory new × Settles left read (Next taken line) × IsWithin (length taken) line)
      → ((read ≡ []) × (taken ≡ []) × ran' taken text (part new)) ⊎ ((line : List ℕ) × halts' taken text line NoMemory (part new) × Settles left read (Next taken line) × IsWithin (length taken) line)
  Stands-as left read taken text (inl h) = inl (h.0, h.1, to taken text new h.2)
  Stands-as left read taken text (inr h) = inr (h.0, halting taken text h.0 NoMemory h.1, h.2, h.3)

  Fits-as : (status : Status) (left : Option (List ℕ)) (read told : List ℕ) → Fits ran halts held new status left read told → Fits ran' halts' held (part new) status left read told
  unfolding Halted-as
  Fits-as ending.Done left read told h = (h.0, to (lines read) told new h.1, h.2)
  Fits-as (ending.BadLine line reason) left read told h = (Halted-as (Bad reason) left read told h.0, h.1)
  Fits-as ending.TooLong left read told h = record { taken = h.taken; ran_so = to h.taken told new h.ran_so; are_within = h.are_within; next = h.next }
  Fits-as ending.ReadFault left read told h = record { taken = h.taken; begun = h.begun; ran_so = to h.taken told new h.ran_so; are_within = h.are_within; are_lines = h.are_lines; goes_on = h.goes_on }
  Fits-as ending.WriteFault left read told h = record {
    taken = h.taken;
    last = h.last;
    text = h.text;
    last_text = h.last_text;
    mid = part h.mid;
    end = part h.end;
    ran_first = to h.taken h.text h.mid h.ran_first;
    ran_all = to (h.taken ++ h.last) (h.text ++ h.last_text) h.end h.ran_all;
    at_most_one = h.at_most_one;
    are_within = h.are_within;
    have_come = h.have_come;
    front = h.front;
    little = h.little;
    stands = λ none. ap part (h.stands none);
  }
  Fits-as ending.NoMemory left read told h = record {
    taken = h.taken;
    text = h.text;
    ran_so = Stands-as left read h.taken h.text h.ran_so;
    are_within = h.are_within;
    have_come = h.have_come;
    front = h.front;
    little = h.little;
  }
  Fits-as ending.DiskFault left read told h = Halted-as DiskFault left read told h
  Fits-as (ending.DiskRefused reason) left read told h = Halted-as (DiskRefused reason) left read told h
  Fits-as (ending.Worn generation) left read told h = Halted-as (Worn generation) left read told h
  Fits-as ending.Usage left read told h = absurd h
  Fits-as (ending.BadPcap place reason) left read told h = absurd h

  -- what a run leaves, said of a part of the work as well
  pub Leaves-as : (status : Status) (left left' written written' : Option (List ℕ)) → Leaves ran halts held new status left left' written written' → Leaves ran' halts' held (part new) status left left' written written'
  Leaves-as status left left' written written' h = record { read = h.read; written = h.written; consumed = h.consumed; appended = h.appended; fits = Fits-as status left' h.read h.written h.fits }

module _ {S : Type 0} (ran ran' : List (List ℕ) → List ℕ → S → Type 0) (halts halts' : List (List ℕ) → List ℕ → List ℕ → Halt → S → Type 0) (held : ℕ) (new : S)
    (to : (ended : List (List ℕ)) (text : List ℕ) (s : S) → ran ended text s → ran' ended text s)
    (halting : (ended : List (List ℕ)) (text line : List ℕ) (halt : Halt) → halts ended text line halt new → halts' ended text line halt new) where
  pub Leaves-map : (status : Status) (left left' written written' : Option (List ℕ)) → Leaves ran halts held new status left left' written written' → Leaves ran' halts' held new status left left' written written'
  Leaves-map = Leaves-as (λ (s : S). s) ran ran' halts halts' held new to halting

-- a count that is one more rose
pub rose : (before after : ℕ) → after ≡ one_more before → Rose before after
rose before after e = rw e (omega arith)

narrow-at : (ended : List (List ℕ)) (line : List ℕ) (others : List (List ℕ)) → AreNarrow (ended ++ line ∷ others) → length line ≤ 1024
narrow-at [] line others h = h 0 [] (omega arith)
narrow-at (x ∷ ended) line others h = narrow-at ended line others (λ k d b. h (suc k) d (omega arith))

-- no line is beyond the limits
pub unbeyond : (ended : List (List ℕ)) (line : List ℕ) (others all : List (List ℕ)) → all ≡ ended ++ line ∷ others → AreWithin all → IsBeyond (length ended) line → ⊥
unbeyond ended line others all e within (inl many) =
    let longer = length-append ended (line ∷ others) in
    let few : length (ended ++ line ∷ others) ≤ 1000000 = subst (λ (ls : List (List ℕ)). length ls ≤ 1000000) e within.0 in
    omega (arith, longer, few, many)
unbeyond ended line others all e within (inr wide) =
    let narrow = narrow-at ended line others (subst (λ (ls : List (List ℕ)). AreNarrow ls) e within.1) in
    omega (arith, narrow, wide)

module _ {S : Type 0} (ran : List (List ℕ) → List ℕ → S → Type 0) (halts : List (List ℕ) → List ℕ → List ℕ → Halt → S → Type 0) (held : ℕ) (new : S) where
  -- what is settled is so of the whole input
  settled : (left : Option (List ℕ)) (input read : List ℕ) (Asked : List (List ℕ) → Type 0) → Consumes (Some input) left read → Settles left read Asked → Asked (lines input)
  settled None input read Asked c h = absurd c
  settled (Some left) input read Asked c (inl always) = rw c (always left)
  settled (Some left) input read Asked c (inr end) = rw (c, end.0, append-nil read) end.1

  -- Where the lines of the whole input are within the limits and none stops the work but for want of memory, and no count of faults
  -- rises, the run is done, or memory wasn't found.
  pub completes : (status : Status) (left left' written written' : Option (List ℕ)) (a b c d : ℕ) (input : List ℕ) → left ≡ Some input
      → Leaves ran halts held new status left left' written written' → Counts status a b c d
      → ((ended : List (List ℕ)) (line : List ℕ) → Next ended line (lines input) → IsBeyond (length ended) line → ⊥)
      → ((ended : List (List ℕ)) (text line : List ℕ) (halt : Halt) → Next ended line (lines input) → halts ended text line halt new → halt ≡ NoMemory)
      → (Rose a b → ⊥) → (Rose c d → ⊥) → (status ≡ ending.Done) ⊎ (status ≡ ending.NoMemory)
  completes ending.Done left left' written written' a b c d input e h k narrow goes no_read no_write = inl refl
  completes ending.NoMemory left left' written written' a b c d input e h k narrow goes no_read no_write = inr refl
  completes (ending.BadLine line reason) left left' written written' a b c d input e h k narrow goes no_read no_write =
      let none : Bad reason ≡ NoMemory = goes h.fits.0.taken h.written h.fits.0.line (Bad reason) (settled left' input h.read (Next h.fits.0.taken h.fits.0.line) (rw e at h.consumed) h.fits.0.next) h.fits.0.halted in absurd cc
  completes ending.TooLong left left' written written' a b c d input e h k narrow goes no_read no_write =
      let next = settled left' input h.read (NextBeyond h.fits.taken) (rw e at h.consumed) h.fits.next in
      absurd (narrow h.fits.taken next.0 next.1 next.2)
  completes ending.ReadFault left left' written written' a b c d input e h k narrow goes no_read no_write = absurd (no_read (rose a b k.0))
  completes ending.WriteFault left left' written written' a b c d input e h k narrow goes no_read no_write = absurd (no_write (rose c d k.1))
  completes ending.Usage left left' written written' a b c d input e h k narrow goes no_read no_write = absurd h.fits
  completes (ending.BadPcap place reason) left left' written written' a b c d input e h k narrow goes no_read no_write = absurd h.fits
  completes ending.DiskFault left left' written written' a b c d input e h k narrow goes no_read no_write =
      let none : DiskFault ≡ NoMemory = goes h.fits.taken h.written h.fits.line DiskFault (settled left' input h.read (Next h.fits.taken h.fits.line) (rw e at h.consumed) h.fits.next) h.fits.halted in absurd cc
  completes (ending.DiskRefused reason) left left' written written' a b c d input e h k narrow goes no_read no_write =
      let none : DiskRefused reason ≡ NoMemory = goes h.fits.taken h.written h.fits.line (DiskRefused reason) (settled left' input h.read (Next h.fits.taken h.fits.line) (rw e at h.consumed) h.fits.next) h.fits.halted in absurd cc
  completes (ending.Worn generation) left left' written written' a b c d input e h k narrow goes no_read no_write =
      let none : Worn generation ≡ NoMemory = goes h.fits.taken h.written h.fits.line (Worn generation) (settled left' input h.read (Next h.fits.taken h.fits.line) (rw e at h.consumed) h.fits.next) h.fits.halted in absurd cc
