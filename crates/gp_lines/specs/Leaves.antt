-- What a run over the lines of a source leaves, by its status: what was read, done and written.
use Rattle.std.specs.Prelude.{◌≡◌, ℕ, ◌+◌, ◌≤◌, ◌⊎◌, List, [], ◌∷◌, ◌++◌, length, Option}
use Rattle.std.specs.Str.Lines.{lines}
use Rattle.std.specs.Io.KnownBytes.{Appends, Consumes, IsAtEnd}
use Rattle.gp_base.specs.Outside.{one_more}
use Rattle.gp_lines.specs.declared.status.Status.{Status}
use Rattle.gp_lines.specs.declared.status.Status.TheVariants as ending
use Rattle.gp_lines.specs.declared.work.Halt.{Halt}
use Rattle.gp_lines.specs.declared.work.Halt.TheVariants.{Bad, DiskFault, DiskRefused, Worn, NoMemory}
use Rattle.gp_lines.specs.Lines.{complete, AreWithin, HasNoEnd, IsBeyond, IsWithin, MayGoOn}

-- the first text is a front of the second
abbrev pub IsFront : List ℕ → List ℕ → Type 0
IsFront front text = (rest : List ℕ) × (text ≡ front ++ rest)

-- of the octets that were read these lines stand complete, and this line has begun
abbrev pub AreLines : List ℕ → List (List ℕ) → List ℕ → Type 0
AreLines read taken begun =
    (lines (complete read) ≡ taken) × HasNoEnd begun × ((rest : List ℕ) → lines (read ++ rest) ≡ taken ++ lines (begun ++ rest))

-- The lines of the input are as asked, whatever comes after the octets that were read, or since none is left.
abbrev pub Settles : Option (List ℕ) → List ℕ → (List (List ℕ) → Type 0) → Type 0
Settles left read Asked = ((rest : List ℕ) → Asked (lines (read ++ rest))) ⊎ (IsAtEnd left × Asked (lines read))

-- behind these lines comes this one
abbrev pub Next : List (List ℕ) → List ℕ → List (List ℕ) → Type 0
Next taken line all = (others : List (List ℕ)) × (all ≡ taken ++ line ∷ others)

-- behind these lines comes one beyond the limits
abbrev pub NextBeyond : List (List ℕ) → List (List ℕ) → Type 0
NextBeyond taken all = (line : List ℕ) × Next taken line all × IsBeyond (length taken) line

-- the lines are the first of those
abbrev pub AreFirst : List (List ℕ) → List (List ℕ) → Type 0
AreFirst taken all = (others : List (List ℕ)) × (all ≡ taken ++ others)

-- the lines are the first of those that stand complete in what was read, or, where none is left, of all
abbrev pub HaveCome : Option (List ℕ) → List ℕ → List (List ℕ) → Type 0
HaveCome left read taken = AreFirst taken (lines (complete read)) ⊎ (IsAtEnd left × AreFirst taken (lines read))

-- What a work does from where it stood before: `ran` says that these lines give this text and leave it so, and `halts` that
-- behind these lines, which give this text, this line stops it for this cause and leaves it so. So many octets of text may
-- wait between two lines, and the work stands so afterwards.
module _ {S : Type 0} (ran : List (List ℕ) → List ℕ → S → Type 0) (halts : List (List ℕ) → List ℕ → List ℕ → Halt → S → Type 0) (held : ℕ) (new : S) where
  -- The work took these lines and stopped at the next; the text of those that it took is written.
  pub record Halted (halt : Halt) (left : Option (List ℕ)) (read written : List ℕ) : Type 0 where
    pub taken : List (List ℕ)
    pub line : List ℕ
    pub halted : halts taken written line halt new
    pub are_within : AreWithin taken
    pub next : Settles left read (Next taken line)
    pub within : IsWithin (length taken) line

  -- The work took these lines, whose text is written, and the next is one beyond the limits.
  pub record Exceeded (left : Option (List ℕ)) (read written : List ℕ) : Type 0 where
    pub taken : List (List ℕ)
    pub ran_so : ran taken written new
    pub are_within : AreWithin taken
    pub next : Settles left read (NextBeyond taken)

  -- The work took the lines that stand complete, whose text is written, and the line that has begun may go on.
  pub record BrokenOff (read written : List ℕ) : Type 0 where
    pub taken : List (List ℕ)
    pub begun : List ℕ
    pub ran_so : ran taken written new
    pub are_within : AreWithin taken
    pub are_lines : AreLines read taken begun
    pub goes_on : MayGoOn (length taken) begun

  -- The work took these lines and at most one more. A front of their text is written: of that of the first lines no more is
  -- missing than may wait. Where no text may wait the work stands as it does behind the last line.
  pub record Unwritten (left : Option (List ℕ)) (read written : List ℕ) : Type 0 where
    pub taken : List (List ℕ)
    pub last : List (List ℕ)
    pub text : List ℕ
    pub last_text : List ℕ
    pub mid : S
    pub end : S
    pub ran_first : ran taken text mid
    pub ran_all : ran (taken ++ last) (text ++ last_text) end
    pub at_most_one : length last ≤ 1
    pub are_within : AreWithin (taken ++ last)
    pub have_come : HaveCome left read (taken ++ last)
    pub front : IsFront written (text ++ last_text)
    pub little : length text ≤ length written + held
    pub stands : held ≡ 0 → new ≡ end

  -- Memory wasn't found before anything was read, or the work took these lines and didn't find it at the next. A front of their
  -- text is written: no more of it is missing than may wait.
  pub record OutOfMemory (left : Option (List ℕ)) (read written : List ℕ) : Type 0 where
    pub taken : List (List ℕ)
    pub text : List ℕ
    pub ran_so : ((read ≡ []) × (taken ≡ []) × ran taken text new)
        ⊎ ((line : List ℕ) × halts taken text line NoMemory new × Settles left read (Next taken line) × IsWithin (length taken) line)
    pub are_within : AreWithin taken
    pub have_come : HaveCome left read taken
    pub front : IsFront written text
    pub little : length text ≤ length written + held

  -- what was done and written, by the status: of what was read, and of what is left
  abbrev pub Fits : Status → Option (List ℕ) → List ℕ → List ℕ → Type 0
  Fits ending.Done left read written = IsAtEnd left × ran (lines read) written new × AreWithin (lines read)
  Fits (ending.BadLine line reason) left read written = (halted : Halted (Bad reason) left read written) × (line ≡ length halted.taken + 1)
  Fits ending.TooLong left read written = Exceeded left read written
  Fits ending.ReadFault left read written = BrokenOff read written
  Fits ending.WriteFault left read written = Unwritten left read written
  Fits ending.NoMemory left read written = OutOfMemory left read written
  Fits ending.DiskFault left read written = Halted DiskFault left read written
  Fits (ending.DiskRefused reason) left read written = Halted (DiskRefused reason) left read written
  Fits (ending.Worn generation) left read written = Halted (Worn generation) left read written
  Fits ending.Usage left read written = ⊥
  Fits (ending.BadPcap place reason) left read written = ⊥

  -- Some octets were read and some written, and they fit the status.
  pub record Leaves (status : Status) (left_before left_after written_before written_after : Option (List ℕ)) : Type 0 where
    pub read : List ℕ
    pub written : List ℕ
    pub consumed : Consumes left_before left_after read
    pub appended : Appends written_before written_after written
    pub fits : Fits status left_after read written

-- The count of the object that a fault names rose by one, and every other count stands.
abbrev pub Counts : Status → ℕ → ℕ → ℕ → ℕ → Type 0
Counts ending.ReadFault source_before source_after out_before out_after = (source_after ≡ one_more source_before) × (out_after ≡ out_before)
Counts ending.WriteFault source_before source_after out_before out_after = (source_after ≡ source_before) × (out_after ≡ one_more out_before)
Counts _ source_before source_after out_before out_after = (source_after ≡ source_before) × (out_after ≡ out_before)
