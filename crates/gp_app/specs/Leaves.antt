-- What a run leaves, by its status.
use Rattle.std.specs.Prelude.{◌≡◌, ℕ, ◌⊎◌, List, ◌++◌, Option, Some}
use Rattle.std.specs.Io.KnownBytes.{Appends, Consumes, IsAtEnd}
use Rattle.gp_base.specs.Outside.{Rose}
use Rattle.gp_lines.specs.declared.status.Status.{Status}
use Rattle.gp_lines.specs.declared.status.Status.TheVariants.{Done, BadLine, ReadFault, WriteFault, NoMemory, TooLong}
use Rattle.gp_lines.specs.Lines.{complete}
use Rattle.gp_lines.specs.Leaves.{IsFront}
use Rattle.gp_app.specs.Outcome.{Outcome, outcome}

-- the octets that were read settle the outcome, whatever would come after them
abbrev pub Settles : (List ℕ → Option (List ℕ)) → List ℕ → Outcome → Type 0
Settles listing read settled = (rest : List ℕ) → outcome listing (read ++ rest) ≡ settled

-- the octets that were read decide the outcome: they settle it, or none is left
abbrev pub Decides : (List ℕ → Option (List ℕ)) → Option (List ℕ) → List ℕ → Outcome → Type 0
Decides listing left read decided = Settles listing read decided ⊎ (IsAtEnd left × (outcome listing read ≡ decided))

-- Every line that stands complete is listed, and what would come after the octets that were read counts.
abbrev pub IsOpen : (List ℕ → Option (List ℕ)) → List ℕ → List ℕ → Type 0
IsOpen listing read written =
    (outcome listing (complete read) ≡ record { text = written; status = Done }) × ((settled : Outcome) → Settles listing read settled → ⊥)

-- A front of the text of the lines that were read: those that stand complete, and where none is left the last one too.
abbrev pub IsPart : (List ℕ → Option (List ℕ)) → Option (List ℕ) → List ℕ → List ℕ → Type 0
IsPart listing left read written =
    IsFront written (outcome listing (complete read)).text ⊎ (IsAtEnd left × IsFront written (outcome listing read).text)

-- what was written, by the status: of what was read, and of what is left
abbrev pub Fits : (List ℕ → Option (List ℕ)) → Status → Option (List ℕ) → List ℕ → List ℕ → Type 0
Fits listing Done left read written = IsAtEnd left × (outcome listing read ≡ record { text = written; status = Done })
Fits listing (BadLine line reason) left read written = Decides listing left read (record { text = written; status = BadLine line reason })
Fits listing TooLong left read written = Decides listing left read (record { text = written; status = TooLong })
Fits listing ReadFault left read written = IsOpen listing read written
Fits listing WriteFault left read written = IsPart listing left read written
Fits listing NoMemory left read written = IsPart listing left read written
Fits listing _ left read written = ⊥

-- Some octets were read and some written, and they fit the status.
pub record Leaves (listing : List ℕ → Option (List ℕ)) (status : Status) (left_before left_after written_before written_after : Option (List ℕ)) : Type 0 where
  pub read : List ℕ
  pub written : List ℕ
  pub consumed : Consumes left_before left_after read
  pub appended : Appends written_before written_after written
  pub fits : Fits listing status left_after read written

-- Where every line of the whole input is listed and no count of faults rises, the run is done, or memory wasn't found.
abbrev pub Completes : (List ℕ → Option (List ℕ)) → Status → Option (List ℕ) → ℕ → ℕ → ℕ → ℕ → Type 0
Completes listing status left source_before source_after out_before out_after =
    (input : List ℕ) → left ≡ Some input → (outcome listing input).status ≡ Done →
    (Rose source_before source_after → ⊥) → (Rose out_before out_after → ⊥) → (status ≡ Done) ⊎ (status ≡ NoMemory)
