-- What comes of an input, line by line.
use Rattle.std.specs.Prelude.{ℕ, ◌+◌, ◌||◌, nat_lt, if◌then◌else◌, List, [], ◌∷◌, ◌++◌, length, Option, Some, None}
use Rattle.std.specs.Str.Lines.{lines}
use Rattle.gp_script.specs.declared.reason.LineReason.TheVariants.{Form}
use Rattle.gp_lines.specs.Lines.{line_limit, width_limit}
use Rattle.gp_lines.specs.declared.status.Status.{Status}
use Rattle.gp_lines.specs.declared.status.Status.TheVariants.{Done, BadLine, TooLong}

-- what is written, and the status at the end
pub record Outcome : Type 0 where
  pub text : List ℕ
  pub status : Status

-- an outcome after text that was written before
abbrev pub after : List ℕ → Outcome → Outcome
after text outcome = record outcome { text = text ++ outcome.text }

-- a line that is listed is written with an LF, and the others come behind it; one that isn't is the first bad line
abbrev pub then_lines : Option (List ℕ) → ℕ → Outcome → Outcome
then_lines None number others = record { text = []; status = BadLine number Form }
then_lines (Some text) number others = after (text ++ 10 ∷ []) others

-- what comes of lines, the first of them with this number
unfoldable pub outcome_of : (List ℕ → Option (List ℕ)) → ℕ → List (List ℕ) → Outcome
outcome_of listing number [] = record { text = []; status = Done }
outcome_of listing number (line ∷ others) =
    if nat_lt line_limit number || nat_lt width_limit (length line)
    then record { text = []; status = TooLong }
    else then_lines (listing line) number (outcome_of listing (number + 1) others)

-- what comes of an input. Its lines end with LF, before which a CR is dropped; a last line without LF counts where it isn't empty
abbrev pub outcome : (List ℕ → Option (List ℕ)) → List ℕ → Outcome
outcome listing input = outcome_of listing 1 (lines input)
