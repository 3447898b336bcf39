-- Tables of tests with what stands beside each, and a step that may give up.
use Rattle.std.specs.Prelude.{Bool, List, [], ◌∷◌, Option, Some, None, Result, Ok, Err, if◌then◌else◌}

-- what stands beside the first test that holds
abbrev pub first_of : {A : Type 0} → List (Bool × A) → Option A
first_of [] = None
first_of (line ∷ lines) = if line.0 then Some line.1 else first_of lines

-- what stands beside the first test that holds, and else what stands in the last line
abbrev pub by_table : {A : Type 0} → List (Bool × A) → A → A
by_table [] otherwise = otherwise
by_table (line ∷ lines) otherwise = if line.0 then line.1 else by_table lines otherwise

-- goes on with what is there, and else gives up with this answer
abbrev pub let_else : {A B : Type 0} → Option A → B → (A → B) → B
let_else None otherwise rest = otherwise
let_else (Some value) otherwise rest = rest value

-- goes on with the value, and else answers the error in its own way
abbrev pub let_ok : {A E B : Type 0} → Result A E → (E → B) → (A → B) → B
let_ok (Err error) refused rest = refused error
let_ok (Ok value) refused rest = rest value

-- the reason, or where there is none the value
abbrev pub answer : {A E : Type 0} → Option E → A → Result A E
answer None value = Ok value
answer (Some reason) value = Err reason

-- the first of two reasons
abbrev pub or_else : {A : Type 0} → Option A → Option A → Option A
or_else None second = second
or_else (Some first) second = Some first
