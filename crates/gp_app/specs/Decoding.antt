-- Lines that are listed one after the other. No clause of a public call cites this file: nothing in it has to be believed.
use Rattle.std.specs.Prelude.{◌≡◌, ℕ, List, [], ◌∷◌, ◌++◌, Option, Some, None}
use Rattle.std.specs.Option.{IsSomeAnd, option_map}
use Rattle.gp_script.specs.declared.reason.LineReason.TheVariants.{Form}
use Rattle.gp_lines.specs.declared.work.Halt.{Halt}
use Rattle.gp_lines.specs.declared.work.Halt.TheVariants.{Bad, NoMemory}
use Rattle.gp_listing.specs.Form.{listing_of}
use Rattle.gp_app.specs.declared.decoding.Decoding.{Decoding}

-- the text of a line with an LF, and what the others give
abbrev pub listed_before : Option (List ℕ) → Option (List ℕ) → Option (List ℕ)
listed_before None others = None
listed_before (Some text) others = option_map (λ more. (text ++ 10 ∷ []) ++ more) others

-- lines are listed one after the other, each with an LF: all of them, or none
abbrev pub listed : (List ℕ → Option (List ℕ)) → List (List ℕ) → Option (List ℕ)
listed listing [] = Some []
listed listing (line ∷ lines) = listed_before (listing line) (listed listing lines)

-- these lines are listed so
abbrev pub IsListed : {S : Type 0} → (List ℕ → Option (List ℕ)) → List (List ℕ) → List ℕ → S → Type 0
IsListed listing lines text state = listed listing lines ≡ Some text

-- a line has no form, or memory wasn't found
abbrev pub HasNoForm : (List ℕ → Option (List ℕ)) → List ℕ → Halt → Type 0
HasNoForm listing line (Bad reason) = (reason ≡ Form) × (listing line ≡ None)
HasNoForm listing line NoMemory = Unit {0}
HasNoForm listing line _ = ⊥

-- behind listed lines this line stops the listing
abbrev pub IsUnlisted : {S : Type 0} → (List ℕ → Option (List ℕ)) → List (List ℕ) → List ℕ → List ℕ → Halt → S → Type 0
IsUnlisted listing lines text line halt state = (listed listing lines ≡ Some text) × HasNoForm listing line halt

-- one line is listed, with an LF
abbrev pub Goes : Decoding → List ℕ → List ℕ → Decoding → Type 0
Goes old line text new = (new ≡ old) × IsSomeAnd (listing_of old.form line) (λ listed. text ≡ listed ++ 10 ∷ [])

-- or it has no form, or memory wasn't found
abbrev pub Stops : Decoding → List ℕ → Halt → Decoding → Type 0
Stops old line halt new = (new ≡ old) × HasNoForm (listing_of old.form) line halt
