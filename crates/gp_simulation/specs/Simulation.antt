-- One line of a script on a world. No clause of a public call cites this file: nothing in it has to be believed.
use Rattle.std.specs.Prelude.{◌≡◌, ℕ, Bool, List, ◌++◌, Some, Ok}
use Rattle.gp_script.specs.declared.script.Event.{Event}
use Rattle.gp_lines.specs.declared.work.Halt.{Halt}
use Rattle.gp_lines.specs.declared.work.Halt.TheVariants.{Bad, NoMemory}
use Rattle.gp_world.specs.Run.{IsRight, bit_taken}
use Rattle.gp_world.specs.Step.{step}
use Rattle.gp_world.specs.World.{World, Next}
use Rattle.gp_simulation.specs.Playing.{asked, refusal}
use Rattle.gp_telling.specs.Texts.{report_text}

module _ {W : Type 0} (Stands : W → World → Type 0) (bits : W → List Bool) where
  -- the line is one step of the ideal world, by a bit that is right: the text is that of its entries, and the world stands for the next one
  pub record Steps (model : World) (number : ℕ) (event : Event) (text : List ℕ) (old new : W) : Type 0 where
    pub bit : Bool
    pub next : Next
    pub steps : step model number event bit ≡ Ok next
    pub right : IsRight next.choice bit
    pub takes : bits new ≡ bits old ++ bit_taken next.choice bit
    pub text_is : text ≡ report_text next.told
    pub stands : Stands new next.world

  -- the line is one step of each ideal world that the world stands for
  abbrev pub Goes : W → ℕ → List ℕ → List ℕ → W → Type 0
  Goes old number line text new =
      (event : Event) × (asked line ≡ Some event) × ((model : World) → Stands old model → Steps model number event text old new)

  -- or each refuses it, and the world still stands for it, with the same bits; or memory wasn't found
  abbrev pub Stops : W → ℕ → List ℕ → Halt → W → Type 0
  Stops old number line (Bad reason) new = (model : World) → Stands old model → (refusal model number (asked line) ≡ Some reason) × Stands new model × (bits new ≡ bits old)
  Stops old number line NoMemory new = Unit {0}
  Stops old number line other new = ⊥
