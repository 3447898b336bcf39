-- The report of a script, by the definitions alone.
use Rattle.std.specs.Prelude.{ℕ, suc, Bool, List, [], ◌∷◌, ◌++◌, map, Option, Some, None, option_map}
use Rattle.gp_base.specs.Table.{let_else, let_ok}
use Rattle.gp_script.specs.Report.{text_of}
use Rattle.gp_script.specs.Script.{event_of}
use Rattle.gp_world.specs.Step.{step}
use Rattle.gp_world.specs.World.{World}

-- The lines of a script from this world on, and the lines of its report; none where a line is refused. The bit is that of each
-- change whose commit doesn't come to its end.
unfoldable pub reported : Bool → World → ℕ → List (List ℕ) → Option (List (List ℕ))
reported bit world number [] = Some []
reported bit world number (line ∷ lines) =
    let_else (event_of line) None (λ event.
    let_ok (step world number event bit) (λ reason. None) (λ next.
    option_map (λ others. map text_of next.told ++ others) (reported bit next.world (suc number) lines)))
