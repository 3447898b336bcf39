-- What an event makes of a node, in terms of the ideal one. No clause of a public call cites this file: nothing in it has to
-- be believed.
use Rattle.std.specs.Prelude.{◌≡◌, ℕ, Bool, true, false, List, [], ◌∷◌, Option, Some, None}
use Rattle.gp_cluster.specs.declared.message.Sent.{Sent}
use Rattle.gp_script.specs.declared.report.Report.{Report}
use Rattle.gp_script.specs.declared.report.Report.TheVariants.{End}
use Rattle.gp_world.specs.Power.{lists}
use Rattle.gp_world.specs.Run.{IsRight}
use Rattle.gp_world.specs.World as ideal
use Rattle.gp_world.specs.World.{Choice, Fixed, Free, Made, as_sink, as_device}
use Rattle.gp_net.specs.declared.node.Kind.{Kind}
use Rattle.gp_telling.specs.declared.telling.Telling.{Telling}
use Rattle.gp_net.specs.Nodes.{IsKindOf, armed_so}
use Rattle.gp_telling.specs.Telling.{Said}

-- The node stands for that of the ideal event, which has these reports, messages and frames.
pub record Makes (out : ideal.Out) (node : Kind) (says : List Report) (puts : List Sent) (airs : List (List ℕ)) : Type 0 where
  pub stands : IsKindOf node out.node
  pub says_are : out.says ≡ says
  pub puts_are : out.puts ≡ puts
  pub airs_are : out.airs ≡ airs

-- the bit that an event takes, where it takes one
abbrev pub bit_told : Choice → Bool → Option Bool
bit_told Fixed bit = None
bit_told Free bit = Some bit
bit_told Made bit = Some bit

-- The same, by a bit: it is right, and where it is no the node doesn't stand for what the event makes with yes.
pub record MakesBy (event : Bool → ideal.Out) (node : Kind) (says : List Report) (puts : List Sent) (airs : List (List ℕ)) (took : Option Bool) : Type 0 where
  pub bit : Bool
  pub makes : Makes (event bit) node says puts airs
  pub takes : took ≡ bit_told (event bit).choice bit
  pub right : IsRight (event bit).choice bit
  pub exact : took ≡ Some false → IsKindOf node (event true).node → ⊥

-- an event of a sink
abbrev pub MakesAtSink : (Bool → ideal.Powered → ideal.Out) → Kind → Kind → List Report → List Sent → Option Bool → Type 0
MakesAtSink event old new says puts took = (model : ideal.Kind) → IsKindOf old model
    → (powered : ideal.Powered) × (as_sink model ≡ Some powered) × MakesBy (λ bit. event bit powered) new says puts [] took

-- an event of a device
abbrev pub MakesAtDevice : {T : Type 0} → (T → List Report) → (T → List (List ℕ)) → (ideal.Device → ideal.Out) → Kind → Kind → T → Type 0
MakesAtDevice {T} says airs event old new answer = (model : ideal.Kind) → IsKindOf old model
    → (device : ideal.Device) × (as_device model ≡ Some device) × Makes (event device) new (says answer) [] (airs answer) × ((event device).choice ≡ Fixed)

-- a switch of a sink, which takes no bit
abbrev pub SwitchesSink : (ideal.Powered → ideal.Out) → Kind → Kind → Report → Type 0
SwitchesSink event old new report = (model : ideal.Kind) → IsKindOf old model
    → (powered : ideal.Powered) × (as_sink model ≡ Some powered) × Makes (event powered) new (report ∷ []) [] [] × ((event powered).choice ≡ Fixed)

-- another cut or fault may be armed
abbrev pub MayRearmKind : Kind → Kind → Type 0
MayRearmKind old new = (model : ideal.Kind) → IsKindOf old model → (armed : ideal.Armed) × IsKindOf new (armed_so armed model)

-- a press: the frame, or that no counter is left
abbrev pub says_pressed : Option (List ℕ) → List Report
says_pressed (Some octets) = []
says_pressed None = End ∷ []

abbrev pub airs_pressed : Option (List ℕ) → List (List ℕ)
airs_pressed (Some octets) = octets ∷ []
airs_pressed None = []

-- the rows that a sink lists are told, or that it has no power
abbrev pub ListsAtSink : List ℕ → Telling → Telling → Kind → ideal.Kind → Type 0
ListsAtSink name told_before told_after new model =
    (powered : ideal.Powered) × (as_sink model ≡ Some powered) × IsKindOf new (lists powered).node × Said (Some name) (lists powered).says told_before told_after
