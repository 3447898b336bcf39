-- What a line of a script asks for can be played.
use Rattle.std.proofs.Common.{◌≡◌, refl}
use Rattle.gp_script.specs.declared.script.Action.{Action}
use Rattle.gp_script.specs.declared.script.Action.TheVariants as actions
use Rattle.gp_script.specs.declared.script.Event.{Event}
use Rattle.gp_script.specs.declared.script.Event.TheVariants.{Nothing, Line}
use Rattle.gp_world.specs.Run.{IsAsked}
use Rattle.gp_world.proofs.Asking.{ActionOctets, HasOctets, asked-octets}
use Rattle.gp_net.specs.Inside.{IsAction, IsAtSink, IsEvent}

action-fits : (action : Action) → ActionOctets action → IsAction action
action-fits (actions.Sink name address ieee mode channel link shared) h = tt
action-fits (actions.Device name source key kind level device counter) h = tt
action-fits (actions.Pair sink source key kind level device counter) h = tt
action-fits (actions.Rule sink source command endpoint form) h = tt
action-fits (actions.Announce sink source) h = tt
action-fits (actions.Table sink) h = tt
action-fits (actions.Press device command) h = (h.some, h.room)
action-fits (actions.Inject octets) h = tt
action-fits (actions.Hear frame node link) h = tt
action-fits (actions.Cut sink commit calls way) h = (h.0.0, h.0.1, h.1)
action-fits (actions.Fault sink commit calls) h = h
action-fits (actions.On sink) h = tt
action-fits (actions.OnCut sink calls way) h = h
action-fits (actions.Off sink) h = tt

event-fits : (event : Event) → HasOctets event → IsEvent event
event-fits Nothing h = tt
event-fits (Line reading action) h = action-fits action h

pub asked-fits : (event : Event) → IsAsked event → IsEvent event
asked-fits event asked = event-fits event (asked-octets asked.0 event asked.1)

-- what is asked of a sink is one of these
pub only_these : (action : Action) → IsAtSink action
    → ((a : _) (b : _) (c : _) (d : _) (e : _) (f : _) (g : _) → action ≡ actions.Pair a b c d e f g → ⊥)
    → ((a : _) (b : _) (c : _) (d : _) (e : _) → action ≡ actions.Rule a b c d e → ⊥)
    → ((a : _) (b : _) → action ≡ actions.Announce a b → ⊥)
    → ((a : _) (b : _) (c : _) (d : _) → action ≡ actions.Cut a b c d → ⊥)
    → ((a : _) (b : _) (c : _) → action ≡ actions.Fault a b c → ⊥)
    → ((a : _) → action ≡ actions.Off a → ⊥) → ⊥
only_these (actions.Pair a b c d e f g) k pair rule announce cut fault off = pair a b c d e f g refl
only_these (actions.Rule a b c d e) k pair rule announce cut fault off = rule a b c d e refl
only_these (actions.Announce a b) k pair rule announce cut fault off = announce a b refl
only_these (actions.Cut a b c d) k pair rule announce cut fault off = cut a b c d refl
only_these (actions.Fault a b c) k pair rule announce cut fault off = fault a b c refl
only_these (actions.Off a) k pair rule announce cut fault off = off a refl
only_these (actions.Sink a b c d e f g) k pair rule announce cut fault off = k
only_these (actions.Device a b c d e f g) k pair rule announce cut fault off = k
only_these (actions.Press a b) k pair rule announce cut fault off = k
only_these (actions.Inject a) k pair rule announce cut fault off = k
only_these (actions.Hear a b c) k pair rule announce cut fault off = k
only_these (actions.Table a) k pair rule announce cut fault off = k
only_these (actions.On a) k pair rule announce cut fault off = k
only_these (actions.OnCut a b c) k pair rule announce cut fault off = k
