-- What a node replies is what the ideal event makes of the ideal node.
use Rattle.std.proofs.Common.{◌≡◌, ◌⊎◌, ℕ, Bool, true, false, List, [], ◌∷◌, Option, Some, None, Result, Ok, Err, length, refl, sym, ◌∙◌, ap, subst, inl, inr}
use Rattle.std.specs.Prelude.{IfOk, IfSome, OnErr}
use Rattle.gp_cluster.specs.declared.message.Sent.{Sent}
use Rattle.gp_disk.specs.MemoryLaws.{memory_holds}
use Rattle.gp_script.specs.declared.report.Report.{Report}
use Rattle.gp_script.specs.declared.report.Report.TheVariants.{Closed}
use Rattle.gp_script.specs.declared.report.Report.TheVariants as reports
use Rattle.gp_ideal.specs.declared.ledger.Change.{Change}
use Rattle.gp_ideal.specs.Ledger.{rows}
use Rattle.gp_sink.specs.Fits.{ImageFits}
use Rattle.gp_sink.specs.Sink.{IsMessage}
use Rattle.gp_sink.specs.Verdict.{offered}
use Rattle.gp_world.specs.Devices.{device_hears}
use Rattle.gp_world.specs.Power.{Fate, Passes, CutAfter, Fails, fate, with_bit, committed, passed, settled_by, effected, by_phase, at_running, adds_rule, arms, turns_off, turns_on, flickers}
use Rattle.gp_world.specs.Sinks.{sink_hears, sink_pairs, sink_announces}
use Rattle.gp_world.specs.Step.{node_hears}
use Rattle.gp_world.specs.World as ideal
use Rattle.gp_world.specs.World.{IsSink, IsDevice}
use Rattle.gp_power.specs.declared.answer.Answer.{Answer}
use Rattle.gp_power.specs.declared.answer.Answer.TheVariants as answers
use Rattle.gp_power.specs.declared.power.Powered.{Powered}
use Rattle.gp_power.specs.declared.power.Supply.{Supply}
use Rattle.gp_power.specs.declared.power.Supply.TheVariants.{On, Off, Moved}
use Rattle.gp_power.specs.Comes.{Comes, Outcome, Decides, taken, leaves, ledger_of}
use Rattle.gp_power.specs.Said.{says_of, puts_of, says_announced, puts_announced, GivesSendable}
use Rattle.gp_power.specs.Stands.{StandsFor, StandsIn, StandsButArmed}
use Rattle.gp_net.specs.declared.device.Device.{Device}
use Rattle.gp_net.specs.declared.node.Kind.TheVariants as kinds
use Rattle.gp_net.specs.declared.reply.Request.{Request}
use Rattle.gp_net.specs.declared.reply.Request.TheVariants as requests
use Rattle.gp_net.specs.declared.reply.Switch.{Switch}
use Rattle.gp_net.specs.declared.reply.Switch.TheVariants as switches
use Rattle.gp_net.specs.Made.{MakesBy, MakesAtSink, SwitchesSink, MayRearmKind, bit_told}
use Rattle.gp_net.specs.Nodes.{IsKindOf}
use Rattle.gp_net.specs.Replies.{asked, switched, says, puts, reply_of, announced, IsReply}

same_taken : (c : ideal.Choice) (bit : Bool) → taken c bit ≡ bit_told c bit
same_taken ideal.Fixed bit = refl
same_taken ideal.Free bit = refl
same_taken ideal.Made bit = refl

-- ---- the bit

-- an event takes no bit whatever it is, or leaves the sink dark
abbrev Settling : (Bool → ideal.Out) → Type 0
Settling event = ((bit : Bool) → (event bit).choice ≡ ideal.Fixed) ⊎ ((bit : Bool) → (p : ideal.Powered) × ((event bit).node ≡ IsSink p) × (p.phase ≡ ideal.Dark))

befalls : (powered : ideal.Powered) (effect : ideal.Effect) (change : Change) (f : Fate) → Settling (λ bit. committed powered bit effect change f)
unfolding committed
befalls powered effect change Passes = inl (λ bit. refl)
befalls powered effect change (CutAfter calls) = inr (λ bit. (_, refl, refl))
befalls powered effect change Fails = inl (λ bit. refl)

effects : (powered : ideal.Powered) (effect : ideal.Effect) (change : Option Change) → Settling (λ bit. settled_by powered bit effect change)
unfolding passed
effects powered effect None = inl (λ bit. refl)
effects powered effect (Some change) = befalls powered effect change (fate powered.armed)

runs-settling : (event : ideal.Sink → ideal.Effect) (powered : ideal.Powered) → Settling (λ bit. at_running event bit powered)
unfolding at_running effected
runs-settling event powered = go powered.phase
  where
    go : (phase : ideal.Phase) → Settling (λ bit. by_phase phase (ideal.out (IsSink powered) (reports.Dark ∷ [])) (λ change. ideal.out (IsSink powered) (reports.Halted ∷ [])) (settled_by powered bit (event powered.sink) (event powered.sink).change))
    go ideal.Dark = inl (λ bit. refl)
    go (ideal.Halted change) = inl (λ bit. refl)
    go ideal.Runs = effects powered (event powered.sink) (event powered.sink).change

off-settling : (powered : ideal.Powered) → Settling (λ bit. turns_off bit powered)
unfolding turns_off
off-settling powered = go powered.phase
  where
    go : (phase : ideal.Phase) → Settling (λ bit. by_phase phase (ideal.out (IsSink powered) (reports.Dark ∷ []))
        (λ change. record (ideal.out (IsSink (record powered { sink = with_bit bit change powered.sink; phase = ideal.Dark })) (reports.Off ∷ [])) { choice = ideal.Free })
        (ideal.out (IsSink (record powered { phase = ideal.Dark })) (reports.Off ∷ [])))
    go ideal.Dark = inl (λ bit. refl)
    go (ideal.Halted change) = inr (λ bit. (_, refl, refl))
    go ideal.Runs = inl (λ bit. refl)

asked-settling : (request : Request) (powered : ideal.Powered) → Settling (λ bit. asked request bit powered)
unfolding adds_rule passed arms
asked-settling (requests.Pair offer) powered = runs-settling (λ sink. sink_pairs (offered sink.config offer) offer.counter sink) powered
asked-settling (requests.Announce source) powered = runs-settling (sink_announces source) powered
asked-settling (requests.Rule rule) powered = inl (λ bit. refl)
asked-settling (requests.Cut commit calls way) powered = inl (λ bit. refl)
asked-settling (requests.Fault commit calls) powered = inl (λ bit. refl)
asked-settling requests.Off powered = off-settling powered

-- a dark sink has a disk with an image, which fits the ledger
has_image : (supply : Supply) (ledger : List Change) (armed : ideal.Armed) → StandsIn ideal.Dark ledger armed supply → (c : List ℕ) × leaves supply c × ImageFits ledger c
has_image (On sink) ledger armed h = absurd h
has_image (Off rules disk) ledger armed h = let holds = memory_holds disk _ refl in (_, holds, h.images _ holds)
has_image Moved ledger armed h = absurd h

none_of : (c : ideal.Choice) (bit : Bool) → c ≡ ideal.Fixed → taken c bit ≡ None
none_of c bit e = ap (λ (c : ideal.Choice). taken c bit) e

decided : (event : Bool → ideal.Out) (says : List Report) (puts : List Sent) (new : Powered) (took : Option Bool) → Outcome event says puts new took → Settling event
    → took ≡ Some false → IsKindOf (kinds.Sink new) (event true).node → ⊥
decided event says puts new took o (inl fixed) is_no stands = let none = o.takes ∙ none_of (event o.bit).choice o.bit (fixed o.bit) in cc
decided event says puts new took o (inr dark) is_no stands =
    let d = dark true in
    let s : StandsFor new d.0 = subst (λ (k : ideal.Kind). IsKindOf (kinds.Sink new) k) d.1 stands in
    let image = has_image new.supply d.0.sink.ledger d.0.armed (subst (λ (phase : ideal.Phase). StandsIn phase d.0.sink.ledger d.0.armed new.supply) d.2 s.phase) in
    let decides : Decides event new.supply false = subst (λ (t : Option Bool). IfSome t (Decides event new.supply)) is_no o.decides in
    let fits : ImageFits (ledger_of (event true).node) image.0 = subst (λ (k : ideal.Kind). ImageFits (ledger_of k) image.0) (sym d.1) image.2 in
    let yes : false ≡ true = (decides image.0 image.1).1 fits in
    cc

-- ---- a sink

-- what comes of an event by the words of a sink with its power
made_by : (event : Bool → ideal.Out) (says : List Report) (puts : List Sent) (new : Powered) (took : Option Bool) → Outcome event says puts new took → Settling event → MakesBy event (kinds.Sink new) says puts [] took
made_by event says puts new took o s = record {
  bit = o.bit;
  makes = record { stands = subst (λ (k : ideal.Kind). IsKindOf (kinds.Sink new) k) (sym o.node) o.stands; says_are = o.says_are; puts_are = o.puts_are; airs_are = o.airs_are };
  takes = o.takes ∙ same_taken (event o.bit).choice o.bit;
  right = o.right;
  exact = decided event says puts new took o s;
}

pub hears_make : (octets : List ℕ) (old new : Powered) (says : List Report) (puts : List Sent) (took : Option Bool) → Comes (at_running (sink_hears octets)) says puts old new took
    → (model : ideal.Kind) → IsKindOf (kinds.Sink old) model → MakesBy (λ bit. node_hears octets bit model) (kinds.Sink new) says puts [] took
hears_make octets old new says puts took c (IsSink powered) h = made_by (λ bit. at_running (sink_hears octets) bit powered) says puts new took (c powered h) (runs-settling (sink_hears octets) powered)
hears_make octets old new says puts took c (IsDevice device) h = absurd h

pub asks_make : (request : Request) (old new : Powered) (says : List Report) (puts : List Sent) (took : Option Bool) → Comes (asked request) says puts old new took
    → MakesAtSink (asked request) (kinds.Sink old) (kinds.Sink new) says puts took
asks_make request old new says puts took c (IsSink powered) h = (powered, refl, made_by (λ bit. asked request bit powered) says puts new took (c powered h) (asked-settling request powered))
asks_make request old new says puts took c (IsDevice device) h = absurd h

switch-fixed : (switch : Switch) (powered : ideal.Powered) → (switched switch powered).choice ≡ ideal.Fixed
unfolding turns_on flickers
switch-fixed switches.On powered = go powered.phase
  where
    go : (phase : ideal.Phase) → (by_phase phase (ideal.out (IsSink (record powered { phase = ideal.Runs })) (reports.Up (length (rows powered.sink.ledger)) ∷ []))
        (λ change. ideal.out (IsSink powered) (reports.Running ∷ [])) (ideal.out (IsSink powered) (reports.Running ∷ []))).choice ≡ ideal.Fixed
    go ideal.Dark = refl
    go (ideal.Halted change) = refl
    go ideal.Runs = refl
switch-fixed (switches.Flicker calls way) powered = go powered.phase
  where
    go : (phase : ideal.Phase) → (by_phase phase (ideal.out (IsSink (record powered { armed = ideal.Unarmed })) (reports.Cut ∷ []))
        (λ change. ideal.out (IsSink powered) (reports.Running ∷ [])) (ideal.out (IsSink powered) (reports.Running ∷ []))).choice ≡ ideal.Fixed
    go ideal.Dark = refl
    go (ideal.Halted change) = refl
    go ideal.Runs = refl

pub switches_make : (switch : Switch) (old new : Powered) (report : Report) → Comes (λ bit. switched switch) (report ∷ []) [] old new None → SwitchesSink (switched switch) (kinds.Sink old) (kinds.Sink new) report
switches_make switch old new report c (IsSink powered) h =
    let o = c powered h in (
      powered,
      refl,
      record { stands = subst (λ (k : ideal.Kind). IsKindOf (kinds.Sink new) k) (sym o.node) o.stands; says_are = o.says_are; puts_are = o.puts_are; airs_are = o.airs_are },
      switch-fixed switch powered,
    )
switches_make switch old new report c (IsDevice device) h = absurd h

-- another cut or fault may be armed where memory wasn't found
pub armed_same : (old new : Powered) → ((model : ideal.Powered) → StandsFor old model → StandsFor new model) → MayRearmKind (kinds.Sink old) (kinds.Sink new)
armed_same old new s (IsSink powered) h = (powered.armed, s powered h)
armed_same old new s (IsDevice device) h = absurd h

pub armed_anew : (old new : Powered) → ((model : ideal.Powered) → StandsFor old model → StandsButArmed new model) → MayRearmKind (kinds.Sink old) (kinds.Sink new)
armed_anew old new s (IsSink powered) h = s powered h
armed_anew old new s (IsDevice device) h = absurd h

-- ---- a device

-- a device that hears a frame tells that it doesn't listen
pub closes : (octets : List ℕ) (device : Device) (model : ideal.Kind) → IsKindOf (kinds.Device device) model → MakesBy (λ bit. node_hears octets bit model) (kinds.Device device) (Closed ∷ []) [] [] None
unfolding device_hears
closes octets device (IsSink powered) h = absurd h
closes octets device (IsDevice model) h = record {
  bit = false;
  makes = record { stands = h; says_are = refl; puts_are = refl; airs_are = refl };
  takes = refl;
  right = tt;
  exact = λ some stands. absurd cc;
}

-- ---- replies

pub reply-says : (answer : Answer) → says (reply_of answer) ≡ says_of answer
reply-says (answers.Verdict verdict) = refl
reply-says (answers.Other report) = refl

pub reply-puts : (answer : Answer) → puts (reply_of answer) ≡ puts_of answer
reply-puts (answers.Verdict verdict) = refl
reply-puts (answers.Other report) = refl

pub reply-given : (answer : Answer) → GivesSendable answer → IsReply (reply_of answer)
reply-given (answers.Verdict verdict) h = h
reply-given (answers.Other report) h = tt

pub told-says : (answer : Result (Option Sent) Report) → says (announced answer) ≡ says_announced answer
told-says (Ok (Some sent)) = refl
told-says (Ok None) = refl
told-says (Err report) = refl

pub told-puts : (answer : Result (Option Sent) Report) → puts (announced answer) ≡ puts_announced answer
told-puts (Ok (Some sent)) = refl
told-puts (Ok None) = refl
told-puts (Err report) = refl

pub told-given : (answer : Result (Option Sent) Report) → IfOk answer (λ sent. IfSome sent IsMessage) → IsReply (announced answer)
told-given (Ok (Some sent)) h = h
told-given (Ok None) h = tt
told-given (Err report) h = tt

-- a fact of a refusal that holds in any case
pub on_err : {T E : Type 0} (result : Result T E) (P : Type 0) → P → OnErr result P
on_err (Ok value) P p = tt
on_err (Err error) P p = p
