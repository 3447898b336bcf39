-- What comes of an event in which a running sink takes part.
use Rattle.std.proofs.Common.{◌≡◌, ◌∙◌, ℕ, ◌-◌, ◌<◌, ◌^◌, Bool, false, List, [], ◌∷◌, Option, Some, None, Result, Ok, Err, refl, sym, ap, subst, arith}
use Rattle.gp_disk.specs.declared.memory.MemoryDisk.{MemoryDisk}
use Rattle.gp_disk.specs.Fuse.{is_due, has_stopped}
use Rattle.gp_disk.specs.Memory.{memory_fuse}
use Rattle.gp_script.specs.declared.report.Report.TheVariants as reports
use Rattle.gp_ideal.specs.declared.ledger.Change.{Change}
use Rattle.gp_translate.specs.declared.rule.Rule.{Rule}
use Rattle.gp_commission.specs.declared.offer.Offer.{Offer}
use Rattle.gp_ideal.specs.declared.config.Config.{Config}
use Rattle.gp_ideal.specs.Heard.{heard}
use Rattle.gp_ideal.specs.Paired.{paired}
use Rattle.gp_ideal.specs.Verdict.{Ruling}
use Rattle.gp_ideal.specs.Verdict as verdicts
use Rattle.gp_sink.specs.declared.verdict.Verdict.{Verdict}
use Rattle.gp_sink.specs.declared.verdict.SinkFault.{SinkFault}
use Rattle.gp_sink.specs.declared.verdict.SinkFault.TheVariants as faults
use Rattle.gp_sink.specs.Fits.{Fits}
use Rattle.gp_sink.specs.Sink.{SinkState, IfHalted, Answers, Comes as SinkComes}
use Rattle.gp_sink.specs.Verdict.{verdict_of, offered}
use Rattle.gp_world.specs.Power.{effected, passed, at_running}
use Rattle.gp_world.specs.Sinks.{ruled, sink_hears, sink_pairs, verdict_reports, verdict_puts}
use Rattle.gp_world.specs.World.{Effect, IsSink, Out, out, Phase, Runs, Dark, Halted}
use Rattle.gp_world.specs.World as ideal
use Rattle.gp_power.specs.declared.answer.Answer.{Answer}
use Rattle.gp_power.specs.declared.answer.Answer.TheVariants as answers
use Rattle.gp_power.specs.declared.power.Powered.{Powered}
use Rattle.gp_power.specs.declared.power.Supply.{Supply}
use Rattle.gp_power.specs.declared.power.Supply.TheVariants.{On, Off, Moved}
use Rattle.gp_power.specs.Stands.{RunsAs, IsHaltedAs, StandsIn, IsSetUp, rules_of}
use Rattle.gp_power.specs.Said.{says_of, puts_of}
use Rattle.gp_power.specs.Comes.{Outcome, Comes}
use Rattle.gp_power.specs.Few.{AreFew, IsSupplyBelow}
use Rattle.gp_power.specs.Inside.{in_memory, IsAfter, is_cut, said_by}
use Rattle.gp_power.proofs.Fuses.{not_due}
use Rattle.gp_power.proofs.Standing.{stands_on, restated, settled}
use Rattle.gp_power.proofs.Committing.{change_comes}

-- a ruling of a running sink
ruling_comes : (ideal_sink : ideal.Sink) (armed : ideal.Armed) (verdict : verdicts.Verdict) (change : Option Change) (was sink : SinkState MemoryDisk) (answer : Result Verdict SinkFault) (new : Powered) (said : Answer) (took : Option Bool)
    → new.config ≡ ideal_sink.config → was.config ≡ ideal_sink.config → was.rules ≡ ideal_sink.rules → RunsAs ideal_sink.ledger armed was.store → was.store.last < 2 ^ 64 - 1
    → Answers in_memory ideal_sink.ledger verdict change was sink answer → IsAfter sink answer new.supply said took
    → Outcome (λ bit. effected (record { sink = ideal_sink; armed = armed; phase = Runs }) bit (ruled ideal_sink (record { verdict = verdict; change = change }))) (says_of said) (puts_of said) new took
unfolding effected passed ruled
ruling_comes ideal_sink armed verdict (Some change) was sink answer new said took config set_up rules runs room m a = change_comes ideal_sink armed change verdict was sink new said took config set_up rules runs room answer m a
ruling_comes ideal_sink armed verdict None was sink (Err fault) new said took config set_up rules runs room m a = let no = m.0 in absurd cc
ruling_comes ideal_sink armed verdict None was sink (Ok v) new said took config set_up rules runs room m a =
    let same : sink ≡ was = m.1 in
    let is : verdict_of v ≡ verdict = let both = m.0 in cc in
    let quiet = a.stays (ap (λ (s : SinkState MemoryDisk). is_due (memory_fuse s.store.disk)) same ∙ ap is_due runs.fuse ∙ not_due armed) in
    let next : ideal.Powered = record { sink = ideal_sink; armed = armed; phase = Runs } in
    settled (λ bit. effected (record { sink = ideal_sink; armed = armed; phase = Runs }) bit (ruled ideal_sink (record { verdict = verdict; change = None }))) (says_of said) (puts_of said) new took next refl
    (stands_on new sink next config quiet.0 (ap (λ (s : SinkState MemoryDisk). s.config) same ∙ set_up) (ap (λ (s : SinkState MemoryDisk). s.rules) same ∙ rules) (subst (λ (s : SinkState MemoryDisk). RunsAs ideal_sink.ledger armed s.store) (sym same) runs))
    (ap verdict_reports (sym is) ∙ ap says_of (sym quiet.1)) (ap verdict_puts (sym is) ∙ ap puts_of (sym quiet.1)) refl refl quiet.2

-- a sink without power, whatever the event
pub dark_comes : (event : ideal.Sink → Effect) (old new : Powered) → ((sink : SinkState MemoryDisk) → old.supply ≡ On sink → ⊥) → new.config ≡ old.config → new.supply ≡ old.supply → Comes (at_running event) (reports.Dark ∷ []) [] old new None
unfolding at_running
dark_comes event old new off config supply model h = by model.phase refl old.supply refl h.phase
  where
    by : (phase : Phase) → model.phase ≡ phase → (s : Supply) → old.supply ≡ s → StandsIn phase model.sink.ledger model.armed s → Outcome (λ bit. at_running event bit model) (reports.Dark ∷ []) [] new None
    by Dark e s is st = settled (λ bit. at_running event bit model) (reports.Dark ∷ []) [] new None model (rw e refl) (restated old new model config supply h) (rw e refl) (rw e refl) (rw e refl) (rw e refl) refl
    by Runs e (On sink) is st = absurd (off sink is)
    by Runs e (Off rules disk) is st = absurd st
    by Runs e Moved is st = absurd st
    by (Halted change) e (On sink) is st = absurd (off sink is)
    by (Halted change) e (Off rules disk) is st = absurd st
    by (Halted change) e Moved is st = absurd st

-- a sink with power that gives this answer to an event which is a ruling
pub answer_comes : (event : ideal.Sink → Effect) (old new : Powered) (was sink : SinkState MemoryDisk) (answer : Result Verdict SinkFault) (said : Answer) (took : Option Bool)
    → old.supply ≡ On was → new.config ≡ old.config → was.store.last < 2 ^ 64 - 1 → IsAfter sink answer new.supply said took
    → ((model : ideal.Sink) → was.config ≡ model.config → was.rules ≡ model.rules → Fits was.store.rows model.ledger → (ruling : Ruling) × (event model ≡ ruled model ruling) × SinkComes in_memory model.ledger ruling was sink answer)
    → Comes (at_running event) (says_of said) (puts_of said) old new took
unfolding at_running
answer_comes event old new was sink answer said took on same_config room a rules model h = by model.phase refl (subst (λ (s : Supply). StandsIn model.phase model.sink.ledger model.armed s) on h.phase)
  where
    config : new.config ≡ model.sink.config
    config = same_config ∙ h.config

    set_up : was.config ≡ model.sink.config
    set_up = subst (IsSetUp old.config) on h.set_up ∙ h.config

    own_rules : was.rules ≡ model.sink.rules
    own_rules = sym (ap rules_of on) ∙ h.rules

    halts : (change : Change) → IsHaltedAs model.sink.ledger change model.armed was.store → (answer ≡ Err faults.Halted) × (sink ≡ was) → Outcome (λ bit. out (IsSink (record model { phase = Halted change })) (reports.Halted ∷ [])) (says_of said) (puts_of said) new took
    halts change s is =
        let stopped : is_cut answer (memory_fuse sink.store.disk) ≡ false = ap (λ (r : Result Verdict SinkFault). is_cut r (memory_fuse sink.store.disk)) is.0 ∙ ap (λ (x : SinkState MemoryDisk). has_stopped (memory_fuse x.store.disk)) is.1 ∙ ap has_stopped s.fuse in
        let quiet = a.stays stopped in
        let said_is : said ≡ answers.Other reports.Halted = quiet.1 ∙ ap said_by is.0 in
        let next : ideal.Powered = record model { phase = Halted change } in
        settled (λ bit. out (IsSink (record model { phase = Halted change })) (reports.Halted ∷ [])) (says_of said) (puts_of said) new took next refl
        (stands_on new sink next config quiet.0 (ap (λ (x : SinkState MemoryDisk). x.config) is.1 ∙ set_up) (ap (λ (x : SinkState MemoryDisk). x.rules) is.1 ∙ own_rules) (subst (λ (x : SinkState MemoryDisk). IsHaltedAs model.sink.ledger change model.armed x.store) (sym is.1) s))
        (ap says_of (sym said_is)) (ap puts_of (sym said_is)) refl refl quiet.2

    by : (phase : Phase) → model.phase ≡ phase → StandsIn phase model.sink.ledger model.armed (On was) → Outcome (λ bit. at_running event bit model) (says_of said) (puts_of said) new took
    by Dark e s = absurd s
    by (Halted change) e s =
        let r = rules model.sink set_up own_rules s.undecided.before in
        let is = subst (λ (b : Bool). IfHalted b ((answer ≡ Err faults.Halted) × (sink ≡ was)) (Answers in_memory model.sink.ledger r.0.verdict r.0.change was sink answer)) s.halted r.2 in
        subst (λ (p : Phase). Outcome (λ bit. at_running event bit (record model { phase = p })) (says_of said) (puts_of said) new took) (sym e) (halts change s is)
    by Runs e s =
        let r = rules model.sink set_up own_rules s.fits in
        let is = subst (λ (b : Bool). IfHalted b ((answer ≡ Err faults.Halted) × (sink ≡ was)) (Answers in_memory model.sink.ledger r.0.verdict r.0.change was sink answer)) s.running r.2 in
        subst (λ (p : Phase). Outcome (λ bit. at_running event bit (record model { phase = p })) (says_of said) (puts_of said) new took) (sym e)
        (subst (λ (x : Effect). Outcome (λ bit. effected (record { sink = model.sink; armed = model.armed; phase = Runs }) bit x) (says_of said) (puts_of said) new took) (sym r.1)
        (ruling_comes model.sink model.armed r.0.verdict r.0.change was sink answer new said took config set_up own_rules s room is a))

-- there is room for one generation more
room_of : (old : Powered) (was : SinkState MemoryDisk) → old.supply ≡ On was → AreFew (2 ^ 64 - 2) old → was.store.last < 2 ^ 64 - 1
room_of old was on few = let b = subst (IsSupplyBelow (2 ^ 64 - 2)) on few in let most = b.last in omega arith

-- a frame reaches it
pub heard_comes : (octets : List ℕ) (old new : Powered) (was sink : SinkState MemoryDisk) (answer : Result Verdict SinkFault) (said : Answer) (took : Option Bool)
    → old.supply ≡ On was → new.config ≡ old.config → AreFew (2 ^ 64 - 2) old → IsAfter sink answer new.supply said took
    → ((ledger : List Change) → Fits was.store.rows ledger → SinkComes in_memory ledger (heard was.rules ledger octets) was sink answer)
    → Comes (at_running (sink_hears octets)) (says_of said) (puts_of said) old new took
unfolding sink_hears
heard_comes octets old new was sink answer said took on same_config few a comes =
    answer_comes (sink_hears octets) old new was sink answer said took on same_config (room_of old was on few) a
    (λ model config rules fits. (heard model.rules model.ledger octets, refl, subst (λ (r : List Rule). SinkComes in_memory model.ledger (heard r model.ledger octets) was sink answer) rules (comes model.ledger fits)))

-- it is to pair a device
pub paired_comes : (offer : Offer) (old new : Powered) (was sink : SinkState MemoryDisk) (answer : Result Verdict SinkFault) (said : Answer) (took : Option Bool)
    → old.supply ≡ On was → new.config ≡ old.config → AreFew (2 ^ 64 - 2) old → IsAfter sink answer new.supply said took
    → ((ledger : List Change) → Fits was.store.rows ledger → SinkComes in_memory ledger (paired was.config ledger (offered was.config offer) offer.counter) was sink answer)
    → Comes (at_running (λ model. sink_pairs (offered model.config offer) offer.counter model)) (says_of said) (puts_of said) old new took
unfolding sink_pairs
paired_comes offer old new was sink answer said took on same_config few a comes =
    answer_comes (λ model. sink_pairs (offered model.config offer) offer.counter model) old new was sink answer said took on same_config (room_of old was on few) a
    (λ model config rules fits. (paired model.config model.ledger (offered model.config offer) offer.counter, refl, subst (λ (x : Config). SinkComes in_memory model.ledger (paired x model.ledger (offered x offer) offer.counter) was sink answer) config (comes model.ledger fits)))
