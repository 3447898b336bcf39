-- What comes of events that change no ledger: an announcement, and a rule.
use Rattle.std.proofs.Common.{◌≡◌, ◌∙◌, Bool, true, false, List, [], ◌∷◌, ◌++◌, Option, Some, None, Ok, refl, sym, ap, subst}
use Rattle.gp_base.specs.declared.identity.Src.{Src}
use Rattle.gp_cluster.specs.declared.message.Sent.{Sent}
use Rattle.gp_disk.specs.declared.memory.MemoryDisk.{MemoryDisk}
use Rattle.gp_rows.specs.declared.row.Row.{Row}
use Rattle.gp_translate.specs.declared.rule.Rule.{Rule}
use Rattle.gp_translate.specs.declared.rule.RuleReason.{RuleReason}
use Rattle.gp_translate.specs.declared.rule.RuleReason.TheVariants as reasons
use Rattle.gp_translate.specs.Rules.{refusal}
use Rattle.gp_script.specs.declared.report.Report.TheVariants as reports
use Rattle.gp_script.specs.declared.report.RuleAnswer.{RuleAnswer}
use Rattle.gp_script.specs.declared.report.RuleAnswer.TheVariants.{Added, Form, Full, Many}
use Rattle.gp_ideal.specs.declared.config.Config.{Config}
use Rattle.gp_ideal.specs.declared.ledger.Change.{Change}
use Rattle.gp_ideal.specs.declared.ledger.Known.{Known}
use Rattle.gp_ideal.specs.Ledger.{known}
use Rattle.gp_ideal.specs.Messages.{pairing_sent}
use Rattle.gp_sink.specs.Announced.{announced}
use Rattle.gp_sink.specs.Fits.{Fits}
use Rattle.gp_sink.specs.Sink.{SinkState}
use Rattle.gp_world.specs.Power.{at_running, effected, passed, adds_rule, lists}
use Rattle.gp_world.specs.Sinks.{sink_announces, sink_rules}
use Rattle.gp_world.specs.World.{Phase, Runs, Dark, Halted}
use Rattle.gp_world.specs.World as ideal
use Rattle.gp_power.specs.declared.power.Powered.{Powered}
use Rattle.gp_power.specs.declared.power.Supply.{Supply}
use Rattle.gp_power.specs.declared.power.Supply.TheVariants.{On, Off, Moved}
use Rattle.gp_power.specs.Stands.{StandsFor, StandsIn, IsSetUp, rules_of}
use Rattle.gp_power.specs.Said.{says_announced, puts_announced, says_ruled}
use Rattle.gp_power.specs.Comes.{Outcome, Comes, Shows}
use Rattle.gp_power.specs.Inside.{IsRuled}
use Rattle.gp_power.proofs.Standing.{settled}

differ : (b : Bool) → b ≡ true → b ≡ false → ⊥
differ b t f = cc

-- ---- an announcement

-- at a sink that runs
pub announced_comes : (source : Src) (old : Powered) (was : SinkState MemoryDisk) (sent : Option Sent) → old.supply ≡ On was → was.store.halted ≡ false
    → ((ledger : List Change) → Fits was.store.rows ledger → sent ≡ announced was.config ledger source.0) → Comes (at_running (sink_announces source)) (says_announced (Ok sent)) (puts_announced (Ok sent)) old old None
unfolding at_running effected passed sink_announces
announced_comes source old was sent on running is model h = by model.phase refl (subst (StandsIn model.phase model.sink.ledger model.armed) on h.phase)
  where
    set_up : was.config ≡ model.sink.config
    set_up = subst (IsSetUp old.config) on h.set_up ∙ h.config

    running_one : ideal.Powered
    running_one = record model { phase = Runs }

    made : Bool → ideal.Out
    made bit = effected (record model { phase = Runs }) bit (sink_announces source model.sink)

    go : (k : Option Known) → known model.sink.ledger source.0 ≡ k → sent ≡ announced model.sink.config model.sink.ledger source.0 → StandsFor old running_one → Outcome made (says_announced (Ok sent)) (puts_announced (Ok sent)) old None
    go None is e st = rw (e, is) (settled made (says_announced (Ok None)) (puts_announced (Ok None)) old None running_one (rw is refl) st (rw is refl) (rw is refl) (rw is refl) (rw is refl) refl)
    go (Some k) is e st =
        let sends : Option Sent = Some (pairing_sent model.sink.config k.values k.floor) in
        rw (e, is) (settled made (says_announced (Ok sends)) (puts_announced (Ok sends)) old None running_one (rw is refl) st (rw is refl) (rw is refl) (rw is refl) (rw is refl) refl)

    by : (phase : Phase) → model.phase ≡ phase → StandsIn phase model.sink.ledger model.armed (On was) → Outcome (λ bit. at_running (sink_announces source) bit model) (says_announced (Ok sent)) (puts_announced (Ok sent)) old None
    by Dark e s = absurd s
    by (Halted change) e s = absurd (differ was.store.halted s.halted running)
    by Runs e s =
        subst (λ (p : Phase). Outcome (λ bit. at_running (sink_announces source) bit (record model { phase = p })) (says_announced (Ok sent)) (puts_announced (Ok sent)) old None) (sym e)
        (go (known model.sink.ledger source.0) refl (subst (λ (c : Config). sent ≡ announced c model.sink.ledger source.0) set_up (is model.sink.ledger s.fits)) (subst (λ (p : Phase). StandsFor old (record model { phase = p })) e h))

-- at a halted one
pub halted_comes : (source : Src) (old : Powered) (was : SinkState MemoryDisk) → old.supply ≡ On was → was.store.halted ≡ true → Comes (at_running (sink_announces source)) (reports.Halted ∷ []) [] old old None
unfolding at_running
halted_comes source old was on halted model h = by model.phase refl (subst (StandsIn model.phase model.sink.ledger model.armed) on h.phase)
  where
    by : (phase : Phase) → model.phase ≡ phase → StandsIn phase model.sink.ledger model.armed (On was) → Outcome (λ bit. at_running (sink_announces source) bit model) (reports.Halted ∷ []) [] old None
    by Dark e s = absurd s
    by (Halted change) e s = settled (λ bit. at_running (sink_announces source) bit model) (reports.Halted ∷ []) [] old None model (rw e refl) h (rw e refl) (rw e refl) (rw e refl) (rw e refl) refl
    by Runs e s = absurd (differ was.store.halted halted s.running)

-- ---- a rule

-- it changes no more than the rules
pub record OnlyRules (old new : Supply) : Type 0 where
  pub set_up : (config : Config) → IsSetUp config old → IsSetUp config new
  pub phase : (phase : Phase) (ledger : List Change) (armed : ideal.Armed) → StandsIn phase ledger armed old → StandsIn phase ledger armed new

pub on_only : (was sink : SinkState MemoryDisk) → sink ≡ record was { rules = sink.rules } → OnlyRules (On was) (On sink)
on_only was sink same = record {
  set_up = λ config e. ap (λ (s : SinkState MemoryDisk). s.config) same ∙ e;
  phase = λ phase ledger armed s. subst (λ (x : SinkState MemoryDisk). StandsIn phase ledger armed (On x)) (sym same) (by phase ledger armed s);
}
  where
    by : (phase : Phase) (ledger : List Change) (armed : ideal.Armed) → StandsIn phase ledger armed (On was) → StandsIn phase ledger armed (On (record was { rules = sink.rules }))
    by Runs ledger armed s = s
    by Dark ledger armed s = s
    by (Halted change) ledger armed s = s

pub off_only : (before after : List Rule) (disk : MemoryDisk) → OnlyRules (Off before disk) (Off after disk)
off_only before after disk = record { set_up = λ config e. tt; phase = by }
  where
    by : (phase : Phase) (ledger : List Change) (armed : ideal.Armed) → StandsIn phase ledger armed (Off before disk) → StandsIn phase ledger armed (Off after disk)
    by Runs ledger armed s = s
    by Dark ledger armed s = s
    by (Halted change) ledger armed s = s

pub rules_come : (rule : Rule) (answer : RuleAnswer) (old new : Powered) (before after : Supply) → old.supply ≡ before → new.supply ≡ after → new.config ≡ old.config → OnlyRules before after
    → IsRuled rule (rules_of before) (rules_of after) answer → Comes (λ bit. adds_rule rule) (says_ruled answer) [] old new None
unfolding adds_rule passed sink_rules
rules_come rule answer old new before after was is config only r model h = by answer r
  where
    made : Bool → ideal.Out
    made bit = adds_rule rule model

    own : rules_of before ≡ model.sink.rules
    own = sym (ap rules_of was) ∙ h.rules

    stands : (rules : List Rule) → rules_of after ≡ rules → StandsFor new (record model { sink = record model.sink { rules = rules } })
    stands rules e = record {
      config = config ∙ h.config;
      set_up = subst (IsSetUp new.config) (sym is) (only.set_up new.config (subst (λ (c : Config). IsSetUp c before) (sym config) (subst (IsSetUp old.config) was h.set_up)));
      rules = ap rules_of is ∙ e;
      phase = subst (StandsIn model.phase model.sink.ledger model.armed) (sym is) (only.phase model.phase model.sink.ledger model.armed (subst (StandsIn model.phase model.sink.ledger model.armed) was h.phase));
    }

    refused : (o : Option RuleReason) → refusal (rules_of before) rule ≡ o → refusal model.sink.rules rule ≡ o
    refused o e = subst (λ (rules : List Rule). refusal rules rule ≡ o) own e

    same : rules_of after ≡ rules_of before → StandsFor new model
    same e = stands model.sink.rules (e ∙ own)

    by : (a : RuleAnswer) → IsRuled rule (rules_of before) (rules_of after) a → Outcome made (says_ruled a) [] new None
    by Added r =
        let e = refused None r.0 in
        settled made (says_ruled Added) [] new None (record model { sink = record model.sink { rules = model.sink.rules ++ rule ∷ [] } }) (rw e refl)
        (stands (model.sink.rules ++ rule ∷ []) (r.1 ∙ ap (λ (rules : List Rule). rules ++ rule ∷ []) own)) (rw e refl) (rw e refl) refl refl refl
    by Form r = let e = refused (Some reasons.Form) r.0 in settled made (says_ruled Form) [] new None model (rw e refl) (same r.1) (rw e refl) (rw e refl) refl refl refl
    by Full r = let e = refused (Some reasons.Full) r.0 in settled made (says_ruled Full) [] new None model (rw e refl) (same r.1) (rw e refl) (rw e refl) refl refl refl
    by Many r = let e = refused (Some reasons.Many) r.0 in settled made (says_ruled Many) [] new None model (rw e refl) (same r.1) (rw e refl) (rw e refl) refl refl refl

-- ---- the rows

-- with power they are shown
pub shows_on : (old : Powered) (was : SinkState MemoryDisk) (rows : List Row) → old.supply ≡ On was → rows ≡ was.store.rows → (model : ideal.Powered) → StandsFor old model → Shows (Some rows) model
unfolding lists
shows_on old was rows on is model h = by model.phase refl (subst (StandsIn model.phase model.sink.ledger model.armed) on h.phase)
  where
    by : (phase : Phase) → model.phase ≡ phase → StandsIn phase model.sink.ledger model.armed (On was) → Shows (Some rows) model
    by Dark e s = absurd s
    by (Halted change) e s = (subst (λ (l : List Row). Fits l model.sink.ledger) (sym is) s.undecided.before, rw e refl)
    by Runs e s = (subst (λ (l : List Row). Fits l model.sink.ledger) (sym is) s.fits, rw e refl)

-- and without none are
pub shows_off : (old : Powered) → ((sink : SinkState MemoryDisk) → old.supply ≡ On sink → ⊥) → (model : ideal.Powered) → StandsFor old model → Shows None model
unfolding lists
shows_off old off model h = by model.phase refl old.supply refl h.phase
  where
    by : (phase : Phase) → model.phase ≡ phase → (s : Supply) → old.supply ≡ s → StandsIn phase model.sink.ledger model.armed s → Shows None model
    by Dark e s is st = rw e refl
    by Runs e (On sink) is st = absurd (off sink is)
    by Runs e (Off rules disk) is st = absurd st
    by Runs e Moved is st = absurd st
    by (Halted change) e (On sink) is st = absurd (off sink is)
    by (Halted change) e (Off rules disk) is st = absurd st
    by (Halted change) e Moved is st = absurd st
