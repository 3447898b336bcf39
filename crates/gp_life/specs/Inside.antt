-- One line of a life on a sink and its disk. No clause of a public call cites this file: nothing in it has to be believed.
use Rattle.std.specs.Prelude.{◌≡◌, ◌≤◌, ◌<◌, ◌^◌, ◌-◌, ◌⊎◌, ℕ, ◌+◌, false, List, [], ◌∷◌, ◌++◌, length, Option, Some, None, Result, Ok, Err, vec_capacity}
use Rattle.gp_base.specs.Outside.{one_more}
use Rattle.gp_cluster.specs.declared.message.Sent.{Sent}
use Rattle.gp_disk.specs.declared.device.Disk.{Ghosts}
use Rattle.gp_store.specs.Commit.{Stands as HoldsAll}
use Rattle.gp_translate.specs.declared.rule.Rule.{Rule}
use Rattle.gp_translate.specs.declared.rule.RuleReason.TheVariants as reasons
use Rattle.gp_translate.specs.Rules.{refusal}
use Rattle.gp_script.specs.declared.report.RuleAnswer.{RuleAnswer}
use Rattle.gp_script.specs.declared.report.RuleAnswer.TheVariants as rules
use Rattle.gp_script.specs.declared.report.Entry.{Entry}
use Rattle.gp_script.specs.declared.sink_script.SinkAction.{SinkAction}
use Rattle.gp_script.specs.declared.sink_script.SinkAction.TheVariants as actions
use Rattle.gp_ideal.specs.declared.ledger.Change.{Change}
use Rattle.gp_ideal.specs.Ledger.{with_change}
use Rattle.gp_ideal.specs.Verdict.{Ruling}
use Rattle.gp_world.specs.Life.{Life, own_name, gone_on}
use Rattle.gp_world.specs.Sinks.{verdict_reports, verdict_puts}
use Rattle.gp_world.specs.World as ideal
use Rattle.gp_world.specs.World.{Effect, entries, put_reports}
use Rattle.gp_sink.specs.declared.verdict.SinkFault.{SinkFault}
use Rattle.gp_sink.specs.declared.verdict.SinkFault.TheVariants as sinks
use Rattle.gp_sink.specs.declared.verdict.Verdict.{Verdict}
use Rattle.gp_sink.specs.Fits.{Fits}
use Rattle.gp_sink.specs.Sink.{SinkState}
use Rattle.gp_sink.specs.Verdict.{verdict_of}
use Rattle.gp_telling.specs.declared.telling.Telling.{Telling}
use Rattle.gp_telling.specs.Texts.{report_text}
use Rattle.gp_lines.specs.declared.work.Halt.{Halt}
use Rattle.gp_lines.specs.declared.work.Halt.TheVariants.{Bad, DiskFault, DiskRefused, Worn, NoMemory}
use Rattle.gp_lines.specs.Work.{UnlessNoMemory}
use Rattle.gp_life.specs.declared.awake.Awake.{Awake}
use Rattle.gp_life.specs.Lived.{change_by}
use Rattle.gp_life.specs.Living.{EachFits}

-- ---- room for what is told

-- nothing is told yet, and there is room for six entries
pub record IsBlank (telling : Telling) : Type 0 where
  pub untold : telling.entries.items ≡ []
  pub room : 6 ≤ vec_capacity telling.entries

-- a list of rows has at most 1,025 entries
abbrev pub NeedsRoom : SinkAction → ℕ → Type 0
NeedsRoom actions.Table room = 1025 ≤ room
NeedsRoom other room = Unit {0}

-- these entries were told
pub record IsTold (told : List Entry) (old new : Telling) : Type 0 where
  pub line : new.line ≡ old.line
  pub entries_are : new.entries.items ≡ old.entries.items ++ told

-- ---- the effect of an event

-- the life behind it
abbrev pub after_effect : Life → Effect → Life
after_effect life effect = record { sink = effect.sink; sent = life.sent + length effect.puts }

-- and what is told
abbrev pub told_of : Life → ℕ → Effect → List Entry
told_of life line effect = entries line (Some own_name) (effect.says ++ put_reports life.sent effect.puts)

-- ---- a sink

module _ {D : Type 0} (of : Ghosts D) where
  -- a sink runs, stands for the ideal one, and each image that a crash may leave holds exactly its rows
  pub record IsSinkOf (sink : SinkState D) (model : ideal.Sink) : Type 0 where
    pub runs : sink.store.halted ≡ false
    pub config : sink.config ≡ model.config
    pub rules : sink.rules ≡ model.rules
    pub fits : Fits sink.store.rows model.ledger
    pub held : HoldsAll (of.may_leave sink.store.disk) sink.store.rows sink.store.last

  -- the sink then stands for this one; each change has taken one generation, and no call has failed
  pub record IsNextSink (model next : ideal.Sink) (old new : SinkState D) : Type 0 where
    pub is_sink : IsSinkOf new next
    pub generation : new.store.last + length model.ledger ≡ old.store.last + length next.ledger
    pub longer : length model.ledger ≤ length next.ledger
    pub few : new.store.last ≤ old.store.last + 1
    pub good : of.faults new.store.disk ≡ of.faults old.store.disk

  -- a change is due and the last generation is the greatest number
  pub record WearsOut (change : Option Change) (generation : ℕ) (old new : SinkState D) : Type 0 where
    pub due : Change
    pub is_due : change ≡ Some due
    pub greatest : old.store.last ≡ 2 ^ 64 - 1
    pub is : generation ≡ old.store.last
    pub same : new.store.disk ≡ old.store.disk

  -- the disk failed in the commit of a change
  pub record BreaksDown (change : Option Change) (ledger : List Change) (old new : SinkState D) : Type 0 where
    pub due : Change
    pub is_due : change ≡ Some due
    pub fit : EachFits of ledger (due ∷ ledger) new.store.disk
    pub failed : of.faults new.store.disk ≡ one_more (of.faults old.store.disk)

  -- a sink answers a ruling of the ideal one
  abbrev pub Answers : ideal.Sink → Ruling → SinkState D → SinkState D → Result Verdict SinkFault → Type 0
  Answers model ruling old new (Ok verdict) =
      (verdict_of verdict ≡ ruling.verdict) × IsNextSink model (record model { ledger = with_change ruling.change model.ledger }) old new
  Answers model ruling old new (Err sinks.Halted) = ⊥
  Answers model ruling old new (Err (sinks.Worn generation)) = WearsOut ruling.change generation old new
  Answers model ruling old new (Err sinks.DiskFault) = BreaksDown ruling.change model.ledger old new

  -- ---- a sink that is set up

  -- it stands for a life
  pub record IsLifeOf (awake : Awake D) (life : Life) : Type 0 where
    pub is_sink : IsSinkOf awake.sink life.sink
    pub sent : awake.sent ≡ life.sent

  -- it then stands for this one
  pub record IsNext (life next : Life) (old new : Awake D) : Type 0 where
    pub is_next : IsNextSink life.sink next.sink old.sink new.sink
    pub sent : new.sent ≡ next.sent

  -- an event has this effect, or the sink gives no verdict
  abbrev pub EffectComes : Life → Effect → Awake D → Awake D → Telling → Telling → Result (Unit {0}) SinkFault → Type 0
  EffectComes life effect old new before after (Ok value) = IsNext life (after_effect life effect) old new × IsTold (told_of life before.line effect) before after
  EffectComes life effect old new before after (Err sinks.Halted) = ⊥
  EffectComes life effect old new before after (Err (sinks.Worn generation)) = WearsOut effect.change generation old.sink new.sink
  EffectComes life effect old new before after (Err sinks.DiskFault) = BreaksDown effect.change life.sink.ledger old.sink new.sink

  -- an action goes on with the life, or ends it
  pub record GoesOn (life : Life) (line : ℕ) (action : SinkAction) (told : List Entry) (old new : Awake D) : Type 0 where
    pub next : Life
    pub goes : gone_on life line action ≡ Ok (record { life = Some next; told = told })
    pub is_next : IsNext life next old new

  abbrev pub ActionEnds : Life → ℕ → SinkAction → Awake D → Awake D → Halt → Type 0
  ActionEnds life line action old new (Bad reason) = (gone_on life line action ≡ Err reason) × (new ≡ old)
  ActionEnds life line action old new (DiskRefused reason) = ⊥
  ActionEnds life line action old new (Worn generation) = WearsOut (change_by life action) generation old.sink new.sink
  ActionEnds life line action old new DiskFault = BreaksDown (change_by life action) life.sink.ledger old.sink new.sink
  ActionEnds life line action old new NoMemory = ⊥

  abbrev pub ActionComes : Life → SinkAction → Awake D → Awake D → Telling → Telling → Result (Unit {0}) Halt → Type 0
  ActionComes life action old new before after (Ok value) = (told : List Entry) × GoesOn life before.line action told old new × IsTold told before after
  ActionComes life action old new before after (Err halt) = ActionEnds life before.line action old new halt

  -- so with its text; memory may not be found, before the action does anything or behind it
  abbrev pub PlayEnds : Life → ℕ → SinkAction → Awake D → Awake D → Halt → Type 0
  PlayEnds life line action old new NoMemory = (new ≡ old) ⊎ ((told : List Entry) × GoesOn life line action told old new)
  PlayEnds life line action old new halt = ActionEnds life line action old new halt

  -- the text of what is told is added
  abbrev pub Plays : ℕ → SinkAction → Awake D → Awake D → List ℕ → List ℕ → Result (Unit {0}) Halt → Type 0
  Plays line action old new before after (Ok value) =
      (told : List Entry) × (after ≡ before ++ report_text told) × ((life : Life) → IsLifeOf old life → GoesOn life line action told old new)
  Plays line action old new before after (Err halt) = ((life : Life) → IsLifeOf old life → PlayEnds life line action old new halt) × UnlessNoMemory halt (after ≡ before)

-- the sink runs, and has sent few messages
pub record IsReady {D : Type 0} (awake : Awake D) : Type 0 where
  pub runs : awake.sink.store.halted ≡ false
  pub few : awake.sent < 2 ^ 64 - 1

-- it runs on, and has sent one message more at most
pub record RunsOn {D : Type 0} (old new : Awake D) : Type 0 where
  pub runs : new.sink.store.halted ≡ false
  pub sent : new.sent ≤ old.sent + 1

-- a verdict was told, and its message put
pub record Tells {D : Type 0} (verdict : Verdict) (old new : Awake D) (before after : Telling) : Type 0 where
  pub sink : new.sink ≡ old.sink
  pub sent : new.sent ≡ old.sent + length (verdict_puts (verdict_of verdict))
  pub told : IsTold (entries before.line (Some own_name) (verdict_reports (verdict_of verdict) ++ put_reports old.sent (verdict_puts (verdict_of verdict)))) before after

-- an action that no commit comes of
abbrev pub IsQuiet : SinkAction → Type 0
IsQuiet (actions.Rule source command endpoint form) = Unit {0}
IsQuiet (actions.Announce source) = Unit {0}
IsQuiet actions.Table = Unit {0}
IsQuiet other = ⊥

-- a fault that a sink answers which isn't halted, as it ends a life
abbrev pub IsNew : SinkFault → Type 0
IsNew sinks.Halted = ⊥
IsNew other = Unit {0}

abbrev pub halt_of : SinkFault → Halt
halt_of sinks.Halted = DiskFault
halt_of (sinks.Worn generation) = Worn generation
halt_of sinks.DiskFault = DiskFault

-- the message of a verdict, where it has one
abbrev pub Puts : Verdict → Option Sent → Type 0
Puts verdict None = verdict_puts (verdict_of verdict) ≡ []
Puts verdict (Some sent) = verdict_puts (verdict_of verdict) ≡ sent ∷ []

-- a rule was added, or refused for this reason, and then nothing is changed
abbrev pub IsRuled : {D : Type 0} → Rule → SinkState D → SinkState D → RuleAnswer → Type 0
IsRuled rule old new rules.Added = (refusal old.rules rule ≡ None) × (new ≡ record old { rules = old.rules ++ rule ∷ [] })
IsRuled rule old new rules.Form = (refusal old.rules rule ≡ Some reasons.Form) × (new ≡ old)
IsRuled rule old new rules.Full = (refusal old.rules rule ≡ Some reasons.Full) × (new ≡ old)
IsRuled rule old new rules.Many = (refusal old.rules rule ≡ Some reasons.Many) × (new ≡ old)
