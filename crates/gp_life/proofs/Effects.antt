-- What comes of an action at a sink that is set up is what comes of it in its life.
use Rattle.std.proofs.Common.{◌≡◌, ℕ, ◌+◌, true, false, List, [], ◌∷◌, ◌++◌, length, Option, Some, None, Result, Ok, Err, IfErr, OnOk, refl, sym, ◌∙◌, ap, subst, append_assoc, append-nil, arith}
use Rattle.std.proofs.lemmas.List.{map-append}
use Rattle.gp_base.specs.declared.identity.Key.{Key}
use Rattle.gp_base.specs.declared.identity.KeyKind.{KeyKind}
use Rattle.gp_base.specs.declared.identity.Level.{Level}
use Rattle.gp_base.specs.declared.identity.Src.{Src}
use Rattle.gp_cluster.specs.declared.message.Sent.{Sent}
use Rattle.gp_commission.specs.declared.offer.Offer.{Offer}
use Rattle.gp_disk.specs.declared.device.Disk.{Ghosts}
use Rattle.gp_rows.specs.declared.row.Row.{Row}
use Rattle.gp_store.specs.Commit.{Stands as HoldsAll}
use Rattle.gp_translate.specs.declared.rule.Rule as translating
use Rattle.gp_translate.specs.declared.rule.RuleReason.{RuleReason}
use Rattle.gp_translate.specs.declared.rule.RuleReason.TheVariants as reasons
use Rattle.gp_translate.specs.Rules.{refusal}
use Rattle.gp_script.specs.declared.report.Entry.{Entry}
use Rattle.gp_script.specs.declared.report.Report.{Report}
use Rattle.gp_script.specs.declared.report.Report.TheVariants as reports
use Rattle.gp_script.specs.declared.report.RuleAnswer.{RuleAnswer}
use Rattle.gp_script.specs.declared.report.RuleAnswer.TheVariants.{Added, Form, Full, Many}
use Rattle.gp_script.specs.declared.reason.LineReason.TheVariants.{Form as NoForm}
use Rattle.gp_script.specs.declared.script.RuleForm.{RuleForm}
use Rattle.gp_script.specs.declared.script.SinkMode.{SinkMode}
use Rattle.gp_script.specs.declared.sink_script.SinkAction.{SinkAction}
use Rattle.gp_script.specs.declared.sink_script.SinkAction.TheVariants.{Config, Hear, Pair, Rule, Announce, Table}
use Rattle.gp_ideal.specs.declared.config.Config as config
use Rattle.gp_ideal.specs.declared.ledger.Change.{Change}
use Rattle.gp_ideal.specs.declared.ledger.Values.{Values}
use Rattle.gp_ideal.specs.Heard.{heard}
use Rattle.gp_ideal.specs.Paired as pairing
use Rattle.gp_ideal.specs.Paired.{paired}
use Rattle.gp_ideal.specs.Ledger.{known, rows, with_change}
use Rattle.gp_ideal.specs.Verdict as ideal_verdict
use Rattle.gp_ideal.specs.Verdict.{Ruling}
use Rattle.gp_world.specs.Life.{Life, gone_on, lived, own_name}
use Rattle.gp_world.specs.Sinks.{ruled, rule_of, sink_hears, sink_pairs, sink_rules, sink_announces, sink_lists, row_reports, verdict_reports, verdict_puts}
use Rattle.gp_world.specs.World as ideal
use Rattle.gp_world.specs.World.{Effect, entries, put_reports}
use Rattle.gp_sink.specs.declared.verdict.SinkFault.{SinkFault}
use Rattle.gp_sink.specs.declared.verdict.SinkFault.TheVariants.{Halted, Worn, DiskFault}
use Rattle.gp_sink.specs.declared.verdict.Verdict.{Verdict}
use Rattle.gp_sink.specs.Announced.{announced}
use Rattle.gp_sink.specs.Fits.{Fits}
use Rattle.gp_sink.specs.Sink.{SinkState, HasCause}
use Rattle.gp_sink.specs.Verdict.{verdict_of, offered}
use Rattle.gp_telling.specs.declared.telling.Telling.{Telling}
use Rattle.gp_telling.specs.Telling.{Said, listed}
use Rattle.gp_telling.proofs.Listing.{all_listed, said_more}
use Rattle.gp_life.specs.declared.awake.Awake.{Awake}
use Rattle.gp_life.specs.Inside.{ActionComes, Answers, BreaksDown, EffectComes, GoesOn, IsLifeOf, IsNew, IsNext, IsNextSink, IsRuled, IsSinkOf, IsTold, Tells, WearsOut, after_effect, told_of}

-- ---- what is told

-- what was said is told
pub told_by : (name : List ℕ) (says : List Report) (before after : Telling) → name ≡ own_name → Said (Some name) says before after → IsTold (entries before.line (Some own_name) says) before after
told_by name says before after e s = record {
  line = s.line;
  entries_are = subst (λ (n : List ℕ). after.entries.items ≡ before.entries.items ++ entries before.line (Some n) says) e s.added;
}

-- nothing is put
no_puts : (number : ℕ) (says : List Report) → says ++ put_reports number [] ≡ says
no_puts number says = append-nil says

-- ---- faults

-- a sink that isn't halted answers no old fault
pub is_new : {D T : Type 0} (of : Ghosts D) (old new : SinkState D) (result : Result T SinkFault) → old.store.halted ≡ false → HasCause of old new result → IfErr result IsNew
is_new of old new (Ok value) runs cause = tt
is_new of old new (Err Halted) runs cause = absurd (let t : true ≡ false = sym cause.0 ∙ runs in cc)
is_new of old new (Err (Worn generation)) runs cause = tt
is_new of old new (Err DiskFault) runs cause = tt

pub runs_on : {D T : Type 0} (of : Ghosts D) (old new : SinkState D) (result : Result T SinkFault) → HasCause of old new result → OnOk result (new.store.halted ≡ false)
runs_on of old new (Ok value) cause = cause.1
runs_on of old new (Err fault) cause = tt

-- ---- verdicts

module _ {D : Type 0} (of : Ghosts D) where
  -- the same sink
  stays : (sink new : SinkState D) (model : ideal.Sink) → IsSinkOf of sink model → new ≡ sink → IsNextSink of model model sink new
  stays sink new model h e = subst (λ (s : SinkState D). IsNextSink of model model sink s) (sym e) (record {
    is_sink = h;
    generation = refl;
    longer = omega arith;
    few = omega arith;
    good = refl;
  })

  pub ruled_comes : (life : Life) (ruling : Ruling) (old new : Awake D) (sink : SinkState D) (v : Verdict) (before after : Telling) → IsLifeOf of old life → Answers of life.sink ruling old.sink sink (Ok v)
      → Tells v (record old { sink = sink }) new before after → EffectComes of life (ruled life.sink ruling) old new before after (Ok tt)
  unfolding ruled
  ruled_comes life ruling old new sink v before after h a t = (
    record {
      is_next = subst (λ (s : SinkState D). IsNextSink of life.sink (record life.sink { ledger = with_change ruling.change life.sink.ledger }) old.sink s) (sym t.sink) a.1;
      sent = t.sent ∙ ap (λ (n : ℕ). n + length (verdict_puts (verdict_of v))) h.sent ∙ ap (λ (x : ideal_verdict.Verdict). life.sent + length (verdict_puts x)) a.0;
    },
    subst (λ (n : ℕ). IsTold (entries before.line (Some own_name) (verdict_reports ruling.verdict ++ put_reports n (verdict_puts ruling.verdict))) before after) h.sent
        (subst (λ (x : ideal_verdict.Verdict). IsTold (entries before.line (Some own_name) (verdict_reports x ++ put_reports old.sent (verdict_puts x))) before after) a.0 t.told),
  )

  -- a fault comes of the change
  pub ruled_fails : (life : Life) (ruling : Ruling) (old new : Awake D) (fault : SinkFault) (before after : Telling) → Answers of life.sink ruling old.sink new.sink (Err fault)
      → EffectComes of life (ruled life.sink ruling) old new before after (Err fault)
  unfolding ruled
  ruled_fails life ruling old new Halted before after a = a
  ruled_fails life ruling old new (Worn generation) before after a = a
  ruled_fails life ruling old new DiskFault before after a = a

  -- a frame that is heard, and a device that is to be paired
  pub hears_come : (life : Life) (octets : List ℕ) (old new : Awake D) (sink : SinkState D) (v : Verdict) (before after : Telling) → IsLifeOf of old life
      → Answers of life.sink (heard life.sink.rules life.sink.ledger octets) old.sink sink (Ok v) → Tells v (record old { sink = sink }) new before after
      → EffectComes of life (sink_hears octets life.sink) old new before after (Ok tt)
  unfolding sink_hears
  hears_come life octets old new sink v before after h a t = ruled_comes life (heard life.sink.rules life.sink.ledger octets) old new sink v before after h a t

  pub hears_fail : (life : Life) (octets : List ℕ) (old new : Awake D) (fault : SinkFault) (before after : Telling) → Answers of life.sink (heard life.sink.rules life.sink.ledger octets) old.sink new.sink (Err fault)
      → EffectComes of life (sink_hears octets life.sink) old new before after (Err fault)
  unfolding sink_hears
  hears_fail life octets old new fault before after a = ruled_fails life (heard life.sink.rules life.sink.ledger octets) old new fault before after a

  pub pairs_come : (life : Life) (values : Values) (counter : ℕ) (old new : Awake D) (sink : SinkState D) (v : Verdict) (before after : Telling) → IsLifeOf of old life
      → Answers of life.sink (paired life.sink.config life.sink.ledger values counter) old.sink sink (Ok v) → Tells v (record old { sink = sink }) new before after
      → EffectComes of life (sink_pairs values counter life.sink) old new before after (Ok tt)
  unfolding sink_pairs
  pairs_come life values counter old new sink v before after h a t = ruled_comes life (paired life.sink.config life.sink.ledger values counter) old new sink v before after h a t

  pub pairs_fail : (life : Life) (values : Values) (counter : ℕ) (old new : Awake D) (fault : SinkFault) (before after : Telling)
      → Answers of life.sink (paired life.sink.config life.sink.ledger values counter) old.sink new.sink (Err fault) → EffectComes of life (sink_pairs values counter life.sink) old new before after (Err fault)
  unfolding sink_pairs
  pairs_fail life values counter old new fault before after a = ruled_fails life (paired life.sink.config life.sink.ledger values counter) old new fault before after a

  -- ---- rules

  pub rules_come : (life : Life) (rule : translating.Rule) (answer : RuleAnswer) (old new : Awake D) (name : List ℕ) (before after : Telling) → IsLifeOf of old life → IsRuled rule old.sink new.sink answer → new.sent ≡ old.sent
      → name ≡ own_name → Said (Some name) (reports.Rule answer ∷ []) before after → EffectComes of life (sink_rules rule life.sink) old new before after (Ok tt)
  unfolding sink_rules
  rules_come life rule answer old new name before after h r sent n said = by answer r (told_by name (reports.Rule answer ∷ []) before after n said)
    where
      refused : (o : Option RuleReason) → refusal old.sink.rules rule ≡ o → refusal life.sink.rules rule ≡ o
      refused o e = subst (λ (rules : List translating.Rule). refusal rules rule ≡ o) h.is_sink.rules e

      none_sent : new.sent ≡ life.sent + 0
      none_sent = let same = h.sent in omega (arith, sent, same)

      same : new.sink ≡ old.sink → IsNext of life (record life { sent = life.sent + 0 }) old new
      same e = record { is_next = stays old.sink new.sink life.sink h.is_sink e; sent = none_sent }

      added : new.sink ≡ record old.sink { rules = old.sink.rules ++ rule ∷ [] } → IsNextSink of life.sink (record life.sink { rules = life.sink.rules ++ rule ∷ [] }) old.sink new.sink
      added e = subst (λ (s : SinkState D). IsNextSink of life.sink (record life.sink { rules = life.sink.rules ++ rule ∷ [] }) old.sink s) (sym e) (record {
        is_sink = record {
          runs = h.is_sink.runs;
          config = h.is_sink.config;
          rules = ap (λ (rules : List translating.Rule). rules ++ rule ∷ []) h.is_sink.rules;
          fits = h.is_sink.fits;
          held = h.is_sink.held;
        };
        generation = refl;
        longer = omega arith;
        few = omega arith;
        good = refl;
      })

      by : (a : RuleAnswer) → IsRuled rule old.sink new.sink a → IsTold (entries before.line (Some own_name) (reports.Rule a ∷ [])) before after → EffectComes of life (sink_rules rule life.sink) old new before after (Ok tt)
      by Added r told = rw (refused None r.0) (record { is_next = added r.1; sent = none_sent }, told)
      by Form r told = rw (refused (Some reasons.Form) r.0) (same r.1, told)
      by Full r told = rw (refused (Some reasons.Full) r.0) (same r.1, told)
      by Many r told = rw (refused (Some reasons.Many) r.0) (same r.1, told)

  -- ---- pairings that are told again

  -- what is said, and put
  abbrev pub says_announced : Option Sent → List Report
  says_announced None = reports.Drop (Rattle.gp_script.specs.declared.report.Dropped.TheVariants.Plain Rattle.gp_script.specs.declared.report.Cause.TheVariants.Unknown) ∷ []
  says_announced (Some sent) = []

  abbrev pub puts_announced : Option Sent → List Sent
  puts_announced None = []
  puts_announced (Some sent) = sent ∷ []

  pub announces_come : (life : Life) (source : Src) (sent : Option Sent) (old new : Awake D) (before after : Telling) → IsLifeOf of old life
      → ((ledger : List Change) → Fits old.sink.store.rows ledger → sent ≡ announced old.sink.config ledger source.0) → new.sink ≡ old.sink → new.sent ≡ old.sent + length (puts_announced sent)
      → IsTold (entries before.line (Some own_name) (says_announced sent ++ put_reports old.sent (puts_announced sent))) before after
      → EffectComes of life (sink_announces source life.sink) old new before after (Ok tt)
  unfolding sink_announces
  announces_come life source sent old new before after h r same more told = go (known life.sink.ledger source.0) refl
    where
      is : sent ≡ announced life.sink.config life.sink.ledger source.0
      is = subst (λ (c : config.Config). sent ≡ announced c life.sink.ledger source.0) h.is_sink.config (r life.sink.ledger h.is_sink.fits)

      made : (o : Option Sent) → sent ≡ o → (new.sent ≡ life.sent + length (puts_announced o)) × IsTold (entries before.line (Some own_name) (says_announced o ++ put_reports life.sent (puts_announced o))) before after
      made o e = subst (λ (x : Option Sent). (new.sent ≡ life.sent + length (puts_announced x)) × IsTold (entries before.line (Some own_name) (says_announced x ++ put_reports life.sent (puts_announced x))) before after) e (
        more ∙ ap (λ (n : ℕ). n + length (puts_announced sent)) h.sent,
        subst (λ (n : ℕ). IsTold (entries before.line (Some own_name) (says_announced sent ++ put_reports n (puts_announced sent))) before after) h.sent told,
      )

      go : (k : Option _) → known life.sink.ledger source.0 ≡ k → EffectComes of life (sink_announces source life.sink) old new before after (Ok tt)
      go None e = rw e (let m = made None (is ∙ ap (Rattle.std.specs.Prelude.option_map _) e) in (record { is_next = stays old.sink new.sink life.sink h.is_sink same; sent = m.0 }, m.1))
      go (Some k) e = rw e (let m = made (Some _) (is ∙ ap (Rattle.std.specs.Prelude.option_map _) e) in (record { is_next = stays old.sink new.sink life.sink h.is_sink same; sent = m.0 }, m.1))

  -- ---- rows that are listed

  pub lists_come : (life : Life) (old : Awake D) (name : List ℕ) (before after : Telling) → IsLifeOf of old life → name ≡ own_name
      → Said (Some name) (reports.Rows (length old.sink.store.rows) ∷ listed 0 old.sink.store.rows) before after → EffectComes of life (sink_lists life.sink) old old before after (Ok tt)
  unfolding sink_lists
  lists_come life old name before after h n said =
      let says : List Report = reports.Rows (length (rows life.sink.ledger)) ∷ row_reports life.sink.ledger 0 (rows life.sink.ledger) in
      let all : says ≡ reports.Rows (length old.sink.store.rows) ∷ listed 0 old.sink.store.rows = all_listed life.sink.ledger old.sink.store.rows h.is_sink.fits in (
        record { is_next = stays old.sink old.sink life.sink h.is_sink refl; sent = (let same = h.sent in omega (arith, same)) },
        subst (λ (x : List Report). IsTold (entries before.line (Some own_name) x) before after) (sym (append-nil says))
            (told_by name says before after n (subst (λ (x : List Report). Said (Some name) x before after) (sym all) said)),
      )

  -- ---- actions

  -- what comes of an effect comes of the action that has it
  pub acts : (life : Life) (action : SinkAction) (effect : Effect) (old new : Awake D) (before after : Telling) → gone_on life before.line action ≡ Ok (lived life before.line effect)
      → EffectComes of life effect old new before after (Ok tt) → ActionComes of life action old new before after (Ok tt)
  unfolding lived
  acts life action effect old new before after gone e = (told_of life before.line effect, record { next = after_effect life effect; goes = gone; is_next = e.0 }, e.1)

-- ---- the effect of each action

pub gone_hear : (life : Life) (line : ℕ) (octets : List ℕ) → gone_on life line (Hear octets) ≡ Ok (lived life line (sink_hears octets life.sink))
unfolding gone_on
gone_hear life line octets = refl

pub gone_pair : (life : Life) (line : ℕ) (source : Src) (key : Key) (kind : KeyKind) (level : Level) (device counter : ℕ)
    → gone_on life line (Pair source key kind level device counter) ≡ Ok (lived life line (sink_pairs (pairing.offered life.sink.config source key kind level device) counter life.sink))
unfolding gone_on
gone_pair life line source key kind level device counter = refl

pub gone_rule : (life : Life) (line : ℕ) (source : Option Src) (command endpoint : ℕ) (form : RuleForm)
    → gone_on life line (Rule source command endpoint form) ≡ Ok (lived life line (sink_rules (rule_of source command endpoint form) life.sink))
unfolding gone_on
gone_rule life line source command endpoint form = refl

pub gone_announce : (life : Life) (line : ℕ) (source : Src) → gone_on life line (Announce source) ≡ Ok (lived life line (sink_announces source life.sink))
unfolding gone_on
gone_announce life line source = refl

pub gone_table : (life : Life) (line : ℕ) → gone_on life line Table ≡ Ok (lived life line (sink_lists life.sink))
unfolding gone_on
gone_table life line = refl

pub gone_config : (life : Life) (line address ieee : ℕ) (mode : SinkMode) (channel : ℕ) (link : Option Key) (shared : Key) → gone_on life line (Config address ieee mode channel link shared) ≡ Err NoForm
unfolding gone_on
gone_config life line address ieee mode channel link shared = refl
