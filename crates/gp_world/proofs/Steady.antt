-- Reports that say of no frame that it was taken and of no change that it was made, and behind which a sink runs where it ran before.
use Rattle.std.proofs.Common.{◌≡◌, ℕ, suc, Bool, List, [], ◌∷◌, ◌++◌, map, length, Option, Some, None, Result, Ok, Err, refl}
use Rattle.gp_base.specs.declared.identity.Src.{Src}
use Rattle.gp_base.specs.Table.{let_else, let_ok}
use Rattle.gp_cluster.specs.declared.message.Sent.{Sent}
use Rattle.gp_translate.specs.declared.act.Act.{Act}
use Rattle.gp_translate.specs.declared.rule.Rule.{Rule}
use Rattle.gp_translate.specs.declared.rule.RuleReason.{RuleReason}
use Rattle.gp_translate.specs.Rules.{added}
use Rattle.gp_script.specs.declared.report.Cause.TheVariants.{Unknown}
use Rattle.gp_script.specs.declared.report.Dropped.TheVariants.{Plain}
use Rattle.gp_script.specs.declared.report.RuleAnswer.{RuleAnswer}
use Rattle.gp_script.specs.declared.report.RuleAnswer.TheVariants as answers
use Rattle.gp_script.specs.declared.report.Report.{Report}
use Rattle.gp_script.specs.declared.report.Report.TheVariants as reports
use Rattle.gp_ideal.specs.declared.ledger.Change.{Change}
use Rattle.gp_ideal.specs.declared.ledger.Known.{Known}
use Rattle.gp_ideal.specs.declared.ledger.Values.{Values}
use Rattle.gp_ideal.specs.Ledger.{Pairing, rows, values_of, known}
use Rattle.gp_ideal.specs.Messages.{pairing_sent}
use Rattle.gp_world.specs.Properties.{taken_in, Remembers, runs_behind}
use Rattle.gp_world.specs.Sinks.{sink_rules, sink_announces, sink_lists, rule_word, row_report, with_row, row_reports, act_report}
use Rattle.gp_world.specs.World.{World, Sink, Effect, Out, told, put_reports, air_reports}

pub record IsSteady (report : Report) : Type 0 where
  pub takes : taken_in report ≡ None
  pub stays : (ran : Bool) (ledger : List Change) → Remembers ran report ledger ledger
  pub runs : (ran : Bool) → runs_behind ran report ≡ ran

abbrev pub AreSteady : List Report → Type 0
AreSteady [] = Unit {0}
AreSteady (report ∷ others) = IsSteady report × AreSteady others

pub steady-append : (xs ys : List Report) → AreSteady xs → AreSteady ys → AreSteady (xs ++ ys)
steady-append [] ys h k = k
steady-append (x ∷ xs) ys h k = (h.0, steady-append xs ys h.1 k)

-- ---- what a node sends

pub puts-steady : (number : ℕ) (puts : List Sent) → AreSteady (put_reports number puts)
puts-steady number [] = tt
puts-steady number (sent ∷ others) = (record { takes = refl; stays = λ ran ledger. refl; runs = λ ran. refl }, puts-steady (suc number) others)

pub airs-steady : (number : ℕ) (airs : List (List ℕ)) → AreSteady (air_reports number airs)
airs-steady number [] = tt
airs-steady number (octets ∷ others) = (record { takes = refl; stays = λ ran ledger. refl; runs = λ ran. refl }, airs-steady (suc number) others)

-- the messages and the frames that come of an event
abbrev pub sent_reports : World → Out → List Report
sent_reports world made = put_reports (length world.messages) made.puts ++ air_reports (length world.air) made.airs

pub sent-steady : (world : World) (made : Out) → AreSteady (sent_reports world made)
sent-steady world made =
    steady-append (put_reports (length world.messages) made.puts) (air_reports (length world.air) made.airs)
    (puts-steady (length world.messages) made.puts) (airs-steady (length world.air) made.airs)

-- ---- what a sink reports besides its verdicts

pub acts-steady : (done : List Act) → AreSteady (map act_report done)
acts-steady [] = tt
acts-steady (act ∷ done) = (record { takes = refl; stays = λ ran ledger. refl; runs = λ ran. refl }, acts-steady done)

row-steady : (rows : List Change) (at : ℕ) (v : Values) → IsSteady (row_report rows at v)
row-steady rows at v = record { takes = refl; stays = λ ran ledger. refl; runs = λ ran. refl }

rows-steady : (ledger : List Change) (at : ℕ) (pairings : List Pairing) → AreSteady (row_reports ledger at pairings)
rows-steady ledger at [] = tt
rows-steady ledger at (pairing ∷ others) = go (values_of ledger at) (rows-steady ledger (suc at) others)
  where
    go : (o : Option Values) → AreSteady (row_reports ledger (suc at) others) → AreSteady (with_row ledger at o (row_reports ledger (suc at) others))
    go None h = h
    go (Some v) h = (row-steady ledger at v, h)

rule-steady : (answer : RuleAnswer) → AreSteady (reports.Rule answer ∷ [])
rule-steady answer = (record { takes = refl; stays = λ ran ledger. refl; runs = λ ran. refl }, tt)

-- an effect with such reports alone, which leaves the ledger
pub record IsStill (sink : Sink) (effect : Effect) : Type 0 where
  pub says : AreSteady effect.says
  pub ledger : effect.sink.ledger ≡ sink.ledger
  pub change : effect.change ≡ None

pub rules-still : (rule : Rule) (sink : Sink) → IsStill sink (sink_rules rule sink)
unfolding sink_rules
rules-still rule sink = go (added sink.rules rule)
  where
    go : (r : Result (List Rule) RuleReason) →
        IsStill sink (let_ok r (λ (reason : RuleReason). told sink (reports.Rule (rule_word reason) ∷ [])) (λ (rules : List Rule). told (record sink { rules = rules }) (reports.Rule answers.Added ∷ [])))
    go (Err reason) = record { says = rule-steady (rule_word reason); ledger = refl; change = refl }
    go (Ok rules) = record { says = rule-steady answers.Added; ledger = refl; change = refl }

pub announces-still : (source : Src) (sink : Sink) → IsStill sink (sink_announces source sink)
unfolding sink_announces
announces-still source sink = go (known sink.ledger source.0)
  where
    go : (o : Option Known) →
        IsStill sink (let_else o (told sink (reports.Drop (Plain Unknown) ∷ [])) (λ (k : Known). record (told sink []) { puts = pairing_sent sink.config k.values k.floor ∷ [] }))
    go None = record { says = (record { takes = refl; stays = λ ran ledger. refl; runs = λ ran. refl }, tt); ledger = refl; change = refl }
    go (Some k) = record { says = tt; ledger = refl; change = refl }

pub lists-still : (sink : Sink) → IsStill sink (sink_lists sink)
unfolding sink_lists
lists-still sink = record {
  says = (record { takes = refl; stays = λ ran ledger. refl; runs = λ ran. refl }, rows-steady sink.ledger 0 (rows sink.ledger));
  ledger = refl;
  change = refl;
}
