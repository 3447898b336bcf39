-- What a running sink does in one line of a script.
use Rattle.std.specs.Prelude.{ℕ, suc, List, [], ◌∷◌, map, length, Option, Some, None}
use Rattle.gp_base.specs.declared.identity.Src.{Src}
use Rattle.gp_base.specs.Table.{let_else, let_ok}
use Rattle.gp_cluster.specs.declared.message.Sent.{Sent}
use Rattle.gp_translate.specs.declared.act.Act.{Act}
use Rattle.gp_translate.specs.declared.rule.Rule.{Rule}
use Rattle.gp_translate.specs.declared.rule.RuleReason.{RuleReason}
use Rattle.gp_translate.specs.declared.rule.RuleReason.TheVariants as reasons
use Rattle.gp_translate.specs.declared.rule.Target.{Target}
use Rattle.gp_translate.specs.declared.rule.Target.TheVariants as targets
use Rattle.gp_translate.specs.Rules.{added}
use Rattle.gp_script.specs.declared.report.Cause.TheVariants.{Unknown}
use Rattle.gp_script.specs.declared.report.Dropped.TheVariants.{Plain}
use Rattle.gp_script.specs.declared.report.Refusal.TheVariants.{TableFull}
use Rattle.gp_script.specs.declared.report.Report.{Report}
use Rattle.gp_script.specs.declared.report.Report.TheVariants as reports
use Rattle.gp_script.specs.declared.report.RuleAnswer.{RuleAnswer}
use Rattle.gp_script.specs.declared.report.RuleAnswer.TheVariants as answers
use Rattle.gp_script.specs.declared.script.RuleForm.{RuleForm}
use Rattle.gp_script.specs.declared.script.RuleForm.TheVariants as forms
use Rattle.gp_ideal.specs.declared.ledger.Change.{Change}
use Rattle.gp_ideal.specs.declared.ledger.Values.{Values}
use Rattle.gp_ideal.specs.Heard.{heard}
use Rattle.gp_ideal.specs.Ledger.{Pairing, rows, values_of, live, floor, known, with_change}
use Rattle.gp_ideal.specs.Messages.{pairing_sent}
use Rattle.gp_ideal.specs.Paired.{paired}
use Rattle.gp_ideal.specs.Verdict.{Verdict, Acted, Paired, Unpaired, Refused, Full, Dropped, Ruling}
use Rattle.gp_world.specs.World.{Sink, Effect, told}

-- an act
abbrev pub act_report : Act → Report
act_report act = reports.Zcl act.endpoint act.cluster act.general act.zcl act.payload

-- a verdict as it is reported: what was acted on with its acts
abbrev pub verdict_reports : Verdict → List Report
verdict_reports (Acted row source counter command acts) = reports.Acted row source counter command (length acts) ∷ map act_report acts
verdict_reports (Paired row source floor message) = reports.Paired row source floor ∷ []
verdict_reports (Unpaired row source counter message) = reports.Unpaired row source counter ∷ []
verdict_reports (Refused reason) = reports.Refused reason ∷ []
verdict_reports Full = reports.Refused TableFull ∷ []
verdict_reports (Dropped cause) = reports.Drop cause ∷ []

-- the messages that come of a verdict
abbrev pub verdict_puts : Verdict → List Sent
verdict_puts (Acted row source counter command acts) = []
verdict_puts (Paired row source floor message) = message ∷ []
verdict_puts (Unpaired row source counter message) = message ∷ []
verdict_puts (Refused reason) = []
verdict_puts Full = []
verdict_puts (Dropped cause) = []

-- the sink has remembered the change of a ruling, and gives its verdict
unfoldable pub ruled : Sink → Ruling → Effect
ruled sink ruling = record {
  sink = record sink { ledger = with_change ruling.change sink.ledger };
  change = ruling.change;
  says = verdict_reports ruling.verdict;
  puts = verdict_puts ruling.verdict;
}

-- a frame reaches a sink
unfoldable pub sink_hears : List ℕ → Sink → Effect
sink_hears octets sink = ruled sink (heard sink.rules sink.ledger octets)

-- a device is to be paired with a sink
unfoldable pub sink_pairs : Values → ℕ → Sink → Effect
sink_pairs values counter sink = ruled sink (paired sink.config sink.ledger values counter)

-- ---- rules

-- what a rule of a script makes of a command
abbrev pub target_of : RuleForm → Target
target_of forms.Table = targets.Parsed
target_of (forms.Copy cluster command) = targets.Copy cluster command
target_of (forms.Fixed cluster command payload) = targets.Fixed cluster command payload

abbrev pub rule_of : Option Src → ℕ → ℕ → RuleForm → Rule
rule_of source command endpoint form = record { source = source; command = command; endpoint = endpoint; target = target_of form }

abbrev pub rule_word : RuleReason → RuleAnswer
rule_word reasons.Form = answers.Form
rule_word reasons.Full = answers.Full
rule_word reasons.Many = answers.Many

-- a rule is added behind the others, or refused
unfoldable pub sink_rules : Rule → Sink → Effect
sink_rules rule sink =
    let_ok (added sink.rules rule)
    (λ reason. told sink (reports.Rule (rule_word reason) ∷ []))
    (λ rules. told (record sink { rules = rules }) (reports.Rule answers.Added ∷ []))

-- ---- what a sink tells of its pairings

-- proxies are told of a current pairing again
unfoldable pub sink_announces : Src → Sink → Effect
sink_announces source sink =
    let_else (known sink.ledger source.0) (told sink (reports.Drop (Plain Unknown) ∷ []))
    (λ k. record (told sink []) { puts = pairing_sent sink.config k.values k.floor ∷ [] })

-- a row as it is listed
abbrev pub row_report : List Change → ℕ → Values → Report
row_report ledger at v = reports.Row at v.src v.kind v.level v.mode v.group v.device (live ledger at) (floor ledger at)

abbrev pub with_row : List Change → ℕ → Option Values → List Report → List Report
with_row ledger at None others = others
with_row ledger at (Some v) others = row_report ledger at v ∷ others

-- the rows of these pairings, which are numbered from this one on
abbrev pub row_reports : List Change → ℕ → List Pairing → List Report
row_reports ledger at [] = []
row_reports ledger at (pairing ∷ others) = with_row ledger at (values_of ledger at) (row_reports ledger (suc at) others)

-- the rows are listed, live or not
unfoldable pub sink_lists : Sink → Effect
sink_lists sink = told sink (reports.Rows (length (rows sink.ledger)) ∷ row_reports sink.ledger 0 (rows sink.ledger))
