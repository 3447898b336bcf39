-- What is reported and sent, by the answer of a sink.
use Rattle.std.specs.Prelude.{◌≡◌, List, [], ◌∷◌, Option, Some, None, Result, Ok, Err}
use Rattle.gp_cluster.specs.declared.message.Sent.{Sent}
use Rattle.gp_script.specs.declared.report.Cause.TheVariants.{Unknown}
use Rattle.gp_script.specs.declared.report.Dropped.TheVariants.{Plain}
use Rattle.gp_script.specs.declared.report.Report.{Report}
use Rattle.gp_script.specs.declared.report.Report.TheVariants.{Drop, Rule}
use Rattle.gp_script.specs.declared.report.RuleAnswer.{RuleAnswer}
use Rattle.gp_sink.specs.declared.verdict.Verdict.{Verdict}
use Rattle.gp_sink.specs.Sink.{GivesMessage}
use Rattle.gp_sink.specs.Verdict.{verdict_of}
use Rattle.gp_world.specs.Sinks.{verdict_reports, verdict_puts}
use Rattle.gp_power.specs.declared.answer.Answer.{Answer}
use Rattle.gp_power.specs.declared.answer.Answer.TheVariants as answers

-- an answer: the reports and the messages of its verdict, or its one report
abbrev pub says_of : Answer → List Report
says_of (answers.Verdict verdict) = verdict_reports (verdict_of verdict)
says_of (answers.Other report) = report ∷ []

abbrev pub puts_of : Answer → List Sent
puts_of (answers.Verdict verdict) = verdict_puts (verdict_of verdict)
puts_of (answers.Other report) = []

-- an announcement: the message, or that there is no current pairing, or the one report
abbrev pub says_announced : Result (Option Sent) Report → List Report
says_announced (Ok (Some sent)) = []
says_announced (Ok None) = Drop (Plain Unknown) ∷ []
says_announced (Err report) = report ∷ []

abbrev pub puts_announced : Result (Option Sent) Report → List Sent
puts_announced (Ok (Some sent)) = sent ∷ []
puts_announced (Ok None) = []
puts_announced (Err report) = []

-- a rule
abbrev pub says_ruled : RuleAnswer → List Report
says_ruled answer = Rule answer ∷ []

-- the message of an answer, where it has one, can be sent
abbrev pub GivesSendable : Answer → Type 0
GivesSendable (answers.Verdict verdict) = GivesMessage verdict
GivesSendable (answers.Other report) = Unit {0}

-- the message of a verdict, where it has one
abbrev pub Puts : Verdict → Option Sent → Type 0
Puts verdict None = verdict_puts (verdict_of verdict) ≡ []
Puts verdict (Some sent) = verdict_puts (verdict_of verdict) ≡ sent ∷ []
