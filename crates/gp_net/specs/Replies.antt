-- What a line asks of a sink, and what a node replies, in terms of the ideal network. No clause of a public call cites this file:
-- nothing in it has to be believed.
use Rattle.std.specs.Prelude.{◌≤◌, Bool, List, [], ◌∷◌, Option, Some, None, Result, Ok, Err}
use Rattle.gp_cluster.specs.declared.message.Sent.{Sent}
use Rattle.gp_power.specs.declared.answer.Answer.{Answer}
use Rattle.gp_power.specs.declared.answer.Answer.TheVariants as answers
use Rattle.gp_script.specs.declared.report.Cause.TheVariants.{Unknown}
use Rattle.gp_script.specs.declared.report.Dropped.TheVariants.{Plain}
use Rattle.gp_script.specs.declared.report.Report.{Report}
use Rattle.gp_script.specs.declared.report.Report.TheVariants.{Drop}
use Rattle.gp_sink.specs.Sink.{GivesMessage, IsMessage}
use Rattle.gp_sink.specs.Verdict.{verdict_of, offered}
use Rattle.gp_world.specs.Power.{at_running, adds_rule, arms, turns_off, turns_on, flickers}
use Rattle.gp_world.specs.Sinks.{verdict_reports, verdict_puts, sink_pairs, sink_announces}
use Rattle.gp_world.specs.World as ideal
use Rattle.gp_world.specs.World.{ToCut, ToFail}
use Rattle.gp_net.specs.declared.reply.Reply.{Reply}
use Rattle.gp_net.specs.declared.reply.Reply.TheVariants as replies
use Rattle.gp_net.specs.declared.reply.Switch.{Switch}
use Rattle.gp_net.specs.declared.reply.Switch.TheVariants as switches
use Rattle.gp_net.specs.declared.reply.Request.{Request}
use Rattle.gp_net.specs.declared.reply.Request.TheVariants as requests

-- the event that a line asks for
abbrev pub asked : Request → Bool → ideal.Powered → ideal.Out
asked (requests.Pair offer) bit powered = at_running (λ sink. sink_pairs (offered sink.config offer) offer.counter sink) bit powered
asked (requests.Announce source) bit powered = at_running (sink_announces source) bit powered
asked (requests.Rule rule) bit powered = adds_rule rule powered
asked (requests.Cut commit calls way) bit powered = arms (ToCut commit calls) powered
asked (requests.Fault commit calls) bit powered = arms (ToFail commit calls) powered
asked requests.Off bit powered = turns_off bit powered

-- the numbers of a request are those of a line
abbrev pub IsRequest : Request → Type 0
IsRequest (requests.Cut commit calls way) = (1 ≤ commit) × (commit ≤ 1000000) × (way ≤ 4)
IsRequest (requests.Fault commit calls) = (1 ≤ commit) × (commit ≤ 1000000)
IsRequest other = Unit {0}

-- the event by which a sink is switched on
abbrev pub switched : Switch → ideal.Powered → ideal.Out
switched switches.On powered = turns_on powered
switched (switches.Flicker calls way) powered = flickers powered

abbrev pub IsSwitch : Switch → Type 0
IsSwitch switches.On = Unit {0}
IsSwitch (switches.Flicker calls way) = way ≤ 4

-- ---- what is reported and sent

abbrev pub says : Reply → List Report
says (replies.Verdict verdict) = verdict_reports (verdict_of verdict)
says (replies.Put sent) = []
says (replies.Report report) = report ∷ []

abbrev pub puts : Reply → List Sent
puts (replies.Verdict verdict) = verdict_puts (verdict_of verdict)
puts (replies.Put sent) = sent ∷ []
puts (replies.Report report) = []

abbrev pub reply_of : Answer → Reply
reply_of (answers.Verdict verdict) = replies.Verdict verdict
reply_of (answers.Other report) = replies.Report report

abbrev pub announced : Result (Option Sent) Report → Reply
announced (Ok (Some sent)) = replies.Put sent
announced (Ok None) = replies.Report (Drop (Plain Unknown))
announced (Err report) = replies.Report report

-- the message of a reply can be sent
abbrev pub IsReply : Reply → Type 0
IsReply (replies.Verdict verdict) = GivesMessage verdict
IsReply (replies.Put sent) = IsMessage sent
IsReply (replies.Report report) = Unit {0}
