-- The life of one sink: what it does in each line, from the rows on its disk on.
use Rattle.std.specs.Prelude.{ℕ, ◌+◌, List, [], ◌++◌, codes, length, Option, Some, None, Result, Ok, Err}
use Rattle.gp_translate.specs.Rules.{standard}
use Rattle.gp_script.specs.declared.reason.LineReason.{LineReason}
use Rattle.gp_script.specs.declared.reason.LineReason.TheVariants.{Form}
use Rattle.gp_script.specs.declared.report.Entry.{Entry}
use Rattle.gp_script.specs.declared.sink_script.SinkAction.{SinkAction}
use Rattle.gp_script.specs.declared.sink_script.SinkAction.TheVariants as actions
use Rattle.gp_script.specs.declared.sink_script.SinkEvent.{SinkEvent}
use Rattle.gp_script.specs.declared.sink_script.SinkEvent.TheVariants.{Nothing, Line}
use Rattle.gp_ideal.specs.declared.ledger.Change.{Change}
use Rattle.gp_ideal.specs.Paired.{offered}
use Rattle.gp_world.specs.Sinks.{sink_hears, sink_pairs, sink_rules, sink_announces, sink_lists, rule_of}
use Rattle.gp_world.specs.Step.{config_of}
use Rattle.gp_world.specs.World.{Sink, Effect, entries, put_reports}

-- the sink, and how many messages it has sent
pub record Life : Type 0 where
  pub sink : Sink
  pub sent : ℕ

-- what a line leaves, and what it reports; where the sink isn't set up yet, there is no life
pub record Lived : Type 0 where
  pub life : Option Life
  pub told : List Entry

-- the name of the sink in the report
abbrev pub own_name : List ℕ
own_name = codes "sink"

-- what comes of the effect of an event: the messages are numbered on
unfoldable pub lived : Life → ℕ → Effect → Lived
lived life line effect = record {
  life = Some (record { sink = effect.sink; sent = life.sent + length effect.puts });
  told = entries line (Some own_name) (effect.says ++ put_reports life.sent effect.puts);
}

-- a sink that is set up begins with the standard rules, and with the ledger of the rows on its disk
unfoldable pub begun : List Change → SinkAction → Result Lived LineReason
begun opening (actions.Config address ieee mode channel link shared) =
    let sink : Sink = record { config = config_of address ieee mode channel link shared; rules = standard; ledger = opening } in
    Ok (record { life = Some (record { sink = sink; sent = 0 }); told = [] })
begun opening other = Err Form

-- an event of the sink; it is set up once
unfoldable pub gone_on : Life → ℕ → SinkAction → Result Lived LineReason
gone_on life line (actions.Config address ieee mode channel link shared) = Err Form
gone_on life line (actions.Hear octets) = Ok (lived life line (sink_hears octets life.sink))
gone_on life line (actions.Pair source key kind level device counter) = Ok (lived life line (sink_pairs (offered life.sink.config source key kind level device) counter life.sink))
gone_on life line (actions.Rule source command endpoint form) = Ok (lived life line (sink_rules (rule_of source command endpoint form) life.sink))
gone_on life line (actions.Announce source) = Ok (lived life line (sink_announces source life.sink))
gone_on life line actions.Table = Ok (lived life line (sink_lists life.sink))

-- one line of a life that began with this ledger
unfoldable pub life_step : List Change → Option Life → ℕ → SinkEvent → Result Lived LineReason
life_step opening life line Nothing = Ok (record { life = life; told = [] })
life_step opening None line (Line reading action) = begun opening action
life_step opening (Some life) line (Line reading action) = gone_on life line action
