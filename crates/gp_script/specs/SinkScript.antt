-- The lines of one sink's life.
use Rattle.std.specs.Prelude.{ℕ, List, [], ◌∷◌, Option, Some, codes, if◌then◌else◌}
use Rattle.std.specs.Int.{w8, w16, w64}
use Rattle.gp_script.specs.Kinds.{Parse, nothing, one, three, six, applied, by_keyword, no_more, keyed, whole, or_word, source, key, key_kind, level, hex, octets, number_up_to}
use Rattle.gp_script.specs.Script.{sink_mode, channel, number32, rule_form, is_nothing}
use Rattle.gp_script.specs.declared.sink_script.SinkAction.{SinkAction}
use Rattle.gp_script.specs.declared.sink_script.SinkAction.TheVariants.{Config, Hear, Pair, Rule, Announce, Table}
use Rattle.gp_script.specs.declared.sink_script.SinkEvent.{SinkEvent}
use Rattle.gp_script.specs.declared.sink_script.SinkEvent.TheVariants.{Nothing, Line}

-- the lines about pairings, by their keywords
abbrev pub pairings : List ℕ → Parse SinkAction
pairings = by_keyword (
    (codes "rule", applied (three (or_word (codes "any") source) (hex w8) (hex w8) (λ src id endpoint form. Rule src id endpoint form)) rule_form)
    ∷ (codes "pair", six source key key_kind level (hex w8) number32 Pair)
    ∷ (codes "announce", one source Announce)
    ∷ (codes "table", nothing Table)
    ∷ []) no_more

-- those that set the sink up, or reach it
abbrev pub actions : List ℕ → Parse SinkAction
actions = by_keyword (
    (codes "config", six (hex w16) (hex w64) sink_mode channel (or_word (codes "-") key) key Config)
    ∷ (codes "hear", one octets Hear)
    ∷ []) pairings

-- an action behind a reading, which leaves room for 100,000,000 more
abbrev pub timed : Parse SinkEvent
timed = applied (one (number_up_to 18446744073609551615) (λ reading action. Line reading action)) (keyed actions)

-- what a line of a life asks for
abbrev pub sink_event_of : List ℕ → Option SinkEvent
sink_event_of line = if is_nothing line then Some Nothing else whole timed line
