-- The lines of a script.
use Rattle.std.specs.Prelude.{ℕ, ◌==◌, ◌&&◌, nat_le, nat_lt, Bool, true, List, [], ◌∷◌, ◌++◌, length, take, drop, Option, Some, None, codes, if◌then◌else◌}
use Rattle.std.specs.Option.{option_map}
use Rattle.std.specs.Str.{bytes_eq}
use Rattle.std.specs.Int.{w8, w16, w64, to_be_bytes}
use Rattle.hex.specs.Hex.{encode_upper}
use Rattle.gp_base.specs.Table.{let_else}
use Rattle.gp_script.specs.Kinds.{Parse, Kind, next, nothing, one, two, three, four, seven, applied, by_keyword, no_more, keyed, whole, or_word, name, source, key, key_kind, level, hex, hex_in, octets, number_up_to}
use Rattle.gp_script.specs.declared.script.Action.{Action}
use Rattle.gp_script.specs.declared.script.Action.TheVariants.{Sink, Device, Rule, Pair, Press, Inject, Hear, Announce, Table, Cut, Fault, On, OnCut, Off}
use Rattle.gp_script.specs.declared.script.RuleForm.{RuleForm}
use Rattle.gp_script.specs.declared.script.RuleForm.TheVariants as form
use Rattle.gp_script.specs.declared.script.Event.{Event}
use Rattle.gp_script.specs.declared.script.Event.TheVariants.{Nothing, Line}
use Rattle.gp_script.specs.declared.script.SinkMode.{SinkMode}
use Rattle.gp_script.specs.declared.script.SinkMode.TheVariants.{Derived, Unicast, Group}

-- ---- kinds of words that a script alone has

-- values of a kind that pass a test
abbrev pub tested_in : {A : Type 0} → (A → Bool) → Option A → Option A
tested_in test None = None
tested_in test (Some value) = if test value then Some value else None

abbrev pub where_true : {A : Type 0} → (A → Bool) → Kind A → Kind A
where_true test kind = record { read = λ word. tested_in test (kind.read word); text = kind.text; fits = λ value. kind.fits value && test value }

-- a channel, from 11 to 26
abbrev pub channel : Kind ℕ
channel = where_true (λ number. nat_le 11 number) (number_up_to 26)

-- a command, of 1 to 104 octets
abbrev pub command : Kind (List ℕ)
command = where_true (λ octets. nat_le 1 (length octets) && nat_le (length octets) 104) octets

-- `derived`, `unicast` or `group:ADDR`
abbrev pub sink_mode_in : List ℕ → Option SinkMode
sink_mode_in word =
    if bytes_eq word (codes "derived") then Some Derived
    else if bytes_eq word (codes "unicast") then Some Unicast
    else if bytes_eq (take 6 word) (codes "group:") then option_map (λ address. Group address) (hex_in w16 (drop 6 word))
    else None

abbrev pub sink_mode_text : SinkMode → List ℕ
sink_mode_text Derived = codes "derived"
sink_mode_text Unicast = codes "unicast"
sink_mode_text (Group address) = codes "group:" ++ encode_upper (to_be_bytes w16 address)

abbrev pub sink_mode_fits : SinkMode → Bool
sink_mode_fits Derived = true
sink_mode_fits Unicast = true
sink_mode_fits (Group address) = nat_lt address 65536

abbrev pub sink_mode : Kind SinkMode
sink_mode = record { read = sink_mode_in; text = sink_mode_text; fits = sink_mode_fits }

abbrev pub number16 : Kind ℕ
number16 = number_up_to 65535

abbrev pub number32 : Kind ℕ
number32 = number_up_to 4294967295

abbrev pub number64 : Kind ℕ
number64 = number_up_to 18446744073709551615

-- the number of a commit from now on, from 1 to 1,000,000
abbrev pub commit : Kind ℕ
commit = where_true (λ number. nat_le 1 number) (number_up_to 1000000)

-- one of the five ways in which a disk crashes
abbrev pub way : Kind ℕ
way = number_up_to 4

-- ---- the lines, by their keywords

-- what a rule makes of a command
abbrev pub rule_form : Parse RuleForm
rule_form = keyed (by_keyword (
    (codes "table", nothing form.Table)
    ∷ (codes "copy", two (hex w16) (hex w8) form.Copy)
    ∷ (codes "fixed", three (hex w16) (hex w8) octets form.Fixed)
    ∷ []) no_more)

-- what follows the name of a sink that is switched on: nothing, or a cut of its power
abbrev pub switched_on : List ℕ → Parse Action
switched_on sink [] = Some (On sink, [])
switched_on sink (word ∷ words) = if bytes_eq word (codes "cut") then two number16 way (λ calls by. OnCut sink calls by) words else None

-- the lines about a sink's power
abbrev pub power : List ℕ → Parse Action
power = by_keyword (
    (codes "cut", four name commit number16 way Cut)
    ∷ (codes "fault", three name commit number16 Fault)
    ∷ (codes "on", λ words. let_else (next name words) None (λ read. switched_on read.0 read.1))
    ∷ (codes "off", one name Off)
    ∷ []) no_more

-- the lines about frames
abbrev pub frames : List ℕ → Parse Action
frames = by_keyword (
    (codes "press", two name command Press)
    ∷ (codes "inject", one octets Inject)
    ∷ (codes "hear", three number64 name (hex w8) Hear)
    ∷ []) power

-- the lines about a sink's rules and pairings
abbrev pub pairings : List ℕ → Parse Action
pairings = by_keyword (
    (codes "rule", applied (four name (or_word (codes "any") source) (hex w8) (hex w8) (λ sink src id endpoint form. Rule sink src id endpoint form)) rule_form)
    ∷ (codes "pair", seven name source key key_kind level (hex w8) number32 Pair)
    ∷ (codes "announce", two name source Announce)
    ∷ (codes "table", one name Table)
    ∷ []) frames

-- the lines that make a node
abbrev pub nodes : List ℕ → Parse Action
nodes = by_keyword (
    (codes "sink", seven name (hex w16) (hex w64) sink_mode channel (or_word (codes "-") key) key Sink)
    ∷ (codes "device", seven name source key key_kind level (hex w8) number32 Device)
    ∷ []) pairings

-- an action behind a reading, which leaves room for 100,000,000 more
abbrev pub timed : Parse Event
timed = applied (one (number_up_to 18446744073609551615) (λ reading action. Line reading action)) (keyed nodes)

-- an empty line or a comment does nothing
abbrev pub is_nothing : List ℕ → Bool
is_nothing [] = true
is_nothing (first ∷ others) = first == 35

-- what a line of a script asks for
abbrev pub event_of : List ℕ → Option Event
event_of line = if is_nothing line then Some Nothing else whole timed line
