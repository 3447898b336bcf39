-- The lines of a report.
use Rattle.std.specs.Prelude.{ℕ, ◌&&◌, ◌||◌, Bool, true, false, List, [], ◌∷◌, ◌++◌, take, drop, Option, Some, None, codes, if◌then◌else◌}
use Rattle.std.specs.Option.{option_map, is_some}
use Rattle.std.specs.Str.{bytes_eq}
use Rattle.std.specs.Int.{w8, w16}
use Rattle.gp_script.specs.Words.{line_of}
use Rattle.gp_script.specs.Kinds.{Parse, Kind, nothing, one, two, three, five, nine, applied, by_keyword, no_more, keyed, whole, or_word, upper, upper_in, among, flag, key_kind, level, mode, name, source, hex, hex_in, octets, number_up_to, Printed, by, word, texts, all_fit}
use Rattle.gp_script.specs.Script.{tested_in, number16, number32, number64}
use Rattle.gp_script.specs.declared.report.Entry.{Entry}
use Rattle.gp_script.specs.declared.report.Report.{Report}
use Rattle.gp_script.specs.declared.report.Report.TheVariants.{Paired, Unpaired, Acted, Refused, Drop, Put, Air, Zcl, Rule, Rows, Row, Closed, End, Armed, Cut, Halted, Off, Up, Dark, Running}
use Rattle.gp_script.specs.declared.report.Dest.{Dest}
use Rattle.gp_script.specs.declared.report.Dest.TheVariants as to
use Rattle.gp_script.specs.declared.report.Refusal.{Refusal}
use Rattle.gp_script.specs.declared.report.Refusal.TheVariants as refused
use Rattle.gp_script.specs.declared.report.RuleAnswer.{RuleAnswer}
use Rattle.gp_script.specs.declared.report.RuleAnswer.TheVariants as rules
use Rattle.gp_script.specs.declared.report.FrameFault.{FrameFault}
use Rattle.gp_script.specs.declared.report.FrameFault.TheVariants as frame
use Rattle.gp_script.specs.declared.report.CommandFault.{CommandFault}
use Rattle.gp_script.specs.declared.report.CommandFault.TheVariants as command
use Rattle.gp_script.specs.declared.report.Cause.{Cause}
use Rattle.gp_script.specs.declared.report.Cause.TheVariants as cause
use Rattle.gp_script.specs.declared.report.Dropped.{Dropped}
use Rattle.gp_script.specs.declared.report.Dropped.TheVariants.{Malformed, CommandIll, Stale, Plain}

-- ---- kinds of words

abbrev pub octet : Kind ℕ
octet = upper (hex w8)

abbrev pub address16 : Kind ℕ
address16 = upper (hex w16)

abbrev pub address : List ℕ → Option ℕ
address word = upper_in (hex_in w16) word

abbrev pub dest_in : List ℕ → Option Dest
dest_in word =
    if bytes_eq word (codes "all") then Some to.All
    else if bytes_eq (take 6 word) (codes "group:") then option_map (λ a. to.Group a) (address (drop 6 word))
    else if bytes_eq (take 5 word) (codes "node:") then option_map (λ a. to.Node a) (address (drop 5 word))
    else None

abbrev pub dest_text : Dest → List ℕ
dest_text to.All = codes "all"
dest_text (to.Group a) = codes "group:" ++ address16.text a
dest_text (to.Node a) = codes "node:" ++ address16.text a

abbrev pub dest_fits : Dest → Bool
dest_fits to.All = true
dest_fits (to.Group a) = address16.fits a
dest_fits (to.Node a) = address16.fits a

abbrev pub dest : Kind Dest
dest = record { read = dest_in; text = dest_text; fits = dest_fits }

abbrev pub refusal_text : Refusal → List ℕ
refusal_text refused.NotListening = codes "NotListening"
refusal_text refused.BadSource = codes "BadSource"
refusal_text refused.LevelLow = codes "LevelLow"
refusal_text refused.NoKey = codes "NoKey"
refusal_text refused.KeyTag = codes "KeyTag"
refusal_text refused.CounterEnd = codes "CounterEnd"
refusal_text refused.TableFull = codes "TableFull"

abbrev pub refusals : List Refusal
refusals = refused.NotListening ∷ refused.BadSource ∷ refused.LevelLow ∷ refused.NoKey ∷ refused.KeyTag ∷ refused.CounterEnd ∷ refused.TableFull ∷ []

abbrev pub refusal : Kind Refusal
refusal = among refusals refusal_text

abbrev pub rule_text : RuleAnswer → List ℕ
rule_text rules.Added = codes "added"
rule_text rules.Form = codes "form"
rule_text rules.Full = codes "full"
rule_text rules.Many = codes "many"

abbrev pub rule_answers : List RuleAnswer
rule_answers = rules.Added ∷ rules.Form ∷ rules.Full ∷ rules.Many ∷ []

abbrev pub rule_answer : Kind RuleAnswer
rule_answer = among rule_answers rule_text

abbrev pub frame_text : FrameFault → List ℕ
frame_text frame.TooLong = codes "TooLong"
frame_text frame.Short = codes "Short"
frame_text frame.MacForm = codes "MacForm"
frame_text frame.FrameKind = codes "FrameKind"
frame_text frame.Version = codes "Version"
frame_text frame.AppId = codes "AppId"
frame_text frame.LevelOne = codes "LevelOne"
frame_text frame.SecuredMaintenance = codes "SecuredMaintenance"
frame_text frame.NoCommand = codes "NoCommand"

abbrev pub frame_faults : List FrameFault
frame_faults = frame.TooLong ∷ frame.Short ∷ frame.MacForm ∷ frame.FrameKind ∷ frame.Version ∷ frame.AppId ∷ frame.LevelOne ∷ frame.SecuredMaintenance ∷ frame.NoCommand ∷ []

abbrev pub frame_fault : Kind FrameFault
frame_fault = among frame_faults frame_text

abbrev pub command_text : CommandFault → List ℕ
command_text command.Empty = codes "Empty"
command_text command.Short = codes "Short"
command_text command.ValueKind = codes "ValueKind"
command_text command.ReservedLevel = codes "ReservedLevel"
command_text command.ReservedKeyKind = codes "ReservedKeyKind"

abbrev pub command_faults : List CommandFault
command_faults = command.Empty ∷ command.Short ∷ command.ValueKind ∷ command.ReservedLevel ∷ command.ReservedKeyKind ∷ []

abbrev pub command_fault : Kind CommandFault
command_fault = among command_faults command_text

abbrev pub cause_text : Cause → List ℕ
cause_text cause.ToDevice = codes "ToDevice"
cause_text cause.Unsecured = codes "Unsecured"
cause_text cause.NeedsProxy = codes "NeedsProxy"
cause_text cause.Duplicate = codes "Duplicate"
cause_text cause.Unchecked = codes "Unchecked"
cause_text cause.Unknown = codes "Unknown"
cause_text cause.KeyBit = codes "KeyBit"
cause_text cause.LevelOther = codes "LevelOther"
cause_text cause.BadTag = codes "BadTag"
cause_text cause.Idle = codes "Idle"

abbrev pub plain_causes : List Cause
plain_causes = cause.ToDevice ∷ cause.Unsecured ∷ cause.NeedsProxy ∷ cause.Duplicate ∷ cause.Unchecked ∷ cause.Unknown ∷ cause.KeyBit ∷ cause.LevelOther ∷ cause.BadTag ∷ cause.Idle ∷ []

abbrev pub plain_cause : Kind Cause
plain_cause = among plain_causes cause_text

-- ---- the lines as they are read, by their keywords

abbrev pub plain : List ℕ → Parse Dropped
plain keyword words = option_map (λ cause. (Plain cause, words)) (plain_cause.read keyword)

abbrev pub dropped : Parse Dropped
dropped = keyed (by_keyword (
    (codes "Malformed", two frame_fault (number_up_to 255) Malformed)
    ∷ (codes "CommandIll", two command_fault (number_up_to 255) CommandIll)
    ∷ (codes "Stale", one number32 Stale)
    ∷ []) plain)

-- what a line finds of a sink's power
abbrev pub stood : List ℕ → Parse Report
stood = by_keyword (
    (codes "armed", nothing Armed)
    ∷ (codes "dark", nothing Dark)
    ∷ (codes "running", nothing Running)
    ∷ []) no_more

-- what becomes of a sink's power
abbrev pub powered : List ℕ → Parse Report
powered = by_keyword (
    (codes "cut", nothing Cut)
    ∷ (codes "halted", nothing Halted)
    ∷ (codes "off", nothing Off)
    ∷ (codes "up", one number16 Up)
    ∷ []) stood

-- what a device answers
abbrev pub answered : List ℕ → Parse Report
answered = by_keyword (
    (codes "closed", nothing Closed)
    ∷ (codes "end", nothing End)
    ∷ []) powered

-- what a sink says of its rules and rows
abbrev pub shown : List ℕ → Parse Report
shown = by_keyword (
    (codes "rule", one rule_answer Rule)
    ∷ (codes "rows", one number16 Rows)
    ∷ (codes "row", nine number16 (upper source) key_kind level mode address16 octet flag number32 Row)
    ∷ []) answered

abbrev pub sent : List ℕ → Parse Report
sent = by_keyword (
    (codes "put", three number64 dest (upper octets) Put)
    ∷ (codes "air", two number64 (upper octets) Air)
    ∷ (codes "zcl", five octet address16 flag octet (upper octets) Zcl)
    ∷ []) shown

abbrev pub verdict : List ℕ → Parse Report
verdict = by_keyword (
    (codes "paired", three number16 (upper source) number32 Paired)
    ∷ (codes "unpaired", three number16 (upper source) number32 Unpaired)
    ∷ (codes "acted", five number16 (upper source) number32 octet (number_up_to 4) Acted)
    ∷ (codes "refused", one refusal Refused)
    ∷ (codes "drop", applied (nothing (λ cause. Drop cause)) dropped)
    ∷ []) sent

abbrev pub entry : Parse Entry
entry = applied (two number64 (or_word (codes "-") name) (λ line node report. record { line = line; node = node; report = report })) (keyed verdict)

abbrev pub is_air : Report → Bool
is_air (Air frame sent) = true
is_air other = false

-- only a frame that no node sent has no name
abbrev pub is_named : Entry → Bool
is_named e = is_some e.node || is_air e.report

abbrev pub entry_of : List ℕ → Option Entry
entry_of line = tested_in is_named (whole entry line)

-- ---- the lines as they are printed

abbrev pub dropped_words : Dropped → List Printed
dropped_words (Malformed reason place) = word (codes "Malformed") ∷ by frame_fault reason ∷ by (number_up_to 255) place ∷ []
dropped_words (CommandIll reason place) = word (codes "CommandIll") ∷ by command_fault reason ∷ by (number_up_to 255) place ∷ []
dropped_words (Stale floor) = word (codes "Stale") ∷ by number32 floor ∷ []
dropped_words (Plain cause) = by plain_cause cause ∷ []

abbrev pub report_words : Report → List Printed
report_words (Paired row src floor) = word (codes "paired") ∷ by number16 row ∷ by source src ∷ by number32 floor ∷ []
report_words (Unpaired row src counter) = word (codes "unpaired") ∷ by number16 row ∷ by source src ∷ by number32 counter ∷ []
report_words (Acted row src counter id count) = word (codes "acted") ∷ by number16 row ∷ by source src ∷ by number32 counter ∷ by octet id ∷ by (number_up_to 4) count ∷ []
report_words (Refused reason) = word (codes "refused") ∷ by refusal reason ∷ []
report_words (Drop cause) = word (codes "drop") ∷ dropped_words cause
report_words (Put message where_to sent) = word (codes "put") ∷ by number64 message ∷ by dest where_to ∷ by octets sent ∷ []
report_words (Air frame sent) = word (codes "air") ∷ by number64 frame ∷ by octets sent ∷ []
report_words (Zcl endpoint cluster general id payload) = word (codes "zcl") ∷ by octet endpoint ∷ by address16 cluster ∷ by flag general ∷ by octet id ∷ by octets payload ∷ []
report_words (Rule answer) = word (codes "rule") ∷ by rule_answer answer ∷ []
report_words (Rows count) = word (codes "rows") ∷ by number16 count ∷ []
report_words (Row row src kind lvl way group device live floor) = word (codes "row") ∷ by number16 row ∷ by source src ∷ by key_kind kind ∷ by level lvl ∷ by mode way ∷ by address16 group ∷ by octet device ∷ by flag live ∷ by number32 floor ∷ []
report_words Closed = word (codes "closed") ∷ []
report_words End = word (codes "end") ∷ []
report_words Armed = word (codes "armed") ∷ []
report_words Cut = word (codes "cut") ∷ []
report_words Halted = word (codes "halted") ∷ []
report_words Off = word (codes "off") ∷ []
report_words (Up count) = word (codes "up") ∷ by number16 count ∷ []
report_words Dark = word (codes "dark") ∷ []
report_words Running = word (codes "running") ∷ []

abbrev pub entry_words : Entry → List Printed
entry_words e = by number64 e.line ∷ by (or_word (codes "-") name) e.node ∷ report_words e.report

-- whether an entry has a line, and the line
abbrev pub has_line : Entry → Bool
has_line e = all_fit (entry_words e) && is_named e

abbrev pub text_of : Entry → List ℕ
text_of e = line_of (texts (entry_words e))
