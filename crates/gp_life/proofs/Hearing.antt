-- What a line of a life lets a sink hear are octets.
use Rattle.std.proofs.Common.{◌≡◌, ℕ, Bool, true, false, if◌then◌else◌, List, Option, Some, None, subst}
use Rattle.std.specs.Prelude.{codes}
use Rattle.std.specs.Int.{w8, w16, w64}
use Rattle.std.specs.Str.{bytes_eq}
use Rattle.gp_base.specs.Field.{IsOctets}
use Rattle.gp_script.specs.declared.script.RuleForm.{RuleForm}
use Rattle.gp_script.specs.declared.sink_script.SinkAction.{SinkAction}
use Rattle.gp_script.specs.declared.sink_script.SinkAction.TheVariants as kinds
use Rattle.gp_script.specs.declared.sink_script.SinkEvent.{SinkEvent}
use Rattle.gp_script.specs.declared.sink_script.SinkEvent.TheVariants.{Nothing, Line}
use Rattle.gp_script.specs.Kinds.{nothing, one, three, applied, keyed, whole, or_word, source, key, key_kind, level, hex, octets, number_up_to}
use Rattle.gp_script.specs.Script.{rule_form, channel, sink_mode, number32, is_nothing}
use Rattle.gp_script.specs.SinkScript.{actions, pairings, timed, sink_event_of}
use Rattle.gp_world.proofs.Asking.{Gives, nothing_gives, next_gives, skip, either_gives, no_more_gives, keyed_gives, applied_gives, whole_gives, octets-read}
use Rattle.gp_life.specs.Lived.{asked}

-- an action has octets where a sink hears them
abbrev ActionOctets : SinkAction → Type 0
ActionOctets (kinds.Hear heard) = IsOctets heard
ActionOctets other = Unit {0}

abbrev HasOctets : SinkEvent → Type 0
HasOctets Nothing = Unit {0}
HasOctets (Line reading action) = ActionOctets action

config_gives : Gives (actions (codes "config")) ActionOctets
config_gives =
    skip (hex w16) _ ActionOctets (λ a. skip (hex w64) _ ActionOctets (λ i. skip sink_mode _ ActionOctets (λ m. skip channel _ ActionOctets (λ c.
    skip (or_word (codes "-") key) _ ActionOctets (λ l. skip key (λ s. nothing (kinds.Config a i m c l s)) ActionOctets (λ s. nothing_gives (kinds.Config a i m c l s) ActionOctets tt))))))

hear_gives : Gives (actions (codes "hear")) ActionOctets
hear_gives = next_gives octets IsOctets octets-read (λ o. nothing (kinds.Hear o)) ActionOctets (λ o are. nothing_gives (kinds.Hear o) ActionOctets are)

pair_gives : Gives (pairings (codes "pair")) ActionOctets
pair_gives =
    skip source _ ActionOctets (λ s. skip key _ ActionOctets (λ k. skip key_kind _ ActionOctets (λ i. skip level _ ActionOctets (λ l.
    skip (hex w8) _ ActionOctets (λ d. skip number32 (λ c. nothing (kinds.Pair s k i l d c)) ActionOctets (λ c. nothing_gives (kinds.Pair s k i l d c) ActionOctets tt))))))

announce_gives : Gives (pairings (codes "announce")) ActionOctets
announce_gives = skip source (λ s. nothing (kinds.Announce s)) ActionOctets (λ s. nothing_gives (kinds.Announce s) ActionOctets tt)

table_gives : Gives (pairings (codes "table")) ActionOctets
table_gives = nothing_gives kinds.Table ActionOctets tt

rule_gives : Gives (pairings (codes "rule")) ActionOctets
rule_gives =
    applied_gives (three (or_word (codes "any") source) (hex w8) (hex w8) (λ s c e. λ form. kinds.Rule s c e form)) rule_form (λ form. Unit {0}) ActionOctets
    (skip (or_word (codes "any") source) _ IsRule (λ s. skip (hex w8) _ IsRule (λ c.
    skip (hex w8) (λ e. nothing (λ form. kinds.Rule s c e form)) IsRule (λ e. nothing_gives (λ form. kinds.Rule s c e form) IsRule (λ form t. tt)))))
    (λ ws form rest e. tt)
  where
    IsRule : (RuleForm → SinkAction) → Type 0
    IsRule make = (form : RuleForm) → Unit {0} → ActionOctets (make form)

pairings_give : (keyword : List ℕ) → Gives (pairings keyword) ActionOctets
pairings_give keyword =
    either_gives (bytes_eq keyword (codes "rule")) _ _ ActionOctets rule_gives
    (either_gives (bytes_eq keyword (codes "pair")) _ _ ActionOctets pair_gives
    (either_gives (bytes_eq keyword (codes "announce")) _ _ ActionOctets announce_gives
    (either_gives (bytes_eq keyword (codes "table")) _ _ ActionOctets table_gives (no_more_gives ActionOctets keyword))))

actions_give : (keyword : List ℕ) → Gives (actions keyword) ActionOctets
actions_give keyword =
    either_gives (bytes_eq keyword (codes "config")) _ _ ActionOctets config_gives
    (either_gives (bytes_eq keyword (codes "hear")) _ _ ActionOctets hear_gives (pairings_give keyword))

timed_gives : Gives timed HasOctets
timed_gives =
    applied_gives (one (number_up_to 18446744073609551615) (λ reading action. Line reading action)) (keyed actions) ActionOctets HasOctets
    (skip (number_up_to 18446744073609551615) (λ reading. nothing (λ action. Line reading action)) (λ make. (x : SinkAction) → ActionOctets x → HasOctets (make x))
    (λ reading. nothing_gives (λ action. Line reading action) (λ make. (x : SinkAction) → ActionOctets x → HasOctets (make x)) (λ x octets. octets)))
    (keyed_gives actions ActionOctets actions_give)

of_line : (line : List ℕ) (event : SinkEvent) → sink_event_of line ≡ Some event → HasOctets event
of_line line event e = go (is_nothing line) e
  where
    go : (b : Bool) → (if b then Some Nothing else whole timed line) ≡ Some event → HasOctets event
    go true t = let same : Nothing ≡ event = cc in subst HasOctets same tt
    go false t = whole_gives timed HasOctets timed_gives line event t

pub heard-octets : (line : List ℕ) (reading : ℕ) (heard : List ℕ) → asked line ≡ Some (Line reading (kinds.Hear heard)) → IsOctets heard
unfolding asked
heard-octets line reading heard e = of_line line (Line reading (kinds.Hear heard)) e
