-- Rules of a translation, and which are added (Zigbee PRO Green Power, A.3.6.1.1, the translation table).
use Rattle.std.specs.Prelude.{ℕ, ◌≤◌, Bool, true, false, not, ◌&&◌, ◌==◌, nat_le, List, [], ◌∷◌, ◌++◌, map, length, Option, Some, None, Result, IsTrue}
use Rattle.std.specs.List.{count_by, list_any, list_all}
use Rattle.gp_base.specs.declared.identity.Src.{Src}
use Rattle.gp_base.specs.Table.{first_of, answer}
use Rattle.gp_translate.specs.declared.rule.Rule.{Rule}
use Rattle.gp_translate.specs.declared.rule.Target.{Target}
use Rattle.gp_translate.specs.declared.rule.Target.TheVariants.{Parsed, Copy, Fixed}
use Rattle.gp_translate.specs.declared.rule.RuleReason.{RuleReason}
use Rattle.gp_translate.specs.declared.rule.RuleReason.TheVariants.{Form, Full, Many}
use Rattle.gp_translate.specs.Meanings.{identifiers, has_meaning}

-- the most rules that stand, that concern one command of one device, and the longest fixed payload
abbrev pub CAPACITY : ℕ
CAPACITY = 64

abbrev pub MOST : ℕ
MOST = 4

abbrev pub FIXED : ℕ
FIXED = 32

-- ---- which rules concern a command

-- a rule with this source is for a device, or where none is named for all of them
abbrev pub is_for : Option Src → Option Src → Bool
is_for None device = true
is_for (Some own) None = false
is_for (Some own) (Some device) = own.0 == device.0

-- the rule is about a command, for a device or for all of them
abbrev pub concerns : Option Src → ℕ → Rule → Bool
concerns device command rule = rule.command == command && is_for rule.source device

-- how many rules are
abbrev pub how_many : Option Src → ℕ → List Rule → ℕ
how_many device command rules = count_by (concerns device command) rules

-- ---- which rules are added

-- what a target asks of the command, or of its payload
abbrev pub fits : Target → ℕ → Bool
fits Parsed command = has_meaning command
fits (Copy cluster zcl) command = true
fits (Fixed cluster zcl payload) command = nat_le (length payload) FIXED

-- the command is below 0xE0, where those begin that pair, and the target fits
abbrev pub has_form : Rule → Bool
has_form rule = not (nat_le 0xE0 rule.command) && fits rule.target rule.command

-- as many rules as may are about a command, for a device or for all of them
unfoldable pub is_full : Option Src → ℕ → List Rule → Bool
is_full device command rules = nat_le MOST (how_many device command rules)

-- with one more they would be too many: about its command, for its device; where it names none, for a device of some rule or
-- for all of them
abbrev pub is_crowded : List Rule → Rule → Option Src → Bool
is_crowded rules rule (Some device) = is_full (Some device) rule.command rules
is_crowded rules rule None = list_any (λ other. is_full other.source rule.command rules) rules

-- why a rule isn't added: the first of these reasons that holds
abbrev pub reasons : List Rule → Rule → List (Bool × RuleReason)
reasons rules rule =
    (not (has_form rule), Form)
    ∷ (nat_le CAPACITY (length rules), Full)
    ∷ (is_crowded rules rule rule.source, Many)
    ∷ []

abbrev pub refusal : List Rule → Rule → Option RuleReason
refusal rules rule = first_of (reasons rules rule)

-- the rules with one more at the end, or why it isn't added
abbrev pub added : List Rule → Rule → Result (List Rule) RuleReason
added rules rule = answer (refusal rules rule) (rules ++ rule ∷ [])

-- ---- the lists of rules that there are

pub record AreRules (rules : List Rule) : Type 0 where
  -- each has its form,
  pub formed : IsTrue (list_all has_form rules)
  -- there is room for them,
  pub few : length rules ≤ CAPACITY
  -- and no command of a device is concerned by too many
  pub sparse : (device : Src) (command : ℕ) → how_many (Some device) command rules ≤ MOST

-- ---- the rules that a sink begins with

-- a rule for every device, that parses the command for endpoint 1
abbrev pub standard_rule : ℕ → Rule
standard_rule command = record { source = None; command = command; endpoint = 1; target = Parsed }

-- one for each command that has a meaning
unfoldable pub standard : List Rule
standard = map standard_rule identifiers
