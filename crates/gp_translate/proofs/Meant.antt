-- Each rule that concerns a command gives an act.
use Rattle.std.proofs.Common.{◌≡◌, ℕ, ◌+◌, ◌<◌, Bool, true, false, not, ◌||◌, leb, cond, List, [], ◌∷◌, length, Option, Some, None, refl, ap, subst, arith}
use Rattle.std.specs.Prelude.{◌==◌, if◌then◌else◌, is_some}
use Rattle.std.specs.List.{list_all, filter, filter_map, cons_option}
use Rattle.std.proofs.lemmas.Bool.{agree_below, agree_below_at, and_parts, eqb-true}
use Rattle.std.proofs.lemmas.List.Sums.{sum_by-cons}
use Rattle.gp_base.specs.declared.identity.Src.{Src}
use Rattle.gp_base.specs.Field.{IsOctets}
use Rattle.gp_commands.specs.declared.command.GpdCommand.{GpdCommand}
use Rattle.gp_commands.specs.declared.command.GpdCommand.TheVariants.{Plain, Move, Step, Vector, Report, Commissioning, Reply, ChannelRequest, ChannelConfig, Other}
use Rattle.gp_commands.specs.Forms.{form_of}
use Rattle.gp_commands.specs.Forms as commands
use Rattle.gp_commands.proofs.Identifiers.{number_of}
use Rattle.gp_commands.specs.Command.{IsSound, HasForm, spelling}
use Rattle.gp_translate.specs.declared.act.Act.{Act}
use Rattle.gp_translate.specs.declared.rule.Rule.{Rule}
use Rattle.gp_translate.specs.declared.rule.Target.{Target}
use Rattle.gp_translate.specs.declared.rule.Target.TheVariants.{Parsed, Copy, Fixed}
use Rattle.gp_translate.specs.Meanings.{plain, moved, stepped, meaning, identifiers, has_meaning}
use Rattle.gp_translate.specs.Rules.{concerns, how_many, has_form, fits, AreRules}
use Rattle.gp_translate.specs.Acts.{identifier, made, act_of, acts_of}

-- an identifier of the form of this number has a line in the form's table
abbrev has_line : ℕ → ℕ → ℕ → Option ℕ → ℕ → Option ℕ → Bool
has_line form endpoint id rate size time =
    if form == 0 then is_some (plain endpoint id)
    else if form == 1 then is_some (moved endpoint id rate)
    else if form == 2 then is_some (stepped endpoint id size time)
    else form == 4

-- as each that has a meaning does
all_have : (endpoint : ℕ) (rate : Option ℕ) (size : ℕ) (time : Option ℕ) → agree_below (λ id. not (has_meaning id) || has_line (number_of (form_of id)) endpoint id rate size time) (λ id. true) 256 ≡ true
unfolding form_of commands.identifiers has_meaning identifiers plain moved stepped
all_have endpoint rate size time = refl

of_form : (form endpoint id : ℕ) (rate : Option ℕ) (size : ℕ) (time : Option ℕ) → id < 256 → number_of (form_of id) ≡ form → has_meaning id ≡ true → has_line form endpoint id rate size time ≡ true
of_form form endpoint id rate size time low e known =
    let at = agree_below_at (λ i. not (has_meaning i) || has_line (number_of (form_of i)) endpoint i rate size time) (λ i. true) 256 id (all_have endpoint rate size time) low in
    subst (λ (f : ℕ). has_line f endpoint id rate size time ≡ true) e (subst (λ (b : Bool). (not b || has_line (number_of (form_of id)) endpoint id rate size time) ≡ true) known at)

pub meant : (endpoint : ℕ) (c : GpdCommand) → HasForm c → IsOctets (spelling c) → has_meaning (identifier c) ≡ true → is_some (meaning endpoint c) ≡ true
unfolding spelling meaning has_meaning identifiers
meant endpoint (Plain id rest) form octets known = of_form 0 endpoint id None 0 None (octets 0) (ap number_of form) known
meant endpoint (Move id rate rest) form octets known = of_form 1 endpoint id rate 0 None (octets 0) (ap number_of form.0) known
meant endpoint (Step id size time rest) form octets known = of_form 2 endpoint id None size time (octets 0) (ap number_of form.0) known
meant endpoint (Vector id value rest) form octets known = absurd (let no : false ≡ true = of_form 3 endpoint id None 0 None (octets 0) (ap number_of form) known in cc)
meant endpoint (Report cluster records) form octets known = refl
meant endpoint (Commissioning c) form octets known = absurd cc
meant endpoint (Reply r) form octets known = absurd cc
meant endpoint (ChannelRequest value rest) form octets known = absurd cc
meant endpoint (ChannelConfig value rest) form octets known = absurd cc
meant endpoint (Other id rest) form octets known = absurd (let no : false ≡ true = of_form 9 endpoint id None 0 None (octets 0) (ap number_of form) known in cc)

-- a rule that concerns a command gives an act
gives : (endpoint : ℕ) (target : Target) (c : GpdCommand) → IsSound c → fits target (identifier c) ≡ true → is_some (made c endpoint target) ≡ true
gives endpoint Parsed c sound fit = meant endpoint c sound.1.form (subst (λ (b : List ℕ). IsOctets b) sound.1.spelled sound.1.are_octets) fit
gives endpoint (Copy cluster zcl) c sound fit = refl
gives endpoint (Fixed cluster zcl payload) c sound fit = refl

one_more : (act : Option Act) (acts : List Act) → is_some act ≡ true → length (cons_option act acts) ≡ length acts + 1
one_more None acts h = absurd cc
one_more (Some act) acts h = omega arith

-- the acts of one more rule, which concerns the command or doesn't
step : (here : Bool) (act : Option Act) (rule : Rule) (h : Rule → Option Act) (rules : List Rule) → h rule ≡ act → (here ≡ true → is_some act ≡ true) → length (filter_map h (cond here (rule ∷ rules) rules)) ≡ cond here 1 0 + length (filter_map h rules)
step true act rule h rules e some = omega (arith, ap (λ (a : Option Act). length (cons_option a (filter_map h rules))) e, one_more act (filter_map h rules) (some refl))
step false act rule h rules e some = omega arith

each : (source : Src) (c : GpdCommand) (rules : List Rule) → IsSound c → list_all has_form rules ≡ true → length (filter_map (act_of c) (filter (concerns (Some source) (identifier c)) rules)) ≡ how_many (Some source) (identifier c) rules
each source c [] sound formed = refl
each source c (rule ∷ rules) sound formed =
    let parts = and_parts (has_form rule) (list_all has_form rules) formed in
    let form = and_parts (not (leb 0xE0 rule.command)) (fits rule.target rule.command) parts.0 in
    let p = concerns (Some source) (identifier c) in
    let later = each source c rules sound parts.1 in
    let first = step (p rule) (act_of c rule) rule (act_of c) (filter p rules) refl
    (λ here. gives rule.endpoint rule.target c sound (subst (λ (id : ℕ). fits rule.target id ≡ true) (eqb-true rule.command (identifier c) (and_parts _ _ here).0) form.1)) in
    omega (arith, sum_by-cons (λ other. cond (p other) 1 0) rule rules, first, later)

pub one_each : (rules : List Rule) (source : Src) (c : GpdCommand) → AreRules rules → IsSound c → length (acts_of rules source c) ≡ how_many (Some source) (identifier c) rules
unfolding acts_of
one_each rules source c are sound = each source c rules sound are.formed
