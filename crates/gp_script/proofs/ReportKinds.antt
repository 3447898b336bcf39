-- The kinds of words of a report.
use Rattle.std.proofs.Common.{◌≡◌, ℕ, Bool, true, false, List, [], ◌∷◌, Option, ◌++◌, length, take, drop, Some, None, refl, sym, ap, subst, ◌∙◌, inl, inr, arith}
use Rattle.std.specs.Prelude.{codes}
use Rattle.gp_script.specs.Kinds
use Rattle.gp_script.specs.Kinds.{Kind, upper, source, octets, number_up_to, flag, key_kind, level, mode, or_word, name}
use Rattle.gp_script.specs.Script.{number16, number32, number64}
use Rattle.gp_script.specs.Report.{octet, address16, dest, refusal, rule_answer, frame_fault, command_fault, plain_cause, refusals, refusal_text, rule_answers, rule_text, cause_text, plain_causes, frame_text, frame_faults, command_text, command_faults}
use Rattle.gp_script.specs.declared.report.Refusal.{Refusal}
use Rattle.gp_script.specs.declared.report.Refusal.TheVariants as refused
use Rattle.gp_script.specs.declared.report.RuleAnswer.{RuleAnswer}
use Rattle.gp_script.specs.declared.report.RuleAnswer.TheVariants as rules
use Rattle.gp_script.specs.declared.report.FrameFault.{FrameFault}
use Rattle.gp_script.specs.declared.report.FrameFault.TheVariants as frame
use Rattle.gp_script.specs.declared.report.CommandFault.{CommandFault}
use Rattle.gp_script.specs.declared.report.CommandFault.TheVariants as command
use Rattle.gp_script.specs.declared.report.Cause.{Cause}
use Rattle.gp_script.specs.declared.report.Cause.TheVariants as cause
use Rattle.gp_base.specs.declared.identity.KeyKind.{KeyKind}
use Rattle.gp_base.specs.declared.identity.KeyKind.TheVariants as key
use Rattle.gp_base.specs.declared.identity.Level.{Level}
use Rattle.gp_base.specs.declared.identity.Level.TheVariants as lvl
use Rattle.gp_base.specs.declared.identity.Mode.{Mode}
use Rattle.gp_base.specs.declared.identity.Mode.TheVariants as modes
use Rattle.std.specs.Option.{option_map}
use Rattle.std.specs.Str.{bytes_eq}
use Rattle.std.proofs.lemmas.Bool.{cases_Bool}
use Rattle.std.proofs.lemmas.List.{take-append-drop}
use Rattle.std.proofs.lemmas.Slice.Eq.{bytes_eq-Decides}
use Rattle.gp_script.specs.declared.report.Dest.{Dest}
use Rattle.gp_script.specs.declared.report.Dest.TheVariants as to
use Rattle.gp_script.proofs.Splitting.{is_plain}
use Rattle.gp_script.proofs.KindLaws.{IsKind, number_is, upper_hex8_is, upper_hex16_is, upper_source_is, upper_octets_is, among_is}

pub number16_is : IsKind number16
number16_is = number_is 65535 (omega arith)

pub number32_is : IsKind number32
number32_is = number_is 4294967295 (omega arith)

pub number64_is : IsKind number64
number64_is = number_is 18446744073709551615 (omega arith)

pub byte_is : IsKind (number_up_to 255)
byte_is = number_is 255 (omega arith)

pub four_is : IsKind (number_up_to 4)
four_is = number_is 4 (omega arith)

pub octet_is : IsKind octet
octet_is = upper_hex8_is

pub address_is : IsKind address16
address_is = upper_hex16_is

pub source_is : IsKind (upper source)
source_is = upper_source_is

pub octets_is : IsKind (upper octets)
octets_is = upper_octets_is

flag_again : (v : Bool) → (Kinds.among_in (false ∷ true ∷ []) Kinds.flag_text (Kinds.flag_text v) ≡ Some v) × (is_plain (Kinds.flag_text v) ≡ true)
flag_again false = (refl, refl)
flag_again true = (refl, refl)

pub flag_is : IsKind flag
flag_is = among_is (false ∷ true ∷ []) Kinds.flag_text (λ v. (flag_again v).0) (λ v. (flag_again v).1)

key_kind_again : (v : KeyKind) → (Kinds.among_in (key.Nwk ∷ key.Group ∷ key.DerivedGroup ∷ key.OutOfBox ∷ key.DerivedIndividual ∷ []) Kinds.key_kind_text (Kinds.key_kind_text v) ≡ Some v) × (is_plain (Kinds.key_kind_text v) ≡ true)
key_kind_again key.Nwk = (refl, refl)
key_kind_again key.Group = (refl, refl)
key_kind_again key.DerivedGroup = (refl, refl)
key_kind_again key.OutOfBox = (refl, refl)
key_kind_again key.DerivedIndividual = (refl, refl)

pub key_kind_is : IsKind key_kind
key_kind_is = among_is (key.Nwk ∷ key.Group ∷ key.DerivedGroup ∷ key.OutOfBox ∷ key.DerivedIndividual ∷ []) Kinds.key_kind_text (λ v. (key_kind_again v).0) (λ v. (key_kind_again v).1)

level_again : (v : Level) → (Kinds.among_in (lvl.Two ∷ lvl.Three ∷ []) Kinds.level_text (Kinds.level_text v) ≡ Some v) × (is_plain (Kinds.level_text v) ≡ true)
level_again lvl.Two = (refl, refl)
level_again lvl.Three = (refl, refl)

pub level_is : IsKind level
level_is = among_is (lvl.Two ∷ lvl.Three ∷ []) Kinds.level_text (λ v. (level_again v).0) (λ v. (level_again v).1)

mode_again : (v : Mode) → (Kinds.among_in (modes.Derived ∷ modes.Commissioned ∷ modes.Unicast ∷ []) Kinds.mode_text (Kinds.mode_text v) ≡ Some v) × (is_plain (Kinds.mode_text v) ≡ true)
mode_again modes.Derived = (refl, refl)
mode_again modes.Commissioned = (refl, refl)
mode_again modes.Unicast = (refl, refl)

pub mode_is : IsKind mode
mode_is = among_is (modes.Derived ∷ modes.Commissioned ∷ modes.Unicast ∷ []) Kinds.mode_text (λ v. (mode_again v).0) (λ v. (mode_again v).1)

-- a word with a text in front
with_front : (front word : List ℕ) → bytes_eq (take (length front) word) front ≡ true → word ≡ front ++ drop (length front) word
with_front front word h = sym (take-append-drop (length front) word) ∙ ap (λ (l : List ℕ). l ++ drop (length front) word) ((bytes_eq-Decides _ front).0 h)

address_from : (make : ℕ → Dest) (front rest word : List ℕ) (value : Dest) (o : Option ℕ) → address16.read rest ≡ o → word ≡ front ++ rest
    → ((a : ℕ) → dest.text (make a) ≡ front ++ address16.text a) → ((a : ℕ) → dest.fits (make a) ≡ address16.fits a)
    → option_map (λ a. make a) o ≡ Some value → (word ≡ dest.text value) × (dest.fits value ≡ true)
address_from make front rest word value None e w t f h = absurd cc
address_from make front rest word value (Some a) e w t f h =
    let b = address_is.back rest a e in
    let q : make a ≡ value = cc in
    subst (λ (d : Dest). (word ≡ dest.text d) × (dest.fits d ≡ true)) q (w ∙ ap (λ (l : List ℕ). front ++ l) b.0 ∙ sym (t a), f a ∙ b.1)

dest_back : (word : List ℕ) (value : Dest) → dest.read word ≡ Some value → (word ≡ dest.text value) × (dest.fits value ≡ true)
dest_back word value h = elim (cases_Bool (bytes_eq word (codes "all"))) [
  | inl e ↦
      let q : to.All ≡ value = cc (rw e at h) in
      subst (λ (d : Dest). (word ≡ dest.text d) × (dest.fits d ≡ true)) q ((bytes_eq-Decides word (codes "all")).0 e, refl)
  | inr e ↦ elim (cases_Bool (bytes_eq (take 6 word) (codes "group:"))) [
    | inl f ↦ address_from (λ a. to.Group a) (codes "group:") (drop 6 word) word value _ refl (with_front (codes "group:") word f) (λ a. refl) (λ a. refl) (rw (e, f) at h)
    | inr f ↦ elim (cases_Bool (bytes_eq (take 5 word) (codes "node:"))) [
      | inl g ↦ address_from (λ a. to.Node a) (codes "node:") (drop 5 word) word value _ refl (with_front (codes "node:") word g) (λ a. refl) (λ a. refl) (rw (e, f, g) at h)
      | inr g ↦ absurd (let k = rw (e, f, g) at h in cc)
    ]
  ]
]

dest_again : (value : Dest) → dest.fits value ≡ true → dest.read (dest.text value) ≡ Some value
dest_again to.All fit = refl
dest_again (to.Group a) fit = ap (option_map (λ (n : ℕ). to.Group n)) (address_is.again a fit)
dest_again (to.Node a) fit = ap (option_map (λ (n : ℕ). to.Node n)) (address_is.again a fit)

dest_plain : (value : Dest) → dest.fits value ≡ true → is_plain (dest.text value) ≡ true
dest_plain to.All fit = refl
dest_plain (to.Group a) fit = address_is.plain a fit
dest_plain (to.Node a) fit = address_is.plain a fit

pub dest_is : IsKind dest
dest_is = record { back = dest_back; again = dest_again; plain = dest_plain }

refusal_again : (v : Refusal) → (Kinds.among_in refusals refusal_text (refusal_text v) ≡ Some v) × (is_plain (refusal_text v) ≡ true)
refusal_again refused.NotListening = (refl, refl)
refusal_again refused.BadSource = (refl, refl)
refusal_again refused.LevelLow = (refl, refl)
refusal_again refused.NoKey = (refl, refl)
refusal_again refused.KeyTag = (refl, refl)
refusal_again refused.CounterEnd = (refl, refl)
refusal_again refused.TableFull = (refl, refl)

pub refusal_is : IsKind refusal
refusal_is = among_is refusals refusal_text (λ v. (refusal_again v).0) (λ v. (refusal_again v).1)

rule_answer_again : (v : RuleAnswer) → (Kinds.among_in rule_answers rule_text (rule_text v) ≡ Some v) × (is_plain (rule_text v) ≡ true)
rule_answer_again rules.Added = (refl, refl)
rule_answer_again rules.Form = (refl, refl)
rule_answer_again rules.Full = (refl, refl)
rule_answer_again rules.Many = (refl, refl)

pub rule_answer_is : IsKind rule_answer
rule_answer_is = among_is rule_answers rule_text (λ v. (rule_answer_again v).0) (λ v. (rule_answer_again v).1)

frame_word_again : (v : FrameFault) → (Kinds.among_in frame_faults frame_text (frame_text v) ≡ Some v) × (is_plain (frame_text v) ≡ true)
frame_word_again frame.TooLong = (refl, refl)
frame_word_again frame.Short = (refl, refl)
frame_word_again frame.MacForm = (refl, refl)
frame_word_again frame.FrameKind = (refl, refl)
frame_word_again frame.Version = (refl, refl)
frame_word_again frame.AppId = (refl, refl)
frame_word_again frame.LevelOne = (refl, refl)
frame_word_again frame.SecuredMaintenance = (refl, refl)
frame_word_again frame.NoCommand = (refl, refl)

pub frame_fault_is : IsKind frame_fault
frame_fault_is = among_is frame_faults frame_text (λ v. (frame_word_again v).0) (λ v. (frame_word_again v).1)

command_word_again : (v : CommandFault) → (Kinds.among_in command_faults command_text (command_text v) ≡ Some v) × (is_plain (command_text v) ≡ true)
command_word_again command.Empty = (refl, refl)
command_word_again command.Short = (refl, refl)
command_word_again command.ValueKind = (refl, refl)
command_word_again command.ReservedLevel = (refl, refl)
command_word_again command.ReservedKeyKind = (refl, refl)

pub command_fault_is : IsKind command_fault
command_fault_is = among_is command_faults command_text (λ v. (command_word_again v).0) (λ v. (command_word_again v).1)

plain_cause_again : (v : Cause) → (Kinds.among_in plain_causes cause_text (cause_text v) ≡ Some v) × (is_plain (cause_text v) ≡ true)
plain_cause_again cause.ToDevice = (refl, refl)
plain_cause_again cause.Unsecured = (refl, refl)
plain_cause_again cause.NeedsProxy = (refl, refl)
plain_cause_again cause.Duplicate = (refl, refl)
plain_cause_again cause.Unchecked = (refl, refl)
plain_cause_again cause.Unknown = (refl, refl)
plain_cause_again cause.KeyBit = (refl, refl)
plain_cause_again cause.LevelOther = (refl, refl)
plain_cause_again cause.BadTag = (refl, refl)
plain_cause_again cause.Idle = (refl, refl)

pub plain_cause_is : IsKind plain_cause
plain_cause_is = among_is plain_causes cause_text (λ v. (plain_cause_again v).0) (λ v. (plain_cause_again v).1)
