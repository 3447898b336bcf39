-- What a line of a script asks for has octets where octets belong.
use Rattle.std.proofs.Common.{◌≡◌, ℕ, Bool, true, false, ◌&&◌, cond, if◌then◌else◌, List, [], ◌∷◌, length, Option, Some, None, option_map, Result, Ok, Err, refl, sym, ap, ◌∙◌, subst, nat_le, ◌<◌, ◌≤◌, arith}
use Rattle.std.proofs.lemmas.Bool.{leb-true, and_parts}
use Rattle.std.specs.Prelude.{codes, decimal}
use Rattle.std.specs.Str.Parse.{digits_value}
use Rattle.std.specs.Int.{w8, w16, w64}
use Rattle.std.specs.Result.{result_ok}
use Rattle.std.specs.Str.{bytes_eq}
use Rattle.hex.specs.Hex.{decode_of, decode_sized}
use Rattle.hex.specs.declared.error.FromHexError.{FromHexError}
use Rattle.hex.proofs.HexLemmas.{decode_of-ok, decode_sized-ok, decode_sized-twice}
use Rattle.gp_base.specs.declared.identity.Key.{Key}
use Rattle.gp_base.specs.Field.{IsOctets}
use Rattle.gp_base.specs.Table.{let_else}
use Rattle.gp_script.specs.declared.script.Action.{Action}
use Rattle.gp_script.specs.declared.script.Action.TheVariants as actions
use Rattle.gp_script.specs.declared.script.RuleForm.{RuleForm}
use Rattle.gp_script.specs.declared.script.Event.{Event}
use Rattle.gp_script.specs.declared.script.Event.TheVariants.{Nothing, Line}
use Rattle.gp_script.specs.Kinds.{Kind, Parse, next, nothing, one, two, four, applied, no_more, keyed, whole, or_word, name, source, key, key_in, key_kind, level, hex, octets, octets_in, number_in, number_up_to}
use Rattle.gp_script.specs.Script.{event_of, timed, nodes, pairings, frames, power, switched_on, rule_form, command, commit, way, channel, sink_mode, number16, number32, number64, is_nothing, tested_in}
use Rattle.gp_script.specs.Words.{words, is_done}
use Rattle.gp_world.proofs.Octets.{none-octets}

-- a command is of 1 to 104 octets
pub record IsCommand (command : List ℕ) : Type 0 where
  pub octets : IsOctets command
  pub some : 0 < length command
  pub room : length command ≤ 104

-- the number of a commit
abbrev pub IsCommit : ℕ → Type 0
IsCommit number = (1 ≤ number) × (number ≤ 1000000)

-- a device's key, a command and a frame are octets, and the command fits a frame; a commit and a way are within their bounds
abbrev pub ActionOctets : Action → Type 0
ActionOctets (actions.Cut sink at calls by) = IsCommit at × (by ≤ 4)
ActionOctets (actions.Fault sink at calls) = IsCommit at
ActionOctets (actions.OnCut sink calls by) = by ≤ 4
ActionOctets (actions.Device named from own kind at device counter) = IsOctets own.0
ActionOctets (actions.Press device command) = IsCommand command
ActionOctets (actions.Inject frame) = IsOctets frame
ActionOctets other = Unit {0}

abbrev pub HasOctets : Event → Type 0
HasOctets Nothing = Unit {0}
HasOctets (Line reading action) = ActionOctets action

-- ---- words

abbrev pub Reads : {A : Type 0} → Kind A → (A → Type 0) → Type 0
Reads {A} kind P = (word : List ℕ) (value : A) → kind.read word ≡ Some value → P value

pub anything : {A : Type 0} (kind : Kind A) → Reads kind (λ value. Unit {0})
anything kind word value e = tt

decoded : (word value : List ℕ) (r : Result (List ℕ) FromHexError) → decode_of word ≡ r → result_ok r ≡ Some value → IsOctets value
decoded word value (Err e) is t = absurd cc
decoded word value (Ok bytes) is t = let same : bytes ≡ value = cc in subst IsOctets same (decode_of-ok word bytes is).3

pub octets-read : (word value : List ℕ) → octets_in word ≡ Some value → IsOctets value
unfolding octets_in
octets-read word value e = go (bytes_eq word (codes "-")) (nat_le 1 (length word) && nat_le (length word) 254) e
  where
    go : (dash some : Bool) → cond dash (Some []) (cond some (result_ok (decode_of word)) None) ≡ Some value → IsOctets value
    go true some t = let same : [] ≡ value = cc in subst IsOctets same none-octets
    go false true t = decoded word value (decode_of word) refl t
    go false false t = absurd cc

key-read : (word : List ℕ) (value : Key) → key_in word ≡ Some value → IsOctets value.0
unfolding key_in
key-read word value e = go (decode_sized word 16) refl e
  where
    go : (r : Result (List ℕ) FromHexError) → decode_sized word 16 ≡ r → option_map {U = Key} (λ octets. record { 0 = octets }) (result_ok r) ≡ Some value → IsOctets value.0
    go (Err e) is t = absurd cc
    go (Ok bytes) is t =
        let made : Key = record { 0 = bytes } in
        let same : made ≡ value = cc in
        subst (λ (k : Key). IsOctets k.0) same (decode_of-ok word bytes (sym (decode_sized-twice word 16 (decode_sized-ok word 16 bytes is)) ∙ is)).3

tested-is : {A : Type 0} (test : A → Bool) (o : Option A) (value : A) → tested_in test o ≡ Some value → o ≡ Some value
tested-is test None value e = absurd cc
tested-is test (Some own) value e = go (test own) e
  where
    go : (b : Bool) → (if b then Some own else None) ≡ Some value → Some own ≡ Some value
    go true t = t
    go false t = absurd cc

tested-true : {A : Type 0} (test : A → Bool) (o : Option A) (value : A) → tested_in test o ≡ Some value → test value ≡ true
tested-true test None value e = absurd cc
tested-true test (Some own) value e = go (test own) refl e
  where
    go : (b : Bool) → test own ≡ b → (if b then Some own else None) ≡ Some value → test value ≡ true
    go true is t = let same : own ≡ value = cc in ap test (sym same) ∙ is
    go false is t = absurd cc

command-read : (word value : List ℕ) → command.read word ≡ Some value → IsCommand value
command-read word value e =
    let fits = and_parts (nat_le 1 (length value)) (nat_le (length value) 104) (tested-true (λ (o : List ℕ). nat_le 1 (length o) && nat_le (length o) 104) (octets_in word) value e) in
    record {
      octets = octets-read word value (tested-is (λ (o : List ℕ). nat_le 1 (length o) && nat_le (length o) 104) (octets_in word) value e);
      some = (let few = leb-true 1 (length value) fits.0 in omega (arith, few));
      room = leb-true (length value) 104 fits.1;
    }

number-read : (most : ℕ) (word : List ℕ) (value : ℕ) → number_in most word ≡ Some value → value ≤ most
unfolding number_in
number-read most word value e = go (bytes_eq word (decimal (digits_value 10 word)) && nat_le (digits_value 10 word) most) refl e
  where
    go : (b : Bool) → (bytes_eq word (decimal (digits_value 10 word)) && nat_le (digits_value 10 word) most) ≡ b → (if b then Some (digits_value 10 word) else None) ≡ Some value → value ≤ most
    go true is t =
        let same : digits_value 10 word ≡ value = cc in
        subst (λ (n : ℕ). n ≤ most) same (leb-true (digits_value 10 word) most (and_parts (bytes_eq word (decimal (digits_value 10 word))) (nat_le (digits_value 10 word) most) is).1)
    go false is t = absurd cc

commit-read : (word : List ℕ) (value : ℕ) → commit.read word ≡ Some value → IsCommit value
commit-read word value e = (
  leb-true 1 value (tested-true (λ (n : ℕ). nat_le 1 n) (number_in 1000000 word) value e),
  number-read 1000000 word value (tested-is (λ (n : ℕ). nat_le 1 n) (number_in 1000000 word) value e),
)

way-read : (word : List ℕ) (value : ℕ) → way.read word ≡ Some value → value ≤ 4
way-read word value e = number-read 4 word value e

-- ---- words in a row

abbrev pub Gives : {B : Type 0} → Parse B → (B → Type 0) → Type 0
Gives {B} parse P = (ws : List (List ℕ)) (value : B) (rest : List (List ℕ)) → parse ws ≡ Some (value, rest) → P value

pub nothing_gives : {B : Type 0} (made : B) (P : B → Type 0) → P made → Gives (nothing made) P
nothing_gives {B} made P h ws value rest e =
    let pair : ◌≡◌ {A = B × List (List ℕ)} (made, ws) (value, rest) = cc in
    subst P (ap (λ (p : B × List (List ℕ)). p.0) pair) h

pub next_gives : {A B : Type 0} (kind : Kind A) (P : A → Type 0) → Reads kind P → (parse : A → Parse B) (Q : B → Type 0) → ((x : A) → P x → Gives (parse x) Q) →
    Gives (λ ws. let_else {A = A × List (List ℕ)} (next kind ws) None (λ found. parse found.0 found.1)) Q
next_gives kind P reads parse Q gives [] value rest e = absurd cc
next_gives {A} {B} kind P reads parse Q gives (w ∷ ws) value rest e = go (kind.read w) refl e
  where
    go : (o : Option A) → kind.read w ≡ o → let_else {A = A × List (List ℕ)} (option_map (λ x. (x, ws)) o) None (λ found. parse found.0 found.1) ≡ Some (value, rest) → Q value
    go None is t = absurd cc
    go (Some x) is t = gives x (reads w x is) ws value rest t

-- a word of which nothing is needed
pub skip : {A B : Type 0} (kind : Kind A) (parse : A → Parse B) (Q : B → Type 0) → ((x : A) → Gives (parse x) Q) →
    Gives (λ ws. let_else {A = A × List (List ℕ)} (next kind ws) None (λ found. parse found.0 found.1)) Q
skip kind parse Q gives = next_gives kind (λ x. Unit {0}) (anything kind) parse Q (λ x t. gives x)

-- one of two, whichever it is
pub either_gives : {A : Type 0} (test : Bool) (one other : Parse A) (P : A → Type 0) → Gives one P → Gives other P → Gives (λ ws. if test then one ws else other ws) P
either_gives true one other P h k = h
either_gives false one other P h k = k

pub no_more_gives : {A : Type 0} (P : A → Type 0) (keyword : List ℕ) → Gives (no_more keyword) P
no_more_gives P keyword ws value rest e = absurd cc

pub keyed_gives : {A : Type 0} (table : List ℕ → Parse A) (P : A → Type 0) → ((keyword : List ℕ) → Gives (table keyword) P) → Gives (keyed table) P
keyed_gives table P gives [] value rest e = absurd cc
keyed_gives table P gives (keyword ∷ ws) value rest e = gives keyword ws value rest e

pub applied_gives : {A B : Type 0} (front : Parse (A → B)) (last : Parse A) (Q : A → Type 0) (P : B → Type 0) → Gives front (λ make. (x : A) → Q x → P (make x)) → Gives last Q → Gives (applied front last) P
applied_gives {A} {B} front last Q P fronts lasts ws value rest e = go (front ws) refl e
  where
    behind : (made : (A → B) × List (List ℕ)) → front ws ≡ Some made → (o : Option (A × List (List ℕ))) → last made.1 ≡ o →
        let_else {B = Option (B × List (List ℕ))} o None (λ (y : A × List (List ℕ)). Some (made.0 y.0, y.1)) ≡ Some (value, rest) → P value
    behind made is None read t = absurd cc
    behind made is (Some y) read t =
        let pair : ◌≡◌ {A = B × List (List ℕ)} (made.0 y.0, y.1) (value, rest) = cc in
        subst P (ap (λ (p : B × List (List ℕ)). p.0) pair) (fronts ws made.0 made.1 is y.0 (lasts made.1 y.0 y.1 read))

    go : (o : Option ((A → B) × List (List ℕ))) → front ws ≡ o →
        let_else {B = Option (B × List (List ℕ))} o None (λ (x : (A → B) × List (List ℕ)). let_else (last x.1) None (λ (y : A × List (List ℕ)). Some (x.0 y.0, y.1))) ≡ Some (value, rest) → P value
    go None is t = absurd cc
    go (Some made) is t = behind made is (last made.1) refl t

pub whole_gives : {A : Type 0} (parse : Parse A) (P : A → Type 0) → Gives parse P → (line : List ℕ) (value : A) → whole parse line ≡ Some value → P value
whole_gives {A} parse P gives line value e = go (parse (words line)) refl e
  where
    done : (b : Bool) (x : A) → (if b then Some x else None) ≡ Some value → x ≡ value
    done true x t = cc
    done false x t = absurd cc

    go : (o : Option (A × List (List ℕ))) → parse (words line) ≡ o → let_else o None (λ (found : A × List (List ℕ)). if is_done found.1 then Some found.0 else None) ≡ Some value → P value
    go None is t = absurd cc
    go (Some found) is t = subst P (done (is_done found.1) found.0 t) (gives (words line) found.0 found.1 is)

-- ---- the lines of a script

sink_gives : Gives (nodes (codes "sink")) ActionOctets
sink_gives =
    skip name _ ActionOctets (λ n. skip (hex w16) _ ActionOctets (λ a. skip (hex w64) _ ActionOctets (λ i. skip sink_mode _ ActionOctets (λ m. skip channel _ ActionOctets (λ c.
    skip (or_word (codes "-") key) _ ActionOctets (λ l. skip key (λ s. nothing (actions.Sink n a i m c l s)) ActionOctets (λ s. nothing_gives (actions.Sink n a i m c l s) ActionOctets tt)))))))

device_gives : Gives (nodes (codes "device")) ActionOctets
device_gives =
    skip name _ ActionOctets (λ n. skip source _ ActionOctets (λ s. next_gives key (λ k. IsOctets k.0) key-read _ ActionOctets (λ k octets. skip key_kind _ ActionOctets (λ i. skip level _ ActionOctets (λ l.
    skip (hex w8) _ ActionOctets (λ d. skip number32 (λ c. nothing (actions.Device n s k i l d c)) ActionOctets (λ c. nothing_gives (actions.Device n s k i l d c) ActionOctets octets)))))))

pair_gives : Gives (pairings (codes "pair")) ActionOctets
pair_gives =
    skip name _ ActionOctets (λ n. skip source _ ActionOctets (λ s. skip key _ ActionOctets (λ k. skip key_kind _ ActionOctets (λ i. skip level _ ActionOctets (λ l.
    skip (hex w8) _ ActionOctets (λ d. skip number32 (λ c. nothing (actions.Pair n s k i l d c)) ActionOctets (λ c. nothing_gives (actions.Pair n s k i l d c) ActionOctets tt)))))))

press_gives : Gives (frames (codes "press")) ActionOctets
press_gives = skip name _ ActionOctets (λ n. next_gives command IsCommand command-read (λ c. nothing (actions.Press n c)) ActionOctets (λ c octets. nothing_gives (actions.Press n c) ActionOctets octets))

hear_gives : Gives (frames (codes "hear")) ActionOctets
hear_gives = skip number64 _ ActionOctets (λ f. skip name _ ActionOctets (λ n. skip (hex w8) (λ l. nothing (actions.Hear f n l)) ActionOctets (λ l. nothing_gives (actions.Hear f n l) ActionOctets tt)))

inject_gives : Gives (frames (codes "inject")) ActionOctets
inject_gives = next_gives octets IsOctets octets-read (λ o. nothing (actions.Inject o)) ActionOctets (λ o are. nothing_gives (actions.Inject o) ActionOctets are)

announce_gives : Gives (pairings (codes "announce")) ActionOctets
announce_gives = skip name _ ActionOctets (λ n. skip source (λ s. nothing (actions.Announce n s)) ActionOctets (λ s. nothing_gives (actions.Announce n s) ActionOctets tt))

table_gives : Gives (pairings (codes "table")) ActionOctets
table_gives = skip name (λ n. nothing (actions.Table n)) ActionOctets (λ n. nothing_gives (actions.Table n) ActionOctets tt)

rule_gives : Gives (pairings (codes "rule")) ActionOctets
rule_gives =
    applied_gives (four name (or_word (codes "any") source) (hex w8) (hex w8) (λ n s c e. λ form. actions.Rule n s c e form)) rule_form (λ form. Unit {0}) ActionOctets
    (skip name _ IsRule (λ n. skip (or_word (codes "any") source) _ IsRule (λ s. skip (hex w8) _ IsRule (λ c.
    skip (hex w8) (λ e. nothing (λ form. actions.Rule n s c e form)) IsRule (λ e. nothing_gives (λ form. actions.Rule n s c e form) IsRule (λ form t. tt))))))
    (λ ws form rest e. tt)
  where
    IsRule : (RuleForm → Action) → Type 0
    IsRule make = (form : RuleForm) → Unit {0} → ActionOctets (make form)

cut_gives : Gives (power (codes "cut")) ActionOctets
cut_gives =
    skip name _ ActionOctets (λ n. next_gives commit IsCommit commit-read _ ActionOctets (λ k is. skip number16 _ ActionOctets (λ p.
    next_gives way (λ w. w ≤ 4) way-read (λ w. nothing (actions.Cut n k p w)) ActionOctets (λ w known. nothing_gives (actions.Cut n k p w) ActionOctets (is, known)))))

fault_gives : Gives (power (codes "fault")) ActionOctets
fault_gives =
    skip name _ ActionOctets (λ n. next_gives commit IsCommit commit-read _ ActionOctets (λ k is.
    skip number16 (λ p. nothing (actions.Fault n k p)) ActionOctets (λ p. nothing_gives (actions.Fault n k p) ActionOctets is)))

on_cut_gives : (sink : List ℕ) → Gives (two number16 way (λ calls by. actions.OnCut sink calls by)) ActionOctets
on_cut_gives n =
    skip number16 _ ActionOctets (λ p. next_gives way (λ w. w ≤ 4) way-read (λ w. nothing (actions.OnCut n p w)) ActionOctets (λ w known. nothing_gives (actions.OnCut n p w) ActionOctets known))

switched_gives : (sink : List ℕ) → Gives (switched_on sink) ActionOctets
switched_gives sink [] value rest e = nothing_gives (actions.On sink) ActionOctets tt [] value rest e
switched_gives sink (word ∷ words) value rest e = go (bytes_eq word (codes "cut")) e
  where
    go : (b : Bool) → (if b then two number16 way (λ calls by. actions.OnCut sink calls by) words else None) ≡ Some (value, rest) → ActionOctets value
    go true t = on_cut_gives sink words value rest t
    go false t = absurd cc

on_gives : Gives (power (codes "on")) ActionOctets
on_gives = skip name switched_on ActionOctets switched_gives

off_gives : Gives (power (codes "off")) ActionOctets
off_gives = skip name (λ n. nothing (actions.Off n)) ActionOctets (λ n. nothing_gives (actions.Off n) ActionOctets tt)

power_gives : (keyword : List ℕ) → Gives (power keyword) ActionOctets
power_gives keyword =
    either_gives (bytes_eq keyword (codes "cut")) _ _ ActionOctets cut_gives
    (either_gives (bytes_eq keyword (codes "fault")) _ _ ActionOctets fault_gives
    (either_gives (bytes_eq keyword (codes "on")) _ _ ActionOctets on_gives
    (either_gives (bytes_eq keyword (codes "off")) _ _ ActionOctets off_gives (no_more_gives ActionOctets keyword))))

frames_give : (keyword : List ℕ) → Gives (frames keyword) ActionOctets
frames_give keyword =
    either_gives (bytes_eq keyword (codes "press")) _ _ ActionOctets press_gives
    (either_gives (bytes_eq keyword (codes "inject")) _ _ ActionOctets inject_gives
    (either_gives (bytes_eq keyword (codes "hear")) _ _ ActionOctets hear_gives (power_gives keyword)))

pairings_give : (keyword : List ℕ) → Gives (pairings keyword) ActionOctets
pairings_give keyword =
    either_gives (bytes_eq keyword (codes "rule")) _ _ ActionOctets rule_gives
    (either_gives (bytes_eq keyword (codes "pair")) _ _ ActionOctets pair_gives
    (either_gives (bytes_eq keyword (codes "announce")) _ _ ActionOctets announce_gives
    (either_gives (bytes_eq keyword (codes "table")) _ _ ActionOctets table_gives (frames_give keyword))))

nodes_give : (keyword : List ℕ) → Gives (nodes keyword) ActionOctets
nodes_give keyword =
    either_gives (bytes_eq keyword (codes "sink")) _ _ ActionOctets sink_gives
    (either_gives (bytes_eq keyword (codes "device")) _ _ ActionOctets device_gives (pairings_give keyword))

timed_gives : Gives timed HasOctets
timed_gives =
    applied_gives (one (number_up_to 18446744073609551615) (λ reading action. Line reading action)) (keyed nodes) ActionOctets HasOctets
    (skip (number_up_to 18446744073609551615) (λ reading. nothing (λ action. Line reading action)) (λ make. (x : Action) → ActionOctets x → HasOctets (make x))
    (λ reading. nothing_gives (λ action. Line reading action) (λ make. (x : Action) → ActionOctets x → HasOctets (make x)) (λ x octets. octets)))
    (keyed_gives nodes ActionOctets nodes_give)

pub asked-octets : (text : List ℕ) (event : Event) → event_of text ≡ Some event → HasOctets event
asked-octets text event e = go (is_nothing text) e
  where
    go : (b : Bool) → (if b then Some Nothing else whole timed text) ≡ Some event → HasOctets event
    go true t = let same : Nothing ≡ event = cc in subst HasOctets same tt
    go false t = whole_gives timed HasOctets timed_gives text event t
