-- The kinds of words that a line is made of.
use Rattle.std.specs.Prelude.{◌≡◌, ℕ, ◌==◌, ◌&&◌, ◌||◌, ◌^◌, nat_le, nat_lt, Bool, true, false, List, [], ◌∷◌, length, map, Option, Some, None, codes, decimal, if◌then◌else◌}
use Rattle.std.specs.Option.{MatchOption, option_map}
use Rattle.std.specs.Result.{result_ok}
use Rattle.std.specs.Str.{bytes_eq}
use Rattle.std.specs.Str.Parse.{digits_value}
use Rattle.std.specs.Int.{Width, w32, byte_len, to_be_bytes, from_be_bytes}
use Rattle.hex.specs.Hex.{decode_of, decode_sized, encode_upper}
use Rattle.gp_base.specs.Table.{let_else, first_of}
use Rattle.gp_script.specs.Words.{words, is_done}
use Rattle.gp_base.specs.declared.identity.Src.{Src}
use Rattle.gp_base.specs.declared.identity.Key.{Key}
use Rattle.gp_base.specs.declared.identity.KeyKind.{KeyKind}
use Rattle.gp_base.specs.declared.identity.KeyKind.TheVariants.{Nwk, Group, DerivedGroup, OutOfBox, DerivedIndividual}
use Rattle.gp_base.specs.declared.identity.Level.{Level}
use Rattle.gp_base.specs.declared.identity.Level.TheVariants.{Two, Three}
use Rattle.gp_base.specs.declared.identity.Mode.{Mode}
use Rattle.gp_base.specs.declared.identity.Mode.TheVariants as modes

-- a kind of words: what a word of it is read as, how a value is printed, and which values have a word
pub record Kind (A : Type 0) : Type 0 where
  pub read : List ℕ → Option A
  pub text : A → List ℕ
  pub fits : A → Bool

-- ---- kinds

-- this word for nothing, or a word of this kind
abbrev pub or_word_in : {A : Type 0} → List ℕ → (List ℕ → Option A) → List ℕ → Option (Option A)
or_word_in absent read word = if bytes_eq word absent then Some None else option_map (λ value. Some value) (read word)

abbrev pub or_word_text : {A : Type 0} → List ℕ → (A → List ℕ) → Option A → List ℕ
or_word_text absent text None = absent
or_word_text absent text (Some value) = text value

abbrev pub or_word_fits : {A : Type 0} → (A → Bool) → Option A → Bool
or_word_fits fits None = true
or_word_fits fits (Some value) = fits value

abbrev pub or_word : {A : Type 0} → List ℕ → Kind A → Kind (Option A)
or_word absent kind = record { read = or_word_in absent kind.read; text = or_word_text absent kind.text; fits = or_word_fits kind.fits }

-- a decimal number without sign and leading zero: the text that the number is printed as
unfoldable pub number_in : ℕ → List ℕ → Option ℕ
number_in most word = let number = digits_value 10 word in if bytes_eq word (decimal number) && nat_le number most then Some number else None

abbrev pub number_up_to : ℕ → Kind ℕ
number_up_to most = record { read = number_in most; text = decimal; fits = λ number. nat_le number most }

-- numbers that are octets
abbrev pub are_octets : List ℕ → Bool
are_octets [] = true
are_octets (octet ∷ octets) = nat_lt octet 256 && are_octets octets

-- a number of so many octets, two hexadecimal digits an octet, of either case
unfoldable pub hex_in : Width → List ℕ → Option ℕ
hex_in width word = option_map (from_be_bytes width) (result_ok (decode_sized word (byte_len width)))

abbrev pub hex : Width → Kind ℕ
hex width = record { read = hex_in width; text = λ number. encode_upper (to_be_bytes width number); fits = λ number. nat_lt number (256 ^ byte_len width) }

-- in upper case
abbrev pub is_small : ℕ → Bool
is_small c = nat_le 97 c && nat_le c 122

abbrev pub has_small : List ℕ → Bool
has_small [] = false
has_small (c ∷ cs) = is_small c || has_small cs

abbrev pub upper_in : {A : Type 0} → (List ℕ → Option A) → List ℕ → Option A
upper_in read word = if has_small word then None else read word

abbrev pub upper : {A : Type 0} → Kind A → Kind A
upper kind = record kind { read = upper_in kind.read }

-- a SrcID
abbrev pub source : Kind Src
source = record { read = λ word. option_map (λ number. record { 0 = number }) (hex_in w32 word); text = λ src. encode_upper (to_be_bytes w32 src.0); fits = λ src. nat_lt src.0 4294967296 }

-- a key
unfoldable pub key_in : List ℕ → Option Key
key_in word = option_map (λ octets. record { 0 = octets }) (result_ok (decode_sized word 16))

abbrev pub key : Kind Key
key = record { read = key_in; text = λ key. encode_upper key.0; fits = λ key. length key.0 == 16 && are_octets key.0 }

-- octets, at least one and at most 127, or `-` for none
unfoldable pub octets_in : List ℕ → Option (List ℕ)
octets_in word =
    if bytes_eq word (codes "-") then Some []
    else if nat_le 1 (length word) && nat_le (length word) 254 then result_ok (decode_of word)
    else None

abbrev pub octets_text : List ℕ → List ℕ
octets_text [] = codes "-"
octets_text (octet ∷ octets) = encode_upper (octet ∷ octets)

abbrev pub octets : Kind (List ℕ)
octets = record { read = octets_in; text = octets_text; fits = λ octets. nat_le (length octets) 127 && are_octets octets }

-- a name: one letter a to z, and up to seven more of a to z and 0 to 9
abbrev pub is_letter : ℕ → Bool
is_letter c = nat_le 97 c && nat_le c 122

abbrev pub is_name_letter : ℕ → Bool
is_name_letter c = is_letter c || (nat_le 48 c && nat_le c 57)

abbrev pub are_name_letters : List ℕ → Bool
are_name_letters [] = true
are_name_letters (letter ∷ letters) = is_name_letter letter && are_name_letters letters

unfoldable pub is_name : List ℕ → Bool
is_name [] = false
is_name (first ∷ others) = is_letter first && nat_le (length others) 7 && are_name_letters others

abbrev pub name : Kind (List ℕ)
name = record { read = λ word. if is_name word then Some word else None; text = λ letters. letters; fits = is_name }

-- one of these values, by its text
abbrev pub among_in : {A : Type 0} → List A → (A → List ℕ) → List ℕ → Option A
among_in values text word = first_of (map (λ value. (bytes_eq word (text value), value)) values)

abbrev pub among : {A : Type 0} → List A → (A → List ℕ) → Kind A
among values text = record { read = among_in values text; text = text; fits = λ value. true }

abbrev pub key_kind_text : KeyKind → List ℕ
key_kind_text Nwk = codes "1"
key_kind_text Group = codes "2"
key_kind_text DerivedGroup = codes "3"
key_kind_text OutOfBox = codes "4"
key_kind_text DerivedIndividual = codes "7"

abbrev pub key_kind : Kind KeyKind
key_kind = among (Nwk ∷ Group ∷ DerivedGroup ∷ OutOfBox ∷ DerivedIndividual ∷ []) key_kind_text

abbrev pub level_text : Level → List ℕ
level_text Two = codes "2"
level_text Three = codes "3"

abbrev pub level : Kind Level
level = among (Two ∷ Three ∷ []) level_text

abbrev pub mode_text : Mode → List ℕ
mode_text modes.Derived = codes "1"
mode_text modes.Commissioned = codes "2"
mode_text modes.Unicast = codes "3"

abbrev pub mode : Kind Mode
mode = among (modes.Derived ∷ modes.Commissioned ∷ modes.Unicast ∷ []) mode_text

abbrev pub flag_text : Bool → List ℕ
flag_text false = codes "0"
flag_text true = codes "1"

abbrev pub flag : Kind Bool
flag = among (false ∷ true ∷ []) flag_text

-- ---- words in a row

-- reads words from the front of a list, and says which are left
abbrev pub Parse : Type 0 → Type 0
Parse A = List (List ℕ) → Option (A × List (List ℕ))

-- a word of this kind, and then what the value says
abbrev pub next : {A : Type 0} → Kind A → Parse A
next kind [] = None
next kind (word ∷ words) = option_map (λ value. (value, words)) (kind.read word)

-- no word more
abbrev pub nothing : {B : Type 0} → B → Parse B
nothing value words = Some (value, words)

-- one word and so on, of these kinds, and what is made of their values
abbrev pub one : {A B : Type 0} → Kind A → (A → B) → Parse B
one a make words = let_else (next a words) None (λ x. Some (make x.0, x.1))

abbrev pub two : {A B C : Type 0} → Kind A → Kind B → (A → B → C) → Parse C
two a b make words = let_else (next a words) None (λ x. one b (make x.0) x.1)

abbrev pub three : {A B C D : Type 0} → Kind A → Kind B → Kind C → (A → B → C → D) → Parse D
three a b c make words = let_else (next a words) None (λ x. two b c (make x.0) x.1)

abbrev pub four : {A B C D E : Type 0} → Kind A → Kind B → Kind C → Kind D → (A → B → C → D → E) → Parse E
four a b c d make words = let_else (next a words) None (λ x. three b c d (make x.0) x.1)

abbrev pub five : {A B C D E F : Type 0} → Kind A → Kind B → Kind C → Kind D → Kind E → (A → B → C → D → E → F) → Parse F
five a b c d e make words = let_else (next a words) None (λ x. four b c d e (make x.0) x.1)

abbrev pub six : {A B C D E F G : Type 0} → Kind A → Kind B → Kind C → Kind D → Kind E → Kind F → (A → B → C → D → E → F → G) → Parse G
six a b c d e f make words = let_else (next a words) None (λ x. five b c d e f (make x.0) x.1)

abbrev pub seven : {A B C D E F G H : Type 0} → Kind A → Kind B → Kind C → Kind D → Kind E → Kind F → Kind G → (A → B → C → D → E → F → G → H) → Parse H
seven a b c d e f g make words = let_else (next a words) None (λ x. six b c d e f g (make x.0) x.1)

abbrev pub eight : {A B C D E F G H I : Type 0} → Kind A → Kind B → Kind C → Kind D → Kind E → Kind F → Kind G → Kind H → (A → B → C → D → E → F → G → H → I) → Parse I
eight a b c d e f g h make words = let_else (next a words) None (λ x. seven b c d e f g h (make x.0) x.1)

abbrev pub nine : {A B C D E F G H I J : Type 0} → Kind A → Kind B → Kind C → Kind D → Kind E → Kind F → Kind G → Kind H → Kind I → (A → B → C → D → E → F → G → H → I → J) → Parse J
nine a b c d e f g h i make words = let_else (next a words) None (λ x. eight b c d e f g h i (make x.0) x.1)

-- what the words in front make of what is read behind them
abbrev pub applied : {A B : Type 0} → Parse (A → B) → Parse A → Parse B
applied front last words = let_else (front words) None (λ x. let_else (last x.1) None (λ y. Some (x.0 y.0, y.1)))

-- a word of this kind, or the end of the line
abbrev pub perhaps : {A : Type 0} → Kind A → Parse (Option A)
perhaps kind [] = Some (None, [])
perhaps kind (word ∷ words) = option_map (λ value. (Some value, words)) (kind.read word)

-- the first line of a table with this keyword, and else what another table says
abbrev pub by_keyword : {A : Type 0} → List (List ℕ × Parse A) → (List ℕ → Parse A) → List ℕ → Parse A
by_keyword [] others keyword words = others keyword words
by_keyword (line ∷ lines) others keyword words = if bytes_eq keyword line.0 then line.1 words else by_keyword lines others keyword words

-- no line more
abbrev pub no_more : {A : Type 0} → List ℕ → Parse A
no_more keyword words = None

-- the next word as the keyword of a table
abbrev pub keyed : {A : Type 0} → (List ℕ → Parse A) → Parse A
keyed table [] = None
keyed table (keyword ∷ words) = table keyword words

-- all words of a line
abbrev pub whole : {A : Type 0} → Parse A → List ℕ → Option A
whole parse line = let_else (parse (words line)) None (λ found. if is_done found.1 then Some found.0 else None)

-- ---- words that are printed

-- the text of a word, and whether its value has a word
pub record Printed : Type 0 where
  pub text : List ℕ
  pub fits : Bool

abbrev pub by : {A : Type 0} → Kind A → A → Printed
by kind value = record { text = kind.text value; fits = kind.fits value }

abbrev pub word : List ℕ → Printed
word text = record { text = text; fits = true }

abbrev pub texts : List Printed → List (List ℕ)
texts [] = []
texts (first ∷ others) = first.text ∷ texts others

abbrev pub all_fit : List Printed → Bool
all_fit [] = true
all_fit (first ∷ others) = first.fits && all_fit others

-- what was told is what reading gives, and the words behind it are left
abbrev pub Reads : {A : Type 0} → Parse A → List (List ℕ) → List (List ℕ) → Option A → Type 0
Reads parse old new told = MatchOption told (parse old ≡ None) (λ value. parse old ≡ Some (value, new))
