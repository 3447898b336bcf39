-- Words that the listings of frames and of messages share.
use Rattle.std.specs.Prelude.{ℕ, Bool, true, false, List, [], ◌∷◌, ◌++◌, Option, codes, decimal}
use Rattle.std.specs.Option.{option_map_or}
use Rattle.std.specs.Int.{w16, w32, w64, to_be_bytes}
use Rattle.hex.specs.Hex.{encode_upper}
use Rattle.gp_base.specs.declared.identity.Src.{Src}

-- a field that is there by its text, and one that is absent as `-`
abbrev pub or_dash : {A : Type 0} → (A → List ℕ) → Option A → List ℕ
or_dash print field = option_map_or print field (codes "-")

-- a flag as a digit
abbrev pub digit : Bool → List ℕ
digit false = codes "0"
digit true = codes "1"

-- a number of one octet in hexadecimal digits, of two, of four and of eight
abbrev pub hex8 : ℕ → List ℕ
hex8 n = encode_upper (n ∷ [])

abbrev pub hex16 : ℕ → List ℕ
hex16 n = encode_upper (to_be_bytes w16 n)

abbrev pub hex32 : ℕ → List ℕ
hex32 n = encode_upper (to_be_bytes w32 n)

abbrev pub hex64 : ℕ → List ℕ
hex64 n = encode_upper (to_be_bytes w64 n)

-- a source, a counter and a message integrity code, which may be absent
unfoldable pub src_text : Option Src → List ℕ
src_text src = codes " src=" ++ or_dash (λ s. hex32 s.0) src

unfoldable pub counter_text : Option ℕ → List ℕ
counter_text counter = codes " counter=" ++ or_dash decimal counter

unfoldable pub mic_text : Option (List ℕ) → List ℕ
mic_text mic = codes " mic=" ++ or_dash encode_upper mic

-- what is refused, by the name of the reason and its place
unfoldable pub bad_text : List ℕ → ℕ → List ℕ
bad_text name place = codes "bad " ++ name ++ codes " " ++ decimal place
