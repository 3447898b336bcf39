-- What the arguments of the command line ask for.
use Rattle.std.specs.Prelude.{ℕ, ◌==◌, List, [], ◌∷◌, length, Option, Some, None, codes, if◌then◌else◌}
use Rattle.std.specs.Option.{option_map}
use Rattle.std.specs.Result.{result_ok}
use Rattle.std.specs.Str.{bytes_eq}
use Rattle.hex.specs.Hex.{decode_of}
use Rattle.gp_base.specs.declared.identity.Key.{Key}
use Rattle.gp_app.specs.declared.command.Command.{Command}
use Rattle.gp_app.specs.declared.command.Command.TheVariants.{Decode, Format, Pcap, Sim, Sink}
use Rattle.gp_listing.specs.declared.form.ListingForm.{ListingForm}
use Rattle.gp_listing.specs.declared.form.Style.{Style}
use Rattle.gp_listing.specs.declared.form.Style.TheVariants.{Text, Json}

-- a key: 32 hexadecimal digits of either case
unfoldable pub key_of : List ℕ → Option Key
key_of word = if length word == 32 then option_map (λ octets. record { 0 = octets }) (result_ok (decode_of word)) else None

-- the listing in a style, under a key that may be absent
abbrev pub listed : Style → Option Key → Command
listed style key = Decode (record { style = style; key = key })

-- what follows `decode`: nothing, `--json`, a key, or `--json` and a key
abbrev pub listing_words : List (List ℕ) → Option Command
listing_words [] = Some (listed Text None)
listing_words (word ∷ []) =
    if bytes_eq word (codes "--json") then Some (listed Json None) else option_map (λ key. listed Text (Some key)) (key_of word)
listing_words (word ∷ other ∷ []) =
    if bytes_eq word (codes "--json") then option_map (λ key. listed Json (Some key)) (key_of other) else None
listing_words (word ∷ other ∷ third ∷ others) = None

-- nothing follows `format`
abbrev pub format_words : List (List ℕ) → Option Command
format_words [] = Some Format
format_words (word ∷ others) = None

-- what follows `pcap`: nothing, or a key
abbrev pub pcap_words : List (List ℕ) → Option Command
pcap_words [] = Some (Pcap None)
pcap_words (word ∷ []) = option_map (λ key. Pcap (Some key)) (key_of word)
pcap_words (word ∷ other ∷ others) = None

-- nothing follows `sim`
abbrev pub sim_words : List (List ℕ) → Option Command
sim_words [] = Some Sim
sim_words (word ∷ others) = None

-- nothing follows `sink`
abbrev pub sink_words : List (List ℕ) → Option Command
sink_words [] = Some Sink
sink_words (word ∷ others) = None

-- the five, and nothing else
abbrev pub command_of : List (List ℕ) → Option Command
command_of [] = None
command_of (word ∷ others) =
    if bytes_eq word (codes "decode")
    then listing_words others
    else if bytes_eq word (codes "format")
    then format_words others
    else if bytes_eq word (codes "pcap") then pcap_words others
    else if bytes_eq word (codes "sim") then sim_words others else if bytes_eq word (codes "sink") then sink_words others else None

-- a fact of the form where the arguments ask for the listing of a capture, and one where they ask for the formatting
abbrev pub OnDecode : Option Command → (ListingForm → Type 0) → Type 0
OnDecode (Some (Decode form)) Fact = Fact form
OnDecode _ Fact = Unit {0}

abbrev pub OnFormat : Option Command → Type 0 → Type 0
OnFormat (Some Format) fact = fact
OnFormat _ fact = Unit {0}

-- and one of the key where they ask for the listing of a capture file
abbrev pub OnPcap : Option Command → (Option Key → Type 0) → Type 0
OnPcap (Some (Pcap key)) Fact = Fact key
OnPcap _ Fact = Unit {0}

-- one where they ask for the life of a sink, one where they ask for the report of a script, and one where they ask for anything else
abbrev pub OnSink : Option Command → Type 0 → Type 0
OnSink (Some Sink) fact = fact
OnSink _ fact = Unit {0}

abbrev pub OnSim : Option Command → Type 0 → Type 0
OnSim (Some Sim) fact = fact
OnSim _ fact = Unit {0}

abbrev pub ExceptSim : Option Command → Type 0 → Type 0
ExceptSim (Some Sim) fact = Unit {0}
ExceptSim _ fact = fact
