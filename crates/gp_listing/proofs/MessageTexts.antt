-- Listings of messages are ASCII, and so text.
use Rattle.std.proofs.Common.{◌≡◌, ℕ, ◌<◌, ◌^◌, Bool, true, false, ◌&&◌, nat_lt, List, [], ◌∷◌, ◌++◌, drop, Option, Some, None, IfSome, codes, decimal, IsAscii, IsUtf8, refl, arith}
use Rattle.std.specs.Int.{w16, w32, w64, to_be_bytes}
use Rattle.std.proofs.lemmas.Fmt.{IsAscii-decimal}
use Rattle.std.proofs.lemmas.Str.{IsAscii-append, IsUtf8-from_ascii}
use Rattle.std.proofs.lemmas.Str.Ascii.{IsAscii-nil, IsAscii-cons}
use Rattle.hex.specs.Hex.{encode_upper, upper_digits}
use Rattle.hex.proofs.HexLemmas.{IsAscii-encode_with}
use Rattle.gp_base.specs.declared.identity.Src.{Src}
use Rattle.gp_base.specs.declared.identity.Key.{Key}
use Rattle.gp_cluster.specs.declared.message.Zcl.{Zcl}
use Rattle.gp_cluster.specs.declared.message.Cluster.{Cluster}
use Rattle.gp_cluster.specs.declared.message.Cluster.TheVariants as message
use Rattle.gp_cluster.specs.declared.message.Notification.{Notification}
use Rattle.gp_cluster.specs.declared.message.CommissioningNotice.{CommissioningNotice}
use Rattle.gp_cluster.specs.declared.message.Pairing.{Pairing}
use Rattle.gp_cluster.specs.declared.message.ProxyMode.{ProxyMode}
use Rattle.gp_cluster.specs.declared.message.Response.{Response}
use Rattle.gp_cluster.specs.Message.{HasWidths}
use Rattle.gp_cluster.specs.Notification.{HasNotificationWidths, HasNoticeWidths}
use Rattle.gp_cluster.specs.Pairing.{HasPairingWidths}
use Rattle.gp_cluster.specs.ProxyMode.{HasProxyModeWidths}
use Rattle.gp_listing.specs.Texts.{or_dash, digit, hex8, hex16, hex32, hex64, src_text, counter_text, mic_text}
use Rattle.gp_listing.specs.Messages.{string_digits, field8, field16, inner_text, proxy_text, sink_text, key_text, window_text, notification_text, notice_text, route_text, extras_text, pairing_text, mode_text, response_text, message_name, fields_text, message_text}

-- every octet of the text is ASCII
record IsPlain (text : List ℕ) : Type 0 where
  ascii : IsAscii text

both : {a b : List ℕ} → IsPlain a → IsPlain b → IsPlain (a ++ b)
both {a = a} {b = b} ha hb = record { ascii = IsAscii-append a b ha.ascii hb.ascii }

-- a literal, by a test that computes
abbrev are_ascii : List ℕ → Bool
are_ascii [] = true
are_ascii (b ∷ bs) = nat_lt b 128 && are_ascii bs

left_true : (a b : Bool) → (a && b) ≡ true → a ≡ true
left_true true b h = refl
left_true false b h = h

right_true : (a b : Bool) → (a && b) ≡ true → b ≡ true
right_true true b h = h
right_true false false h = h
right_true false true h = refl

below : (b : ℕ) → nat_lt b 128 ≡ true → b < 128
below b h = grind arith

tested : (bs : List ℕ) → are_ascii bs ≡ true → IsAscii bs
tested [] h = IsAscii-nil
tested (b ∷ bs) h =
    IsAscii-cons b bs (below b (left_true (nat_lt b 128) (are_ascii bs) h)) (tested bs (right_true (nat_lt b 128) (are_ascii bs) h))

word : (bs : List ℕ) → are_ascii bs ≡ true → IsPlain bs
word bs h = record { ascii = tested bs h }

hexed : (octets : List ℕ) → IsPlain (encode_upper octets)
hexed octets = record { ascii = IsAscii-encode_with upper_digits octets (tested upper_digits refl) }

counted : (n : ℕ) → n < 2 ^ 32 → IsPlain (decimal n)
counted n h = record { ascii = IsAscii-decimal n (omega (arith, h)) }

dashed : {A : Type 0} (print : A → List ℕ) (field : Option A) → ((a : A) → IsPlain (print a)) → IsPlain (or_dash print field)
dashed print None h = word (codes "-") refl
dashed print (Some a) h = h a

dashed_number : (field : Option ℕ) → IfSome field (λ n. n < 2 ^ 32) → IsPlain (or_dash decimal field)
dashed_number None h = word (codes "-") refl
dashed_number (Some n) h = counted n h

short : (field : Option ℕ) → IfSome field (λ n. n < 2 ^ 16) → IfSome field (λ n. n < 2 ^ 32)
short None h = h
short (Some n) h = omega (arith, h)

-- ---- fields

src_plain : (src : Option Src) → IsPlain (src_text src)
unfolding src_text
src_plain src = both (word (codes " src=") refl) (dashed (λ (s : Src). hex32 s.0) src (λ s. hexed (to_be_bytes w32 s.0)))

counter_plain : (counter : Option ℕ) → IfSome counter (λ n. n < 2 ^ 32) → IsPlain (counter_text counter)
unfolding counter_text
counter_plain counter h = both (word (codes " counter=") refl) (dashed_number counter h)

mic_plain : (mic : Option (List ℕ)) → IsPlain (mic_text mic)
unfolding mic_text
mic_plain mic = both (word (codes " mic=") refl) (dashed encode_upper mic (λ octets. hexed octets))

string_plain : (string : Option (List ℕ)) → IsPlain (string_digits string)
string_plain None = word (codes "none") refl
string_plain (Some []) = word (codes "-") refl
string_plain (Some (octet ∷ octets)) = hexed (octet ∷ octets)

field8_plain : (label : List ℕ) (field : Option ℕ) → are_ascii label ≡ true → IsPlain (field8 label field)
unfolding field8
field8_plain label field h = both (word label h) (dashed hex8 field (λ n. hexed (n ∷ [])))

field16_plain : (label : List ℕ) (field : Option ℕ) → are_ascii label ≡ true → IsPlain (field16 label field)
unfolding field16
field16_plain label field h = both (word label h) (dashed hex16 field (λ n. hexed (to_be_bytes w16 n)))

inner_plain : (command : ℕ) (payload : Option (List ℕ)) → IsPlain (inner_text command payload)
unfolding inner_text
inner_plain command payload =
    both (both (word (codes " command=") refl) (hexed (command ∷ []))) (both (word (codes " payload=") refl) (string_plain payload))

proxy_plain : (proxy : Option (ℕ × ℕ)) → IsPlain (proxy_text proxy)
unfolding proxy_text
proxy_plain proxy =
    both
    (both (word (codes " proxy=") refl) (dashed (λ (p : ℕ × ℕ). hex16 p.0) proxy (λ p. hexed (to_be_bytes w16 p.0))))
    (both (word (codes " link=") refl) (dashed (λ (p : ℕ × ℕ). hex8 p.1) proxy (λ p. hexed (p.1 ∷ []))))

sink_plain : (sink : Option (ℕ × ℕ)) → IsPlain (sink_text sink)
unfolding sink_text
sink_plain sink =
    both
    (both (word (codes " sink=") refl) (dashed (λ (s : ℕ × ℕ). hex64 s.0) sink (λ s. hexed (to_be_bytes w64 s.0))))
    (both (word (codes " address=") refl) (dashed (λ (s : ℕ × ℕ). hex16 s.1) sink (λ s. hexed (to_be_bytes w16 s.1))))

key_plain : (key : Option Key) → IsPlain (key_text key)
unfolding key_text
key_plain key = both (word (codes " key=") refl) (dashed (λ (k : Key). encode_upper k.0) key (λ k. hexed k.0))

window_plain : (window : Option ℕ) → IfSome window (λ n. n < 2 ^ 16) → IsPlain (window_text window)
unfolding window_text
window_plain window h = both (word (codes " window=") refl) (dashed_number window (short window h))

-- ---- messages

notification_plain : (m : Notification) → HasNotificationWidths m → IsPlain (notification_text m)
unfolding notification_text
notification_plain m h =
    both (both (both (both
    (both (word (codes " options=") refl) (hexed (to_be_bytes w16 m.options)))
    (src_plain (Some m.src))) (counter_plain (Some m.counter) h.counter)) (inner_plain m.command m.payload)) (proxy_plain m.proxy)

notice_plain : (m : CommissioningNotice) → HasNoticeWidths m → IsPlain (notice_text m)
unfolding notice_text
notice_plain m h =
    both (both (both (both (both
    (both (word (codes " options=") refl) (hexed (to_be_bytes w16 m.options)))
    (src_plain (Some m.src))) (counter_plain (Some m.counter) h.counter)) (inner_plain m.command m.payload)) (proxy_plain m.proxy)) (mic_plain m.mic)

route_plain : (m : Pairing) → IsPlain (route_text m)
unfolding route_text
route_plain m = both (both (sink_plain m.sink) (field16_plain (codes " group=") m.group refl)) (field8_plain (codes " device=") m.device refl)

extras_plain : (m : Pairing) → HasPairingWidths m → IsPlain (extras_text m)
unfolding extras_text
extras_plain m h =
    both (both (both
    (counter_plain m.counter h.counter)
    (key_plain m.key)) (field16_plain (codes " alias=") m.alias refl)) (field8_plain (codes " radius=") m.radius refl)

pairing_plain : (m : Pairing) → HasPairingWidths m → IsPlain (pairing_text m)
unfolding pairing_text
pairing_plain m h =
    both (both (both
    (both (word (codes " options=") refl) (hexed (drop 1 (to_be_bytes w32 m.options))))
    (src_plain (Some m.src))) (route_plain m)) (extras_plain m h)

mode_plain : (m : ProxyMode) → HasProxyModeWidths m → IsPlain (mode_text m)
unfolding mode_text
mode_plain m h =
    both (both
    (both (word (codes " options=") refl) (hexed (m.options ∷ [])))
    (window_plain m.window h.window)) (field8_plain (codes " channel=") m.channel refl)

response_plain : (m : Response) → IsPlain (response_text m)
unfolding response_text
response_plain m =
    both (both (both (both
    (both (word (codes " options=") refl) (hexed (m.options ∷ [])))
    (both (word (codes " master=") refl) (hexed (to_be_bytes w16 m.master))))
    (both (word (codes " channel=") refl) (hexed (m.channel ∷ []))))
    (src_plain (Some m.src))) (inner_plain m.command m.payload)

name_plain : (body : Cluster) → IsPlain (message_name body)
name_plain (message.Notification m) = word (codes "notification") refl
name_plain (message.CommissioningNotice m) = word (codes "commissioning") refl
name_plain (message.Pairing m) = word (codes "pairing") refl
name_plain (message.ProxyMode m) = word (codes "mode") refl
name_plain (message.Response m) = word (codes "response") refl

fields_plain : (body : Cluster) → HasWidths body → IsPlain (fields_text body)
fields_plain (message.Notification m) h = notification_plain m h
fields_plain (message.CommissioningNotice m) h = notice_plain m h
fields_plain (message.Pairing m) h = pairing_plain m h
fields_plain (message.ProxyMode m) h = mode_plain m h
fields_plain (message.Response m) h = response_plain m

digit_plain : (flag : Bool) → IsPlain (digit flag)
digit_plain false = word (codes "0") refl
digit_plain true = word (codes "1") refl

message_plain : (zcl : Zcl) → HasWidths zcl.body → IsPlain (message_text zcl)
unfolding message_text
message_plain zcl h =
    both (both (both
    (name_plain zcl.body)
    (both (word (codes " seq=") refl) (hexed (zcl.sequence ∷ []))))
    (both (word (codes " quiet=") refl) (digit_plain zcl.quiet))) (fields_plain zcl.body h)

-- the listing of a message whose fields fit their octets is text
pub message_is_utf8 : (zcl : Zcl) → HasWidths zcl.body → IsUtf8 (message_text zcl)
message_is_utf8 zcl h = let plain = message_plain zcl h in IsUtf8-from_ascii (message_text zcl) plain.ascii
