-- What is listed for a message of the Green Power cluster.
use Rattle.std.specs.Prelude.{ℕ, List, [], ◌∷◌, ◌++◌, drop, Option, Some, None, Result, Ok, Err, codes, decimal}
use Rattle.std.specs.Int.{w32, to_be_bytes}
use Rattle.hex.specs.Hex.{encode_upper}
use Rattle.gp_base.specs.declared.identity.Key.{Key}
use Rattle.gp_cluster.specs.declared.message.Zcl.{Zcl}
use Rattle.gp_cluster.specs.declared.message.Cluster.{Cluster}
use Rattle.gp_cluster.specs.declared.message.Cluster.TheVariants as message
use Rattle.gp_cluster.specs.declared.message.Notification.{Notification}
use Rattle.gp_cluster.specs.declared.message.CommissioningNotice.{CommissioningNotice}
use Rattle.gp_cluster.specs.declared.message.Pairing.{Pairing}
use Rattle.gp_cluster.specs.declared.message.ProxyMode.{ProxyMode}
use Rattle.gp_cluster.specs.declared.message.Response.{Response}
use Rattle.gp_cluster.specs.declared.message.ClusterReason.{ClusterReason}
use Rattle.gp_cluster.specs.declared.message.ClusterReason.TheVariants as reason
use Rattle.gp_listing.specs.Texts.{or_dash, digit, hex8, hex16, hex64, src_text, counter_text, mic_text, bad_text}

-- ---- fields

-- an octet string: an unspecified one as `none`, an empty one as `-`
abbrev pub string_digits : Option (List ℕ) → List ℕ
string_digits None = codes "none"
string_digits (Some []) = codes "-"
string_digits (Some (octet ∷ octets)) = encode_upper (octet ∷ octets)

-- a field of one octet that may be absent, and one of two
unfoldable pub field8 : List ℕ → Option ℕ → List ℕ
field8 label field = label ++ or_dash hex8 field

unfoldable pub field16 : List ℕ → Option ℕ → List ℕ
field16 label field = label ++ or_dash hex16 field

-- a command and its payload
unfoldable pub inner_text : ℕ → Option (List ℕ) → List ℕ
inner_text command payload = (codes " command=" ++ hex8 command) ++ (codes " payload=" ++ string_digits payload)

-- a proxy's address, and how well it heard the device
unfoldable pub proxy_text : Option (ℕ × ℕ) → List ℕ
proxy_text proxy = (codes " proxy=" ++ or_dash (λ p. hex16 p.0) proxy) ++ (codes " link=" ++ or_dash (λ p. hex8 p.1) proxy)

-- a sink's IEEE address and its network address
unfoldable pub sink_text : Option (ℕ × ℕ) → List ℕ
sink_text sink = (codes " sink=" ++ or_dash (λ s. hex64 s.0) sink) ++ (codes " address=" ++ or_dash (λ s. hex16 s.1) sink)

unfoldable pub key_text : Option Key → List ℕ
key_text key = codes " key=" ++ or_dash (λ k. encode_upper k.0) key

unfoldable pub window_text : Option ℕ → List ℕ
window_text window = codes " window=" ++ or_dash decimal window

-- ---- messages: the fields behind the header, in the order of the message

unfoldable pub notification_text : Notification → List ℕ
notification_text m =
    (codes " options=" ++ hex16 m.options)
    ++ src_text (Some m.src) ++ counter_text (Some m.counter) ++ inner_text m.command m.payload ++ proxy_text m.proxy

unfoldable pub notice_text : CommissioningNotice → List ℕ
notice_text m =
    (codes " options=" ++ hex16 m.options)
    ++ src_text (Some m.src) ++ counter_text (Some m.counter) ++ inner_text m.command m.payload ++ proxy_text m.proxy
    ++ mic_text m.mic

-- where the frames of a device go, and what else a Pairing tells of it
unfoldable pub route_text : Pairing → List ℕ
route_text m = sink_text m.sink ++ field16 (codes " group=") m.group ++ field8 (codes " device=") m.device

unfoldable pub extras_text : Pairing → List ℕ
extras_text m = counter_text m.counter ++ key_text m.key ++ field16 (codes " alias=") m.alias ++ field8 (codes " radius=") m.radius

-- its options have three octets
unfoldable pub pairing_text : Pairing → List ℕ
pairing_text m =
    (codes " options=" ++ encode_upper (drop 1 (to_be_bytes w32 m.options)))
    ++ src_text (Some m.src) ++ route_text m ++ extras_text m

unfoldable pub mode_text : ProxyMode → List ℕ
mode_text m = (codes " options=" ++ hex8 m.options) ++ window_text m.window ++ field8 (codes " channel=") m.channel

unfoldable pub response_text : Response → List ℕ
response_text m =
    (codes " options=" ++ hex8 m.options) ++ (codes " master=" ++ hex16 m.master) ++ (codes " channel=" ++ hex8 m.channel)
    ++ src_text (Some m.src) ++ inner_text m.command m.payload

-- ---- the whole line

abbrev pub message_name : Cluster → List ℕ
message_name (message.Notification m) = codes "notification"
message_name (message.CommissioningNotice m) = codes "commissioning"
message_name (message.Pairing m) = codes "pairing"
message_name (message.ProxyMode m) = codes "mode"
message_name (message.Response m) = codes "response"

abbrev pub fields_text : Cluster → List ℕ
fields_text (message.Notification m) = notification_text m
fields_text (message.CommissioningNotice m) = notice_text m
fields_text (message.Pairing m) = pairing_text m
fields_text (message.ProxyMode m) = mode_text m
fields_text (message.Response m) = response_text m

-- which message it is, what its header says, and its fields
unfoldable pub message_text : Zcl → List ℕ
message_text zcl =
    message_name zcl.body ++ (codes " seq=" ++ hex8 zcl.sequence) ++ (codes " quiet=" ++ digit zcl.quiet) ++ fields_text zcl.body

-- the name of a reason why octets are no message, and its place in them
abbrev pub cluster_reason_name : ClusterReason → List ℕ
cluster_reason_name (reason.Short place) = codes "Short"
cluster_reason_name (reason.HeaderForm place) = codes "HeaderForm"
cluster_reason_name (reason.CommandUnknown place) = codes "CommandUnknown"
cluster_reason_name (reason.AppId place) = codes "AppId"
cluster_reason_name (reason.Trailing place) = codes "Trailing"
cluster_reason_name (reason.Mode place) = codes "Mode"
cluster_reason_name (reason.Long place) = codes "Long"

abbrev pub cluster_reason_place : ClusterReason → ℕ
cluster_reason_place (reason.Short place) = place
cluster_reason_place (reason.HeaderForm place) = place
cluster_reason_place (reason.CommandUnknown place) = place
cluster_reason_place (reason.AppId place) = place
cluster_reason_place (reason.Trailing place) = place
cluster_reason_place (reason.Mode place) = place
cluster_reason_place (reason.Long place) = place

-- octets behind `zcl `
unfoldable pub sent_text : Result Zcl ClusterReason → List ℕ
sent_text (Ok zcl) = message_text zcl
sent_text (Err reason) = bad_text (cluster_reason_name reason) (cluster_reason_place reason)
