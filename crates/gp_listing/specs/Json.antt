-- What is listed for a line of a capture as JSON: one compact object (RFC 8259), its keys in the order of their bytes.
use Rattle.std.specs.Prelude.{ℕ, Bool, if◌then◌else◌, List, [], ◌∷◌, Option, Result, Ok, Err, codes}
use Rattle.std.specs.Option.{option_map, option_map_or}
use Rattle.std.specs.Int.{w16, w32, to_be_bytes}
use Rattle.hex.specs.Hex.{encode_upper}
use Rattle.serde_json.specs.Data.{Data, null, boolean, number, string, object, unsigned, Members, no_members, put as with_member}
use Rattle.serde_json.specs.Written.{compact_text}
use Rattle.gp_base.specs.declared.identity.Key.{Key}
use Rattle.gp_frames.specs.declared.frame.Gpdf.{Gpdf}
use Rattle.gp_frames.specs.declared.frame.Mpdu.{Mpdu}
use Rattle.gp_frames.specs.declared.frame.FrameReason.{FrameReason}
use Rattle.gp_frames.specs.Frame.{extension}
use Rattle.gp_frames.specs.Reading.{reading}
use Rattle.gp_commands.specs.declared.command.GpdCommand.{GpdCommand}
use Rattle.gp_commands.specs.declared.command.GpdCommand.TheVariants as variant
use Rattle.gp_commands.specs.declared.command.Commissioning.{Commissioning}
use Rattle.gp_commands.specs.declared.command.Reply.{Reply}
use Rattle.gp_commands.specs.declared.command.CommandReason.{CommandReason}
use Rattle.gp_commands.specs.Command.{reading as read_command}
use Rattle.gp_script.specs.declared.capture.Capture.{Capture}
use Rattle.gp_script.specs.declared.capture.Capture.TheVariants.{Frame, Message}
use Rattle.gp_script.specs.Capture.{captured}
use Rattle.gp_cluster.specs.declared.message.Zcl.{Zcl}
use Rattle.gp_cluster.specs.declared.message.ClusterReason.{ClusterReason}
use Rattle.gp_cluster.specs.Message.{reading as read_message}
use Rattle.gp_listing.specs.Listing.{reason_name, reason_place, kind_text, tag_word}
use Rattle.gp_listing.specs.declared.opening.Opening.{Opening}
use Rattle.gp_listing.specs.declared.opening.Opening.TheVariants.{Untold, Bad, Good}
use Rattle.gp_listing.specs.Opening.{opening, shown_body, is_clear}
use Rattle.gp_listing.specs.Messages.{message_text, cluster_reason_name, cluster_reason_place}

-- octets as a text of hexadecimal digits in upper case, and a number as it is
abbrev pub hex : List ℕ → Data
hex octets = string (encode_upper octets)

abbrev pub decimal : ℕ → Data
decimal n = number (unsigned n)

-- a number of two octets as four digits, and one of four octets as eight
abbrev pub hex16 : ℕ → Data
hex16 n = hex (to_be_bytes w16 n)

abbrev pub hex32 : ℕ → Data
hex32 n = hex (to_be_bytes w32 n)

-- a field that may be absent
abbrev pub or_null : {A : Type 0} → (A → Data) → Option A → Data
or_null shown field = option_map_or shown field null

-- what is refused, by the name of the reason and its place
unfoldable pub bad_members : List ℕ → ℕ → Members
bad_members name place = with_member (codes "bad") (string name) (with_member (codes "place") (decimal place) no_members)

-- a refused frame
unfoldable pub refusal_members : FrameReason → Members
refusal_members reason = bad_members (reason_name reason) (reason_place reason)

-- ---- commands: the variant's name, and each of its fields under its own name

-- a command of an identifier and what follows it
unfoldable pub plain_members : List ℕ → ℕ → List ℕ → Members
plain_members kind id rest =
    with_member (codes "id") (decimal id)
    (with_member (codes "kind") (string kind)
    (with_member (codes "rest") (hex rest) no_members))

unfoldable pub move_members : ℕ → Option ℕ → List ℕ → Members
move_members id rate rest = with_member (codes "rate") (or_null decimal rate) (plain_members (codes "Move") id rest)

unfoldable pub step_members : ℕ → ℕ → Option ℕ → List ℕ → Members
step_members id size time rest =
    with_member (codes "size") (decimal size)
    (with_member (codes "time") (or_null decimal time) (plain_members (codes "Step") id rest))

unfoldable pub vector_members : ℕ → ℕ → List ℕ → Members
vector_members id value rest = with_member (codes "value") (decimal value) (plain_members (codes "Vector") id rest)

unfoldable pub report_members : ℕ → List ℕ → Members
report_members cluster records =
    with_member (codes "cluster") (hex16 cluster)
    (with_member (codes "kind") (string (codes "Report"))
    (with_member (codes "records") (hex records) no_members))

-- a command about channels
unfoldable pub channel_members : List ℕ → ℕ → List ℕ → Members
channel_members kind value rest =
    with_member (codes "kind") (string kind)
    (with_member (codes "rest") (hex rest)
    (with_member (codes "value") (decimal value) no_members))

-- a key with its MIC and counter, besides other members
unfoldable pub key_members : Option Key → Option (List ℕ) → Option ℕ → Members → Members
key_members key key_mic counter others =
    with_member (codes "counter") (or_null decimal counter)
    (with_member (codes "key") (or_null (λ k. hex k.0) key)
    (with_member (codes "key_mic") (or_null hex key_mic) others))

-- what the application information of a Commissioning tells, besides other members
unfoldable pub application_members : Commissioning → Members → Members
application_members command others =
    with_member (codes "application") (or_null decimal command.application)
    (with_member (codes "clusters") (or_null hex command.clusters)
    (with_member (codes "commands") (or_null hex command.commands)
    (with_member (codes "manufacturer") (or_null hex16 command.manufacturer)
    (with_member (codes "model") (or_null hex16 command.model) others))))

-- the other fields of a Commissioning
unfoldable pub device_members : Commissioning → Members
device_members command =
    with_member (codes "device") (decimal command.device)
    (with_member (codes "extended") (or_null decimal command.extended)
    (with_member (codes "kind") (string (codes "Commissioning"))
    (with_member (codes "options") (decimal command.options)
    (with_member (codes "rest") (hex command.rest) no_members))))

unfoldable pub commissioning_members : Commissioning → Members
commissioning_members command =
    application_members command (key_members command.key command.key_mic command.counter (device_members command))

-- the fields of a Reply but for its key
unfoldable pub network_members : Reply → Members
network_members command =
    with_member (codes "kind") (string (codes "Reply"))
    (with_member (codes "options") (decimal command.options)
    (with_member (codes "pan") (or_null hex16 command.pan)
    (with_member (codes "rest") (hex command.rest) no_members)))

unfoldable pub reply_members : Reply → Members
reply_members command = key_members command.key command.key_mic command.counter (network_members command)

unfoldable pub command_members : GpdCommand → Members
command_members (variant.Plain id rest) = plain_members (codes "Plain") id rest
command_members (variant.Move id rate rest) = move_members id rate rest
command_members (variant.Step id size time rest) = step_members id size time rest
command_members (variant.Vector id value rest) = vector_members id value rest
command_members (variant.Report cluster records) = report_members cluster records
command_members (variant.Commissioning command) = commissioning_members command
command_members (variant.Reply command) = reply_members command
command_members (variant.ChannelRequest value rest) = channel_members (codes "ChannelRequest") value rest
command_members (variant.ChannelConfig value rest) = channel_members (codes "ChannelConfig") value rest
command_members (variant.Other id rest) = plain_members (codes "Other") id rest

-- what octets read as a command give: null where they are none
abbrev pub command_data : Result GpdCommand CommandReason → Data
command_data (Ok command) = object (command_members command)
command_data (Err reason) = null

-- what is in clear is read, and nothing else
unfoldable pub read_data : Bool → List ℕ → Data
read_data clear body = if clear then command_data (read_command body) else null

-- ---- frames

-- the kind of a frame and what the MAC header says, besides other members
unfoldable pub mac_members : Mpdu → Members → Members
mac_members mpdu others =
    with_member (codes "dest") (hex16 mpdu.dest)
    (with_member (codes "kind") (string (kind_text mpdu.frame.maintenance))
    (with_member (codes "pan") (hex16 mpdu.pan)
    (with_member (codes "seq") (hex (mpdu.seq ∷ [])) others)))

-- the fields between the MAC header and the command, besides other members
unfoldable pub header_members : Gpdf → Members → Members
header_members frame others =
    with_member (codes "auto") (boolean frame.auto)
    (with_member (codes "counter") (or_null decimal frame.counter)
    (with_member (codes "ext") (or_null (λ e. hex (extension e ∷ [])) frame.ext)
    (with_member (codes "src") (or_null (λ s. hex32 s.0) frame.src) others)))

-- whether the MIC is right, null where that isn't told
abbrev pub tag_data : Opening → Data
tag_data Untold = null
tag_data Bad = string (tag_word Bad)
tag_data (Good command) = string (tag_word (Good command))

-- the command and the MIC, what the command reads as, and whether the MIC is right
unfoldable pub body_members : Opening → Gpdf → Members
body_members told frame =
    with_member (codes "body") (hex (shown_body told frame))
    (with_member (codes "command") (read_data (is_clear told frame) (shown_body told frame))
    (with_member (codes "mic") (or_null hex frame.mic)
    (with_member (codes "tag") (tag_data told) no_members)))

unfoldable pub frame_members : Opening → Mpdu → Members
frame_members told mpdu = mac_members mpdu (header_members mpdu.frame (body_members told mpdu.frame))

-- octets of the air
unfoldable pub air_members : Option Key → Result Mpdu FrameReason → Members
air_members key (Ok mpdu) = frame_members (opening key mpdu.frame) mpdu
air_members key (Err reason) = refusal_members reason

-- octets behind `zcl `: a message by its listing
unfoldable pub sent_members : Result Zcl ClusterReason → Members
sent_members (Ok zcl) = with_member (codes "zcl") (string (message_text zcl)) no_members
sent_members (Err reason) = bad_members (cluster_reason_name reason) (cluster_reason_place reason)

-- what a line of a capture holds
abbrev pub capture_json : Option Key → Capture → List ℕ
capture_json key (Frame octets) = compact_text (object (air_members key (reading octets)))
capture_json key (Message octets) = compact_text (object (sent_members (read_message octets)))

-- the JSON for a line, where it is a line of a capture; the key, where one is given, opens secured frames
unfoldable pub json_listing : Option Key → List ℕ → Option (List ℕ)
json_listing key line = option_map (capture_json key) (captured line)
