-- What is listed for a line of a capture.
use Rattle.std.specs.Prelude.{ℕ, ◌==◌, if◌then◌else◌, Bool, true, false, List, [], ◌∷◌, ◌++◌, Option, Result, Ok, Err, codes, decimal}
use Rattle.std.specs.Option.{option_map}
use Rattle.std.specs.Int.{w16, to_be_bytes}
use Rattle.hex.specs.Hex.{encode_upper}
use Rattle.gp_base.specs.declared.identity.Key.{Key}
use Rattle.gp_frames.specs.declared.frame.Ext.{Ext}
use Rattle.gp_frames.specs.declared.frame.Gpdf.{Gpdf}
use Rattle.gp_frames.specs.declared.frame.Mpdu.{Mpdu}
use Rattle.gp_frames.specs.declared.frame.FrameReason.{FrameReason}
use Rattle.gp_frames.specs.declared.frame.FrameReason.TheVariants as reason
use Rattle.gp_base.specs.Field.{octet_at}
use Rattle.gp_frames.specs.Frame.{extension}
use Rattle.gp_commands.specs.declared.command.GpdCommand.{GpdCommand}
use Rattle.gp_commands.specs.declared.command.GpdCommand.TheVariants.{Plain, Move, Step, Vector, Report, Commissioning, Reply, ChannelRequest, ChannelConfig, Other}
use Rattle.gp_commands.specs.declared.command.CommandReason.{CommandReason}
use Rattle.gp_commands.specs.declared.command.CommandReason.TheVariants as command
use Rattle.gp_commands.specs.Command.{reading as read_command}
use Rattle.gp_frames.specs.Reading.{reading}
use Rattle.gp_script.specs.declared.capture.Capture.{Capture}
use Rattle.gp_script.specs.declared.capture.Capture.TheVariants.{Frame, Message}
use Rattle.gp_script.specs.Capture.{captured}
use Rattle.gp_cluster.specs.Message.{reading as read_message}
use Rattle.gp_listing.specs.declared.opening.Opening.{Opening}
use Rattle.gp_listing.specs.declared.opening.Opening.TheVariants.{Untold, Bad, Good}
use Rattle.gp_listing.specs.Opening.{opening, shown_body, is_clear}
use Rattle.gp_listing.specs.Texts.{or_dash, digit, src_text, counter_text, mic_text, bad_text}
use Rattle.gp_listing.specs.Messages.{sent_text}

-- the name of a reason, and its place in the octets
abbrev pub reason_name : FrameReason → List ℕ
reason_name reason.TooLong = codes "TooLong"
reason_name (reason.Short place) = codes "Short"
reason_name reason.MacForm = codes "MacForm"
reason_name reason.FrameKind = codes "FrameKind"
reason_name reason.Version = codes "Version"
reason_name reason.AppId = codes "AppId"
reason_name reason.LevelOne = codes "LevelOne"
reason_name reason.SecuredMaintenance = codes "SecuredMaintenance"
reason_name (reason.NoCommand place) = codes "NoCommand"

abbrev pub reason_place : FrameReason → ℕ
reason_place reason.TooLong = 125
reason_place (reason.Short place) = place
reason_place reason.MacForm = 0
reason_place reason.FrameKind = 7
reason_place reason.Version = 7
reason_place reason.AppId = 8
reason_place reason.LevelOne = 8
reason_place reason.SecuredMaintenance = 8
reason_place (reason.NoCommand place) = place

-- a refused frame
unfoldable pub refusal_text : FrameReason → List ℕ
refusal_text reason = bad_text (reason_name reason) (reason_place reason)

abbrev pub kind_text : Bool → List ℕ
kind_text false = codes "data"
kind_text true = codes "maintenance"

-- the kind of a frame, and what the MAC header says
unfoldable pub mac_text : Mpdu → List ℕ
mac_text mpdu = kind_text mpdu.frame.maintenance
    ++ (codes " seq=" ++ encode_upper (mpdu.seq ∷ []))
    ++ (codes " pan=" ++ encode_upper (to_be_bytes w16 mpdu.pan))
    ++ (codes " dest=" ++ encode_upper (to_be_bytes w16 mpdu.dest))

-- the fields between the MAC header and the command
unfoldable pub auto_text : Bool → List ℕ
auto_text auto = codes " auto=" ++ digit auto

unfoldable pub ext_text : Option Ext → List ℕ
ext_text ext = codes " ext=" ++ or_dash (λ e. encode_upper (extension e ∷ [])) ext

unfoldable pub header_text : Gpdf → List ℕ
header_text frame = auto_text frame.auto ++ ext_text frame.ext ++ src_text frame.src ++ counter_text frame.counter

-- the name of a variant
abbrev pub variant_name : GpdCommand → List ℕ
variant_name (Plain id rest) = codes "Plain"
variant_name (Move id rate rest) = codes "Move"
variant_name (Step id size time rest) = codes "Step"
variant_name (Vector id value rest) = codes "Vector"
variant_name (Report cluster records) = codes "Report"
variant_name (Commissioning command) = codes "Commissioning"
variant_name (Reply command) = codes "Reply"
variant_name (ChannelRequest value rest) = codes "ChannelRequest"
variant_name (ChannelConfig value rest) = codes "ChannelConfig"
variant_name (Other id rest) = codes "Other"

-- the name of a reason why octets are no command
abbrev pub command_reason_name : CommandReason → List ℕ
command_reason_name command.Empty = codes "Empty"
command_reason_name (command.Short place) = codes "Short"
command_reason_name (command.ValueKind place) = codes "ValueKind"
command_reason_name command.ReservedLevel = codes "ReservedLevel"
command_reason_name command.ReservedKeyKind = codes "ReservedKeyKind"

-- the place of the octet with level and key type: 3 in a Commissioning, whose identifier is E0, and 1 in a Reply
abbrev pub keying_place : List ℕ → ℕ
keying_place body = if octet_at body 0 == 0xE0 then 3 else 1

-- the place of a reason in a command
abbrev pub command_reason_place : List ℕ → CommandReason → ℕ
command_reason_place body command.Empty = 0
command_reason_place body (command.Short place) = place
command_reason_place body (command.ValueKind place) = place
command_reason_place body command.ReservedLevel = keying_place body
command_reason_place body command.ReservedKeyKind = keying_place body

-- what a command reads as: its variant, or the reason why it is none and its place
unfoldable pub command_text : List ℕ → Result GpdCommand CommandReason → List ℕ
command_text body (Ok command) = variant_name command
command_text body (Err reason) = command_reason_name reason ++ codes ":" ++ decimal (command_reason_place body reason)

-- what is in clear is read, and nothing else
unfoldable pub read_text : Bool → List ℕ → List ℕ
read_text clear body = codes " read=" ++ (if clear then command_text body (read_command body) else codes "-")

-- whether the MIC is right
abbrev pub tag_word : Opening → List ℕ
tag_word Untold = codes "-"
tag_word Bad = codes "bad"
tag_word (Good command) = codes "good"

unfoldable pub tag_text : Opening → List ℕ
tag_text told = codes " tag=" ++ tag_word told

-- the command and the MIC, what the command reads as, and whether the MIC is right
unfoldable pub body_text : Opening → Gpdf → List ℕ
body_text told frame =
    (codes " body=" ++ encode_upper (shown_body told frame)) ++ mic_text frame.mic ++ read_text (is_clear told frame) (shown_body told frame) ++ tag_text told

-- a frame that was read, and what is told of it
unfoldable pub frame_text : Opening → Mpdu → List ℕ
frame_text told mpdu = mac_text mpdu ++ header_text mpdu.frame ++ body_text told mpdu.frame

-- octets of the air
unfoldable pub air_text : Option Key → Result Mpdu FrameReason → List ℕ
air_text key (Ok mpdu) = frame_text (opening key mpdu.frame) mpdu
air_text key (Err reason) = refusal_text reason

-- what a line of a capture holds
abbrev pub capture_text : Option Key → Capture → List ℕ
capture_text key (Frame octets) = air_text key (reading octets)
capture_text key (Message octets) = sent_text (read_message octets)

-- the listing of a line, where it is a line of a capture; the key, where one is given, opens secured frames
unfoldable pub listing : Option Key → List ℕ → Option (List ℕ)
listing key line = option_map (capture_text key) (captured line)
