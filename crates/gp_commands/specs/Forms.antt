-- The table of identifiers (Zigbee PRO Green Power, A.4.1).
use Rattle.std.specs.Prelude.{ℕ, Bool, List, [], ◌∷◌, ◌&&◌, nat_le, if◌then◌else◌}
use Rattle.gp_commands.specs.declared.form.Form.{Form}
use Rattle.gp_commands.specs.declared.form.Form.TheVariants.{Plain, Move, Step, Vector, Report, Commissioning, Reply, ChannelRequest, ChannelConfig, Other}
use Rattle.gp_commands.specs.declared.form.Line.{Line}

-- ---- identifiers that are alone in their form

-- attribute report
abbrev pub report_id : ℕ
report_id = 0xA0

-- Commissioning
abbrev pub commissioning_id : ℕ
commissioning_id = 0xE0

-- Channel Request
abbrev pub channel_request_id : ℕ
channel_request_id = 0xE3

-- Commissioning Reply
abbrev pub reply_id : ℕ
reply_id = 0xF0

-- Channel Configuration
abbrev pub channel_config_id : ℕ
channel_config_id = 0xF3

-- ---- the table

-- the identifiers from the first to the last, whose payloads have one form
abbrev pub line : ℕ → ℕ → Form → Line
line first last form = record { first = first; last = last; form = form }

-- identifiers and the forms of their payloads
unfoldable pub identifiers : List Line
identifiers =
    -- Identify
    line 0x00 0x00 Plain
    -- Recall Scene 0 to 7, Store Scene 0 to 7
    ∷ line 0x10 0x1F Plain
    -- Off, On, Toggle, Release
    ∷ line 0x20 0x23 Plain
    -- Move Up, Move Down
    ∷ line 0x30 0x31 Move
    -- Step Up, Step Down
    ∷ line 0x32 0x33 Step
    -- Level Stop
    ∷ line 0x34 0x34 Plain
    -- Move Up, Move Down, with On/Off
    ∷ line 0x35 0x36 Move
    -- Step Up, Step Down, with On/Off
    ∷ line 0x37 0x38 Step
    -- Lock Door, Unlock Door
    ∷ line 0x50 0x51 Plain
    -- press, release and short press of one or two keys
    ∷ line 0x60 0x68 Plain
    -- 8-bit vector press, 8-bit vector release
    ∷ line 0x69 0x6A Vector
    ∷ line report_id report_id Report
    ∷ line commissioning_id commissioning_id Commissioning
    -- Decommissioning, Success
    ∷ line 0xE1 0xE2 Plain
    ∷ line channel_request_id channel_request_id ChannelRequest
    ∷ line reply_id reply_id Reply
    ∷ line channel_config_id channel_config_id ChannelConfig
    ∷ []

-- the identifier stands in the line
abbrev pub is_in : Line → ℕ → Bool
is_in here id = nat_le here.first id && nat_le id here.last

-- the form that the first line which has the identifier gives, and Other where none has it
abbrev pub form_in : List Line → ℕ → Form
form_in [] id = Other
form_in (here ∷ below) id = if is_in here id then here.form else form_in below id

-- the form of an identifier's payload
unfoldable pub form_of : ℕ → Form
form_of id = form_in identifiers id
