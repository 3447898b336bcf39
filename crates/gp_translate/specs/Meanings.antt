-- What device commands mean in the Zigbee Cluster Library (ZCL): Identify (3.5), Scenes (3.7), On/Off (3.8), Level Control
-- (3.10), Door Lock (7.3), and Report Attributes (2.5.11). Commands of devices are those of Zigbee PRO Green Power, A.4.1.
use Rattle.std.specs.Prelude.{ℕ, ◌-◌, Bool, true, false, ◌&&◌, ◌==◌, nat_le, List, [], ◌∷◌, Option, Some, None}
use Rattle.std.specs.Option.{unwrap_or}
use Rattle.std.specs.Int.{w16, to_le_bytes}
use Rattle.std.specs.List.{list_any}
use Rattle.gp_base.specs.Table.{first_of}
use Rattle.gp_commands.specs.declared.command.GpdCommand.{GpdCommand}
use Rattle.gp_commands.specs.declared.command.GpdCommand.TheVariants.{Plain, Move, Step, Report}
use Rattle.gp_translate.specs.declared.act.Act.{Act}

-- a command of a cluster, and a general command about it, at an endpoint
abbrev pub of_cluster : ℕ → ℕ → ℕ → List ℕ → Act
of_cluster endpoint cluster zcl payload = record { endpoint = endpoint; cluster = cluster; general = false; zcl = zcl; payload = payload }

abbrev pub general : ℕ → ℕ → ℕ → List ℕ → Act
general endpoint cluster zcl payload = record { endpoint = endpoint; cluster = cluster; general = true; zcl = zcl; payload = payload }

-- the identifier stands between the two, or is one of them
abbrev pub is_from_to : ℕ → ℕ → ℕ → Bool
is_from_to first last id = nat_le first id && nat_le id last

-- commands without a payload
unfoldable pub plain : ℕ → ℕ → Option Act
plain endpoint id =
    first_of
    -- Identify: for 60 seconds
    ((id == 0x00, of_cluster endpoint 0x0003 0x00 (0x3C ∷ 0x00 ∷ []))
    -- Recall Scene 0 to 7: the scene of this number in group 0
    ∷ (is_from_to 0x10 0x17 id, of_cluster endpoint 0x0005 0x05 (0x00 ∷ 0x00 ∷ (id - 0x10) ∷ []))
    -- Store Scene 0 to 7
    ∷ (is_from_to 0x18 0x1F id, of_cluster endpoint 0x0005 0x04 (0x00 ∷ 0x00 ∷ (id - 0x18) ∷ []))
    -- Off, On, Toggle: the commands 0, 1 and 2
    ∷ (is_from_to 0x20 0x22 id, of_cluster endpoint 0x0006 (id - 0x20) [])
    -- Level Stop
    ∷ (id == 0x34, of_cluster endpoint 0x0008 0x03 [])
    -- Lock Door, Unlock Door: the commands 0 and 1
    ∷ (is_from_to 0x50 0x51 id, of_cluster endpoint 0x0101 (id - 0x50) [])
    ∷ [])

-- Move Up and Move Down (0 and 1), and the same with On/Off, at a rate; FF is the device's own
unfoldable pub moved : ℕ → ℕ → Option ℕ → Option Act
moved endpoint id rate =
    first_of
    ((is_from_to 0x30 0x31 id, of_cluster endpoint 0x0008 0x01 ((id - 0x30) ∷ unwrap_or rate 0xFF ∷ []))
    ∷ (is_from_to 0x35 0x36 id, of_cluster endpoint 0x0008 0x05 ((id - 0x35) ∷ unwrap_or rate 0xFF ∷ []))
    ∷ [])

-- Step Up and Step Down (0 and 1), and the same with On/Off, by a size in a time; FFFF is as fast as the device can
unfoldable pub stepped : ℕ → ℕ → ℕ → Option ℕ → Option Act
stepped endpoint id size time =
    first_of
    ((is_from_to 0x32 0x33 id, of_cluster endpoint 0x0008 0x02 ((id - 0x32) ∷ size ∷ to_le_bytes w16 (unwrap_or time 0xFFFF)))
    ∷ (is_from_to 0x37 0x38 id, of_cluster endpoint 0x0008 0x06 ((id - 0x37) ∷ size ∷ to_le_bytes w16 (unwrap_or time 0xFFFF)))
    ∷ [])

-- what a command means, at an endpoint; an attribute report is Report Attributes about its cluster
unfoldable pub meaning : ℕ → GpdCommand → Option Act
meaning endpoint (Plain id rest) = plain endpoint id
meaning endpoint (Move id rate rest) = moved endpoint id rate
meaning endpoint (Step id size time rest) = stepped endpoint id size time
meaning endpoint (Report cluster records) = Some (general endpoint cluster 0x0A records)
meaning endpoint _ = None

-- the identifiers of the commands that have a meaning
unfoldable pub identifiers : List ℕ
identifiers =
    -- Identify
    0x00
    -- Recall Scene 0 to 7
    ∷ 0x10 ∷ 0x11 ∷ 0x12 ∷ 0x13 ∷ 0x14 ∷ 0x15 ∷ 0x16 ∷ 0x17
    -- Store Scene 0 to 7
    ∷ 0x18 ∷ 0x19 ∷ 0x1A ∷ 0x1B ∷ 0x1C ∷ 0x1D ∷ 0x1E ∷ 0x1F
    -- Off, On, Toggle
    ∷ 0x20 ∷ 0x21 ∷ 0x22
    -- Move Up, Move Down
    ∷ 0x30 ∷ 0x31
    -- Step Up, Step Down
    ∷ 0x32 ∷ 0x33
    -- Level Stop
    ∷ 0x34
    -- Move Up, Move Down, with On/Off
    ∷ 0x35 ∷ 0x36
    -- Step Up, Step Down, with On/Off
    ∷ 0x37 ∷ 0x38
    -- Lock Door, Unlock Door
    ∷ 0x50 ∷ 0x51
    -- attribute report
    ∷ 0xA0
    ∷ []

-- commands with this identifier have a meaning
unfoldable pub has_meaning : ℕ → Bool
has_meaning id = list_any (λ other. other == id) identifiers
