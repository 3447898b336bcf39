-- A device command and its octets: an identifier, the fields that are there in order, and the rest
-- (Zigbee PRO Green Power, A.4.1 and A.4.2).
use Rattle.std.specs.Prelude.{◌≡◌, ℕ, ◌<◌, ◌≤◌, ◌^◌, ◌==◌, nat_lt, List, ◌∷◌, ◌++◌, length, drop, Option, Some, None, Result, IfSome, IsTrue, if◌then◌else◌}
use Rattle.std.specs.Int.{w16, to_le_bytes}
use Rattle.gp_commands.specs.declared.form.Form.{Form}
use Rattle.gp_commands.specs.declared.form.Form.TheVariants as forms
use Rattle.gp_commands.specs.declared.command.GpdCommand.{GpdCommand}
use Rattle.gp_commands.specs.declared.command.GpdCommand.TheVariants.{Plain, Move, Step, Vector, Report, Commissioning, Reply, ChannelRequest, ChannelConfig, Other}
use Rattle.gp_commands.specs.declared.command.CommandReason.{CommandReason}
use Rattle.gp_commands.specs.declared.command.CommandReason.TheVariants.{Empty, Short}
use Rattle.gp_base.specs.Field.{IsOctets, optional, octet, octet_at}
use Rattle.gp_base.specs.Table.{answer}
use Rattle.gp_commands.specs.Forms.{report_id, commissioning_id, channel_request_id, reply_id, channel_config_id, form_of}
use Rattle.gp_commands.specs.Level.{HasMoveRest, HasStepRest, move_at, step_at}
use Rattle.gp_commands.specs.Report.{AreRecords, report_reason, report_at}
use Rattle.gp_commands.specs.Commissioning.{commissioning, fields_agree, HasCommissioningWidths, commissioning_reason, commissioning_at}
use Rattle.gp_commands.specs.Reply.{reply, reply_fields_agree, HasReplyWidths, reply_reason, reply_at}

-- ---- what a command is

-- its octets
unfoldable pub spelling : GpdCommand → List ℕ
spelling (Plain id rest) = id ∷ rest
spelling (Move id rate rest) = id ∷ (optional octet rate ++ rest)
spelling (Step id size time rest) = id ∷ size ∷ (optional (to_le_bytes w16) time ++ rest)
spelling (Vector id value rest) = id ∷ value ∷ rest
spelling (Report cluster records) = report_id ∷ (to_le_bytes w16 cluster ++ records)
spelling (Commissioning c) = commissioning_id ∷ commissioning c
spelling (Reply r) = reply_id ∷ reply r
spelling (ChannelRequest value rest) = channel_request_id ∷ value ∷ rest
spelling (ChannelConfig value rest) = channel_config_id ∷ value ∷ rest
spelling (Other id rest) = id ∷ rest

-- The identifier is one of the variant's, and each field is there where it is to be.
abbrev pub HasForm : GpdCommand → Type 0
HasForm (Plain id rest) = form_of id ≡ forms.Plain
HasForm (Move id rate rest) = (form_of id ≡ forms.Move) × HasMoveRest rate rest
HasForm (Step id size time rest) = (form_of id ≡ forms.Step) × HasStepRest time rest
HasForm (Vector id value rest) = form_of id ≡ forms.Vector
HasForm (Report cluster records) = AreRecords records
HasForm (Commissioning c) = IsTrue (fields_agree c)
HasForm (Reply r) = IsTrue (reply_fields_agree r)
HasForm (ChannelRequest value rest) = Unit {0}
HasForm (ChannelConfig value rest) = Unit {0}
HasForm (Other id rest) = form_of id ≡ forms.Other

-- Numbers, keys and MICs have the widths of their fields, as those of each value in the program have.
abbrev pub HasWidths : GpdCommand → Type 0
HasWidths (Step id size time rest) = IfSome time (λ n. n < 2 ^ 16)
HasWidths (Report cluster records) = cluster < 2 ^ 16
HasWidths (Commissioning c) = HasCommissioningWidths c
HasWidths (Reply r) = HasReplyWidths r
HasWidths _ = Unit {0}

-- The octets, at most 117 of them, spell the command.
pub record Command (c : GpdCommand) (octets : List ℕ) : Type 0 where
  pub spelled : octets ≡ spelling c
  pub form : HasForm c
  pub widths : HasWidths c
  pub limit : length octets ≤ 117
  pub are_octets : IsOctets octets

-- some octets spell the command
abbrev pub IsSound : GpdCommand → Type 0
IsSound c = (octets : List ℕ) × Command c octets

-- ---- the first fault, and what is read without one

-- the fault of octets that are fewer than so many
abbrev pub ends_before : ℕ → List ℕ → Option CommandReason
ends_before count octets = if nat_lt (length octets) count then Some (Short (length octets)) else None

-- the first fault of a payload of a form
abbrev pub payload_reason : Form → List ℕ → Option CommandReason
payload_reason forms.Plain octets = None
payload_reason forms.Move octets = None
payload_reason forms.Step octets = ends_before 2 octets
payload_reason forms.Vector octets = ends_before 2 octets
payload_reason forms.Report octets = report_reason octets
payload_reason forms.Commissioning octets = commissioning_reason octets
payload_reason forms.Reply octets = reply_reason octets
payload_reason forms.ChannelRequest octets = ends_before 2 octets
payload_reason forms.ChannelConfig octets = ends_before 2 octets
payload_reason forms.Other octets = None

-- what a payload of a form reads as
abbrev pub payload_at : Form → List ℕ → GpdCommand
payload_at forms.Plain octets = Plain (octet_at octets 0) (drop 1 octets)
payload_at forms.Move octets = move_at octets
payload_at forms.Step octets = step_at octets
payload_at forms.Vector octets = Vector (octet_at octets 0) (octet_at octets 1) (drop 2 octets)
payload_at forms.Report octets = report_at octets
payload_at forms.Commissioning octets = Commissioning (commissioning_at octets)
payload_at forms.Reply octets = Reply (reply_at octets)
payload_at forms.ChannelRequest octets = ChannelRequest (octet_at octets 1) (drop 2 octets)
payload_at forms.ChannelConfig octets = ChannelConfig (octet_at octets 1) (drop 2 octets)
payload_at forms.Other octets = Other (octet_at octets 0) (drop 1 octets)

-- the first fault from the left
unfoldable pub first_reason : List ℕ → Option CommandReason
first_reason octets = if length octets == 0 then Some Empty else payload_reason (form_of (octet_at octets 0)) octets

-- what octets read as
unfoldable pub reading : List ℕ → Result GpdCommand CommandReason
reading octets = answer (first_reason octets) (payload_at (form_of (octet_at octets 0)) octets)
