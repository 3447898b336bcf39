-- What rules make of a command: acts, in the order of the rules (Zigbee PRO Green Power, A.3.6.1.1, the translation table).
use Rattle.std.specs.Prelude.{ℕ, List, [], drop, Option, Some}
use Rattle.std.specs.List.{filter, filter_map}
use Rattle.gp_base.specs.declared.identity.Src.{Src}
use Rattle.gp_base.specs.Table.{let_ok}
use Rattle.gp_commands.specs.declared.command.GpdCommand.{GpdCommand}
use Rattle.gp_commands.specs.declared.command.GpdCommand.TheVariants.{Plain, Move, Step, Vector, Report, Commissioning, Reply, ChannelRequest, ChannelConfig, Other}
use Rattle.gp_commands.specs.Forms.{report_id, commissioning_id, channel_request_id, reply_id, channel_config_id}
use Rattle.gp_commands.specs.Command.{spelling, reading}
use Rattle.gp_translate.specs.declared.act.Act.{Act}
use Rattle.gp_translate.specs.declared.rule.Rule.{Rule}
use Rattle.gp_translate.specs.declared.rule.Target.{Target}
use Rattle.gp_translate.specs.declared.rule.Target.TheVariants.{Parsed, Copy, Fixed}
use Rattle.gp_translate.specs.Meanings.{of_cluster, meaning}
use Rattle.gp_translate.specs.Rules.{concerns}

-- the identifier of a command, its first octet
abbrev pub identifier : GpdCommand → ℕ
identifier (Plain id rest) = id
identifier (Move id rate rest) = id
identifier (Step id size time rest) = id
identifier (Vector id value rest) = id
identifier (Report cluster records) = report_id
identifier (Commissioning commissioning) = commissioning_id
identifier (Reply reply) = reply_id
identifier (ChannelRequest value rest) = channel_request_id
identifier (ChannelConfig value rest) = channel_config_id
identifier (Other id rest) = id

-- what a target makes of a command, at an endpoint: its meaning; its octets after the identifier; or what stands in the target
abbrev pub made : GpdCommand → ℕ → Target → Option Act
made command endpoint Parsed = meaning endpoint command
made command endpoint (Copy cluster zcl) = Some (of_cluster endpoint cluster zcl (drop 1 (spelling command)))
made command endpoint (Fixed cluster zcl payload) = Some (of_cluster endpoint cluster zcl payload)

abbrev pub act_of : GpdCommand → Rule → Option Act
act_of command rule = made command rule.endpoint rule.target

-- the acts of a command of a device: one for each rule that concerns it
unfoldable pub acts_of : List Rule → Src → GpdCommand → List Act
acts_of rules source command = filter_map (act_of command) (filter (concerns (Some source) (identifier command)) rules)

-- the acts of the octets of a command; none where they don't read as one
abbrev pub acts : List Rule → Src → List ℕ → List Act
acts rules source octets = let_ok (reading octets) (λ reason. []) (acts_of rules source)
