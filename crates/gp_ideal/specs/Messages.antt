-- What a sink tells proxies of its pairings (Zigbee PRO Green Power, A.3.3.5.2, GP Pairing).
use Rattle.std.specs.Prelude.{ℕ, ◌+◌, ◌*◌, ◌%◌, true, List, Option, Some, None}
use Rattle.gp_base.specs.declared.identity.Mode.{Mode}
use Rattle.gp_base.specs.declared.identity.Mode.TheVariants.{Derived, Commissioned, Unicast}
use Rattle.gp_base.specs.declared.identity.Src.{Src}
use Rattle.gp_base.specs.Identity.{kind_number, level_number, mode_number, derived_group_of}
use Rattle.gp_cluster.specs.declared.message.Cluster.TheVariants as clusters
use Rattle.gp_cluster.specs.declared.message.Dest.{Dest}
use Rattle.gp_cluster.specs.declared.message.Dest.TheVariants as to
use Rattle.gp_cluster.specs.declared.message.Sent.{Sent}
use Rattle.gp_cluster.specs.Message.{spelling}
use Rattle.gp_script.specs.declared.report.Dest.{Dest as DestWord}
use Rattle.gp_script.specs.declared.report.Dest.TheVariants as words
use Rattle.gp_ideal.specs.declared.config.Config.{Config}
use Rattle.gp_ideal.specs.declared.ledger.Values.{Values}

-- the group of a mode: the derived one, the one that was set up, or 0
abbrev pub group_for : Mode → ℕ → ℕ → ℕ
group_for Derived set_up source = derived_group_of source
group_for Commissioned set_up source = set_up
group_for Unicast set_up source = 0

-- only where frames are unicast is the sink named, and only where they are groupcast its group
abbrev pub sink_named : Mode → Config → Option (ℕ × ℕ)
sink_named Derived config = None
sink_named Commissioned config = None
sink_named Unicast config = Some (config.ieee, config.address)

abbrev pub group_named : Mode → ℕ → Option ℕ
group_named Derived group = Some group
group_named Commissioned group = Some group
group_named Unicast group = None

-- AddSink, the mode, the level, the kind of the key, and that counter and key are there
abbrev pub pairing_options : Values → ℕ
pairing_options v = 0x08 + 0x20 * mode_number v.mode + 0x200 * level_number v.level + 0x800 * kind_number v.kind + 0x4000 + 0x8000

-- a row is paired: proxies are to tunnel its frames above this floor
abbrev pub pairing_sent : Config → Values → ℕ → Sent
pairing_sent config v floor = record {
  to = to.All;
  body = clusters.Pairing (record {
    options = pairing_options v;
    src = v.src;
    sink = sink_named v.mode config;
    group = group_named v.mode v.group;
    device = Some v.device;
    counter = Some floor;
    key = Some v.key;
    alias = None;
    radius = None;
  });
}

-- RemoveGPD: a device is unpaired, and proxies are to forget it
abbrev pub removal_sent : Src → Sent
removal_sent source = record {
  to = to.All;
  body = clusters.Pairing (record {
    options = 0x10;
    src = source;
    sink = None;
    group = None;
    device = None;
    counter = None;
    key = None;
    alias = None;
    radius = None;
  });
}

-- the octets of the message with this number: no default response, and the low octet of the number as its sequence
abbrev pub octets_of : ℕ → Sent → List ℕ
octets_of number sent = spelling (record { quiet = true; sequence = number % 256; body = sent.body })

-- where a message goes, as a report has it
abbrev pub dest_word : Dest → DestWord
dest_word to.All = words.All
dest_word (to.GroupOf group) = words.Group group
dest_word (to.NodeAt address) = words.Node address
