-- Which frames a sink has to act on (Zigbee PRO Green Power, A.1.5.4 and A.3.6.1.2).
use Rattle.std.specs.Prelude.{◌≡◌, ◌<◌, ℕ, true, false, List, Some}
use Rattle.gp_base.specs.Identity.{is_individual, level_number}
use Rattle.gp_frames.specs.declared.frame.Mpdu.{Mpdu}
use Rattle.gp_frames.specs.Frame.{Frame, level_of, is_secured}
use Rattle.gp_security.specs.Protection.{Good, source_of, counter_of, is_to_device}
use Rattle.gp_ideal.specs.declared.ledger.Change.{Change}
use Rattle.gp_ideal.specs.declared.ledger.Known.{Known}
use Rattle.gp_ideal.specs.Heard.{key_bit}
use Rattle.gp_ideal.specs.Ledger.{known}

-- The octets are a fresh frame for a sink with this ledger: of the current pairing that is known so, with this counter, and
-- carrying this command.
pub record Fresh (ledger : List Change) (octets : List ℕ) (k : Known) (counter : ℕ) (command : List ℕ) : Type 0 where
  -- they spell an MPDU,
  pub mpdu : Mpdu
  pub spelled : Frame mpdu octets
  -- which is secured and doesn't go to a device;
  pub from_device : is_to_device mpdu.frame ≡ false
  pub secured : is_secured mpdu.frame ≡ true
  -- its SrcID is paired, and its SecurityKey bit and its level are those of the pairing;
  pub pairing : known ledger (source_of mpdu.frame) ≡ Some k
  pub kind : key_bit mpdu.frame ≡ is_individual k.values.kind
  pub level : level_of mpdu.frame ≡ level_number k.values.level
  -- under the key of the pairing it carries the command;
  pub carried : Good k.values.key.0 mpdu.frame command
  -- and its counter is above the floor
  pub counts : counter_of mpdu.frame ≡ counter
  pub above : k.floor < counter
