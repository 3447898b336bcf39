-- What a sink answers to octets on the air (Zigbee PRO Green Power, A.3.5.2.4 and A.3.6.1.2), while it isn't listening for
-- devices to be paired. Each table answers by the first line that applies.
use Rattle.std.specs.Prelude.{ℕ, Bool, true, false, not, nat_le, ◌==◌, List, [], ◌∷◌, slice_index}
use Rattle.std.specs.Option.{option_map_or}
use Rattle.gp_base.specs.Identity.{is_individual, level_number}
use Rattle.gp_base.specs.Table.{by_table, let_else, let_ok}
use Rattle.gp_frames.specs.declared.frame.Gpdf.{Gpdf}
use Rattle.gp_frames.specs.Frame.{level_of, is_secured}
use Rattle.gp_frames.specs.Reading.{reading}
use Rattle.gp_security.specs.Protection.{source_of, counter_of, is_to_device, opened}
use Rattle.gp_translate.specs.declared.rule.Rule.{Rule}
use Rattle.gp_translate.specs.Acts.{acts}
use Rattle.gp_script.specs.declared.report.Cause.TheVariants.{ToDevice, Unsecured, Unknown, KeyBit, LevelOther, BadTag}
use Rattle.gp_script.specs.declared.report.Dropped.TheVariants.{Stale}
use Rattle.gp_script.specs.declared.report.Refusal.TheVariants.{NotListening}
use Rattle.gp_ideal.specs.declared.ledger.Change.{Change}
use Rattle.gp_ideal.specs.declared.ledger.Change.TheVariants.{Accept, Retire}
use Rattle.gp_ideal.specs.declared.ledger.Known.{Known}
use Rattle.gp_ideal.specs.Faults.{malformed}
use Rattle.gp_ideal.specs.Ledger.{known}
use Rattle.gp_ideal.specs.Messages.{removal_sent}
use Rattle.gp_ideal.specs.Verdict.{Ruling, Acted, Unpaired, Refused, Dropped, says, remembers, drops}

-- the command identifier of command octets
abbrev pub id_of : List ℕ → ℕ
id_of command = slice_index command 0

-- ---- a frame of a row that carries these command octets for certain

-- its counter has to be above the floor
abbrev pub stale_lines : Known → ℕ → List (Bool × Ruling)
stale_lines k counter = (nat_le counter k.floor, says (Dropped (Stale k.floor))) ∷ []

-- the row is unpaired by this frame
abbrev pub unpaired : Known → ℕ → Ruling
unpaired k counter = remembers (Retire k.row counter) (Unpaired k.row k.values.src counter (removal_sent k.values.src))

-- the frame is acted on
abbrev pub acted : List Rule → Known → ℕ → List ℕ → Ruling
acted rules k counter command =
    remembers (Accept k.row counter) (Acted k.row k.values.src counter (id_of command) (acts rules k.values.src command))

-- Decommissioning unpairs
abbrev pub leave_lines : Known → ℕ → List ℕ → List (Bool × Ruling)
leave_lines k counter command = (id_of command == 0xE1, unpaired k counter) ∷ []

unfoldable pub counted : List Rule → Known → ℕ → List ℕ → Ruling
counted rules k counter command =
    by_table (stale_lines k counter) (by_table (leave_lines k counter command) (acted rules k counter command))

-- ---- a secured frame

-- the SecurityKey bit
abbrev pub key_bit : Gpdf → Bool
key_bit frame = option_map_or (λ ext. ext.individual) frame.ext false

abbrev pub differ : Bool → Bool → Bool
differ true other = not other
differ false other = other

-- the frame has to have the key's kind and the level of the row
abbrev pub key_lines : Known → Gpdf → List (Bool × Ruling)
key_lines k frame =
    (differ (key_bit frame) (is_individual k.values.kind), drops KeyBit)
    ∷ (not (level_of frame == level_number k.values.level), drops LevelOther)
    ∷ []

-- by what is known of its SrcID
unfoldable pub judged : List Rule → Known → Gpdf → Ruling
judged rules k frame =
    by_table (key_lines k frame)
    (let_else (opened k.values.key.0 frame) (drops BadTag) (λ command. counted rules k (counter_of frame) command))

unfoldable pub secured : List Rule → List Change → Gpdf → Ruling
secured rules ledger frame = let_else (known ledger (source_of frame)) (drops Unknown) (λ k. judged rules k frame)

-- ---- any octets

-- an unsecured frame: Commissioning is refused, and all else is dropped
abbrev pub clear_lines : List ℕ → List (Bool × Ruling)
clear_lines body = (id_of body == 0xE0, says (Refused NotListening)) ∷ []

unfoldable pub clear : List ℕ → Ruling
clear body = by_table (clear_lines body) (drops Unsecured)

-- a frame goes from the device, and is secured
abbrev pub frame_lines : Gpdf → List (Bool × Ruling)
frame_lines frame = (is_to_device frame, drops ToDevice) ∷ (not (is_secured frame), clear frame.body) ∷ []

unfoldable pub of_frame : List Rule → List Change → Gpdf → Ruling
of_frame rules ledger frame = by_table (frame_lines frame) (secured rules ledger frame)

-- octets on the air
unfoldable pub heard : List Rule → List Change → List ℕ → Ruling
heard rules ledger octets =
    let_ok (reading octets) (λ reason. says (Dropped (malformed reason))) (λ mpdu. of_frame rules ledger mpdu.frame)
