-- The power of a sink: a cut in the commit of a frame, and a fault of the disk in that of a pairing. The MIC was made by another
-- implementation.
use Rattle.std.proofs.Common.{◌≡◌, true, false, List, [], ◌∷◌, ◌++◌, Some, ℕ, refl}
use Rattle.std.specs.Prelude.{codes}
use Rattle.std.specs.Fmt.{digits}
use Rattle.hex.specs.Hex.{decode_pairs, encode_with}
use Rattle.gp_aes.specs.Field.{product, inverse, sub_byte}
use Rattle.gp_aes.specs.KeyExpansion.{round_key}
use Rattle.gp_aes.specs.Cipher.{after_rounds, cipher}
use Rattle.gp_ccm.specs.Blocks.{blocks_of}
use Rattle.gp_ccm.specs.Ccm.{encrypted, tag_of}
use Rattle.gp_frames.specs.Frame.{header}
use Rattle.gp_frames.specs.Reasons.{mac_lines, control_lines, extension_lines, field_lines, first_reason}
use Rattle.gp_frames.specs.Reading.{ext_at, src_at, counter_at, body_at, mic_at, frame_at, value_at, reading}
use Rattle.gp_commands.specs.Command as commands
use Rattle.gp_commands.specs.Forms as forms
use Rattle.gp_security.specs.Protection.{nonce_of, opened}
use Rattle.gp_cluster.specs.Message.{spelling}
use Rattle.gp_cluster.specs.Pairing.{pairing}
use Rattle.gp_translate.specs.Acts.{acts_of}
use Rattle.gp_translate.specs.Meanings.{plain, meaning, identifiers, has_meaning}
use Rattle.gp_translate.specs.Rules.{standard, is_full}
use Rattle.gp_script.specs.Kinds.{number_in, hex_in, key_in, octets_in, is_name}
use Rattle.gp_world.specs.Devices.{device_presses, device_hears}
use Rattle.gp_ideal.specs.Heard.{counted, judged, secured, clear, of_frame, heard}
use Rattle.gp_ideal.specs.Ledger.{rows, values_of, live, floor, last_row, current}
use Rattle.gp_ideal.specs.Paired.{paired}
use Rattle.gp_world.specs.Power.{committed, passed, effected, at_running, adds_rule, lists, arms, turns_off, turns_on, flickers}
use Rattle.gp_world.specs.Step.{step, acted_on, reaches, makes_sink, makes_device, at_sink, at_device, hears}
use Rattle.gp_world.specs.Sinks.{ruled, sink_hears, sink_pairs, sink_rules, sink_announces, sink_lists}
use Rattle.gp_world.specs.World.{empty, settled, joined, injected}
use Rattle.gp_world_tests.proofs.Reported.{reported}

script : List (List ℕ)
script =
    codes "0 sink s1 0001 0000000000000001 unicast 11 - D0D1D2D3D4D5D6D7D8D9DADBDCDDDEDF"
    ∷ codes "0 pair s1 87654321 C0C1C2C3C4C5C6C7C8C9CACBCCCDCECF 4 2 02 1"
    ∷ codes "0 device d1 87654321 C0C1C2C3C4C5C6C7C8C9CACBCCCDCECF 4 2 02 1"
    ∷ codes "5 cut s1 1 15 0"
    ∷ codes "10 press d1 20"
    ∷ codes "20 hear 0 s1 40"
    ∷ codes "21 hear 0 s1 40"
    ∷ codes "30 on s1"
    ∷ codes "40 hear 0 s1 40"
    ∷ codes "50 fault s1 1 0"
    ∷ codes "51 pair s1 00000001 C0C1C2C3C4C5C6C7C8C9CACBCCCDCECF 4 2 02 7"
    ∷ codes "52 hear 0 s1 40"
    ∷ codes "53 table s1"
    ∷ codes "54 on s1"
    ∷ codes "55 off s1"
    ∷ codes "56 off s1"
    ∷ codes "57 on s1 cut 3 1"
    ∷ codes "58 on s1"
    ∷ []

before : List (List ℕ)
before =
    codes "2 s1 paired 0 87654321 1"
    ∷ codes "2 s1 put 0 all 19000168E40021436587010000000000000001000201000000C0C1C2C3C4C5C6C7C8C9CACBCCCDCECF"
    ∷ codes "4 s1 armed"
    ∷ codes "5 d1 air 0 010800FFFFFFFF8C30214365870200000020AD69A978"
    ∷ codes "6 s1 cut"
    ∷ codes "7 s1 dark"
    ∷ codes "8 s1 up 1"
    ∷ []

after : List (List ℕ)
after =
    codes "10 s1 armed"
    ∷ codes "11 s1 halted"
    ∷ codes "12 s1 halted"
    ∷ codes "13 s1 rows 1"
    ∷ codes "13 s1 row 0 87654321 4 2 3 0000 02 1 2"
    ∷ codes "14 s1 running"
    ∷ codes "15 s1 off"
    ∷ codes "16 s1 dark"
    ∷ codes "17 s1 cut"
    ∷ []

-- a change that is remembered wasn't reported, and its frame isn't acted on
remembers : reported true empty 1 script ≡ Some (before ++ (codes "9 s1 drop Stale 2" ∷ after ++ codes "18 s1 up 2" ∷ []))
unfolding script before after reported digits decode_pairs encode_with product inverse sub_byte round_key after_rounds cipher blocks_of encrypted tag_of header mac_lines control_lines extension_lines field_lines first_reason ext_at src_at counter_at body_at mic_at frame_at value_at reading commands.spelling commands.first_reason commands.reading forms.form_of forms.identifiers nonce_of opened spelling pairing acts_of plain meaning identifiers has_meaning is_full standard number_in hex_in key_in octets_in is_name device_presses device_hears counted judged secured clear of_frame heard rows values_of live floor last_row current paired ruled sink_hears sink_pairs sink_rules sink_announces sink_lists committed passed effected at_running adds_rule lists arms turns_off turns_on flickers step acted_on reaches makes_sink makes_device at_sink at_device hears empty settled joined injected
remembers = refl

-- one that is not remembered is made when the frame is heard again
forgets : reported false empty 1 script ≡ Some (before ++ (codes "9 s1 acted 0 87654321 2 20 1" ∷ codes "9 s1 zcl 01 0006 0 00 -" ∷ after ++ codes "18 s1 up 1" ∷ []))
unfolding script before after reported digits decode_pairs encode_with product inverse sub_byte round_key after_rounds cipher blocks_of encrypted tag_of header mac_lines control_lines extension_lines field_lines first_reason ext_at src_at counter_at body_at mic_at frame_at value_at reading commands.spelling commands.first_reason commands.reading forms.form_of forms.identifiers nonce_of opened spelling pairing acts_of plain meaning identifiers has_meaning is_full standard number_in hex_in key_in octets_in is_name device_presses device_hears counted judged secured clear of_frame heard rows values_of live floor last_row current paired ruled sink_hears sink_pairs sink_rules sink_announces sink_lists committed passed effected at_running adds_rule lists arms turns_off turns_on flickers step acted_on reaches makes_sink makes_device at_sink at_device hears empty settled joined injected
forgets = refl
