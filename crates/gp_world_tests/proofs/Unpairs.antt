-- A press that unpairs its device. The frame was sealed by another implementation.
use Rattle.std.proofs.Common.{◌≡◌, false, List, [], ◌∷◌, Some, ℕ, refl}
use Rattle.std.specs.Prelude.{codes}
use Rattle.std.specs.Fmt.{digits}
use Rattle.hex.specs.Hex.{decode_pairs, encode_with}
use Rattle.gp_aes.specs.Field.{product, inverse, sub_byte}
use Rattle.gp_aes.specs.KeyExpansion.{round_key}
use Rattle.gp_aes.specs.Cipher.{after_rounds, cipher}
use Rattle.gp_ccm.specs.Blocks.{blocks_of}
use Rattle.gp_ccm.specs.Ccm.{encrypted, tag_of}
use Rattle.gp_frames.specs.Frame.{header}
use Rattle.gp_frames.specs.Reasons.{mac_lines, control_lines, extension_lines, field_lines, first_reason}
use Rattle.gp_frames.specs.Reading.{ext_at, src_at, counter_at, body_at, mic_at, frame_at, value_at, reading}
use Rattle.gp_commands.specs.Command as commands
use Rattle.gp_commands.specs.Forms as forms
use Rattle.gp_security.specs.Protection.{nonce_of, opened}
use Rattle.gp_cluster.specs.Message.{spelling}
use Rattle.gp_cluster.specs.Pairing.{pairing}
use Rattle.gp_translate.specs.Acts.{acts_of}
use Rattle.gp_translate.specs.Meanings.{plain, meaning, identifiers, has_meaning}
use Rattle.gp_translate.specs.Rules.{standard, is_full}
use Rattle.gp_script.specs.Kinds.{number_in, hex_in, key_in, octets_in, is_name}
use Rattle.gp_world.specs.Devices.{device_presses, device_hears}
use Rattle.gp_ideal.specs.Heard.{counted, judged, secured, clear, of_frame, heard}
use Rattle.gp_ideal.specs.Ledger.{rows, values_of, live, floor, last_row, current}
use Rattle.gp_ideal.specs.Paired.{paired}
use Rattle.gp_world.specs.Power.{committed, passed, effected, at_running, adds_rule, lists}
use Rattle.gp_world.specs.Step.{step, acted_on, reaches, makes_sink, makes_device, at_sink, at_device, hears}
use Rattle.gp_world.specs.Sinks.{ruled, sink_hears, sink_pairs, sink_rules, sink_announces, sink_lists}
use Rattle.gp_world.specs.World.{empty, settled, joined, injected}
use Rattle.gp_world_tests.proofs.Reported.{reported}

script : List (List ℕ)
script =
    codes "0 sink s1 0001 0000000000000001 unicast 11 - D0D1D2D3D4D5D6D7D8D9DADBDCDDDEDF"
    ∷ codes "0 pair s1 87654321 C0C1C2C3C4C5C6C7C8C9CACBCCCDCECF 4 2 02 5"
    ∷ codes "0 device d1 87654321 C0C1C2C3C4C5C6C7C8C9CACBCCCDCECF 4 2 02 5"
    ∷ codes "30 press d1 E1"
    ∷ codes "40 hear 0 s1 40"
    ∷ codes "41 hear 0 d1 40"
    ∷ codes "50 hear 0 s1 40"
    ∷ codes "60 announce s1 87654321"
    ∷ codes "60 table s1"
    ∷ []

-- the row stays, and is not live
unpairs : reported false empty 1 script ≡ Some (
    codes "2 s1 paired 0 87654321 5"
    ∷ codes "2 s1 put 0 all 19000168E40021436587010000000000000001000205000000C0C1C2C3C4C5C6C7C8C9CACBCCCDCECF"
    ∷ codes "4 d1 air 0 010800FFFFFFFF8C302143658706000000E139ADB101"
    ∷ codes "5 s1 unpaired 0 87654321 6"
    ∷ codes "5 s1 put 1 all 19010110000021436587"
    ∷ codes "6 d1 closed"
    ∷ codes "7 s1 drop Unknown"
    ∷ codes "8 s1 drop Unknown"
    ∷ codes "9 s1 rows 1"
    ∷ codes "9 s1 row 0 87654321 4 2 3 0000 02 0 6"
    ∷ [])
unfolding script reported digits decode_pairs encode_with product inverse sub_byte round_key after_rounds cipher blocks_of encrypted tag_of header mac_lines control_lines extension_lines field_lines first_reason ext_at src_at counter_at body_at mic_at frame_at value_at reading commands.spelling commands.first_reason commands.reading forms.form_of forms.identifiers nonce_of opened spelling pairing acts_of plain meaning identifiers has_meaning is_full standard number_in hex_in key_in octets_in is_name device_presses device_hears counted judged secured clear of_frame heard rows values_of live floor last_row current paired ruled sink_hears sink_pairs sink_rules sink_announces sink_lists committed passed effected at_running adds_rule lists step acted_on reaches makes_sink makes_device at_sink at_device hears empty settled joined injected
unpairs = refl
