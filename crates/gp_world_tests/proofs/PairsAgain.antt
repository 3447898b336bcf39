-- A device paired again, with its key and with another one; refusals; and frames that aren't acted on.
use Rattle.std.proofs.Common.{◌≡◌, false, List, [], ◌∷◌, Some, ℕ, refl}
use Rattle.std.specs.Prelude.{codes}
use Rattle.std.specs.Fmt.{digits}
use Rattle.hex.specs.Hex.{decode_pairs, encode_with}
use Rattle.gp_aes.specs.Field.{product, inverse, sub_byte}
use Rattle.gp_aes.specs.KeyExpansion.{round_key}
use Rattle.gp_aes.specs.Cipher.{after_rounds, cipher}
use Rattle.gp_ccm.specs.Blocks.{blocks_of}
use Rattle.gp_ccm.specs.Ccm.{encrypted, tag_of}
use Rattle.gp_frames.specs.Frame.{header}
use Rattle.gp_frames.specs.Reasons.{mac_lines, control_lines, extension_lines, field_lines, first_reason}
use Rattle.gp_frames.specs.Reading.{ext_at, src_at, counter_at, body_at, mic_at, frame_at, value_at, reading}
use Rattle.gp_commands.specs.Command as commands
use Rattle.gp_commands.specs.Forms as forms
use Rattle.gp_security.specs.Protection.{nonce_of, opened}
use Rattle.gp_cluster.specs.Message.{spelling}
use Rattle.gp_cluster.specs.Pairing.{pairing}
use Rattle.gp_translate.specs.Acts.{acts_of}
use Rattle.gp_translate.specs.Meanings.{plain, meaning, identifiers, has_meaning}
use Rattle.gp_translate.specs.Rules.{standard, is_full}
use Rattle.gp_script.specs.Kinds.{number_in, hex_in, key_in, octets_in, is_name}
use Rattle.gp_world.specs.Devices.{device_presses, device_hears}
use Rattle.gp_ideal.specs.Heard.{counted, judged, secured, clear, of_frame, heard}
use Rattle.gp_ideal.specs.Ledger.{rows, values_of, live, floor, last_row, current}
use Rattle.gp_ideal.specs.Paired.{paired}
use Rattle.gp_world.specs.Power.{committed, passed, effected, at_running, adds_rule, lists}
use Rattle.gp_world.specs.Step.{step, acted_on, reaches, makes_sink, makes_device, at_sink, at_device, hears}
use Rattle.gp_world.specs.Sinks.{ruled, sink_hears, sink_pairs, sink_rules, sink_announces, sink_lists}
use Rattle.gp_world.specs.World.{empty, settled, joined, injected}
use Rattle.gp_world_tests.proofs.Reported.{reported}

script : List (List ℕ)
script =
    codes "0 sink s1 0001 0000000000000001 unicast 11 - D0D1D2D3D4D5D6D7D8D9DADBDCDDDEDF"
    ∷ codes "0 pair s1 87654321 C0C1C2C3C4C5C6C7C8C9CACBCCCDCECF 4 2 02 100"
    ∷ codes "0 pair s1 87654321 D0D1D2D3D4D5D6D7D8D9DADBDCDDDEDF 4 2 02 0"
    ∷ codes "0 pair s1 87654321 C0C1C2C3C4C5C6C7C8C9CACBCCCDCECF 4 2 02 50"
    ∷ codes "0 announce s1 87654321"
    ∷ codes "0 pair s1 00000000 C0C1C2C3C4C5C6C7C8C9CACBCCCDCECF 4 2 02 50"
    ∷ codes "0 pair s1 00000001 C0C1C2C3C4C5C6C7C8C9CACBCCCDCECF 4 2 02 4294967295"
    ∷ codes "1 inject 010800FFFFFFFF8C302143658702000000"
    ∷ codes "2 hear 0 s1 40"
    ∷ codes "3 inject 010800FFFFFFFF8C30214365876500000020AD69A978"
    ∷ codes "4 hear 1 s1 40"
    ∷ codes "5 inject 01080AFFFFFFFF0C21436587E0"
    ∷ codes "6 hear 2 s1 40"
    ∷ codes "9 table s1"
    ∷ []

-- a floor stays with its key, and nothing else is remembered
pairs_again : reported false empty 1 script ≡ Some (
    codes "2 s1 paired 0 87654321 100"
    ∷ codes "2 s1 put 0 all 19000168E40021436587010000000000000001000264000000C0C1C2C3C4C5C6C7C8C9CACBCCCDCECF"
    ∷ codes "3 s1 paired 1 87654321 0"
    ∷ codes "3 s1 put 1 all 19010168E40021436587010000000000000001000200000000D0D1D2D3D4D5D6D7D8D9DADBDCDDDEDF"
    ∷ codes "4 s1 paired 0 87654321 100"
    ∷ codes "4 s1 put 2 all 19020168E40021436587010000000000000001000264000000C0C1C2C3C4C5C6C7C8C9CACBCCCDCECF"
    ∷ codes "5 s1 put 3 all 19030168E40021436587010000000000000001000264000000C0C1C2C3C4C5C6C7C8C9CACBCCCDCECF"
    ∷ codes "6 s1 refused BadSource"
    ∷ codes "7 s1 refused CounterEnd"
    ∷ codes "8 - air 0 010800FFFFFFFF8C302143658702000000"
    ∷ codes "9 s1 drop Malformed Short 17"
    ∷ codes "10 - air 1 010800FFFFFFFF8C30214365876500000020AD69A978"
    ∷ codes "11 s1 drop BadTag"
    ∷ codes "12 - air 2 01080AFFFFFFFF0C21436587E0"
    ∷ codes "13 s1 refused NotListening"
    ∷ codes "14 s1 rows 2"
    ∷ codes "14 s1 row 0 87654321 4 2 3 0000 02 1 100"
    ∷ codes "14 s1 row 1 87654321 4 2 3 0000 02 1 0"
    ∷ [])
unfolding script reported digits decode_pairs encode_with product inverse sub_byte round_key after_rounds cipher blocks_of encrypted tag_of header mac_lines control_lines extension_lines field_lines first_reason ext_at src_at counter_at body_at mic_at frame_at value_at reading commands.spelling commands.first_reason commands.reading forms.form_of forms.identifiers nonce_of opened spelling pairing acts_of plain meaning identifiers has_meaning is_full standard number_in hex_in key_in octets_in is_name device_presses device_hears counted judged secured clear of_frame heard rows values_of live floor last_row current paired ruled sink_hears sink_pairs sink_rules sink_announces sink_lists committed passed effected at_running adds_rule lists step acted_on reaches makes_sink makes_device at_sink at_device hears empty settled joined injected
pairs_again = refl
