-- A Response at its places, and spelled out.
use Rattle.std.proofs.Common.{◌≡◌, ℕ, ◌≤◌, true, false, not, eqb, ltb, List, [], ◌++◌, length, drop, None, refl, sym, ap, ◌∙◌, append_assoc, arith}
use Rattle.std.specs.Int.{w16, w32, to_le_bytes}
use Rattle.std.proofs.lemmas.Bool.{not-false, le-ltb}
use Rattle.gp_base.specs.Field.{IsOctets, octet, octet_at, two_at, four_at}
use Rattle.gp_base.proofs.Codec.{At, src_codec, octet_codec, number16_codec, join}
use Rattle.gp_cluster.specs.declared.message.Response.{Response}
use Rattle.gp_cluster.specs.declared.message.ClusterReason.TheVariants.{Short, AppId}
use Rattle.gp_cluster.specs.Options.{application_id}
use Rattle.gp_cluster.specs.Fields.{octet_string}
use Rattle.gp_cluster.specs.Response.{response, response_agrees, HasResponseWidths, response_end, response_reason, response_at}
use Rattle.gp_base.proofs.Tables.{first_none}
use Rattle.gp_cluster.proofs.Endings.{exact_end, no_fault, at_end, with_end, end_met}
use Rattle.gp_cluster.proofs.FieldCodecs.{string_codec}

response_in_order : (m : Response) (r : List ℕ) → response m ++ r ≡ octet m.options ++ (to_le_bytes w16 m.master ++ (octet m.channel ++ (to_le_bytes w32 m.src.0 ++ (octet m.command ++ (octet_string m.payload ++ r)))))
unfolding response
response_in_order m r = simp append_assoc

pub response_found : (b : List ℕ) → IsOctets b → response_reason b ≡ None
    → (drop 3 b ≡ response (response_at b)) × (response_agrees (response_at b) ≡ true) × HasResponseWidths (response_at b)
response_found b bytes h =
    let opts = octet_at b 3 in
    let end = response_end b in
    let one = first_none (ltb (length b) 4) (Short (length b)) _ h in
    let two = first_none (not (eqb (application_id opts) 0)) (AppId 3) _ one.1 in
    let total : length b ≡ end = exact_end b end two.1 in
    let fits : end ≤ length b = omega (arith, total) in
    let options = octet_codec.split b 3 bytes (omega (arith, fits)) in
    let master = number16_codec.split b 4 bytes (omega (arith, fits)) in
    let channel = octet_codec.split b 6 bytes (omega (arith, fits)) in
    let src = src_codec.split b 7 bytes (omega (arith, fits)) in
    let command = octet_codec.split b 11 bytes (omega (arith, fits)) in
    let payload = string_codec.split b 12 bytes fits in
    let all = join b 3 4 (octet opts) _ options.0 (join b 4 6 (to_le_bytes w16 (two_at b 4)) _ master.0 (join b 6 7 (octet (octet_at b 6)) _ channel.0 (join b 7 11 (to_le_bytes w32 (four_at b 7)) _ src.0 (join b 11 12 (octet (octet_at b 11)) _ command.0 payload.0)))) in (
      at_end b 3 end _ total (all ∙ sym (response_in_order (response_at b) (drop end b))),
      not-false _ two.0,
      record { master = master.1; src = src.1; payload = payload.1 },
    )

pub response_again : (b : List ℕ) (m : Response) → At b 3 (response m) → response_agrees m ≡ true → HasResponseWidths m
    → (response_reason b ≡ None) × (response_at b ≡ m)
response_again b m at agrees widths =
    let opts = octet_at b 3 in
    let start = with_end b 3 _ _ (response_in_order m []) at in
    let options = octet_codec.again b 3 m.options _ start tt in
    let master = number16_codec.again b 4 m.master _ options.1 widths.master in
    let channel = octet_codec.again b 6 m.channel _ master.1 tt in
    let src = src_codec.again b 7 m.src _ channel.1 widths.src in
    let command = octet_codec.again b 11 m.command _ src.1 tt in
    let payload = string_codec.again b 12 m.payload [] command.1 widths.payload in
    let one : ltb (length b) 4 ≡ false = le-ltb _ _ options.1.within in
    let two : eqb (application_id opts) 0 ≡ true = ap (λ (x : ℕ). eqb (application_id x) 0) options.0 ∙ agrees in
    let last = no_fault b (response_end b) (end_met b _ payload.1) in
    (rw (one, two) last, rw (options.0, master.0, channel.0, src.0, command.0, payload.0) refl)
