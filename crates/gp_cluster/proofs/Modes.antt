-- A Proxy Commissioning Mode at its places, and spelled out.
use Rattle.std.proofs.Common.{◌≡◌, ℕ, ◌^◌, ◌<◌, ◌≤◌, true, List, [], ◌++◌, length, drop, None, refl, sym, subst, ◌∙◌, append_assoc, arith}
use Rattle.std.specs.Prelude.{is_some}
use Rattle.std.specs.Int.{w16, to_le_bytes}
use Rattle.std.proofs.lemmas.Bool.{and_parts, and_from}
use Rattle.gp_base.specs.Field.{IsOctets, agree, octet, octet_at, optional}
use Rattle.gp_base.proofs.Codec.{At, IsField, field_from, field_agrees, anything, octet_codec, number16_codec, optional_codec, join}
use Rattle.gp_cluster.specs.declared.message.ProxyMode.{ProxyMode}
use Rattle.gp_cluster.specs.Options.{has_window, has_channel}
use Rattle.gp_cluster.specs.ProxyMode.{proxy_mode, proxy_mode_agrees, HasProxyModeWidths, channel_place, proxy_mode_end, proxy_mode_reason, proxy_mode_at}
use Rattle.gp_cluster.proofs.Endings.{exact_end, no_fault, at_end, with_end, end_met}

mode_in_order : (m : ProxyMode) (r : List ℕ) → proxy_mode m ++ r ≡ octet m.options ++ (optional (to_le_bytes w16) m.window ++ (optional octet m.channel ++ r))
unfolding proxy_mode
mode_in_order m r = simp append_assoc

pub mode_found : (b : List ℕ) → IsOctets b → proxy_mode_reason b ≡ None
    → (drop 3 b ≡ proxy_mode (proxy_mode_at b)) × (proxy_mode_agrees (proxy_mode_at b) ≡ true) × HasProxyModeWidths (proxy_mode_at b)
mode_found b bytes h =
    let opts = octet_at b 3 in
    let end = proxy_mode_end b in
    let total : length b ≡ end = exact_end b end h in
    let fits : end ≤ length b = omega (arith, total) in
    let before : channel_place b ≤ length b = omega (arith, fits) in
    let options = octet_codec.split b 3 bytes (omega (arith, before)) in
    let window = (optional_codec _ _ _ _ number16_codec (has_window opts)).split b 4 bytes before in
    let channel = (optional_codec _ _ _ _ octet_codec (has_channel opts)).split b (channel_place b) bytes fits in
    let all = join b 3 4 (octet opts) _ options.0 (join b 4 (channel_place b) _ _ window.0 channel.0) in (
      at_end b 3 end _ total (all ∙ sym (mode_in_order (proxy_mode_at b) (drop end b))),
      and_from _ _ (field_agrees _ _ _ window.1) (field_agrees _ _ _ channel.1),
      record { window = window.1.fit },
    )

pub mode_again : (b : List ℕ) (m : ProxyMode) → At b 3 (proxy_mode m) → proxy_mode_agrees m ≡ true → HasProxyModeWidths m
    → (proxy_mode_reason b ≡ None) × (proxy_mode_at b ≡ m)
mode_again b m at agrees widths =
    let opts = octet_at b 3 in
    let tests = and_parts (agree (is_some m.window) (has_window m.options)) _ agrees in
    let start = with_end b 3 _ _ (mode_in_order m []) at in
    let options = octet_codec.again b 3 m.options _ start tt in
    let window = (optional_codec _ _ _ _ number16_codec (has_window opts)).again b 4 m.window _ options.1
    (subst (λ (x : ℕ). IsField (has_window x) (λ n. n < 2 ^ 16) m.window) (sym options.0) (field_from _ _ _ tests.0 widths.window)) in
    let channel = (optional_codec _ _ _ _ octet_codec (has_channel opts)).again b (channel_place b) m.channel [] window.1
    (subst (λ (x : ℕ). IsField (has_channel x) (λ _. Unit {0}) m.channel) (sym options.0) (field_from _ _ _ tests.1 (anything m.channel))) in
    (no_fault b (proxy_mode_end b) (end_met b _ channel.1), rw (window.0, channel.0, options.0) refl)
