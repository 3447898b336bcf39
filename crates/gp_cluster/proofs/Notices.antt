-- Notification and Commissioning Notification at their places, and spelled out.
use Rattle.std.proofs.Common.{◌≡◌, ℕ, ◌≤◌, true, false, not, eqb, ltb, List, [], ◌++◌, length, drop, None, refl, sym, ap, subst, ◌∙◌, append_assoc, arith}
use Rattle.std.specs.Prelude.{is_some}
use Rattle.std.specs.Int.{w16, to_le_bytes}
use Rattle.std.proofs.lemmas.Bool.{not-false, and_parts, and_from, ltb-false, le-ltb}
use Rattle.gp_base.specs.Field.{IsOctets, agree, optional, two_at}
use Rattle.gp_base.proofs.Codec.{At, IsField, field_from, field_agrees, number16_codec, octets_codec, optional_codec, join}
use Rattle.gp_cluster.specs.declared.message.Notification.{Notification}
use Rattle.gp_cluster.specs.declared.message.CommissioningNotice.{CommissioningNotice}
use Rattle.gp_cluster.specs.declared.message.ClusterReason.TheVariants.{Short, AppId}
use Rattle.gp_cluster.specs.Options.{application_id, has_proxy, notice_has_proxy, has_failed}
use Rattle.gp_cluster.specs.Tunnel.{tunnel_octets}
use Rattle.gp_cluster.specs.Notification.{tunnel_of, notice_tunnel_of, notification, notification_agrees, HasNotificationWidths, notification_end, notification_reason, notification_at, notice, notice_agrees, HasNoticeWidths, mic_place, notice_end, notice_reason, notice_at}
use Rattle.gp_base.proofs.Tables.{first_none}
use Rattle.gp_cluster.proofs.Endings.{exact_end, no_fault, at_end, with_end, end_met}
use Rattle.gp_cluster.proofs.Tunnels.{HasTunnel, tunnel_split, tunnel_again}

-- ---- Notification

notification_in_order : (m : Notification) (r : List ℕ) → notification m ++ r ≡ to_le_bytes w16 m.options ++ (tunnel_octets (tunnel_of m) ++ r)
unfolding notification
notification_in_order m r = simp append_assoc

pub notification_found : (b : List ℕ) → IsOctets b → notification_reason b ≡ None
    → (drop 3 b ≡ notification (notification_at b)) × (notification_agrees (notification_at b) ≡ true) × HasNotificationWidths (notification_at b)
notification_found b bytes h =
    let opts = two_at b 3 in
    let end = notification_end b in
    let one = first_none (ltb (length b) 5) (Short (length b)) _ h in
    let two = first_none (not (eqb (application_id opts) 0)) (AppId 3) _ one.1 in
    let total : length b ≡ end = exact_end b end two.1 in
    let long : 5 ≤ length b = ltb-false _ _ one.0 in
    let options = number16_codec.split b 3 bytes long in
    let tunnel = tunnel_split (has_proxy opts) b bytes (omega (arith, total)) in
    let all = join b 3 5 (to_le_bytes w16 opts) _ options.0 tunnel.0 in (
      at_end b 3 end _ total (all ∙ sym (notification_in_order (notification_at b) (drop end b))),
      and_from _ _ (not-false _ two.0) (field_agrees _ _ _ tunnel.1.proxy),
      record { options = options.1; src = tunnel.1.src; counter = tunnel.1.counter; payload = tunnel.1.payload; proxy = tunnel.1.proxy.fit },
    )

pub notification_again : (b : List ℕ) (m : Notification) → At b 3 (notification m) → notification_agrees m ≡ true → HasNotificationWidths m
    → (notification_reason b ≡ None) × (notification_at b ≡ m)
notification_again b m at agrees widths =
    let opts = two_at b 3 in
    let tests = and_parts (eqb (application_id m.options) 0) _ agrees in
    let start = with_end b 3 _ _ (notification_in_order m []) at in
    let options = number16_codec.again b 3 m.options _ start widths.options in
    let has : HasTunnel (has_proxy m.options) (tunnel_of m) =
    record { src = widths.src; counter = widths.counter; payload = widths.payload; proxy = field_from _ _ _ tests.1 widths.proxy } in
    let tunnel = tunnel_again (has_proxy opts) b (tunnel_of m) [] options.1
    (subst (λ (x : ℕ). HasTunnel (has_proxy x) (tunnel_of m)) (sym options.0) has) in
    let one : ltb (length b) 5 ≡ false = le-ltb _ _ options.1.within in
    let two : eqb (application_id opts) 0 ≡ true = ap (λ (x : ℕ). eqb (application_id x) 0) options.0 ∙ tests.0 in
    let last = no_fault b (notification_end b) (end_met b _ tunnel.1) in
    (rw (one, two) last, rw (tunnel.0, options.0) refl)

-- ---- Commissioning Notification

notice_in_order : (m : CommissioningNotice) (r : List ℕ) → notice m ++ r ≡ to_le_bytes w16 m.options ++ (tunnel_octets (notice_tunnel_of m) ++ (optional (λ mic. mic) m.mic ++ r))
unfolding notice
notice_in_order m r = simp append_assoc

pub notice_found : (b : List ℕ) → IsOctets b → notice_reason b ≡ None
    → (drop 3 b ≡ notice (notice_at b)) × (notice_agrees (notice_at b) ≡ true) × HasNoticeWidths (notice_at b)
notice_found b bytes h =
    let opts = two_at b 3 in
    let end = notice_end b in
    let one = first_none (ltb (length b) 5) (Short (length b)) _ h in
    let two = first_none (not (eqb (application_id opts) 0)) (AppId 3) _ one.1 in
    let total : length b ≡ end = exact_end b end two.1 in
    let long : 5 ≤ length b = ltb-false _ _ one.0 in
    let options = number16_codec.split b 3 bytes long in
    let tunnel = tunnel_split (notice_has_proxy opts) b bytes (omega (arith, total)) in
    let mic = (optional_codec _ _ _ _ (octets_codec 4) (has_failed opts)).split b (mic_place b) bytes (omega (arith, total)) in
    let all = join b 3 5 (to_le_bytes w16 opts) _ options.0 (join b 5 (mic_place b) _ _ tunnel.0 mic.0) in (
      at_end b 3 end _ total (all ∙ sym (notice_in_order (notice_at b) (drop end b))),
      and_from _ _ (and_from _ _ (not-false _ two.0) (field_agrees _ _ _ tunnel.1.proxy)) (field_agrees _ _ _ mic.1),
      record { options = options.1; src = tunnel.1.src; counter = tunnel.1.counter; payload = tunnel.1.payload; proxy = tunnel.1.proxy.fit; mic = mic.1.fit },
    )

pub notice_again : (b : List ℕ) (m : CommissioningNotice) → At b 3 (notice m) → notice_agrees m ≡ true → HasNoticeWidths m
    → (notice_reason b ≡ None) × (notice_at b ≡ m)
notice_again b m at agrees widths =
    let opts = two_at b 3 in
    let s1 = and_parts _ (agree (is_some m.mic) (has_failed m.options)) agrees in
    let s2 = and_parts (eqb (application_id m.options) 0) _ s1.0 in
    let start = with_end b 3 _ _ (notice_in_order m []) at in
    let options = number16_codec.again b 3 m.options _ start widths.options in
    let has : HasTunnel (notice_has_proxy m.options) (notice_tunnel_of m) =
    record { src = widths.src; counter = widths.counter; payload = widths.payload; proxy = field_from _ _ _ s2.1 widths.proxy } in
    let tunnel = tunnel_again (notice_has_proxy opts) b (notice_tunnel_of m) _ options.1
    (subst (λ (x : ℕ). HasTunnel (notice_has_proxy x) (notice_tunnel_of m)) (sym options.0) has) in
    let mic = (optional_codec _ _ _ _ (octets_codec 4) (has_failed opts)).again b (mic_place b) m.mic [] tunnel.1
    (subst (λ (x : ℕ). IsField (has_failed x) (λ mic. length mic ≡ 4) m.mic) (sym options.0) (field_from _ _ _ s1.1 widths.mic)) in
    let one : ltb (length b) 5 ≡ false = le-ltb _ _ options.1.within in
    let two : eqb (application_id opts) 0 ≡ true = ap (λ (x : ℕ). eqb (application_id x) 0) options.0 ∙ s2.0 in
    let last = no_fault b (notice_end b) (end_met b _ mic.1) in
    (rw (one, two) last, rw (tunnel.0, mic.0, options.0) refl)
