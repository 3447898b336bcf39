-- The frame that a Commissioning Notification reports stands in a valid MPDU.
use Rattle.std.proofs.Common.{◌≡◌, ℕ, zero, suc, ◌<◌, ◌≤◌, ◌⊎◌, inl, inr, Bool, true, false, ◌&&◌, leb, List, [], ◌∷◌, ◌++◌, length, Option, Some, None, if◌then◌else◌, refl, subst, arith}
use Rattle.std.specs.Prelude.{IfSome, is_some}
use Rattle.std.specs.Option.{option_map_or}
use Rattle.std.specs.Int.{w16, w32, to_le_bytes}
use Rattle.std.proofs.lemmas.Bool.{leb-true}
use Rattle.gp_base.specs.Field.{IsOctets, agree, optional}
use Rattle.gp_frames.specs.declared.frame.Gpdf.{Gpdf}
use Rattle.gp_frames.specs.declared.frame.Mpdu.{Mpdu}
use Rattle.gp_cluster.specs.declared.message.Zcl.{Zcl}
use Rattle.gp_cluster.specs.declared.message.Cluster.{Cluster}
use Rattle.gp_cluster.specs.declared.message.Cluster.TheVariants as clusters
use Rattle.gp_cluster.specs.declared.message.CommissioningNotice.{CommissioningNotice}
use Rattle.gp_cluster.specs.Fields.{octet_string, proxy_octets}
use Rattle.gp_cluster.specs.Kind.{command_number, is_from_sink, kind_in}
use Rattle.gp_cluster.specs.Message.{HasWidths, body, control, fields_agree, spelling}
use Rattle.gp_cluster.specs.Notification.{HasNoticeWidths, notice, notice_agrees, notice_tunnel_of}
use Rattle.gp_cluster.specs.Tunnel.{tunnel_octets}
use Rattle.gp_cluster.specs.Options.{has_failed, notice_level}
use Rattle.gp_security.specs.Notice.{IsReceived, frame_in, has_frame, payload_of, rebuilt}
use Rattle.gp_frames.specs.Frame.{IsCarried}
use Rattle.gp_security.proofs.Valid.{IsSecured, valid_of}

both : (x y : Bool) → (x && y) ≡ true → (x ≡ true) × (y ≡ true)
both true y h = (refl, h)
both false y h = absurd cc

agreed : (x y : Bool) → agree x y ≡ true → y ≡ true → x ≡ true
agreed true y h k = refl
agreed false true h k = absurd cc
agreed false false h k = absurd cc

octets-right : (xs ys : List ℕ) → IsOctets (xs ++ ys) → IsOctets ys
octets-right [] ys h = h
octets-right (x ∷ xs) ys h = octets-right xs ys (λ i. h (suc i))

octets-left : (xs ys : List ℕ) → IsOctets (xs ++ ys) → IsOctets xs
octets-left [] ys h i = omega arith
octets-left (x ∷ xs) ys h zero = h 0
octets-left (x ∷ xs) ys h (suc i) = octets-left xs ys (λ j. h (suc j)) i

-- ---- what the octets of the message say

-- the octets behind the header
body_octets : (zcl : Zcl) → IsOctets (spelling zcl) → IsOctets (body zcl.body)
unfolding spelling
body_octets zcl h =
    let kind = kind_in zcl.body in
    let numbered = (command_number kind ∷ []) ++ body zcl.body in
    let sequenced = (zcl.sequence ∷ []) ++ numbered in
    octets-right (command_number kind ∷ []) (body zcl.body)
    (octets-right (zcl.sequence ∷ []) numbered (octets-right (control (is_from_sink kind) zcl.quiet ∷ []) sequenced h))

pub record HasOctets (n : CommissioningNotice) : Type 0 where
  pub command : n.command < 256
  pub payload : IsOctets (octet_string n.payload)
  pub mic : IsOctets (optional (λ (m : List ℕ). m) n.mic)

notice_octets : (n : CommissioningNotice) → IsOctets (notice n) → HasOctets n
unfolding notice tunnel_octets
notice_octets n h =
    let mic = optional (λ (m : List ℕ). m) n.mic in
    let proxy = optional proxy_octets n.proxy in
    let told = octet_string n.payload ++ proxy in
    let commanded = (n.command ∷ []) ++ told in
    let counted = to_le_bytes w32 n.counter ++ commanded in
    let behind = octets-right (to_le_bytes w16 n.options) (tunnel_octets (notice_tunnel_of n) ++ mic) h in
    let tunnel = octets-left (tunnel_octets (notice_tunnel_of n)) mic behind in
    let command = octets-right (to_le_bytes w32 n.counter) commanded (octets-right (to_le_bytes w32 n.src.0) counted tunnel) in
    let payload = octets-right (n.command ∷ []) told command in
    record {
      command = command 0;
      payload = octets-left (octet_string n.payload) proxy payload;
      mic = octets-right (tunnel_octets (notice_tunnel_of n)) mic behind;
    }

string_octets : (o : Option (List ℕ)) → IsOctets (octet_string o) → IsOctets (option_map_or (λ (xs : List ℕ). xs) o [])
string_octets None h = λ i. omega arith
string_octets (Some xs) h = octets-right (length xs ∷ []) xs h

optional_octets : (o : Option (List ℕ)) → IsOctets (optional (λ (m : List ℕ). m) o) → IfSome o (λ m. IsOctets m)
optional_octets None h = tt
optional_octets (Some m) h = h

cons_octets : (x : ℕ) (xs : List ℕ) → x < 256 → IsOctets xs → IsOctets (x ∷ xs)
cons_octets x xs h k zero = h
cons_octets x xs h k (suc i) = k i

-- ---- the frame

two_or_three : (n : ℕ) → n < 4 → 2 ≤ n → (n ≡ 2) ⊎ (n ≡ 3)
two_or_three zero h k = absurd (omega (arith, k))
two_or_three (suc zero) h k = absurd (omega (arith, k))
two_or_three (suc (suc zero)) h k = inl refl
two_or_three (suc (suc (suc zero))) h k = inr refl
two_or_three (suc (suc (suc (suc n)))) h k = absurd (omega (arith, h))

-- what a valid message says of its notification
pub record IsKnown (n : CommissioningNotice) : Type 0 where
  pub fields : notice_agrees n ≡ true
  pub widths : HasNoticeWidths n
  pub octets : HasOctets n

known_of : (n : CommissioningNotice) (b : Cluster) → b ≡ clusters.CommissioningNotice n → fields_agree b ≡ true → HasWidths b → IsOctets (body b) → IsKnown n
known_of n b e fields widths octets =
    record {
      fields = subst (λ (c : Cluster). fields_agree c ≡ true) e fields;
      widths = subst HasWidths e widths;
      octets = notice_octets n (subst (λ (c : Cluster). IsOctets (body c)) e octets);
    }

received : (n : CommissioningNotice) → IsReceived n → IsKnown n
received n h =
    let message = h.2.1 in
    known_of n h.0.body h.1 message.fields message.widths (body_octets h.0 (subst IsOctets message.spelled message.are_octets))

secured : (n : CommissioningNotice) → IsKnown n → has_frame n ≡ true → IsSecured (frame_in n)
secured n h e =
    let outer = both _ (leb (length (payload_of n)) 103) e in
    let inner = both (has_failed n.options) (leb 2 (notice_level n.options)) outer.0 in
    let agreement = both _ (agree (is_some n.mic) (has_failed n.options)) h.fields in
    let short = leb-true (length (payload_of n)) 103 outer.1 in
    record {
      data_frame = refl;
      level = two_or_three (notice_level n.options) (omega arith) (leb-true 2 (notice_level n.options) inner.1);
      src = refl;
      counter = refl;
      mic = agreed (is_some n.mic) (has_failed n.options) agreement.1 inner.0;
      some = omega arith;
      room = omega (arith, short);
      src_fits = h.widths.src;
      counter_fits = h.widths.counter;
      mic_fits = h.widths.mic;
      body_octets = cons_octets n.command (payload_of n) h.octets.command (string_octets n.payload h.octets.payload);
      mic_octets = optional_octets n.mic h.octets.mic;
    }

carried : (f : Gpdf) → IsSecured f → IsCarried f
carried f h =
    let mpdu : Mpdu = record { seq = 0; pan = 0; dest = 0; frame = f } in
    (mpdu, refl, valid_of mpdu (omega arith) (omega arith) (omega arith) h)

decided : (b : Bool) (f : Gpdf) → (b ≡ true → IsCarried f) → IfSome (if b then Some f else None) (λ g. IsCarried g)
decided true f h = h refl
decided false f h = tt

pub rebuilt-carried : (n : CommissioningNotice) → IsReceived n → IfSome (rebuilt n) (λ f. IsCarried f)
unfolding rebuilt
rebuilt-carried n h = decided (has_frame n) (frame_in n) (λ e. carried (frame_in n) (secured n (received n h) e))
