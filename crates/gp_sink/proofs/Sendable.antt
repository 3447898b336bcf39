-- The messages of a sink can be sent.
use Rattle.std.proofs.Common.{◌≡◌, ◌≤◌, ◌<◌, ◌^◌, ◌+◌, ℕ, zero, suc, Bool, true, ◌&&◌, List, [], ◌∷◌, ◌++◌, length, Option, Some, None, IfSome, refl, arith}
use Rattle.std.specs.Int.{w16, w32, w64, to_le_bytes}
use Rattle.std.proofs.lemmas.Bool.{and_parts}
use Rattle.std.proofs.lemmas.List.{length-append}
use Rattle.gp_base.specs.declared.identity.Key.{Key}
use Rattle.gp_base.specs.declared.identity.KeyKind.{KeyKind}
use Rattle.gp_base.specs.declared.identity.KeyKind.TheVariants.{Nwk, Group, DerivedGroup, OutOfBox, DerivedIndividual}
use Rattle.gp_base.specs.declared.identity.Level.{Level}
use Rattle.gp_base.specs.declared.identity.Level.TheVariants.{Two, Three}
use Rattle.gp_base.specs.declared.identity.Mode.{Mode}
use Rattle.gp_base.specs.declared.identity.Mode.TheVariants.{Derived, Commissioned, Unicast}
use Rattle.gp_base.specs.declared.identity.Src.{Src}
use Rattle.gp_base.specs.Field.{IsOctets, octet, optional, src_octets, key_octets}
use Rattle.gp_cluster.specs.declared.message.Cluster.TheVariants as clusters
use Rattle.gp_cluster.specs.declared.message.Pairing.{Pairing}
use Rattle.gp_cluster.specs.Fields.{three_octets, sink_octets}
use Rattle.gp_cluster.specs.Message.{spelling, fields_agree, IsValid}
use Rattle.gp_cluster.specs.Pairing.{pairing, pairing_agrees, HasPairingWidths}
use Rattle.gp_ideal.specs.declared.config.Config.{Config}
use Rattle.gp_ideal.specs.declared.ledger.Values.{Values}
use Rattle.gp_ideal.specs.Messages.{pairing_options, sink_named, group_named, pairing_sent, removal_sent}
use Rattle.gp_sink.specs.Sink.{IsMessage}
use Rattle.gp_sink.specs.Inside.{AreWide}

-- ---- octets

-- each of these numbers is an octet
abbrev AreSmall : List ℕ → Type 0
AreSmall [] = Unit {0}
AreSmall (x ∷ xs) = (x < 256) × AreSmall xs

small : (xs : List ℕ) → AreSmall xs → IsOctets xs
small [] h i = omega arith
small (x ∷ xs) h zero = h.0
small (x ∷ xs) h (suc i) = small xs h.1 i

octets-append : (a b : List ℕ) → IsOctets a → IsOctets b → IsOctets (a ++ b)
octets-append [] b p q i = q i
octets-append (x ∷ a) b p q zero = p 0
octets-append (x ∷ a) b p q (suc i) = octets-append a b (λ j. p (suc j)) q i

octets-cons : (x : ℕ) (a : List ℕ) → x < 256 → IsOctets a → IsOctets (x ∷ a)
octets-cons x a p q zero = p
octets-cons x a p q (suc i) = q i

octets-nil : IsOctets []
octets-nil = small [] tt

of_two : (n : ℕ) → IsOctets (to_le_bytes w16 n)
of_two n = small (to_le_bytes w16 n) (omega arith, (omega arith, tt))

of_four : (n : ℕ) → IsOctets (to_le_bytes w32 n)
of_four n = small (to_le_bytes w32 n) (omega arith, (omega arith, (omega arith, (omega arith, tt))))

of_eight : (n : ℕ) → IsOctets (to_le_bytes w64 n)
of_eight n = small (to_le_bytes w64 n) (omega arith, (omega arith, (omega arith, (omega arith, (omega arith, (omega arith, (omega arith, (omega arith, tt))))))))

of_three : (n : ℕ) → IsOctets (three_octets n)
of_three n = small (three_octets n) (omega arith, (omega arith, (omega arith, tt)))

-- a field that may be absent
of_optional : {A : Type 0} (spell : A → List ℕ) (field : Option A) → ((x : A) → IsOctets (spell x)) → IsOctets (optional spell field)
of_optional spell None h = octets-nil
of_optional spell (Some x) h = h x

at_most : {A : Type 0} (spell : A → List ℕ) (field : Option A) (n : ℕ) → ((x : A) → length (spell x) ≤ n) → length (optional spell field) ≤ n
at_most spell None n h = omega arith
at_most spell (Some x) n h = h x

-- ---- a Pairing without alias and radius

abbrev paired_as : ℕ → Src → Option (ℕ × ℕ) → Option ℕ → Option ℕ → Option ℕ → Option Key → Pairing
paired_as options src sink group device counter key =
    record { options = options; src = src; sink = sink; group = group; device = device; counter = counter; key = key; alias = None; radius = None }

sink_size : (s : ℕ × ℕ) → length (sink_octets s) ≤ 10
sink_size s = omega arith

of_sink : (s : ℕ × ℕ) → IsOctets (sink_octets s)
of_sink s = octets-append (to_le_bytes w64 s.0) (to_le_bytes w16 s.1) (of_eight s.0) (of_two s.1)

-- seven lists, one behind the other
seven : (a b c d e f g : List ℕ) → IsOctets a → IsOctets b → IsOctets c → IsOctets d → IsOctets e → IsOctets f → IsOctets g → IsOctets (a ++ (b ++ (c ++ (d ++ (e ++ (f ++ (g ++ [])))))))
seven a b c d e f g p q r s t u v =
    octets-append a (b ++ (c ++ (d ++ (e ++ (f ++ (g ++ [])))))) p (octets-append b (c ++ (d ++ (e ++ (f ++ (g ++ []))))) q (octets-append c (d ++ (e ++ (f ++ (g ++ [])))) r
    (octets-append d (e ++ (f ++ (g ++ []))) s (octets-append e (f ++ (g ++ [])) t (octets-append f (g ++ []) u (octets-append g [] v octets-nil))))))

seven_size : (a b c d e f g : List ℕ) → length (a ++ (b ++ (c ++ (d ++ (e ++ (f ++ (g ++ []))))))) ≡ length a + length b + length c + length d + length e + length f + length g
seven_size a b c d e f g =
    omega (
      arith,
      length-append a (b ++ (c ++ (d ++ (e ++ (f ++ (g ++ [])))))),
      length-append b (c ++ (d ++ (e ++ (f ++ (g ++ []))))),
      length-append c (d ++ (e ++ (f ++ (g ++ [])))),
      length-append d (e ++ (f ++ (g ++ []))),
      length-append e (f ++ (g ++ [])),
      length-append f (g ++ []),
      length-append g [],
    )

-- it can be sent
sendable : (options : ℕ) (src : Src) (sink : Option (ℕ × ℕ)) (group device counter : Option ℕ) (key : Option Key)
    → pairing_agrees (paired_as options src sink group device counter key) ≡ true → HasPairingWidths (paired_as options src sink group device counter key)
    → IsOctets (optional octet device) → IsOctets (optional key_octets key) → length (optional key_octets key) ≤ 16
    → (sequence : ℕ) → sequence < 256 → IsValid (record { quiet = true; sequence = sequence; body = clusters.Pairing (paired_as options src sink group device counter key) })
unfolding spelling pairing
sendable options src sink group device counter key agrees widths of_device of_key key_size sequence below =
    let parts = seven_size (three_octets options) (src_octets src) (optional sink_octets sink) (optional (to_le_bytes w16) group) (optional octet device) (optional (to_le_bytes w32) counter) (optional key_octets key) in
    let a = at_most sink_octets sink 10 sink_size in
    let b = at_most (to_le_bytes w16) group 2 (λ n. omega arith) in
    let c = at_most octet device 1 (λ n. omega arith) in
    let d = at_most (to_le_bytes w32) counter 4 (λ n. omega arith) in
    let octets = seven (three_octets options) (src_octets src) (optional sink_octets sink) (optional (to_le_bytes w16) group) (optional octet device) (optional (to_le_bytes w32) counter) (optional key_octets key)
    (of_three options) (of_four src.0) (of_optional sink_octets sink of_sink) (of_optional (to_le_bytes w16) group of_two) of_device (of_optional (to_le_bytes w32) counter of_four) of_key in (
      spelling (record { quiet = true; sequence = sequence; body = clusters.Pairing (paired_as options src sink group device counter key) }),
      record {
        spelled = refl;
        fields = agrees;
        widths = widths;
        limit = omega (arith, parts, a, b, c, d, key_size);
        are_octets = octets-append (25 ∷ sequence ∷ 1 ∷ []) (pairing (paired_as options src sink group device counter key)) (small (25 ∷ sequence ∷ 1 ∷ []) (omega arith, (below, (omega arith, tt)))) octets;
      },
    )

-- ---- the messages of a sink

-- RemoveGPD
pub removal-message : (source : Src) → source.0 < 2 ^ 32 → IsMessage (removal_sent source)
removal-message source small =
    sendable 0x10 source None None None None None refl (record { src = small; sink = tt; group = tt; counter = tt; key = tt; alias = tt }) octets-nil octets-nil (omega arith)

-- a test that holds of every kind, every level and every mode
abbrev of_kinds : (KeyKind → Bool) → Bool
of_kinds test = test Nwk && test Group && test DerivedGroup && test OutOfBox && test DerivedIndividual

parts : (test : KeyKind → Bool) → of_kinds test ≡ true → (test Nwk ≡ true) × (test Group ≡ true) × (test DerivedGroup ≡ true) × (test OutOfBox ≡ true) × (test DerivedIndividual ≡ true)
parts test h =
    let four = and_parts (test Nwk && test Group && test DerivedGroup && test OutOfBox) (test DerivedIndividual) h in
    let three = and_parts (test Nwk && test Group && test DerivedGroup) (test OutOfBox) four.0 in
    let two = and_parts (test Nwk && test Group) (test DerivedGroup) three.0 in
    let one = and_parts (test Nwk) (test Group) two.0 in
    (one.0, one.1, two.1, three.1, four.1)

of_kinds-each : (test : KeyKind → Bool) → of_kinds test ≡ true → (kind : KeyKind) → test kind ≡ true
of_kinds-each test h Nwk = (parts test h).0
of_kinds-each test h Group = (parts test h).1
of_kinds-each test h DerivedGroup = (parts test h).2
of_kinds-each test h OutOfBox = (parts test h).3
of_kinds-each test h DerivedIndividual = (parts test h).4

-- the options of a pairing agree with what is there
abbrev agrees_with : Config → Values → ℕ → Mode → Level → KeyKind → Bool
agrees_with config v floor mode level kind = fields_agree (pairing_sent config (record v { mode = mode; level = level; kind = kind }) floor).body

agrees : (config : Config) (v : Values) (floor : ℕ) (mode : Mode) (level : Level) (kind : KeyKind) → agrees_with config v floor mode level kind ≡ true
agrees config v floor Derived Two kind = of_kinds-each (agrees_with config v floor Derived Two) refl kind
agrees config v floor Derived Three kind = of_kinds-each (agrees_with config v floor Derived Three) refl kind
agrees config v floor Commissioned Two kind = of_kinds-each (agrees_with config v floor Commissioned Two) refl kind
agrees config v floor Commissioned Three kind = of_kinds-each (agrees_with config v floor Commissioned Three) refl kind
agrees config v floor Unicast Two kind = of_kinds-each (agrees_with config v floor Unicast Two) refl kind
agrees config v floor Unicast Three kind = of_kinds-each (agrees_with config v floor Unicast Three) refl kind

-- AddSink
pub pairing-message : (config : Config) (v : Values) (floor : ℕ) → AreWide config v floor → IsMessage (pairing_sent config v floor)
pairing-message config v floor w =
    sendable (pairing_options v) v.src (sink_named v.mode config) (group_named v.mode v.group) (Some v.device) (Some floor) (Some v.key)
    (agrees config v floor v.mode v.level v.kind)
    (record { src = w.source; sink = sink v.mode; group = group v.mode; counter = w.floor_fits; key = w.key_size; alias = tt })
    (small (v.device ∷ []) (omega (arith, w.device), tt)) w.key (omega (arith, w.key_size))
  where
    sink : (mode : Mode) → IfSome (sink_named mode config) (λ s. (s.0 < 2 ^ 64) × (s.1 < 2 ^ 16))
    sink Derived = tt
    sink Commissioned = tt
    sink Unicast = (w.ieee, w.address)

    group : (mode : Mode) → IfSome (group_named mode v.group) (λ n. n < 2 ^ 16)
    group Derived = w.group
    group Commissioned = w.group
    group Unicast = tt
