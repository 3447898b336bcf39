-- What comes of a file is one thing, so a run that has no cause to stop comes to it.
use Rattle.std.proofs.Common.{◌≡◌, ◌⊎◌, inl, inr, ℕ, ◌<◌, ◌≤◌, List, ◌∷◌, ◌++◌, length, Option, Some, None, refl, sym, ap, subst, ◌∙◌, arith}
use Rattle.std.specs.Io.KnownBytes.{Consumes}
use Rattle.std.proofs.lemmas.List.{append-nil}
use Rattle.gp_base.specs.Outside.{Rose}
use Rattle.gp_base.specs.declared.identity.Key.{Key}
use Rattle.gp_pcap.specs.declared.packet.Packet.{Packet}
use Rattle.gp_pcap.specs.declared.packet.PcapReason.{PcapReason}
use Rattle.gp_pcap.specs.Capture.{IsFile, IsBad}
use Rattle.gp_pcap.proofs.Unique.{file_is_good, bad_is_one, file_then_file, file_then_bad}
use Rattle.gp_lines.specs.declared.status.Status.{Status}
use Rattle.gp_lines.specs.declared.status.Status.TheVariants as ending
use Rattle.gp_lines.specs.Leaves.{Counts}
use Rattle.gp_lines.proofs.Meanings.{rose}
use Rattle.gp_packets.specs.Leaves.{Comes, Decides, IsBeyond, Leaves, Completes}

-- one more than there may be is no whole file of few packets, and none that is bad behind few
beyond_is_no_file : (octets : List ℕ) (ps qs : List Packet) → IsBeyond octets ps → IsFile octets qs → length qs ≤ 1000000 → ⊥
beyond_is_no_file octets ps qs h f few = omega (arith, file_then_file h.0 (h.1 ∷ h.2) octets ps qs h.4 h.3 (omega arith) f, h.5)

beyond_is_not_bad : (octets : List ℕ) (ps qs : List Packet) (fault : ℕ × PcapReason) → IsBeyond octets ps → IsBad octets qs fault → length qs < 1000000 → ⊥
beyond_is_not_bad octets ps qs fault h f few = omega (arith, file_then_bad h.0 (h.1 ∷ h.2) octets ps qs fault h.4 h.3 f, h.5)

one_ending : (octets : List ℕ) (ps qs : List Packet) (s t : Status) → Comes octets ps s → Comes octets qs t → s ≡ t
one_ending octets ps qs ending.Done ending.Done h k = refl
one_ending octets ps qs ending.Done (ending.BadPcap place reason) h k = absurd (file_is_good octets ps qs (place, reason) h.0 k.0)
one_ending octets ps qs ending.Done ending.TooLong h k = absurd (beyond_is_no_file octets qs ps k h.0 h.1)
one_ending octets ps qs (ending.BadPcap place reason) ending.Done h k = absurd (file_is_good octets qs ps (place, reason) k.0 h.0)
one_ending octets ps qs (ending.BadPcap place reason) (ending.BadPcap place' reason') h k =
    let same = (bad_is_one octets ps qs (place, reason) (place', reason') h.0 k.0).1 in
    ap (λ (f : ℕ × PcapReason). ending.BadPcap f.0 f.1) same
one_ending octets ps qs (ending.BadPcap place reason) ending.TooLong h k = absurd (beyond_is_not_bad octets qs ps (place, reason) k h.0 h.1)
one_ending octets ps qs ending.TooLong ending.Done h k = absurd (beyond_is_no_file octets ps qs h k.0 k.1)
one_ending octets ps qs ending.TooLong (ending.BadPcap place reason) h k = absurd (beyond_is_not_bad octets ps qs (place, reason) h k.0 k.1)
one_ending octets ps qs ending.TooLong ending.TooLong h k = refl
one_ending octets ps qs ending.Done t h k = absurd k
one_ending octets ps qs (ending.BadPcap place reason) t h k = absurd k
one_ending octets ps qs ending.TooLong t h k = absurd k
one_ending octets ps qs s t h k = absurd h

-- what is decided is what comes of the whole input
decided : (left : Option (List ℕ)) (input read : List ℕ) (packets : List Packet) (status : Status) → Consumes (Some input) left read → Decides left read packets status → Comes input packets status
decided None input read packets status c d = absurd c
decided (Some left) input read packets status c (inl always) = subst (λ (l : List ℕ). Comes l packets status) (sym c) (always left)
decided (Some left) input read packets status c (inr end) = subst (λ (l : List ℕ). Comes l packets status) (sym (c ∙ ap (λ (xs : List ℕ). read ++ xs) end.0 ∙ append-nil read)) end.1

by_status : (key : Option Key) (status : Status) (left left' written written' : Option (List ℕ)) (a b c d : ℕ) (input : List ℕ) (packets : List Packet) (told : Status) → left ≡ Some input
    → Leaves key status left left' written written' → Counts status a b c d → Comes input packets told → (Rose a b → ⊥) → (Rose c d → ⊥) → (status ≡ told) ⊎ (status ≡ ending.NoMemory)
by_status key ending.Done left left' written written' a b c d input packets told e h k comes no_read no_write =
    inl (one_ending input h.fits.1.0 packets ending.Done told (decided left' input h.read h.fits.1.0 ending.Done (rw e at h.consumed) (inr (h.fits.0, h.fits.1.1))) comes)
by_status key (ending.BadPcap place reason) left left' written written' a b c d input packets told e h k comes no_read no_write =
    inl (one_ending input h.fits.0 packets (ending.BadPcap place reason) told (decided left' input h.read h.fits.0 (ending.BadPcap place reason) (rw e at h.consumed) h.fits.1) comes)
by_status key ending.TooLong left left' written written' a b c d input packets told e h k comes no_read no_write =
    inl (one_ending input h.fits.0 packets ending.TooLong told (decided left' input h.read h.fits.0 ending.TooLong (rw e at h.consumed) h.fits.1) comes)
by_status key ending.NoMemory left left' written written' a b c d input packets told e h k comes no_read no_write = inr refl
by_status key ending.ReadFault left left' written written' a b c d input packets told e h k comes no_read no_write = absurd (no_read (rose a b k.0))
by_status key ending.WriteFault left left' written written' a b c d input packets told e h k comes no_read no_write = absurd (no_write (rose c d k.1))
by_status key status left left' written written' a b c d input packets told e h k comes no_read no_write = absurd h.fits

pub completes : (key : Option Key) (status : Status) (left left' written written' : Option (List ℕ)) (a b c d : ℕ) → Leaves key status left left' written written' → Counts status a b c d → Completes status left a b c d
completes key status left left' written written' a b c d h k = λ input packets told e comes no_read no_write.
    by_status key status left left' written written' a b c d input packets told e h k comes no_read no_write
