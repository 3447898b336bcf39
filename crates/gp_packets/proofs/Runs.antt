-- What has been read and written so far, and what each way to end leaves.
use Rattle.std.proofs.Common.{◌≡◌, inl, inr, ℕ, ◌<◌, ◌≤◌, List, [], ◌++◌, length, take, Option, Ok, Err, refl, sym, ap, subst, ◌∙◌, arith}
use Rattle.std.specs.Io.KnownBytes.{Appends, Consumes, Keeps, IsAtEnd}
use Rattle.std.proofs.lemmas.List.{append-nil}
use Rattle.gp_base.specs.declared.identity.Key.{Key}
use Rattle.gp_pcap.specs.declared.packet.PcapReason.{PcapReason}
use Rattle.gp_pcap.specs.Reading.{Progress}
use Rattle.gp_pcap.specs.Capture.{IsBad, header_lines}
use Rattle.gp_pcap.proofs.Unique.{file_is_good}
use Rattle.gp_lines.specs.declared.status.Status.{Status}
use Rattle.gp_lines.specs.declared.status.Status.TheVariants as ending
use Rattle.gp_lines.specs.Leaves.{IsFront}
use Rattle.gp_lines.specs.LastWords.{SaysOr}
use Rattle.gp_lines.proofs.Streams.{Appends-then, Appends-nothing, Consumes-nothing, Consumes-then, Consumes-kept, front_is}
use Rattle.gp_listing.specs.Packets.{packets_text}
use Rattle.gp_packets.specs.declared.stop.Stop.{Stop}
use Rattle.gp_packets.specs.declared.stop.Stop.TheVariants as stop
use Rattle.gp_packets.specs.Leaves.{Fits, Leaves}
use Rattle.gp_packets.specs.LastWords.{Says, Ends, EndsSo}
use Rattle.gp_packets.specs.Progress.{Place, place, IsAt, IsDecided, IsStopped, Goes}
use Rattle.gp_packets.proofs.Advancing.{fed_size, open_few}

-- these octets were read and fed
pub record Reads (key : Option Key) (left left' before : Option (List ℕ)) (now : Place) : Type 0 where
  pub read : List ℕ
  pub consumed : Consumes left left' read
  pub at : IsAt key before read now

pub Reads-start : (key : Option Key) (left before : Option (List ℕ)) (now : Place) → IsAt key before [] now → Reads key left left before now
Reads-start key left before now h = record { read = []; consumed = Consumes-nothing left; at = h }

-- one more piece
pub Reads-more : (key : Option Key) (left left' left'' before : Option (List ℕ)) (old new : Place) (piece : List ℕ) → Reads key left left' before old → Consumes left' left'' piece → Goes key old piece (Ok tt) new
    → Reads key left left'' before new
Reads-more key left left' left'' before old new piece h consumed goes = record {
  read = h.read ++ piece;
  consumed = Consumes-then left left' left'' h.read piece h.consumed consumed;
  at = goes before h.read h.at;
}

-- the text that waits was written
pub Reads-flush : (key : Option Key) (left left' before : Option (List ℕ)) (reader reader' : Progress) (count count' : ℕ) (waiting waiting' : List ℕ) (now now' : Option (List ℕ)) → Reads key left left' before (place reader count waiting now)
    → Appends now now' waiting → waiting' ≡ [] → reader' ≡ reader → count' ≡ count → Reads key left left' before (place reader' count' waiting' now')
Reads-flush key left left' before reader reader' count count' waiting waiting' now now' h appended empty same same' = rw (same, same') (record {
  read = h.read;
  consumed = h.consumed;
  at = record {
    given = h.at.given;
    told = h.at.told ++ waiting;
    stands = h.at.stands;
    is_open = h.at.is_open;
    counted = h.at.counted;
    appended = Appends-then before now now' h.at.told waiting h.at.appended appended;
    texts = h.at.texts ∙ sym (append-nil (h.at.told ++ waiting)) ∙ ap (λ (xs : List ℕ). (h.at.told ++ waiting) ++ xs) (sym empty);
  };
})

pub Reads-size : (key : Option Key) (left left' before : Option (List ℕ)) (now : Place) → Reads key left left' before now → (now.reader.fed ≤ 65551065575) × (now.count ≤ 1000000)
Reads-size key left left' before now h = fed_size key before h.read now h.at

all_told : (told waiting text : List ℕ) → text ≡ told ++ waiting → waiting ≡ [] → told ≡ text
all_told told waiting text e empty = sym (e ∙ ap (λ (xs : List ℕ). told ++ xs) empty ∙ append-nil told)

-- a read failed
pub leaves_read_fault : (key : Option Key) (left left' left'' before : Option (List ℕ)) (now : Place) → Reads key left left' before now → now.waiting ≡ [] → Keeps left' left'' → Leaves key ending.ReadFault left left'' before now.written
leaves_read_fault key left left' left'' before now h empty keeps = record {
  read = h.read;
  written = h.at.told;
  consumed = Consumes-kept left left' left'' h.read h.consumed keeps;
  appended = h.at.appended;
  fits = (h.at.given, h.at.is_open, all_told h.at.told now.waiting (packets_text key 0 h.at.given) h.at.texts empty);
}

-- memory wasn't found at the start
pub leaves_at_once : (key : Option Key) (left before : Option (List ℕ)) → Leaves key ending.NoMemory left left before before
unfolding header_lines
leaves_at_once key left before = record {
  read = [];
  written = [];
  consumed = Consumes-nothing left;
  appended = Appends-nothing before;
  fits = ([], [], [], refl, inr (inl (refl, refl), omega arith), ([], refl));
}

-- the text before a stop was written, or not to its end
leaves_said : (key : Option Key) (left left' before : Option (List ℕ)) (read : List ℕ) (status result : Status) (now : Place) (written : Option (List ℕ)) (f f' : ℕ) → Consumes left left' read
    → (h : IsDecided key before read status now) → Fits key status left' read (packets_text key 0 h.packets)
    → SaysOr status result now.written written now.waiting f f' → Leaves key result left left' before written
leaves_said key left left' before read status result now written f f' consumed h fits (inl said) =
    subst (λ (r : Status). Leaves key r left left' before written) (sym said.0) (record {
      read = read;
      written = packets_text key 0 h.packets;
      consumed = consumed;
      appended = subst (λ (xs : List ℕ). Appends before written xs) (sym h.texts) (Appends-then before now.written written h.told now.waiting h.appended said.1);
      fits = fits;
    })
leaves_said key left left' before read status result now written f f' consumed h fits (inr said) =
    let front : IsFront (h.told ++ take said.1.0 (now.waiting ++ [])) (packets_text key 0 h.packets ++ []) = front_is (packets_text key 0 h.packets) h.told now.waiting [] said.1.0 h.texts in
    subst (λ (r : Status). Leaves key r left left' before written) (sym said.0) (record {
      read = read;
      written = h.told ++ take said.1.0 now.waiting;
      consumed = consumed;
      appended = Appends-then before now.written written h.told (take said.1.0 now.waiting) h.appended said.1.1;
      fits = (
        h.packets,
        h.front,
        h.rest,
        h.parts,
        h.is_open,
        subst (λ (xs : List ℕ). IsFront (h.told ++ take said.1.0 xs) (packets_text key 0 h.packets)) (append-nil now.waiting)
            (subst (λ (xs : List ℕ). IsFront (h.told ++ take said.1.0 (now.waiting ++ [])) xs) (append-nil (packets_text key 0 h.packets)) front),
      );
    })

-- the listing stopped
pub leaves_stop : (key : Option Key) (left left' left'' before : Option (List ℕ)) (old new : Place) (piece : List ℕ) (why : Stop) (result : Status) (written : Option (List ℕ)) (f f' : ℕ) → Reads key left left' before old → Consumes left' left'' piece
    → Goes key old piece (Err why) new → Says why result new.written written new.waiting f f' → Leaves key result left left'' before written
leaves_stop key left left' left'' before old new piece why result written f f' h consumed goes says =
    by why (goes before h.read h.at) says
  where
    read : List ℕ
    read = h.read ++ piece

    all : Consumes left left'' read
    all = Consumes-then left left' left'' h.read piece h.consumed consumed

    by : (s : Stop) → IsStopped key before read s new → Says s result new.written written new.waiting f f' → Leaves key result left left'' before written
    by stop.TooLong k says = leaves_said key left left'' before read ending.TooLong result new written f f' all k (k.packets, inl k.comes, refl) says
    by (stop.Bad place reason) k says = leaves_said key left left'' before read (ending.BadPcap place reason) result new written f f' all k (k.packets, inl k.comes, refl) says
    by stop.WriteFault k says = subst (λ (r : Status). Leaves key r left left'' before written) (sym says.0) (record {
      read = read;
      written = k.told;
      consumed = all;
      appended = subst (λ (w : Option (List ℕ)). Appends before w k.told) (sym says.1) k.appended;
      fits = (k.packets, k.front, k.rest, k.parts, k.is_open, k.is_front);
    })
    by stop.NoMemory k says = subst (λ (r : Status). Leaves key r left left'' before written) (sym says.0) (record {
      read = read;
      written = k.told;
      consumed = all;
      appended = subst (λ (w : Option (List ℕ)). Appends before w k.told) (sym says.1) k.appended;
      fits = (k.packets, k.front, k.rest, k.parts, k.is_open, k.is_front);
    })

-- the text of a piece wasn't written to its end
pub leaves_piece_fault : (key : Option Key) (left left' left'' before : Option (List ℕ)) (old new : Place) (piece : List ℕ) (written : Option (List ℕ)) → Reads key left left' before old → Consumes left' left'' piece → Goes key old piece (Ok tt) new
    → (count : ℕ) × Appends new.written written (take count new.waiting) → Leaves key ending.WriteFault left left'' before written
leaves_piece_fault key left left' left'' before old new piece written h consumed goes said =
    let k = goes before h.read h.at in
    let front : IsFront (k.told ++ take said.0 (new.waiting ++ [])) (packets_text key 0 k.given ++ []) = front_is (packets_text key 0 k.given) k.told new.waiting [] said.0 k.texts in
    record {
      read = h.read ++ piece;
      written = k.told ++ take said.0 new.waiting;
      consumed = Consumes-then left left' left'' h.read piece h.consumed consumed;
      appended = Appends-then before new.written written k.told (take said.0 new.waiting) k.appended said.1;
      fits = (
        k.given,
        h.read ++ piece,
        [],
        sym (append-nil (h.read ++ piece)),
        k.is_open,
        subst (λ (xs : List ℕ). IsFront (k.told ++ take said.0 xs) (packets_text key 0 k.given)) (append-nil new.waiting)
            (subst (λ (xs : List ℕ). IsFront (k.told ++ take said.0 (new.waiting ++ [])) xs) (append-nil (packets_text key 0 k.given)) front),
      );
    }

-- the source was read to its end
pub leaves_end : (key : Option Key) (left left' left'' before : Option (List ℕ)) (now : Place) (piece : List ℕ) (status : Status) → Reads key left left' before now → now.waiting ≡ [] → Consumes left' left'' piece → piece ≡ [] → IsAtEnd left''
    → Ends now.reader status → Leaves key status left left'' before now.written
leaves_end key left left' left'' before now piece status h empty consumed none ended ends = record {
  read = h.read ++ piece;
  written = h.at.told;
  consumed = Consumes-then left left' left'' h.read piece h.consumed consumed;
  appended = h.at.appended;
  fits = subst (λ (xs : List ℕ). Fits key status left'' xs h.at.told) (sym (append-nil h.read) ∙ ap (λ (xs : List ℕ). h.read ++ xs) (sym none)) (by status (ends h.read h.at.given h.at.stands));
}
  where
    told : h.at.told ≡ packets_text key 0 h.at.given
    told = all_told h.at.told now.waiting (packets_text key 0 h.at.given) h.at.texts empty

    few : (fault : ℕ × PcapReason) → IsBad h.read h.at.given fault → length h.at.given < 1000000
    few fault bad = elim h.at.is_open as (λ _. length h.at.given < 1000000) [
      | inl done ↦ absurd (file_is_good h.read h.at.given h.at.given fault done.0 bad)
      | inr cut ↦ cut.1
    ]

    by : (s : Status) → EndsSo s h.read h.at.given → Fits key s left'' h.read h.at.told
    by ending.Done file = (ended, (h.at.given, (file, open_few h.read h.at.given h.at.is_open), told))
    by (ending.BadPcap place reason) bad = (h.at.given, inr (ended, (bad, few (place, reason) bad)), told)
    by s none = absurd none
