-- A run that has no cause to stop doesn't.
use Rattle.std.proofs.Common.{◌≡◌, ℕ, ◌≤◌, ◌⊎◌, inl, inr, List, ◌++◌, Option, Some, None, refl, sym, ap, ◌∙◌, arith}
use Rattle.std.specs.Io.KnownBytes.{Consumes}
use Rattle.std.proofs.lemmas.List.{append-nil}
use Rattle.gp_base.specs.Outside.{Rose}
use Rattle.gp_disk.specs.declared.device.Disk.{Ghosts}
use Rattle.gp_store.specs.Formatting.{HasOpenGate}
use Rattle.gp_lines.specs.declared.status.DiskReason.TheVariants.{DiskShort, NotFormatted, AlreadyFormatted, SlotForm}
use Rattle.gp_lines.specs.declared.status.Status.{Status}
use Rattle.gp_lines.specs.declared.status.Status.TheVariants.{Done, BadLine, Usage, ReadFault, WriteFault, DiskFault, NoMemory, DiskRefused, Worn, TooLong, BadPcap}
use Rattle.gp_app.specs.Formatting.{FormatCompletes, FormatLeaves}
use Rattle.gp_lines.specs.Leaves.{Counts}
use Rattle.gp_lines.proofs.Meanings.{rose}
use Rattle.gp_app.specs.Leaves.{Completes, Decides, Leaves}
use Rattle.gp_app.specs.Outcome.{Outcome, outcome}

-- what the octets that were read decide is what comes of the whole input
decided : (listing : List ℕ → Option (List ℕ)) (left : Option (List ℕ)) (input read : List ℕ) (told : Outcome) → Consumes (Some input) left read →
    Decides listing left read told → outcome listing input ≡ told
decided listing None input read told c d = absurd c
decided listing (Some left) input read told c (inl always) = ap (outcome listing) c ∙ always left
decided listing (Some left) input read told c (inr end) = ap (outcome listing) (c ∙ ap (λ (xs : List ℕ). read ++ xs) end.0 ∙ append-nil read) ∙ end.1

by_status : (listing : List ℕ → Option (List ℕ)) (status : Status) (left left' written written' : Option (List ℕ)) (a b c d : ℕ) (input : List ℕ) →
    left ≡ Some input → Leaves listing status left left' written written' → Counts status a b c d → (outcome listing input).status ≡ Done →
    (Rose a b → ⊥) → (Rose c d → ⊥) → (status ≡ Done) ⊎ (status ≡ NoMemory)
by_status listing Done left left' written written' a b c d input e h k good no_read no_write = inl refl
by_status listing NoMemory left left' written written' a b c d input e h k good no_read no_write = inr refl
by_status listing (BadLine line reason) left left' written written' a b c d input e h k good no_read no_write =
    absurd (let same = decided listing left' input h.read _ (rw e at h.consumed) h.fits in let other : BadLine line reason ≡ Done = sym (ap (λ o. o.status) same) ∙ good in cc)
by_status listing TooLong left left' written written' a b c d input e h k good no_read no_write =
    absurd (let same = decided listing left' input h.read _ (rw e at h.consumed) h.fits in let other : TooLong ≡ Done = sym (ap (λ o. o.status) same) ∙ good in cc)
by_status listing ReadFault left left' written written' a b c d input e h k good no_read no_write = absurd (no_read (rose a b k.0))
by_status listing WriteFault left left' written written' a b c d input e h k good no_read no_write = absurd (no_write (rose c d k.1))
by_status listing Usage left left' written written' a b c d input e h k good no_read no_write = absurd h.fits
by_status listing (BadPcap place reason) left left' written written' a b c d input e h k good no_read no_write = absurd h.fits
by_status listing DiskFault left left' written written' a b c d input e h k good no_read no_write = absurd h.fits
by_status listing (DiskRefused reason) left left' written written' a b c d input e h k good no_read no_write = absurd h.fits
by_status listing (Worn generation) left left' written written' a b c d input e h k good no_read no_write = absurd h.fits

pub completes : (listing : List ℕ → Option (List ℕ)) (status : Status) (left left' written written' : Option (List ℕ)) (a b c d : ℕ) →
    Leaves listing status left left' written written' → Counts status a b c d → Completes listing status left a b c d
completes listing status left left' written written' a b c d h k = λ input e good no_read no_write.
    by_status listing status left left' written written' a b c d input e h k good no_read no_write

format_by : {D : Type 0} (of : Ghosts D) (status : Status) (old new : D) (d : List ℕ) → FormatLeaves of status old new → 204800 ≤ (of.tally old).size → of.image old ≡ Some d →
    (HasOpenGate d → ⊥) → (Rose (of.faults old) (of.faults new) → ⊥) → status ≡ Done
format_by of Done old new d h room e fresh none = refl
format_by of (DiskRefused DiskShort) old new d h room e fresh none = absurd (omega (arith, h.refuses, room))
format_by of (DiskRefused AlreadyFormatted) old new d h room e fresh none = absurd (fresh (h.refuses.1 d e))
format_by of (DiskRefused NotFormatted) old new d h room e fresh none = absurd h
format_by of (DiskRefused (SlotForm slot)) old new d h room e fresh none = absurd h
format_by of DiskFault old new d h room e fresh none = absurd (none (rose (of.faults old) (of.faults new) (h.failed refl)))
format_by of (BadLine line reason) old new d h room e fresh none = absurd h
format_by of Usage old new d h room e fresh none = absurd h
format_by of (BadPcap place reason) old new d h room e fresh none = absurd h
format_by of ReadFault old new d h room e fresh none = absurd h
format_by of WriteFault old new d h room e fresh none = absurd h
format_by of NoMemory old new d h room e fresh none = absurd h
format_by of (Worn generation) old new d h room e fresh none = absurd h
format_by of TooLong old new d h room e fresh none = absurd h

pub format_completes : {D : Type 0} (of : Ghosts D) (status : Status) (old new : D) → FormatLeaves of status old new
    → FormatCompletes status (of.tally old).size (of.image old) (of.faults old) (of.faults new)
format_completes of status old new h = λ room d e fresh none. format_by of status old new d h room e fresh none
