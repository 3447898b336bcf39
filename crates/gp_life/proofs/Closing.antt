-- What a run leaves, whatever its status.
use Rattle.std.proofs.Common.{◌≡◌, ℕ, inl, inr, List, ◌++◌, Option, refl, sym, subst}
use Rattle.gp_lines.specs.declared.status.Status.{Status}
use Rattle.gp_lines.specs.declared.status.Status.TheVariants as ending
use Rattle.gp_lines.specs.declared.work.Halt.{Halt}
use Rattle.gp_lines.specs.declared.work.Halt.TheVariants.{Bad, DiskFault, DiskRefused, Worn, NoMemory}
use Rattle.gp_lines.specs.Leaves.{Leaves}

module _ {S : Type 0} (ran : List (List ℕ) → List ℕ → S → Type 0) (halts : List (List ℕ) → List ℕ → List ℕ → Halt → S → Type 0) (P : S → Type 0)
    (after_run : (script : List (List ℕ)) (text : List ℕ) (s : S) → ran script text s → P s) where
  -- what holds behind lines, and behind a stop, holds at the end
  pub whatever : (new : S) → ((script : List (List ℕ)) (text line : List ℕ) (halt : Halt) → halts script text line halt new → P new)
      → (status : Status) (left left' written written' : Option (List ℕ)) → Leaves ran halts 0 new status left left' written written' → P new
  whatever new after_halt ending.Done left left' written written' h = after_run _ _ new h.fits.1
  whatever new after_halt (ending.BadLine line reason) left left' written written' h = after_halt _ _ _ _ h.fits.0.halted
  whatever new after_halt ending.TooLong left left' written written' h = after_run _ _ new h.fits.ran_so
  whatever new after_halt ending.ReadFault left left' written written' h = after_run _ _ new h.fits.ran_so
  whatever new after_halt ending.WriteFault left left' written written' h = subst P (sym (h.fits.stands refl)) (after_run _ _ h.fits.end h.fits.ran_all)
  whatever new after_halt ending.NoMemory left left' written written' h = elim h.fits.ran_so [ inl k ↦ after_run _ _ new k.2 | inr k ↦ after_halt _ _ _ _ k.1 ]
  whatever new after_halt ending.DiskFault left left' written written' h = after_halt _ _ _ _ h.fits.halted
  whatever new after_halt (ending.DiskRefused reason) left left' written written' h = after_halt _ _ _ _ h.fits.halted
  whatever new after_halt (ending.Worn generation) left left' written written' h = after_halt _ _ _ _ h.fits.halted
  whatever new after_halt ending.Usage left left' written written' h = absurd h.fits
  whatever new after_halt (ending.BadPcap place reason) left left' written written' h = absurd h.fits
