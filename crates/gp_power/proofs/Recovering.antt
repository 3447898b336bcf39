-- What a recovery makes of the disk of a dark sink.
use Rattle.std.proofs.Common.{◌≡◌, ◌≢◌, ◌⊎◌, inl, inr, ◌∙◌, ℕ, Bool, true, false, List, refl, ap, subst, arith}
use Rattle.std.specs.Bool.{OnTrue, OnFalse}
use Rattle.gp_disk.specs.declared.memory.MemoryDisk.{MemoryDisk}
use Rattle.gp_disk.specs.Calls.{Begins}
use Rattle.gp_disk.specs.Fuse.{Fuse, Running, Waits, Stop, lit, burnt, crashed, deferred, rearmed, Foretold}
use Rattle.gp_disk.specs.Memory.{memory_image, memory_may_leave, memory_left, memory_fuse, memory_tally, memory_moment, SameButFuse}
use Rattle.gp_disk.specs.MemoryLaws.{memory_holds, memory_counts_now}
use Rattle.gp_rows.specs.declared.row.Row.{Row}
use Rattle.gp_translate.specs.declared.rule.Rule.{Rule}
use Rattle.gp_store.specs.declared.fault.Refused.{Refused}
use Rattle.gp_store.specs.declared.fault.StoreFault.{StoreFault}
use Rattle.gp_store.specs.declared.fault.StoreFault.TheVariants.{DiskFault, DiskShort, NotFormatted, AlreadyFormatted, SlotForm, NoMemory}
use Rattle.gp_store.specs.Image.{HoldsRows}
use Rattle.gp_store.specs.Recovery.{Recovered, RefusedToRecover, Refuses, recovery_calls, begun}
use Rattle.gp_store.specs.State.{State}
use Rattle.gp_store.proofs.OneList.{one_last}
use Rattle.gp_ideal.specs.declared.config.Config.{Config}
use Rattle.gp_ideal.specs.declared.ledger.Change.{Change}
use Rattle.gp_sink.specs.Fits.{Fits}
use Rattle.gp_sink.specs.Sink.{SinkState}
use Rattle.gp_world.specs.World as ideal
use Rattle.gp_power.specs.Stands.{AllFit, arming_of, IsAhead}
use Rattle.gp_power.specs.Inside.{in_memory, IsUp, IsBack, IsCutAgain, IsCrashed}
use Rattle.gp_power.proofs.Crashing.{dark_images}
use Rattle.gp_power.proofs.Fuses.{deferred_stays, deferred_same, deferred_calm, spent}

-- ---- a start

pub wakes : (config : Config) (rules : List Rule) (disk put_off : MemoryDisk) (sink : SinkState MemoryDisk) → SameButFuse disk put_off → memory_fuse put_off ≡ deferred (memory_fuse disk)
    → Recovered in_memory put_off sink.store → sink.config ≡ config → sink.rules ≡ rules → IsUp config rules disk sink
wakes config rules disk put_off sink same later r set_up rules_are = record {
  set_up = set_up;
  rules_are = rules_are;
  runs = r.running;
  decided = r.decided;
  fits = λ ledger all.
      let fit = all disk.content.image.items (memory_holds disk disk.content.image.items refl) in
      let f : Fits sink.store.rows ledger = subst (λ (l : List Row). Fits l ledger) ((r.rows disk.content.image.items same.image).only fit.0 fit.1) fit.2 in
      (f, λ c left. (sink.store.rows, (r.stands c left).0, f));
  fuse = λ armed is ahead. r.calls.fuse ∙ ap (λ (f : Fuse). burnt recovery_calls (lit f)) (later ∙ ap deferred is) ∙ deferred_same armed recovery_calls ahead;
  few = λ most below.
      let last = below disk.content.image.items sink.store.last (memory_holds disk disk.content.image.items refl) ((r.rows disk.content.image.items same.image).has_last) in
      record { last = last; images = λ c n left has. let is = one_last c n sink.store.last has (r.stands c left).1 in omega arith };
}

-- ---- a refusal

-- it leaves no other images
refused_images : (disk armed_disk : MemoryDisk) (refused : Refused MemoryDisk) → SameButFuse disk armed_disk → RefusedToRecover in_memory armed_disk refused → (c : List ℕ) → memory_may_leave refused.disk c → memory_may_leave disk c
refused_images disk armed_disk refused same r c left = same.now.none c (by (begun refused.fault) r.untouched r.since)
  where
    by : (b : Bool) → OnFalse b (refused.disk ≡ armed_disk) → OnTrue b ((c : List ℕ) → memory_left refused.disk c → memory_may_leave armed_disk c) → memory_may_leave armed_disk c
    by true u s = s c (memory_counts_now refused.disk c left)
    by false u s = subst (λ (d : MemoryDisk). memory_may_leave d c) u left

-- a disk that holds rows refuses a recovery for want of memory, or because it has failed
only : (disk armed_disk : MemoryDisk) (refused : Refused MemoryDisk) (ledger : List Change) → SameButFuse disk armed_disk → RefusedToRecover in_memory armed_disk refused → AllFit (memory_may_leave disk) ledger → (refused.fault ≡ NoMemory) ⊎ (refused.fault ≡ DiskFault)
unfolding HoldsRows
only disk armed_disk refused ledger same r all =
    let fit = all disk.content.image.items (memory_holds disk disk.content.image.items refl) in
    by refused.fault refl r.refuses fit.0 fit.1
  where
    by : (fault : StoreFault) → refused.fault ≡ fault → Refuses fault (memory_tally armed_disk).size (memory_image armed_disk) → (rows : List Row) → HoldsRows disk.content.image.items rows → (refused.fault ≡ NoMemory) ⊎ (refused.fault ≡ DiskFault)
    by NoMemory e r rows h = inl e
    by DiskFault e r rows h = inr e
    by DiskShort e r rows h = let long = h.size in let size = ap (λ t. t.size) same.tally in absurd (omega arith)
    by NotFormatted e r rows h = absurd (r.1 disk.content.image.items same.image h.formatted)
    by (SlotForm slot) e r rows h = let first = (r.1 disk.content.image.items same.image).1 in absurd (first.ill.2 (h.consistent first.row first.side first.ill.0 first.ill.1))
    by AlreadyFormatted e r rows h = absurd r

pub backs : (disk put_off : MemoryDisk) (refused : Refused MemoryDisk) (new : MemoryDisk) → SameButFuse disk put_off → memory_fuse put_off ≡ deferred (memory_fuse disk) → RefusedToRecover in_memory put_off refused
    → Begins (memory_moment refused.disk) (memory_moment new) → IsBack disk new
backs disk put_off refused new same later r b = record {
  images = λ c left. refused_images disk put_off refused same r c (b.now.none c left);
  fuse = λ armed ledger is ahead all. by (only disk put_off refused ledger same r all) armed is ahead;
}
  where
    by : (refused.fault ≡ NoMemory) ⊎ (refused.fault ≡ DiskFault) → (armed : ideal.Armed) → memory_fuse disk ≡ Running (arming_of armed) → IsAhead armed → memory_fuse new ≡ Running (arming_of armed)
    by (inl e) armed is ahead =
        let same_disk : refused.disk ≡ put_off = subst (λ (f : StoreFault). OnFalse (begun f) (refused.disk ≡ put_off)) e r.untouched in
        b.fuse ∙ ap (λ (d : MemoryDisk). lit (memory_fuse d)) same_disk ∙ ap lit (later ∙ ap deferred is) ∙ deferred_stays armed ahead
    by (inr e) armed is ahead =
        let told = (r.calls_failed e).foretold in
        absurd (deferred_calm armed recovery_calls ahead (subst (λ (f : Fuse). Foretold recovery_calls (lit f) false) (later ∙ ap deferred is) told))

-- ---- a recovery that is cut

-- its disk, which crashes behind it
cut_disk : (calls : ℕ) (disk armed_disk ran new : MemoryDisk) → memory_fuse armed_disk ≡ rearmed (Waits 1 calls Stop) (memory_fuse disk) → SameButFuse disk armed_disk → ((c : List ℕ) → memory_may_leave ran c → memory_may_leave disk c)
    → ((ledger : List Change) → AllFit (memory_may_leave disk) ledger → memory_fuse ran ≡ burnt recovery_calls (lit (memory_fuse armed_disk))) → IsCrashed ran new → IsCutAgain disk new
cut_disk calls disk armed_disk ran new fuse same images burns k = record {
  images = λ c left. dark_images ran new (λ image. memory_may_leave disk image) k (images new.content.image.items k.image) c left;
  fuse = λ armed ledger is all. k.fuse ∙ ap crashed (burns ledger all ∙ ap (λ (f : Fuse). burnt recovery_calls (lit f)) (fuse ∙ ap (rearmed (Waits 1 calls Stop)) is)) ∙ spent recovery_calls calls;
}

pub cut_again : (calls : ℕ) (disk armed_disk : MemoryDisk) (store : State MemoryDisk) (new : MemoryDisk) → memory_fuse armed_disk ≡ rearmed (Waits 1 calls Stop) (memory_fuse disk) → SameButFuse disk armed_disk
    → Recovered in_memory armed_disk store → IsCrashed store.disk new → IsCutAgain disk new
cut_again calls disk armed_disk store new fuse same r k =
    cut_disk calls disk armed_disk store.disk new fuse same (λ c left. same.now.none c (r.since c (memory_counts_now store.disk c left))) (λ ledger all. r.calls.fuse) k

pub refused_again : (calls : ℕ) (disk armed_disk : MemoryDisk) (refused : Refused MemoryDisk) (new : MemoryDisk) → memory_fuse armed_disk ≡ rearmed (Waits 1 calls Stop) (memory_fuse disk) → SameButFuse disk armed_disk
    → RefusedToRecover in_memory armed_disk refused → refused.fault ≢ NoMemory → IsCrashed refused.disk new → IsCutAgain disk new
refused_again calls disk armed_disk refused new fuse same r other k =
    cut_disk calls disk armed_disk refused.disk new fuse same (refused_images disk armed_disk refused same r) (λ ledger all. by (only disk armed_disk refused ledger same r all)) k
  where
    by : (refused.fault ≡ NoMemory) ⊎ (refused.fault ≡ DiskFault) → memory_fuse refused.disk ≡ burnt recovery_calls (lit (memory_fuse armed_disk))
    by (inl e) = absurd (other e)
    by (inr e) = (r.calls_failed e).fuse
