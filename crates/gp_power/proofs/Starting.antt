-- A sink over a new disk: nothing fails, and it has no rows.
use Rattle.std.proofs.Common.{◌≡◌, ℕ, ◌<◌, ◌≤◌, Bool, true, false, List, [], Option, Some, None, inl, refl, sym, ◌∙◌, ap, subst, arith, replicate, get_or}
use Rattle.std.specs.Prelude.{nat_lt, cond}
use Rattle.std.proofs.lemmas.List.{get_or-replicate}
use Rattle.gp_disk.specs.declared.device.Disk.{Ghosts}
use Rattle.gp_disk.specs.declared.memory.MemoryDisk.{MemoryDisk}
use Rattle.gp_disk.specs.Memory.{memory_may_leave, memory_fuse}
use Rattle.gp_disk.specs.MemoryLaws.{memory_holds}
use Rattle.gp_rows.specs.declared.row.Row.{Row}
use Rattle.gp_translate.specs.Rules.{standard}
use Rattle.gp_ideal.specs.declared.config.Config.{Config}
use Rattle.gp_ideal.specs.Ledger.{rows, floor}
use Rattle.gp_sink.specs.Fits.{Fits}
use Rattle.gp_sink.specs.Sink.{SinkState}
use Rattle.gp_store.proofs.OneList.{one_last}
use Rattle.gp_world.specs.Step.{new_sink}
use Rattle.gp_power.specs.declared.power.Powered.{Powered}
use Rattle.gp_power.specs.declared.power.Supply.TheVariants.{On}
use Rattle.gp_power.specs.Inside.{in_memory, IsNewSink}
use Rattle.gp_power.specs.Stands.{StandsFor}
use Rattle.gp_power.proofs.Standing.{stands_on}
use Rattle.gp_disk.specs.Fuse.{Running, Unarmed, Fuse, lit, burnt}
use Rattle.gp_store.specs.declared.fault.StoreFault.{StoreFault}
use Rattle.gp_store.specs.declared.fault.StoreFault.TheVariants.{DiskFault, DiskShort, NotFormatted, AlreadyFormatted, SlotForm, NoMemory}
use Rattle.gp_store.specs.declared.fault.Refused.{Refused}
use Rattle.gp_store.specs.Formatting.{Formatted, RefusedToFormat}
use Rattle.gp_store.specs.Image.{IMAGE_SIZE, HoldsRow, HoldsRows, HasLast, format_1, slots}
use Rattle.gp_store.specs.Recovery.{Recovered, RefusedToRecover, Refuses, HasRows}
use Rattle.gp_store.specs.Slot.{generation}
use Rattle.gp_store.specs.Slots.{newer, newest}
use Rattle.gp_store.specs.Untouched.{RunsThrough}

-- ---- nothing fails

-- calls of a disk on which nothing is to fail all go through, and nothing is to fail afterwards
fails_not : (count : ℕ) (old new : Fuse) → old ≡ Running Unarmed → RunsThrough count old new false → ⊥
fails_not count old new e h =
    let f : false ≡ true = (subst (λ (fuse : Fuse). RunsThrough count fuse new false) e h).foretold in absurd cc

stays_calm : (count : ℕ) (old new : Fuse) → old ≡ Running Unarmed → RunsThrough count old new true → new ≡ Running Unarmed
stays_calm count old new e h = h.fuse ∙ ap (λ (fuse : Fuse). burnt count (lit fuse)) e

-- ---- formatting

pub formats : {D : Type 0} (of : Ghosts D) (fault : StoreFault) (old new : D) (size : ℕ) → IMAGE_SIZE ≤ size → (of.tally old).size ≡ size → of.image old ≡ Some (replicate size 0) → of.fuse old ≡ Running Unarmed
    → RefusedToFormat of fault old new → ⊥
formats of DiskShort old new size large is image fuse h = absurd (omega (arith, h.refuses))
formats of DiskFault old new size large is image fuse h = fails_not _ (of.fuse old) (of.fuse new) fuse (h.calls_failed refl)
formats of AlreadyFormatted old new size large is image fuse h =
    let open_gate : get_or (replicate size 0) 0 0 ≡ 165 = h.refuses.1 (replicate size 0) image in
    let some : 0 < size = omega (arith, large) in
    absurd (omega (arith, open_gate, get_or-replicate {A = ℕ} size 0 0 0 some))
formats of NotFormatted old new size large is image fuse h = h.refuses
formats of (SlotForm slot) old new size large is image fuse h = h.refuses
formats of NoMemory old new size large is image fuse h = h.refuses

pub calm_after_formatting : {D : Type 0} (of : Ghosts D) (old new : D) → of.fuse old ≡ Running Unarmed → Formatted of old new → of.fuse new ≡ Running Unarmed
calm_after_formatting of old new fuse h = stays_calm _ (of.fuse old) (of.fuse new) fuse h.calls

-- ---- recovery of an empty image

-- no slot is open where neither of a row is the newer one
none_newer : (even odd : Option (List ℕ)) → newer even odd ≡ None → (even ≡ None) × (odd ≡ None)
none_newer None odd e = (refl, e)
none_newer (Some even) None e = absurd cc
none_newer (Some even) (Some odd) e = absurd (by (nat_lt (generation even) (generation odd)) e)
  where
    by : (b : Bool) → cond b (Some odd) (Some even) ≡ None → ⊥
    by true e = absurd cc
    by false e = absurd cc

no_row : (octets : Option (List ℕ)) → HoldsRow 0 octets None → octets ≡ None
no_row None h = refl
no_row (Some octets) h = absurd h

closed : (image : List ℕ) → HoldsRows image [] → (row : ℕ) (side : Bool) → slots format_1 image row side ≡ None
unfolding HoldsRows
closed image h row true = (none_newer (slots format_1 image row false) (slots format_1 image row true) (no_row (newest (slots format_1 image) row) (h.each row))).1
closed image h row false = (none_newer (slots format_1 image row false) (slots format_1 image row true) (no_row (newest (slots format_1 image) row) (h.each row))).0

last_of_none : (image : List ℕ) → HoldsRows image [] → HasLast image 0
unfolding HasLast
last_of_none image h = record {
  greatest = λ row side octets e. let none : slots format_1 image row side ≡ None = closed image h row side in absurd cc;
  reached = inl refl;
}

pub starts : {D : Type 0} (of : Ghosts D) (disk : D) (refused : Refused D) (image : List ℕ) → IMAGE_SIZE ≤ (of.tally disk).size → of.image disk ≡ Some image → HoldsRows image [] → of.fuse disk ≡ Running Unarmed
    → RefusedToRecover of disk refused → refused.fault ≡ NoMemory
unfolding HoldsRows
starts of disk refused image large is holds fuse h = by refused.fault refl h.refuses
  where
    by : (fault : StoreFault) → refused.fault ≡ fault → Refuses fault (of.tally disk).size (of.image disk) → fault ≡ NoMemory
    by NoMemory e r = refl
    by DiskShort e r = absurd (omega (arith, large, r))
    by DiskFault e r = absurd (fails_not _ (of.fuse disk) (of.fuse refused.disk) fuse (h.calls_failed e))
    by NotFormatted e r = absurd (r.1 image is holds.formatted)
    by (SlotForm slot) e r =
        let first = r.1 image is in
        absurd (first.1.ill.2 (holds.consistent first.1.row first.1.side first.1.ill.0 first.1.ill.1))
    by AlreadyFormatted e r = absurd r

pub new_sink_of : (config : Config) (disk : MemoryDisk) (sink : SinkState MemoryDisk) → ((c : List ℕ) → memory_may_leave disk c → HoldsRows c []) → memory_fuse disk ≡ Running Unarmed → Recovered in_memory disk sink.store
    → sink.config ≡ config → sink.rules ≡ standard → IsNewSink config sink
new_sink_of config disk sink empty fuse h set_up rules =
    let holds = empty disk.content.image.items (memory_holds disk disk.content.image.items refl) in
    let r : HasRows disk.content.image.items sink.store.rows sink.store.last = h.rows disk.content.image.items refl in
    let rows : sink.store.rows ≡ [] = sym (r.only [] holds) in
    let last : sink.store.last ≡ 0 = sym (r.only_last 0 (last_of_none disk.content.image.items holds)) in
    record {
      set_up = set_up;
      rules = rules;
      runs = h.running;
      decided = h.decided;
      rows = rows;
      images = λ c left. subst (λ (l : List Row). HoldsRows c l) rows (h.stands c left).0;
      fuse = stays_calm _ (memory_fuse disk) (memory_fuse sink.store.disk) fuse h.calls;
      few = record { last = omega (arith, last); images = λ c n left has. let is = one_last c n sink.store.last has (h.stands c left).1 in omega (arith, last, is) };
    }

fits_none : Fits [] []
unfolding rows floor
fits_none = record {
  pairs = refl;
  each = λ at row is. absurd cc;
  order = λ i j a b is. absurd cc;
  behind = λ at far. refl;
}

-- a new sink stands for the ideal one
pub new_stands : (config : Config) (powered : Powered) (sink : SinkState MemoryDisk) → powered.config ≡ config → powered.supply ≡ On sink → IsNewSink config sink → StandsFor powered (new_sink config)
new_stands config powered sink same on h = stands_on powered sink (new_sink config) same on h.set_up h.rules (record {
  running = h.runs;
  decided = h.decided;
  fits = subst (λ (l : List Row). Fits l []) (sym h.rows) fits_none;
  images = λ c left. ([], h.images c left, fits_none);
  fuse = h.fuse;
  ahead = tt;
})
