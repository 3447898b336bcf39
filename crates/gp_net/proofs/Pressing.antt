-- What a press makes of a device is what it makes of the ideal one.
use Rattle.std.proofs.Common.{◌≡◌, ℕ, suc, ◌%◌, ◌<◌, ◌==◌, Bool, true, false, List, [], ◌∷◌, Option, Some, None, refl, sym, ◌∙◌, ap, subst, arith}
use Rattle.std.specs.Prelude.{IfNone, IfSome, OnSome}
use Rattle.std.proofs.lemmas.Bool.{eq-eqb}
use Rattle.gp_frames.specs.Frame.{spelling}
use Rattle.gp_world.specs.Devices.{device_presses, sealed}
use Rattle.gp_world.specs.World as ideal
use Rattle.gp_world.specs.World.{IsSink, IsDevice, as_device}
use Rattle.gp_net.specs.declared.device.Device.{Device}
use Rattle.gp_net.specs.declared.node.Kind.TheVariants as kinds
use Rattle.gp_net.specs.Devices.{ideal_of, IsDeviceOf}
use Rattle.gp_net.specs.Made.{Makes, says_pressed, airs_pressed}
use Rattle.gp_net.specs.Nodes.{IsKindOf}

-- the low octet of a number, and of the next
low_again : (s n : ℕ) → s ≡ n % 256 → s % 256 ≡ n % 256
low_again s n e = omega (arith, e)

low_next : (s n : ℕ) → s ≡ n % 256 → suc s % 256 ≡ suc n % 256
low_next s n e = omega (arith, e)

-- a frame has the low octet of how many were sent before
same_frame : (d : Device) (model : ideal.Device) (counter : ℕ) (command : List ℕ) → IsDeviceOf d model → sealed (ideal_of d) counter command ≡ sealed model counter command
same_frame d model counter command h =
    ap (λ (s : ℕ). sealed (record (ideal_of d) { sent = s }) counter command) refl
    ∙ (let low : d.sequence % 256 ≡ model.sent % 256 = low_again d.sequence model.sent h.sequence in rw (h.fields, low) refl)

pub presses_make : (command : List ℕ) (old new : Device) (octets : Option (List ℕ))
    → IfNone octets ((old.counter ≡ 4294967295) × (new ≡ old))
    → IfSome octets (λ o. o ≡ spelling (sealed (ideal_of old) (suc old.counter) command))
    → OnSome octets ((old.counter < 4294967295) × (new ≡ record old { counter = suc old.counter; sequence = suc old.sequence % 256 }))
    → (model : ideal.Kind) → IsKindOf (kinds.Device old) model
    → (device : ideal.Device) × (as_device model ≡ Some device) × Makes (device_presses command device) (kinds.Device new) (says_pressed octets) [] (airs_pressed octets) × ((device_presses command device).choice ≡ ideal.Fixed)
unfolding device_presses
presses_make command old new octets none sends counts (IsSink sink) h = absurd h
presses_make command old new None none sends counts (IsDevice device) h =
    let last : device.counter ≡ 4294967295 = ap (λ (d : ideal.Device). d.counter) h.fields ∙ none.0 in
    (device, refl, rw (eq-eqb device.counter 4294967295 last) (record { stands = subst (λ (d : Device). IsDeviceOf d device) (sym none.1) h; says_are = refl; puts_are = refl; airs_are = refl }), rw (eq-eqb device.counter 4294967295 last) refl)
presses_make command old new (Some octets) none sends counts (IsDevice device) h = let made = go (device.counter == 4294967295) refl in (device, refl, made.0, made.1)
  where
    same : device.counter ≡ old.counter
    same = ap (λ (d : ideal.Device). d.counter) h.fields

    next : IsDeviceOf new (record device { counter = suc device.counter; sent = suc device.sent })
    next = subst (λ (d : Device). IsDeviceOf d (record device { counter = suc device.counter; sent = suc device.sent })) (sym counts.1) (record {
      fields = ap (λ (d : ideal.Device). record d { counter = suc d.counter; sent = suc d.sent }) h.fields;
      sequence = low_next old.sequence device.sent h.sequence;
    })

    sent : (spelling (sealed device (suc device.counter) command) ∷ []) ≡ octets ∷ []
    sent = ap (λ (o : List ℕ). o ∷ []) (ap spelling (ap (λ (c : ℕ). sealed device (suc c) command) same ∙ sym (same_frame old device (suc old.counter) command h)) ∙ sym sends)

    go : (b : Bool) → (device.counter == 4294967295) ≡ b → Makes (device_presses command device) (kinds.Device new) [] [] (octets ∷ []) × ((device_presses command device).choice ≡ ideal.Fixed)
    go true e = absurd (omega (arith, Rattle.std.proofs.lemmas.Bool.eqb-true device.counter 4294967295 e, same, counts.0))
    go false e = (rw e (record { stands = next; says_are = refl; puts_are = refl; airs_are = sent }), rw e refl)
