use Rattle.std.proofs.Common.{◌≡◌, ◌∷◌, [], ◌+◌, Some, None, List, ℕ, false, refl, sym, subst, append-nil, arith}
use Rattle.gp_world.specs.Devices.{device_presses}
use Rattle.gp_world.specs.World.{air_reports, entries}
use Rattle.gp_net.specs.Made.{says_pressed, airs_pressed}
use Rattle.gp_net.specs.Inside.{Told}
use Rattle.gp_net.proofs.Coming.{comes_at_device, refused_at_device, there_is, told_by}
use Rattle.gp_net.proofs.Keeping.{goes_on}
use Rattle.gp_net.proofs.net.Net.press.Goals as goal

pub returns-in_default-clause-comes : goal.returns-in_default-clause-comes
returns-in_default-clause-comes c = λ model h.
    refused_at_device c.args.self.now c.deref.result.now model c.args.telling.now.line c.args.reading c.args.name.now _ c.deref.ensures.value c.in_default.ensures.absent h

pub press-requires-clause-device : goal.press-requires-clause-device
press-requires-clause-device c = (there_is false c.deref.result.now c.args.self.now.nodes.items c.args.name.now c.in-Some.at c.index_mut.result.now c.deref.ensures.value c.in-Some.ensures.found c.index_mut.ensures.value).1

pub returns-in_default-press-clause-comes : goal.returns-in_default-press-clause-comes
returns-in_default-press-clause-comes c = λ model h.
    let t = there_is false c.deref.result.now c.args.self.now.nodes.items c.args.name.now c.in-Some.at c.index_mut.result.now c.deref.ensures.value c.in-Some.ensures.found c.index_mut.ensures.value in
    comes_at_device c.args.self.now _ c.args.telling.now c.say.new.self model c.args.reading c.in-Some.at c.args.name.now (device_presses c.args.command.now)
    c.index_mut.result.now c.press.new.self (says_pressed None) (airs_pressed None) t.2 h c.in_default-press.ensures.made
    (record { there = t.0; air = sym (append-nil c.args.self.now.air.items); sent = omega arith; nodes = refl; time = c.in_default-press.ensures.time; told = told_by _ _ c.args.telling.now c.say.new.self c.say.ensures })

pub returns-clause-comes : goal.returns-clause-comes
returns-clause-comes c = λ model h.
    let t = there_is false c.deref.result.now c.args.self.now.nodes.items c.args.name.now c.in-Some.at c.index_mut.result.now c.deref.ensures.value c.in-Some.ensures.found c.index_mut.ensures.value in
    comes_at_device c.args.self.now _ c.args.telling.now c.air.new.self model c.args.reading c.in-Some.at c.args.name.now (device_presses c.args.command.now)
    c.index_mut.result.now c.press.new.self (says_pressed (Some c.in-Some-press.octets)) (airs_pressed (Some c.in-Some-press.octets)) t.2 h c.in-Some-press.ensures.made
    (record {
      there = t.0;
      air = c.put_last.ensures.added;
      sent = omega arith;
      nodes = refl;
      time = c.in-Some-press.ensures.time;
      told = let count : c.len.result ≡ Rattle.std.proofs.Common.length c.args.self.now.air.items = omega (arith, c.len.ensures, c.args.self.now.air.ok.0) in
          subst (λ (n : ℕ). Told (entries c.args.telling.now.line (Some c.args.name.now) (air_reports n (c.in-Some-press.octets ∷ []))) c.args.telling.now c.air.new.self) count (told_by _ _ c.args.telling.now c.air.new.self c.air.ensures);
    })

pub returns-in_default-press-clause-steady : goal.returns-in_default-press-clause-steady
returns-in_default-press-clause-steady c =
    let t = there_is false c.deref.result.now c.args.self.now.nodes.items c.args.name.now c.in-Some.at c.index_mut.result.now c.deref.ensures.value c.in-Some.ensures.found c.index_mut.ensures.value in
    goes_on c.args.self.now _ c.requires.ready.before c.args.telling.now.line c.in-Some.at _ c.index_mut.result.now c.press.new.self [] c.requires.ready.steady c.requires.ready.follows
    (omega arith) (omega arith) refl t.0 (λ most h. c.press.ensures.few (most + 2))

pub returns-clause-steady : goal.returns-clause-steady
returns-clause-steady c =
    let t = there_is false c.deref.result.now c.args.self.now.nodes.items c.args.name.now c.in-Some.at c.index_mut.result.now c.deref.ensures.value c.in-Some.ensures.found c.index_mut.ensures.value in
    goes_on c.args.self.now _ c.requires.ready.before c.args.telling.now.line c.in-Some.at _ c.index_mut.result.now c.press.new.self [] c.requires.ready.steady c.requires.ready.follows
    (omega arith) (omega arith) refl t.0 (λ most h. c.press.ensures.few (most + 2))
