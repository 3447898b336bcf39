use Rattle.std.proofs.Common.{true, refl, ◌+◌, ◌≤◌, ℕ, [], ◌∷◌, arith}
use Rattle.gp_net.specs.Replies.{switched}
use Rattle.gp_net.proofs.Coming.{comes_switched, refused_at_sink, there_is, told_by}
use Rattle.gp_net.proofs.Keeping.{goes_on, kind_more, stays_few}
use Rattle.gp_net.proofs.Rearming.{rearms}
use Rattle.gp_net.proofs.net.Net.switch_on.Goals as goal

pub returns-in_default-clause-comes : goal.returns-in_default-clause-comes
returns-in_default-clause-comes c = λ model h.
    refused_at_sink c.args.self.now c.deref.result.now model c.args.telling.now.line c.args.reading c.args.name.now (λ bit. switched c.args.switch) c.deref.ensures.value c.in_default.ensures.absent h

pub switch_on-requires-clause-sink : goal.switch_on-requires-clause-sink
switch_on-requires-clause-sink c = (there_is true c.deref.result.now c.args.self.now.nodes.items c.args.name.now c.in-Some.at c.index_mut.result.now c.deref.ensures.value c.in-Some.ensures.found c.index_mut.ensures.value).1

pub returns-in_default-switch_on-clause-left : goal.returns-in_default-switch_on-clause-left
returns-in_default-switch_on-clause-left c =
    let t = there_is true c.deref.result.now c.args.self.now.nodes.items c.args.name.now c.in-Some.at c.index_mut.result.now c.deref.ensures.value c.in-Some.ensures.found c.index_mut.ensures.value in
    rearms c.args.self.now _ c.args.name.now c.in-Some.at c.index_mut.result.now c.switch_on.new.self t.2 t.0 c.in_default-switch_on.ensures.left c.in_default-switch_on.ensures.same_time refl refl refl

pub returns-in_default-switch_on-clause-steady : goal.returns-in_default-switch_on-clause-steady
returns-in_default-switch_on-clause-steady c =
    let t = there_is true c.deref.result.now c.args.self.now.nodes.items c.args.name.now c.in-Some.at c.index_mut.result.now c.deref.ensures.value c.in-Some.ensures.found c.index_mut.ensures.value in
    goes_on c.args.self.now _ c.requires.ready.before c.args.telling.now.line c.in-Some.at _ c.index_mut.result.now c.switch_on.new.self [] c.requires.ready.steady c.requires.ready.follows
    (omega arith) (omega arith) refl t.0 (λ most h. kind_more most (most + 2) _ (omega arith) (c.switch_on.ensures.few most h))

pub returns-clause-comes : goal.returns-clause-comes
returns-clause-comes c = λ model h.
    let t = there_is true c.deref.result.now c.args.self.now.nodes.items c.args.name.now c.in-Some.at c.index_mut.result.now c.deref.ensures.value c.in-Some.ensures.found c.index_mut.ensures.value in
    comes_switched c.args.self.now _ c.args.telling.now c.say.new.self model c.args.reading c.in-Some.at c.args.name.now (switched c.args.switch) c.index_mut.result.now c.switch_on.new.self c.in-Ok.report t.2 h c.in-Ok.ensures.made
    (record { there = t.0; air = refl; sent = omega arith; nodes = refl; time = c.in-Ok.ensures.time; told = told_by _ _ c.args.telling.now c.say.new.self c.say.ensures })

pub returns-clause-steady : goal.returns-clause-steady
returns-clause-steady c =
    let t = there_is true c.deref.result.now c.args.self.now.nodes.items c.args.name.now c.in-Some.at c.index_mut.result.now c.deref.ensures.value c.in-Some.ensures.found c.index_mut.ensures.value in
    goes_on c.args.self.now _ c.requires.ready.before c.args.telling.now.line c.in-Some.at _ c.index_mut.result.now c.switch_on.new.self [] c.requires.ready.steady c.requires.ready.follows
    (omega arith) (omega arith) refl t.0 (λ most h. kind_more most (most + 2) _ (omega arith) (c.switch_on.ensures.few most h))

pub returns-in_default-switch_on-clause-few : goal.returns-in_default-switch_on-clause-few
returns-in_default-switch_on-clause-few c = λ line h.
    let t = there_is true c.deref.result.now c.args.self.now.nodes.items c.args.name.now c.in-Some.at c.index_mut.result.now c.deref.ensures.value c.in-Some.ensures.found c.index_mut.ensures.value in
    stays_few c.args.self.now _ line c.in-Some.at _ c.index_mut.result.now c.switch_on.new.self refl refl t.0 c.switch_on.ensures.few h
