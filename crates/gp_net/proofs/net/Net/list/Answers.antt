use Rattle.std.proofs.Common.{refl, true, ◌+◌, ◌≤◌, ℕ, [], arith}
use Rattle.gp_world.specs.Power.{lists}
use Rattle.gp_net.proofs.Coming.{comes_listed, refused_at_sink, there_is}
use Rattle.gp_net.proofs.Keeping.{goes_on, kind_more}
use Rattle.gp_net.proofs.net.Net.list.Goals as goal

pub returns-in_default-clause-comes : goal.returns-in_default-clause-comes
returns-in_default-clause-comes c = λ model h.
    refused_at_sink c.args.self.now c.deref.result.now model c.args.telling.now.line c.args.reading c.args.name.now (λ bit. lists) c.deref.ensures.value c.in_default.ensures.absent h

pub list-requires-clause-sink : goal.list-requires-clause-sink
list-requires-clause-sink c = (there_is true c.deref.result.now c.args.self.now.nodes.items c.args.name.now c.in-Some.at c.index_mut.result.now c.deref.ensures.value c.in-Some.ensures.found c.index_mut.ensures.value).1

pub returns-clause-comes : goal.returns-clause-comes
returns-clause-comes c = λ model h.
    let t = there_is true c.deref.result.now c.args.self.now.nodes.items c.args.name.now c.in-Some.at c.index_mut.result.now c.deref.ensures.value c.in-Some.ensures.found c.index_mut.ensures.value in
    comes_listed c.args.self.now _ c.args.telling.now c.list.new.telling model c.args.reading c.in-Some.at c.args.name.now c.index_mut.result.now c.list.new.self t.2 h t.0 c.list.ensures.made refl refl refl c.list.ensures.time

pub returns-clause-steady : goal.returns-clause-steady
returns-clause-steady c =
    let t = there_is true c.deref.result.now c.args.self.now.nodes.items c.args.name.now c.in-Some.at c.index_mut.result.now c.deref.ensures.value c.in-Some.ensures.found c.index_mut.ensures.value in
    goes_on c.args.self.now _ c.requires.ready.before c.args.telling.now.line c.in-Some.at _ c.index_mut.result.now c.list.new.self [] c.requires.ready.steady c.requires.ready.follows
    (omega arith) (omega arith) refl t.0 (λ most h. kind_more most (most + 2) _ (omega arith) (c.list.ensures.few most h))
