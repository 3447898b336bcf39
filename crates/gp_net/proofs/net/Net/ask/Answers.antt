use Rattle.std.proofs.Common.{true, ap}
use Rattle.gp_net.specs.declared.net.Net.{Net}
use Rattle.gp_net.specs.Replies.{asked, says, puts}
use Rattle.gp_net.proofs.Coming.{comes_at_sink, refused_at_sink, there_is}
use Rattle.gp_net.proofs.Keeping.{has_room, goes_on, few_replied}
use Rattle.gp_net.proofs.net.Net.ask.Goals as goal

pub returns-in_default-clause-comes : goal.returns-in_default-clause-comes
returns-in_default-clause-comes c = λ model h.
    refused_at_sink c.args.self.now c.deref.result.now model c.args.telling.now.line c.args.reading c.args.name.now (asked c.args.request) c.deref.ensures.value c.in_default.ensures.absent h

pub ask-reply-requires-clause-sink : goal.ask-reply-requires-clause-sink
ask-reply-requires-clause-sink c = (there_is true c.deref.result.now c.args.self.now.nodes.items c.args.name.now c.in-Some.at c.index_mut.result.now c.deref.ensures.value c.in-Some.ensures.found c.index_mut.ensures.value).1

pub ask-reply-requires-clause-room : goal.ask-reply-requires-clause-room
ask-reply-requires-clause-room c =
    let t = there_is true c.deref.result.now c.args.self.now.nodes.items c.args.name.now c.in-Some.at c.index_mut.result.now c.deref.ensures.value c.in-Some.ensures.found c.index_mut.ensures.value in
    has_room c.args.self.now c.requires.ready.before c.args.telling.now.line c.in-Some.at c.index_mut.result.now c.requires.ready.steady c.requires.ready.follows c.requires.ready.within t.0

pub returns-clause-comes : goal.returns-clause-comes
returns-clause-comes c = λ model h.
    let t = there_is true c.deref.result.now c.args.self.now.nodes.items c.args.name.now c.in-Some.at c.index_mut.result.now c.deref.ensures.value c.in-Some.ensures.found c.index_mut.ensures.value in
    comes_at_sink c.args.self.now c.tell.new.self c.args.telling.now c.tell.new.telling model c.args.reading c.in-Some.at c.args.name.now (asked c.args.request)
    c.index_mut.result.now c.ask-reply.new.self (says c.ask-reply.result.0) (puts c.ask-reply.result.0) c.ask-reply.result.1 t.2 h c.ask-reply.ensures.made
    (record {
      there = t.0;
      air = ap (λ (net : Net). net.air.items) c.tell.ensures.sent;
      sent = ap (λ (net : Net). net.sent) c.tell.ensures.sent;
      nodes = ap (λ (net : Net). net.nodes.items) c.tell.ensures.sent;
      time = c.ask-reply.ensures.time;
      told = c.tell.ensures.told;
    })

pub returns-clause-steady : goal.returns-clause-steady
returns-clause-steady c =
    let t = there_is true c.deref.result.now c.args.self.now.nodes.items c.args.name.now c.in-Some.at c.index_mut.result.now c.deref.ensures.value c.in-Some.ensures.found c.index_mut.ensures.value in
    goes_on c.args.self.now c.tell.new.self c.requires.ready.before c.args.telling.now.line c.in-Some.at _ c.index_mut.result.now c.ask-reply.new.self (puts c.ask-reply.result.0) c.requires.ready.steady c.requires.ready.follows
    (ap (λ (net : Net). net.sent) c.tell.ensures.sent) (few_replied c.ask-reply.result.0) (ap (λ (net : Net). net.nodes.items) c.tell.ensures.sent) t.0 c.ask-reply.ensures.few
