use Rattle.std.proofs.Common.{◌≡◌, ◌<◌, length, slice_get, List, ℕ, Some, None, refl, sym, ap, subst, ◌∙◌, arith}
use Rattle.std.specs.Prelude.{slice_index_or}
use Rattle.std.proofs.lemmas.Option.{slice_get_read}
use Rattle.gp_net.specs.declared.net.Net.{Net}
use Rattle.gp_net.specs.declared.node.Node.{Node}
use Rattle.gp_net.specs.Replies.{says, puts}
use Rattle.gp_net.specs.Inside.{place}
use Rattle.gp_net.proofs.Coming.{absent_node, missing_frame, comes_heard, none_there, one_there}
use Rattle.gp_net.proofs.Keeping.{goes_on, few_replied}
use Rattle.gp_net.proofs.net.Net.hear.Goals as goal

pub returns-in_default-clause-comes : goal.returns-in_default-clause-comes
returns-in_default-clause-comes c = λ model h bit.
    let none : place c.args.name.now c.args.self.now.nodes.items ≡ None = ap (place c.args.name.now) (sym c.deref.ensures.value) ∙ sym c.in_default.ensures.first in
    absent_node c.args.self.now model c.args.telling.now.line c.args.reading c.args.frame c.args.name.now h none bit

pub returns-in_default-get-clause-comes : goal.returns-in_default-get-clause-comes
returns-in_default-get-clause-comes c = λ model h bit.
    let at : place c.args.name.now c.args.self.now.nodes.items ≡ Some c.in-Some.at = ap (place c.args.name.now) (sym c.deref.ensures.value) ∙ sym c.in-Some.ensures.first in
    missing_frame c.args.self.now model c.args.telling.now.line c.args.reading c.args.frame c.in-Some.at c.args.name.now h at (none_there c.args.frame c.deref-2.result.now c.args.self.now.air.items c.deref-2.ensures.value c.in_default-get.ensures.lookup.0) bit

-- the place of the node, and the octets of the frame
at_place : (nodes items : List (List ℕ × Node)) (name : List ℕ) (at : ℕ) (was : List ℕ × Node) → nodes ≡ items → Some at ≡ place name nodes → at < length nodes → was ≡ slice_index_or items at was
    → (slice_get items at ≡ Some was) × (place name items ≡ Some at)
at_place nodes items name at was e first below v =
    let there : slice_get items at ≡ Some was = slice_get_read items (length items) at was refl (subst (λ (ns : List (List ℕ × Node)). at < length ns) e below) v in
    (there, ap (place name) (sym e) ∙ sym first)

pub returns-clause-comes : goal.returns-clause-comes
returns-clause-comes c = λ model h.
    let t = at_place c.deref.result.now c.args.self.now.nodes.items c.args.name.now c.in-Some.at c.index_mut.result.now c.deref.ensures.value c.in-Some.ensures.first c.in-Some.ensures.below c.index_mut.ensures.value in
    let octets = one_there c.args.frame c.deref-2.result.now c.args.self.now.air.items c.in-Some-get.octets.now c.deref-2.ensures.value c.in-Some-get.ensures.lookup.0 c.in-Some-get.ensures.lookup.1 in
    comes_heard c.args.self.now c.tell.new.self c.args.telling.now c.tell.new.telling model c.args.reading c.args.frame c.in-Some.at c.in-Some-get.octets.now c.args.name.now c.index_mut.result.now c.hear-reply.new.self
    (says c.hear-reply.result.0) (puts c.hear-reply.result.0) c.hear-reply.result.1 t.1 h octets (rw c.as_slice.ensures.value at c.hear-reply.ensures.made)
    (record {
      there = t.0;
      air = ap (λ (net : Net). net.air.items) c.tell.ensures.sent;
      sent = ap (λ (net : Net). net.sent) c.tell.ensures.sent;
      nodes = ap (λ (net : Net). net.nodes.items) c.tell.ensures.sent;
      time = c.hear-reply.ensures.time;
      told = c.tell.ensures.told;
    })

pub returns-clause-steady : goal.returns-clause-steady
returns-clause-steady c =
    let t = at_place c.deref.result.now c.args.self.now.nodes.items c.args.name.now c.in-Some.at c.index_mut.result.now c.deref.ensures.value c.in-Some.ensures.first c.in-Some.ensures.below c.index_mut.ensures.value in
    goes_on c.args.self.now c.tell.new.self c.requires.ready.before c.args.telling.now.line c.in-Some.at _ c.index_mut.result.now c.hear-reply.new.self (puts c.hear-reply.result.0) c.requires.ready.steady c.requires.ready.follows
    (ap (λ (net : Net). net.sent) c.tell.ensures.sent) (few_replied c.hear-reply.result.0) (ap (λ (net : Net). net.nodes.items) c.tell.ensures.sent) t.0 c.hear-reply.ensures.few
