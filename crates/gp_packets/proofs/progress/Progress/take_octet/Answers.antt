use Rattle.std.proofs.Common.{refl}
use Rattle.gp_packets.specs.Progress.{Place, place}
use Rattle.gp_packets.proofs.Advancing.{fed_beyond, fed_nothing, fed_listed, few_of}
use Rattle.gp_packets.proofs.progress.Progress.take_octet.Goals as goal

pub returns-then-is_full-clause-goes : goal.returns-then-is_full-clause-goes
returns-then-is_full-clause-goes g c =
    fed_beyond c.args.key (place c.args.self.now.reader c.args.self.now.count c.args.self.now.text.items (g.O.Out.written c.args.out.now)) c.args.octet (c.if-is_full.ensures.0 refl)

pub returns-in-Ok-None-clause-goes : goal.returns-in-Ok-None-clause-goes
returns-in-Ok-None-clause-goes g c =
    let old : Place = place c.args.self.now.reader c.args.self.now.count c.args.self.now.text.items (g.O.Out.written c.args.out.now) in
    fed_nothing c.args.key old c.args.octet c.feed.new.self (few_of c.args.self.now.count c.if-is_full.ensures.1) (rw c.in-Ok-None.field-0-is at c.in-Ok-None.ensures.feeds)

pub returns-in-Ok-Some-clause-goes : goal.returns-in-Ok-Some-clause-goes
returns-in-Ok-Some-clause-goes g c =
    let old : Place = place c.args.self.now.reader c.args.self.now.count c.args.self.now.text.items (g.O.Out.written c.args.out.now) in
    let new : Place = place c.take_packet.new.self.reader c.take_packet.new.self.count c.take_packet.new.self.text.items (g.O.Out.written c.take_packet.new.out) in
    fed_listed c.args.key old c.args.octet c.in-Ok-Some.packet c.feed.new.self new c.take_packet.result (few_of c.args.self.now.count c.if-is_full.ensures.1) (rw c.in-Ok-Some.field-0-is at c.in-Ok-Some.ensures.feeds) c.take_packet.ensures.lists c.take_packet.ensures.reader
