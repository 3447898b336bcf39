use Rattle.std.proofs.Common.{refl, ◌∙◌, arith}
use Rattle.gp_packets.specs.Progress.{Place, place}
use Rattle.gp_packets.proofs.Advancing.{went_start, went_more, went_stop}
use Rattle.gp_packets.proofs.progress.Progress.take_piece.Goals as goal

pub octets-init : goal.octets-init
octets-init g c = record {
  went = went_start c.args.key (place c.args.self.now.reader c.args.self.now.count c.args.self.now.text.items (g.O.Out.written c.args.out.now)) c.args.piece.now;
  fed = refl;
  faults = refl;
}

pub octets-preserved : goal.octets-preserved
octets-preserved g c =
    let old : Place = place c.args.self.now.reader c.args.self.now.count c.args.self.now.text.items (g.O.Out.written c.args.out.now) in
    let mid : Place = place c.octets.self.reader c.octets.self.count c.octets.self.text.items (g.O.Out.written c.octets.out) in
    let new : Place = place c.take_octet.new.self.reader c.take_octet.new.self.count c.take_octet.new.self.text.items (g.O.Out.written c.take_octet.new.out) in
    record {
      went = went_more c.args.key old mid new c.args.piece.now c.octets.rest.now c.in-Some.after.now c.in-Some.octet.now c.octets.invariant.went c.in-Some.ensures.cases.0 c.in-Ok.ensures.goes;
      fed = omega (arith, c.octets.invariant.fed, c.in-Ok.ensures.fed, c.in-Some.ensures.cases.1);
      faults = c.in-Ok.ensures.counts ∙ c.octets.invariant.faults;
    }

pub returns-in-Err-clause-goes : goal.returns-in-Err-clause-goes
returns-in-Err-clause-goes g c =
    let old : Place = place c.args.self.now.reader c.args.self.now.count c.args.self.now.text.items (g.O.Out.written c.args.out.now) in
    let mid : Place = place c.octets.self.reader c.octets.self.count c.octets.self.text.items (g.O.Out.written c.octets.out) in
    let new : Place = place c.take_octet.new.self.reader c.take_octet.new.self.count c.take_octet.new.self.text.items (g.O.Out.written c.take_octet.new.out) in
    went_stop c.args.key old mid new c.args.piece.now c.octets.rest.now c.in-Some.after.now c.in-Some.octet.now c.in-Err.stop c.octets.invariant.went c.in-Some.ensures.cases.0 c.in-Err.ensures.goes
