use Rattle.std.proofs.Common.{◌≡◌, [], take, refl, ap, ◌∙◌, arith}
use Rattle.std.specs.Io.KnownBytes.{IsAtEnd}
use Rattle.std.proofs.lemmas.List.{length-take}
use Rattle.gp_packets.specs.Progress.{Place, place}
use Rattle.gp_packets.proofs.Advancing.{start}
use Rattle.gp_packets.proofs.Runs.{Reads-start, Reads-more, Reads-flush, Reads-size, leaves_read_fault, leaves_at_once, leaves_stop, leaves_piece_fault, leaves_end}
use Rattle.gp_packets.proofs.running.list_all.Goals as goal

pub returns-in_default-clause-leaves : goal.returns-in_default-clause-leaves
returns-in_default-clause-leaves g c = leaves_at_once c.args.key _ _

pub pieces-init : goal.pieces-init
pieces-init g c = record {
  reads = Reads-start c.args.key _ _ _ (start c.args.key _ c.start-progress.result.reader c.start-progress.result.count c.start-progress.result.text.items c.start-progress.ensures.reader c.start-progress.ensures.count c.start-progress.ensures.text);
  text = c.start-progress.ensures.text;
  source_faults = refl;
  out_faults = refl;
}

pub returns-in_default-read-clause-leaves : goal.returns-in_default-read-clause-leaves
returns-in_default-read-clause-leaves g c =
    leaves_read_fault c.args.key _ (g.S.Source.left c.pieces.source) _ _ (place c.pieces.progress.reader c.pieces.progress.count c.pieces.progress.text.items (g.O.Out.written c.pieces.out)) c.pieces.invariant.reads c.pieces.invariant.text c.in_default-read.ensures.octets

pub take_piece-requires : goal.take_piece-requires
take_piece-requires g c =
    let size = Reads-size c.args.key _ _ _ _ c.pieces.invariant.reads in
    omega (arith, size.0, length-take c.in-Ok-read.count c.read.new.into, c.in-Ok-read.ensures.bound, c.read.auto.into)

pub returns-in-Err-clause-leaves : goal.returns-in-Err-clause-leaves
returns-in-Err-clause-leaves g c =
    let old : Place = place c.pieces.progress.reader c.pieces.progress.count c.pieces.progress.text.items (g.O.Out.written c.pieces.out) in
    let new : Place = place c.take_piece.new.self.reader c.take_piece.new.self.count c.take_piece.new.self.text.items (g.O.Out.written c.take_piece.new.out) in
    leaves_stop c.args.key _ (g.S.Source.left c.pieces.source) _ _ old new (take c.in-Ok-read.count c.read.new.into) c.in-Err.stop _ _ _ _ c.pieces.invariant.reads c.in-Ok-read.ensures.octets.0 c.in-Err.ensures.goes (rw c.deref.ensures.value at c.stopped.ensures)

pub pieces-smaller : goal.pieces-smaller
pieces-smaller g c =
    let old : Place = place c.pieces.progress.reader c.pieces.progress.count c.pieces.progress.text.items (g.O.Out.written c.pieces.out) in
    let new : Place = place c.take_piece.new.self.reader c.take_piece.new.self.count c.take_piece.new.self.text.items (g.O.Out.written c.take_piece.new.out) in
    let reads = Reads-more c.args.key _ (g.S.Source.left c.pieces.source) _ _ old new (take c.in-Ok-read.count c.read.new.into) c.pieces.invariant.reads c.in-Ok-read.ensures.octets.0 c.in-Ok-take_piece.ensures.goes in
    let size = Reads-size c.args.key _ _ _ new reads in
    let before = Reads-size c.args.key _ _ _ old c.pieces.invariant.reads in
    let more = length-take c.in-Ok-read.count c.read.new.into in
    let same : c.flush.new.self.reader.fed ≡ c.take_piece.new.self.reader.fed = ap (λ r. r.fed) c.in-Ok-flush.ensures.reader in
    omega (arith, size.0, before.0, more, same, c.in-Ok-read.ensures.bound, c.in-Ok-take_piece.ensures.fed, c.if-count-eq0.false)

pub pieces-preserved : goal.pieces-preserved
pieces-preserved g c =
    let old : Place = place c.pieces.progress.reader c.pieces.progress.count c.pieces.progress.text.items (g.O.Out.written c.pieces.out) in
    let new : Place = place c.take_piece.new.self.reader c.take_piece.new.self.count c.take_piece.new.self.text.items (g.O.Out.written c.take_piece.new.out) in
    record {
      reads = Reads-flush c.args.key _ _ _ c.take_piece.new.self.reader _ c.take_piece.new.self.count _ c.take_piece.new.self.text.items _ (g.O.Out.written c.take_piece.new.out) _
          (Reads-more c.args.key _ (g.S.Source.left c.pieces.source) _ _ old new (take c.in-Ok-read.count c.read.new.into) c.pieces.invariant.reads c.in-Ok-read.ensures.octets.0 c.in-Ok-take_piece.ensures.goes)
          c.in-Ok-flush.ensures.ok c.in-Ok-flush.ensures.text c.in-Ok-flush.ensures.reader c.in-Ok-flush.ensures.count;
      text = c.in-Ok-flush.ensures.text;
      source_faults = c.in-Ok-read.ensures.good ∙ c.pieces.invariant.source_faults;
      out_faults = c.in-Ok-flush.ensures.good ∙ c.in-Ok-take_piece.ensures.counts ∙ c.pieces.invariant.out_faults;
    }

pub returns-in_default-flush-clause-leaves : goal.returns-in_default-flush-clause-leaves
returns-in_default-flush-clause-leaves g c =
    let old : Place = place c.pieces.progress.reader c.pieces.progress.count c.pieces.progress.text.items (g.O.Out.written c.pieces.out) in
    let new : Place = place c.take_piece.new.self.reader c.take_piece.new.self.count c.take_piece.new.self.text.items (g.O.Out.written c.take_piece.new.out) in
    leaves_piece_fault c.args.key _ (g.S.Source.left c.pieces.source) _ _ old new (take c.in-Ok-read.count c.read.new.into) _ c.pieces.invariant.reads c.in-Ok-read.ensures.octets.0 c.in-Ok-take_piece.ensures.goes c.in_default-flush.ensures.err

pub returns-clause-leaves : goal.returns-clause-leaves
returns-clause-leaves g c =
    let none : take c.in-Ok-read.count c.read.new.into ≡ [] = rw c.if-count-eq0.true refl in
    let ended : IsAtEnd (g.S.Source.left c.read.new.self) = c.in-Ok-read.ensures.octets.1 c.if-count-eq0.true (omega (arith, c.read.auto.into)) in
    let old : Place = place c.pieces.progress.reader c.pieces.progress.count c.pieces.progress.text.items (g.O.Out.written c.pieces.out) in
    leaves_end c.args.key _ (g.S.Source.left c.pieces.source) _ _ old (take c.in-Ok-read.count c.read.new.into) _ c.pieces.invariant.reads c.pieces.invariant.text c.in-Ok-read.ensures.octets.0 none ended c.ended.ensures
