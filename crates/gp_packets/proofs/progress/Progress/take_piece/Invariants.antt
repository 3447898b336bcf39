use Rattle.std.proofs.Common.{◌≡◌, ◌+◌, length}
use Rattle.gp_packets.specs.Progress.{place}
use Rattle.gp_packets.proofs.Advancing.{Went}
use Rattle.gp_packets.proofs.progress.Progress.take_piece.Given as goal

abbrev pub invariant-octets : goal.invariant-octets
invariant-octets g l = record {
  went : Went l.key (place l.fn.self.reader l.fn.self.count l.fn.self.text.items (g.O.Out.written l.fn.out)) l.piece l.rest
      (place l.self.reader l.self.count l.self.text.items (g.O.Out.written l.out));
  fed : l.self.reader.fed + length l.rest ≡ l.fn.self.reader.fed + length l.piece;
  faults : g.O.Out.faults l.out ≡ g.O.Out.faults l.fn.out;
}

abbrev pub decreases-octets : goal.decreases-octets
decreases-octets g l = length l.rest
