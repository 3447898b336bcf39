use Rattle.std.proofs.Common.{◌≡◌, ◌-◌, []}
use Rattle.gp_packets.specs.Progress.{place}
use Rattle.gp_packets.proofs.Runs.{Reads}
use Rattle.gp_packets.proofs.running.list_all.Given as goal

abbrev pub invariant-pieces : goal.invariant-pieces
invariant-pieces g l = record {
  reads : Reads l.key (g.S.Source.left l.fn.source) (g.S.Source.left l.source) (g.O.Out.written l.fn.out)
      (place l.progress.reader l.progress.count l.progress.text.items (g.O.Out.written l.out));
  text : l.progress.text.items ≡ [];
  source_faults : g.S.Source.faults l.source ≡ g.S.Source.faults l.fn.source;
  out_faults : g.O.Out.faults l.out ≡ g.O.Out.faults l.fn.out;
}

abbrev pub decreases-pieces : goal.decreases-pieces
decreases-pieces g l = 65551065576 - l.progress.reader.fed
