use Rattle.std.proofs.Common.{◌≡◌, ◌+◌, ◌≤◌, []}
use Rattle.gp_lines.specs.Lines.{HasNoEnd, MayGoOn}
use Rattle.gp_lines.specs.Cutting.{room}
use Rattle.gp_lines.specs.Progress.{place}
use Rattle.gp_lines.proofs.Runs.{Reads}
use Rattle.gp_lines.proofs.running.run_lines.Given as goal

abbrev pub invariant-pieces : goal.invariant-pieces
invariant-pieces g l = record {
  reads : Reads g.W.Work.goes (g.S.Source.left l.fn.source) (g.S.Source.left l.source) (g.O.Out.written l.fn.out) l.fn.work
      (place l.progress.lines l.progress.begun.items l.progress.text.items (g.O.Out.written l.out) l.work);
  awaits : g.W.Work.awaits l.work (l.progress.lines + 1);
  text : l.progress.text.items ≡ [];
  begun : HasNoEnd l.progress.begun.items;
  few : l.progress.lines ≤ 1000000;
  goes_on : MayGoOn l.progress.lines l.progress.begun.items;
  source_faults : g.S.Source.faults l.source ≡ g.S.Source.faults l.fn.source;
  out_faults : g.O.Out.faults l.out ≡ g.O.Out.faults l.fn.out;
}

abbrev pub decreases-pieces : goal.decreases-pieces
decreases-pieces g l = room l.progress.lines l.progress.begun.items
