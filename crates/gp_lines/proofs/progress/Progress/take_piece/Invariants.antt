use Rattle.std.proofs.Common.{◌≡◌, ◌+◌, ◌<◌, ◌≤◌, length}
use Rattle.gp_lines.specs.Lines.{HasNoEnd, MayGoOn}
use Rattle.gp_lines.specs.Cutting.{room}
use Rattle.gp_lines.specs.Progress.{place}
use Rattle.gp_lines.proofs.Advancing.{Front}
use Rattle.gp_lines.proofs.progress.Progress.take_piece.Given as goal

abbrev pub invariant-lines : goal.invariant-lines
invariant-lines g l = record {
  front : Front g.W.Work.goes g.W.Work.stops l.held (place l.fn.self.lines l.fn.self.begun.items l.fn.self.text.items (g.O.Out.written l.fn.out) l.fn.work) l.piece l.rest
      (place l.self.lines l.self.begun.items l.self.text.items (g.O.Out.written l.out) l.work);
  awaits : g.W.Work.awaits l.work (l.self.lines + 1);
  begun : HasNoEnd l.self.begun.items;
  few : l.self.lines ≤ 1000000;
  goes_on : MayGoOn l.self.lines l.self.begun.items;
  little : length l.self.text.items ≤ l.held;
  counted : g.O.Out.faults l.out ≡ g.O.Out.faults l.fn.out;
  shorter : length l.rest ≤ length l.piece;
  no_wider : room l.self.lines l.self.begun.items ≤ room l.fn.self.lines l.fn.self.begun.items;
  nearer : length l.rest < length l.piece → room l.self.lines l.self.begun.items < room l.fn.self.lines l.fn.self.begun.items;
}

abbrev pub decreases-lines : goal.decreases-lines
decreases-lines g l = length l.rest
