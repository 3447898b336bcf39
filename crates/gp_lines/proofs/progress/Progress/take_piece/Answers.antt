use Rattle.std.proofs.Common.{◌≡◌, ◌<◌, length, inl, refl, ap, ◌∙◌, arith}
use Rattle.std.proofs.lemmas.Grind.{common_steps}
use Rattle.gp_lines.proofs.LineLemmas.{HasNoEnd-nil, HasNoEnd-append}
use Rattle.gp_lines.proofs.Advancing.{Front-start, Front-line, Front-rest, Front-stop, Front-beyond, begun_advances, room_less}
use Rattle.gp_lines.proofs.progress.Progress.take_piece.Goals as goal

pub lines-init : goal.lines-init
lines-init g c = record {
  front = Front-start g.W.Work.goes g.W.Work.stops c.args.held _ c.args.piece.now c.requires.begun;
  awaits = c.requires.awaits;
  begun = c.requires.begun;
  few = c.requires.few;
  goes_on = c.requires.goes_on;
  little = c.requires.little;
  counted = refl;
  shorter = omega arith;
  no_wider = omega arith;
  nearer = λ h. absurd (omega (arith, h));
}

pub returns-in-Err-clause-err : goal.returns-in-Err-clause-err
returns-in-Err-clause-err g c =
    Front-stop g.W.Work.goes g.W.Work.stops c.args.held c.in-Err.stop _ c.args.piece.now c.lines.rest.now c.in-Some.front.now c.in-Some.back.now _ _ c.lines.invariant.front c.in-Some.ensures.parts c.lines.invariant.little c.in-Err.ensures.err

pub lines-preserved : goal.lines-preserved
lines-preserved g c =
    let parts = ap length c.in-Some.ensures.parts in
    let shorter : length c.in-Some.back.now < length c.lines.rest.now = grind (arith, common_steps, parts) in
    let one = c.in-Ok.ensures.one in
    let few = c.in-Ok.ensures.few in
    let fresh : length c.pass_line.new.self.begun.items ≡ 0 = ap length c.in-Ok.ensures.begun in
    record {
      front = Front-line g.W.Work.goes g.W.Work.stops c.args.held _ c.args.piece.now c.lines.rest.now c.in-Some.front.now c.in-Some.back.now _ _ c.lines.invariant.front c.in-Some.ensures.parts c.in-Ok.ensures.ok;
      awaits = c.in-Ok.ensures.next;
      begun = rw c.in-Ok.ensures.begun HasNoEnd-nil;
      few = few;
      goes_on = inl c.in-Ok.ensures.begun;
      little = c.in-Ok.ensures.little;
      counted = c.in-Ok.ensures.good ∙ c.lines.invariant.counted;
      shorter = omega arith;
      no_wider = omega arith;
      nearer = λ h. omega arith;
    }

pub returns-in-Ok-begin_line-clause-ok : goal.returns-in-Ok-begin_line-clause-ok
returns-in-Ok-begin_line-clause-ok g c =
    Front-rest g.W.Work.goes g.W.Work.stops c.args.held _ c.args.piece.now c.lines.rest.now _ _ c.lines.invariant.front
    (begun_advances g.W.Work.goes c.lines.self.lines _ c.lines.self.begun.items _ c.lines.rest.now c.lines.self.text.items _ _ _ c.lines.invariant.begun c.in_default.ensures.none c.in-Ok-begin_line.ensures.begun c.begin_line.ensures.lines c.begin_line.ensures.text)

pub returns-in-Ok-begin_line-clause-begun : goal.returns-in-Ok-begin_line-clause-begun
returns-in-Ok-begin_line-clause-begun g c = rw c.in-Ok-begin_line.ensures.begun (HasNoEnd-append c.lines.self.begun.items c.lines.rest.now c.lines.invariant.begun c.in_default.ensures.none)

pub returns-in-Ok-begin_line-clause-nearer : goal.returns-in-Ok-begin_line-clause-nearer
returns-in-Ok-begin_line-clause-nearer g c = λ some.
    room_less c.lines.self.lines _ c.lines.self.begun.items _ c.lines.rest.now _ (length c.args.piece.now) c.lines.invariant.shorter c.lines.invariant.no_wider c.lines.invariant.nearer
    c.in-Ok-begin_line.ensures.begun c.begin_line.ensures.lines c.in-Ok-begin_line.ensures.fits some

pub returns-in-Err-begin_line-clause-err : goal.returns-in-Err-begin_line-clause-err
returns-in-Err-begin_line-clause-err g c =
    Front-beyond g.W.Work.goes g.W.Work.stops c.args.held c.in-Err-begin_line.stop _ c.args.piece.now c.lines.rest.now c.lines.self.lines _ c.lines.self.begun.items _ c.lines.self.text.items _ _ _ c.lines.invariant.front c.lines.invariant.little
    c.in-Err-begin_line.ensures.err.0 c.in-Err-begin_line.ensures.err.1 c.begin_line.ensures.text
