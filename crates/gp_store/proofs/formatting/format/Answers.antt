use Rattle.std.proofs.Common.{inl, inr, ⊎_elim, arith, rules, refl}
use Rattle.gp_disk.specs.Fuse.{lit}
use Rattle.gp_store.specs.Formatting.{format_calls}
use Rattle.gp_store.proofs.Counts.{one_went, went_on}
use Rattle.gp_store.proofs.formatting.format.Goals as goal

pub returns-in-Err-write_empty-clause-refused : goal.returns-in-Err-write_empty-clause-refused
unfolding format_calls
returns-in-Err-write_empty-clause-refused g c = record {
  refuses = search rules;
  untouched = search rules;
  since = λ image left. ⊎_elim (λ was. inl (c.settle.ensures.since image (c.read_gate.ensures.kept.since.none image was))) (λ other. inr other) (c.write_empty.ensures.since image left);
  rest = λ image left. let r = c.write_empty.ensures.rest image left in (r.0, c.settle.ensures.since r.0 (c.read_gate.ensures.kept.since.none r.0 r.1), r.2);
  already = search rules;
  left_alone = search rules;
  told = search rules;
  image = search rules;
  run = search rules;
  good = search rules;
  failed = search rules;
  calls = search rules;
  calls_failed = search rules;
}

pub returns-in-Ok-write_empty-clause-formatted : goal.returns-in-Ok-write_empty-clause-formatted
unfolding format_calls
returns-in-Ok-write_empty-clause-formatted g c = record {
  large = search rules;
  closed = search rules;
  empty = λ image left. c.in-Ok-write_empty.ensures.written image (c.in-Ok-write_empty.ensures.quiet.only image left);
  blank = λ image left. c.in-Ok-write_empty.ensures.blank image (c.in-Ok-write_empty.ensures.quiet.only image left);
  since = λ image left. ⊎_elim (λ was. inl (c.settle.ensures.since image (c.read_gate.ensures.kept.since.none image was))) (λ other. inr other) (c.write_empty.ensures.since image left);
  rest = λ image left. let r = c.write_empty.ensures.rest image left in (r.0, c.settle.ensures.since r.0 (c.read_gate.ensures.kept.since.none r.0 r.1), r.2);
  told = search rules;
  run = search rules;
  writes = search rules;
  few = search rules;
  good = search rules;
  calls = search rules;
}

pub returns-in-Ok-true-clause-refused : goal.returns-in-Ok-true-clause-refused
unfolding format_calls
returns-in-Ok-true-clause-refused g c = record {
  refuses = search rules;
  untouched = search rules;
  since = λ image left. inl (c.settle.ensures.since image (c.read_gate.ensures.kept.since.none image left));
  rest = λ image left. (image, c.settle.ensures.since image (c.read_gate.ensures.kept.since.none image left), refl);
  already = search rules;
  left_alone = search rules;
  told = search rules;
  image = search rules;
  run = search rules;
  good = search rules;
  failed = search rules;
  calls = λ same.
      let read = one_went 1 (g.D.Disk.fuse c.settle.new.disk) (g.D.Disk.fuse c.read_gate.new.disk) c.in-Ok-true.ensures.fuse c.in-Ok-true.ensures.foretold in
      went_on 1 1 8 (lit (g.D.Disk.fuse c.args.disk.now)) (g.D.Disk.fuse c.settle.new.disk) (g.D.Disk.fuse c.read_gate.new.disk) (omega arith) c.in-Ok.ensures.fuse (inr c.in-Ok.ensures.foretold) read;
  calls_failed = search rules;
}
