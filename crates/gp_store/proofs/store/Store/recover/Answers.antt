use Rattle.std.proofs.Common.{◌∙◌, sym, arith, rules, refl}
use Rattle.gp_store.specs.Recovery.{recovery_calls}
use Rattle.gp_store.proofs.OneList.{has_rows}
use Rattle.gp_store.proofs.Recovered.{all_told}
use Rattle.gp_store.proofs.store.Store.recover.Goals as goal

pub stored-requires-clause-told : goal.stored-requires-clause-told
stored-requires-clause-told g c = λ d is.
    let was = sym c.read_disk.ensures.image ∙ is in
    let r = c.in-Ok-read_disk.ensures.rows d was in
    let long = g.met.D.Disk.fits c.args.disk d was in
    all_told d c.read_disk.new.found (omega (arith, long, c.size.ensures)) r.0 r.1

pub returns-in-Ok-read_disk-clause-recovered : goal.returns-in-Ok-read_disk-clause-recovered
unfolding recovery_calls
returns-in-Ok-read_disk-clause-recovered g c = rw c.stored.ensures (record {
  large = omega (arith, c.size.ensures);
  rows = λ d is.
      let r = c.in-Ok-read_disk.ensures.rows d is in
      let long = g.met.D.Disk.fits c.args.disk d is in
      let t = all_told d c.read_disk.new.found (omega (arith, long, c.size.ensures)) r.0 r.1 in
      has_rows d c.read_disk.new.found.table t.holds c.read_disk.new.found.last t.has_last;
  table = c.read_disk.ensures.found.table;
  within = c.read_disk.ensures.found.orders;
  running = refl;
  decided = refl;
  stands = λ d left.
      let is = sym c.read_disk.ensures.image ∙ c.in-Ok-read_disk.ensures.quiet.only d left in
      let r = c.in-Ok-read_disk.ensures.rows d is in
      let long = g.met.D.Disk.fits c.args.disk d is in
      let t = all_told d c.read_disk.new.found (omega (arith, long, c.size.ensures)) r.0 r.1 in
      (t.holds, t.has_last);
  quiet = c.in-Ok-read_disk.ensures.quiet;
  image = c.read_disk.ensures.image;
  since = c.read_disk.ensures.since;
  no_write = c.read_disk.ensures.counts;
  good = search rules;
  calls = record { fuse = c.in-Ok-read_disk.ensures.fuse; foretold = c.in-Ok-read_disk.ensures.gone };
})
