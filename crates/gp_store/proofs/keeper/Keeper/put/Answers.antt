use Rattle.std.proofs.Common.{true, Err, refl, arith}
use Rattle.gp_store.specs.Slots.{other_side}
use Rattle.gp_store.proofs.Stored.{IsStaleAt, IsSetAt, put_writable, put_survives, put_stands, put_ready, order_put, as_many_put}
use Rattle.gp_store.proofs.Committed.{committed}
use Rattle.gp_store.proofs.keeper.Keeper.put.Goals as goal

pub write_row-requires-clause-writable : goal.write_row-requires-clause-writable
write_row-requires-clause-writable g c = λ running.
    let found : IsStaleAt c.args.self.now.stale.items c.args.at c.stale_at-stale.result = rw (← c.deref.ensures.value) (record { there = c.stale_at-stale.ensures.there; behind = c.stale_at-stale.ensures.behind }) in
    put_writable (g.D.Disk.tally c.args.self.now.disk) (g.D.Disk.may_leave c.args.self.now.disk) (g.D.Disk.image c.args.self.now.disk) c.args.table.now c.args.self.now.stale.items c.args.self.now.marks.last c.args.at c.requires.kept.as_many c.stale_at-stale.result found (c.requires.kept.ready running) c.requires.may

pub returns-in-Ok-clause-kept : goal.returns-in-Ok-clause-kept
returns-in-Ok-clause-kept g c =
    let found : IsStaleAt c.args.self.now.stale.items c.args.at c.stale_at-stale.result = rw (← c.deref.ensures.value) (record { there = c.stale_at-stale.ensures.there; behind = c.stale_at-stale.ensures.behind }) in
    let set : IsSetAt c.args.self.now.stale.items c.args.at (other_side c.stale_at-stale.result.odd) c.set_stale.new.stales.items = record { there = c.set_stale.ensures.there; behind = c.set_stale.ensures.behind } in
    let ok = c.in-Ok.ensures in
    let is_ready = c.requires.kept.ready ok.reason.0 in
    let fits = c.requires.fits ok.reason.2 in
    record {
      roomy = omega (arith, c.requires.kept.roomy, c.set_stale.ensures.room);
      as_many = as_many_put c.args.table.now c.args.self.now.stale.items c.set_stale.new.stales.items c.args.at c.args.row.now (other_side c.stale_at-stale.result.odd) c.requires.kept.as_many c.requires.may set;
      orders = rw ok.marks (order_put c.args.table.now c.args.self.now.marks.last c.args.at c.args.row.now c.requires.kept.orders fits);
      ready = λ running. rw ok.marks (put_ready (g.D.Disk.tally c.args.self.now.disk) (g.D.Disk.may_leave c.args.self.now.disk) (g.D.Disk.image c.args.self.now.disk) c.args.table.now c.args.self.now.stale.items c.args.self.now.marks.last c.args.at c.requires.kept.as_many c.stale_at-stale.result found is_ready
          (g.D.Disk.image c.write_row.new.disk) c.args.row.now (g.D.Disk.left c.write_row.new.disk) true ok.writes refl (g.D.Disk.tally c.write_row.new.disk) (g.D.Disk.may_leave c.write_row.new.disk) fits (omega (arith, is_ready.size, ok.run.once.size)) ok.quiet c.set_stale.new.stales.items set);
      decided = λ running. rw ok.marks (c.requires.kept.decided ok.reason.0);
    }

pub returns-in-Ok-clause-commits : goal.returns-in-Ok-clause-commits
returns-in-Ok-clause-commits g c = λ change puts.
    let found : IsStaleAt c.args.self.now.stale.items c.args.at c.stale_at-stale.result = rw (← c.deref.ensures.value) (record { there = c.stale_at-stale.ensures.there; behind = c.stale_at-stale.ensures.behind }) in
    let ok = c.in-Ok.ensures in
    committed g.D.Disk c.args.self.now.disk c.write_row.new.disk c.args.table.now c.args.self.now.marks c.write_row.new.marks c.args.at c.stale_at-stale.result.odd c.args.row.now change puts _ ok.reason ok.marks ok.writes ok.run ok.fuse ok.cause ok.told ok.untouched
    (λ is_done running small w. put_survives (g.D.Disk.tally c.args.self.now.disk) (g.D.Disk.may_leave c.args.self.now.disk) (g.D.Disk.image c.args.self.now.disk) c.args.table.now c.args.self.now.stale.items c.args.self.now.marks.last c.args.at c.requires.kept.as_many c.stale_at-stale.result found (c.requires.kept.ready running)
    (g.D.Disk.image c.write_row.new.disk) c.args.row.now (g.D.Disk.left c.write_row.new.disk) is_done w (c.requires.fits small))
    (put_stands (g.D.Disk.tally c.args.self.now.disk) (g.D.Disk.may_leave c.args.self.now.disk) (g.D.Disk.image c.args.self.now.disk) c.args.table.now c.args.self.now.stale.items c.args.self.now.marks.last c.args.at c.requires.kept.as_many c.stale_at-stale.result found (c.requires.kept.ready ok.reason.0)
    (g.D.Disk.image c.write_row.new.disk) c.args.row.now (g.D.Disk.left c.write_row.new.disk) true ok.writes refl (g.D.Disk.tally c.write_row.new.disk) (g.D.Disk.may_leave c.write_row.new.disk) (c.requires.fits ok.reason.2) ok.quiet.only)

pub returns-in-Err-clause-commits : goal.returns-in-Err-clause-commits
returns-in-Err-clause-commits g c = λ change puts.
    let found : IsStaleAt c.args.self.now.stale.items c.args.at c.stale_at-stale.result = rw (← c.deref.ensures.value) (record { there = c.stale_at-stale.ensures.there; behind = c.stale_at-stale.ensures.behind }) in
    let err = c.in-Err.ensures in
    committed g.D.Disk c.args.self.now.disk c.write_row.new.disk c.args.table.now c.args.self.now.marks c.write_row.new.marks c.args.at c.stale_at-stale.result.odd c.args.row.now change puts (Err c.in-Err.fault) err.reason err.marks err.writes err.run err.fuse err.cause err.told err.untouched
    (λ is_done running small w. put_survives (g.D.Disk.tally c.args.self.now.disk) (g.D.Disk.may_leave c.args.self.now.disk) (g.D.Disk.image c.args.self.now.disk) c.args.table.now c.args.self.now.stale.items c.args.self.now.marks.last c.args.at c.requires.kept.as_many c.stale_at-stale.result found (c.requires.kept.ready running)
    (g.D.Disk.image c.write_row.new.disk) c.args.row.now (g.D.Disk.left c.write_row.new.disk) is_done w (c.requires.fits small))
    tt
