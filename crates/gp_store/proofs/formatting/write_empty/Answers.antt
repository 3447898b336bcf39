use Rattle.std.proofs.lemmas.Result.{on_ok_weaker}
use Rattle.gp_store.proofs.Formatted.{opened_no_rows, opened_blank, cleared_since, cleared_rest, named_since, named_rest, empty_since, empty_rest}
use Rattle.gp_store.proofs.formatting.write_empty.Goals as goal

pub returns-clause-since : goal.returns-clause-since
returns-clause-since g c =
    empty_since (g.D.Disk.image c.args.disk.now) (g.D.Disk.image c.clear.new.disk) (g.D.Disk.image c.name.new.disk) (g.D.Disk.tally c.args.disk.now).size (g.met.D.Disk.fits c.args.disk.now) c.requires.size c.requires.closed
    c.in_ok-clear.ensures.written c.in_ok-name.ensures.written (g.D.Disk.left c.args.disk.now) (g.D.Disk.left c.clear.new.disk) (g.D.Disk.left c.name.new.disk) (g.D.Disk.left c.open.new.disk) c.clear.ensures.since c.name.ensures.since c.open.ensures.since

pub returns-clause-written : goal.returns-clause-written
returns-clause-written g c =
    on_ok_weaker c.open.result
    (opened_no_rows (g.D.Disk.image c.args.disk.now) (g.D.Disk.image c.clear.new.disk) (g.D.Disk.image c.name.new.disk) (g.D.Disk.tally c.args.disk.now).size (g.met.D.Disk.fits c.args.disk.now) c.requires.size c.requires.closed
    c.in_ok-clear.ensures.written c.in_ok-name.ensures.written (g.D.Disk.image c.open.new.disk)) c.open.ensures.written

pub returns-clause-blank : goal.returns-clause-blank
returns-clause-blank g c =
    on_ok_weaker c.open.result
    (opened_blank (g.D.Disk.image c.args.disk.now) (g.D.Disk.image c.clear.new.disk) (g.D.Disk.image c.name.new.disk) (g.D.Disk.tally c.args.disk.now).size (g.met.D.Disk.fits c.args.disk.now) c.requires.size c.requires.closed
    c.in_ok-clear.ensures.written c.in_ok-name.ensures.written (g.D.Disk.image c.open.new.disk)) c.open.ensures.written

pub returns-clause-rest : goal.returns-clause-rest
returns-clause-rest g c =
    empty_rest (g.D.Disk.image c.args.disk.now) (g.D.Disk.image c.clear.new.disk) (g.D.Disk.image c.name.new.disk) (g.D.Disk.tally c.args.disk.now).size (g.met.D.Disk.fits c.args.disk.now) c.requires.size c.requires.closed
    c.in_ok-clear.ensures.written c.in_ok-name.ensures.written (g.D.Disk.left c.args.disk.now) (g.D.Disk.left c.clear.new.disk) (g.D.Disk.left c.name.new.disk) (g.D.Disk.left c.open.new.disk)
    (λ d is. g.met.D.Disk.counts_now c.args.disk.now d (g.met.D.Disk.holds c.args.disk.now d is)) c.clear.ensures.since c.name.ensures.since c.open.ensures.since

pub returns-in_err-clear-clause-since : goal.returns-in_err-clear-clause-since
returns-in_err-clear-clause-since g c = cleared_since (g.D.Disk.image c.args.disk.now) c.requires.closed (g.D.Disk.left c.args.disk.now) (g.D.Disk.left c.clear.new.disk) c.clear.ensures.since

pub returns-in_err-clear-clause-rest : goal.returns-in_err-clear-clause-rest
returns-in_err-clear-clause-rest g c =
    cleared_rest (g.D.Disk.image c.args.disk.now) c.requires.closed (g.D.Disk.left c.args.disk.now) (g.D.Disk.left c.clear.new.disk) c.clear.ensures.since (λ d is. g.met.D.Disk.counts_now c.args.disk.now d (g.met.D.Disk.holds c.args.disk.now d is))

pub returns-in_err-name-clause-since : goal.returns-in_err-name-clause-since
returns-in_err-name-clause-since g c =
    named_since (g.D.Disk.image c.args.disk.now) c.requires.closed (g.D.Disk.left c.args.disk.now) (g.D.Disk.left c.clear.new.disk) c.clear.ensures.since (g.D.Disk.image c.clear.new.disk) c.in_ok-clear.ensures.written (g.D.Disk.left c.name.new.disk) c.name.ensures.since

pub returns-in_err-name-clause-rest : goal.returns-in_err-name-clause-rest
returns-in_err-name-clause-rest g c =
    named_rest (g.D.Disk.image c.args.disk.now) c.requires.closed (g.D.Disk.left c.args.disk.now) (g.D.Disk.left c.clear.new.disk) c.clear.ensures.since (g.D.Disk.image c.clear.new.disk) c.in_ok-clear.ensures.written (g.D.Disk.left c.name.new.disk) c.name.ensures.since
    (λ d is. g.met.D.Disk.counts_now c.args.disk.now d (g.met.D.Disk.holds c.args.disk.now d is))
