use Rattle.gp_life.proofs.Finishing.{disk-counts, ends, remembers}
use Rattle.gp_life.proofs.running.live.Goals as goal

pub returns-clause-disk_counts : goal.returns-clause-disk_counts
returns-clause-disk_counts g c = disk-counts g.D.Disk c.args.disk c.run_life.result.1 c.run_life.result.0 _ _ _ _ c.run_life.ensures.leaves

pub returns-clause-lives : goal.returns-clause-lives
returns-clause-lives g c = λ image told. remembers g.D.Disk c.args.disk c.run_life.result.1 c.run_life.result.0 _ _ _ _ image told c.run_life.ensures.leaves

pub returns-clause-completes : goal.returns-clause-completes
returns-clause-completes g c = ends g.D.Disk c.args.disk (g.met.D.Disk.fits c.args.disk) c.run_life.result.1 c.run_life.result.0 _ _ _ _ _ _ _ _ c.run_life.ensures.leaves c.run_life.ensures.counts
