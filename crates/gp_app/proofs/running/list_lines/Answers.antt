use Rattle.gp_listing.specs.Form.{listing_of}
use Rattle.gp_app.proofs.Completeness.{completes}
use Rattle.gp_app.proofs.running.list_lines.Goals as goal

pub returns-clause-completes : goal.returns-clause-completes
returns-clause-completes g c = completes (listing_of c.args.form) c.list_all.result _ _ _ _ _ _ _ _ c.list_all.ensures.leaves c.list_all.ensures.counts
