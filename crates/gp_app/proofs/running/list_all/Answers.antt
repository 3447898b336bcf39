use Rattle.gp_lines.specs.Work as work
use Rattle.gp_lines.proofs.Meanings.{Leaves-map}
use Rattle.gp_app.specs.declared.decoding.Decoding.{Decoding}
use Rattle.gp_listing.specs.Form.{listing_of}
use Rattle.gp_app.specs.Decoding.{IsListed, IsUnlisted}
use Rattle.gp_app.proofs.Decodings.{steps, halting, chain_is, halts_is}
use Rattle.gp_app.proofs.Outcomes.{outcome_leaves}
use Rattle.gp_app.proofs.running.list_all.Goals as goal

pub returns-clause-leaves : goal.returns-clause-leaves
returns-clause-leaves g c =
    let start : Decoding = record { alloc = c.args.alloc; form = c.args.form } in
    outcome_leaves (listing_of c.args.form) 65536 c.run_lines.new.work c.run_lines.result _ _ _ _
    (Leaves-map (work.Chain steps start 1) (IsListed (listing_of c.args.form)) (work.Halts steps halting start) (IsUnlisted (listing_of c.args.form)) 65536 c.run_lines.new.work
    (λ ended text s. chain_is start ended text s) (λ ended text line halt. halts_is start ended text line halt c.run_lines.new.work)
    _ _ _ _ _ c.run_lines.ensures.leaves)
