use Rattle.gp_store.proofs.store.Store.rows.Goals as goal

pub returns-clause-stands : goal.returns-clause-stands
returns-clause-stands g c = rw (← c.self.view_is) (λ running image left.
    let ready = c.self.invariant.ready running in
    let told = ready.told image (ready.quiet.only image left) in
    (told.holds, told.has_last))
