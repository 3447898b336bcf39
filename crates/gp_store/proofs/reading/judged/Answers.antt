use Rattle.gp_store.proofs.reading.judged.Goals as goal

pub returns : goal.returns
returns c = rw (← c.deref.ensures.value) c.judge.ensures
