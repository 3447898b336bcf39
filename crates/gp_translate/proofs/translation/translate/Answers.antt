use Rattle.gp_translate.specs.Acts.{identifier}
use Rattle.gp_translate.proofs.translation.translate.Goals as goal

pub acts_among-requires-clause-few : goal.acts_among-requires-clause-few
acts_among-requires-clause-few c = rw c.as_slice.ensures.value (c.as_slice.ensures.rules.sparse c.args.source (identifier c.args.command.now))
