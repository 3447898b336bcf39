use Rattle.std.proofs.Common.{ap, ◌∙◌}
use Rattle.gp_script.specs.Words.{is_done}
use Rattle.gp_script.proofs.Splitting.{done_from}
use Rattle.gp_script.proofs.words.Words.is_done.Goals as goal

pub returns : goal.returns
returns c = done_from (λ rest. rest.now) c.self.inside.rest _ c.is_none.ensures ∙ ap is_done c.self.view_is
