use Rattle.std.proofs.Common.{ap, sym, ◌∙◌}
use Rattle.gp_script.specs.Words.{words_left}
use Rattle.gp_script.proofs.Splitting.{first_taken, last_taken}
use Rattle.gp_script.proofs.words.Words.next.Goals as goal

pub returns-in-Some : goal.returns-in-Some
returns-in-Some c =
    let found = c.in-Some.ensures in
    sym c.self.view_is ∙ ap (words_left (λ rest. rest.now)) c.in_ok-rest.was
    ∙ first_taken c.in_ok-rest.rest.now _ _ c.in-Some.end found.0.high found.0.before found.1 c.split_at.ensures.front c.split_at.ensures.back

pub returns-in-None : goal.returns-in-None
returns-in-None c =
    sym c.self.view_is ∙ ap (words_left (λ rest. rest.now)) c.in_ok-rest.was ∙ last_taken c.in_ok-rest.rest.now c.in-None.ensures
