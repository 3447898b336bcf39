use Rattle.std.proofs.Common.{◌∙◌, arith}
use Rattle.gp_cluster.proofs.Messages.{is_found, again, is_refused, refuses}
use Rattle.gp_cluster.proofs.reading.decode.Goals as goal

pub returns-clause-found : goal.returns-clause-found
returns-clause-found c = is_found _ _ (λ i. omega (arith, c.type_inv.octets i)) c.read.ensures

pub returns-clause-only : goal.returns-clause-only
returns-clause-only c = λ zcl spelled. c.read.ensures ∙ again zcl _ spelled

pub returns-clause-refused : goal.returns-clause-refused
returns-clause-refused c = is_refused _ _ c.read.ensures

pub returns-clause-reason : goal.returns-clause-reason
returns-clause-reason c = λ reason first. c.read.ensures ∙ refuses _ reason first
