use Rattle.std.proofs.Common.{◌≡◌, ◌∷◌, [], ◌++◌, None, List, ℕ, length, subst, ap, ◌∙◌, arith}
use Rattle.gp_world.specs.World.{air_reports, entries, injected}
use Rattle.gp_net.specs.Inside.{Told}
use Rattle.gp_net.proofs.Coming.{told_by}
use Rattle.gp_net.proofs.Stepping.{injected_went}
use Rattle.gp_net.proofs.net.Net.inject.Goals as goal

pub returns-clause-comes : goal.returns-clause-comes
unfolding injected
returns-clause-comes c = λ model h.
    let count : c.len.result ≡ length model.air = omega (arith, c.len.ensures, c.args.self.now.air.ok.0, ap (length {A = List ℕ}) h.air) in
    injected_went _ model c.args.octets.now c.args.telling.now c.inject.new.self
    (record {
      air = c.put_last.ensures.added ∙ ap (λ (octets : List ℕ). c.args.self.now.air.items ++ octets ∷ []) c.copy.ensures ∙ ap (λ (air : List (List ℕ)). air ++ c.args.octets.now ∷ []) h.air;
      sent = h.sent;
      nodes = h.nodes;
    })
    (subst (λ (n : ℕ). Told (entries c.args.telling.now.line None (air_reports n (c.args.octets.now ∷ []))) c.args.telling.now c.inject.new.self) count (told_by _ _ c.args.telling.now c.inject.new.self c.inject.ensures))
