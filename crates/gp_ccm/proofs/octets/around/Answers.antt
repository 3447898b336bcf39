use Rattle.std.proofs.Common.{◌≡◌, ◌/◌, ◌%◌, ◌∙◌, [], ◌∷◌, ◌++◌, get_or, sym, ap, refl, arith}
use Rattle.std.proofs.lemmas.List.FromFn.{fill_by_all}
use Rattle.gp_ccm.proofs.octets.around.Goals as goal

pub returns : goal.returns
returns c =
    let nonce = c.args.nonce.now in
    let last = c.args.last in
    let spelled = fill_by_all (λ k. get_or nonce k 0) nonce 13 0 c.told-nonce (λ k _. refl) in
    let high : last / 256 ≡ last / 256 % 256 = omega arith in
    ap (λ ns. c.args.first ∷ (ns ++ (last / 256 ∷ last % 256 ∷ []))) (sym spelled)
    ∙ ap (λ h. c.args.first ∷ (nonce ++ (h ∷ last % 256 ∷ []))) high
