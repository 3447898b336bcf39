-- A command that is protected is carried.
use Rattle.std.proofs.Common.{◌≡◌, ℕ, ◌⊎◌, inl, inr, List, Some, refl, sym, ap, ◌∙◌, arith, ◌≤◌}
use Rattle.gp_frames.specs.declared.frame.Gpdf.{Gpdf}
use Rattle.gp_frames.specs.Frame.{IsFrame, header, level_of}
use Rattle.gp_security.specs.Protection.{Good, nonce_of, protected}
use Rattle.gp_security.proofs.Carried.{carried-secured}

abbrev pub with : Gpdf → List ℕ → List ℕ → Gpdf
with f body mic = record f { body = body; mic = Some mic }

-- what protects a command depends on neither body nor MIC
protected-with : (key : List ℕ) (f : Gpdf) (c body mic : List ℕ) → protected key (with f body mic) c ≡ protected key f c
unfolding nonce_of header
protected-with key f c body mic = refl

pub at_least_two : (f : Gpdf) → (level_of f ≡ 2) ⊎ (level_of f ≡ 3) → 2 ≤ level_of f
at_least_two f (inl h) = omega (arith, h)
at_least_two f (inr h) = omega (arith, h)

pub is_good : (key : List ℕ) (f : Gpdf) (c body tag mic : List ℕ) → (level_of f ≡ 2) ⊎ (level_of f ≡ 3) →
    ◌≡◌ {A = List ℕ × List ℕ} (body, tag) (protected key f c) → mic ≡ tag → IsFrame (with f body mic) → Good key (with f body mic) c
is_good key f c body tag mic level e same spelled =
    let all = e ∙ sym (protected-with key f c body mic) in
    record {
      spelled = spelled;
      secured = carried-secured f (at_least_two f level);
      body = ap (λ (p : List ℕ × List ℕ). p.0) all;
      mic = ap (λ (m : List ℕ). Some m) (same ∙ ap (λ (p : List ℕ × List ℕ). p.1) all);
    }
