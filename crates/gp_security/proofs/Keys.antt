-- At most one key wraps to these octets.
use Rattle.std.proofs.Common.{◌≡◌, ℕ, List, Result, Ok, Err, sym, ap, ◌∙◌}
use Rattle.std.specs.Prelude.{IfOk}
use Rattle.gp_base.specs.declared.identity.Key.{Key}
use Rattle.gp_ccm.specs.Ccm.{encrypted}
use Rattle.gp_ccm.proofs.CcmLemmas.{encrypted-encrypted}
use Rattle.gp_security.specs.declared.wrapping.Way.{Way}
use Rattle.gp_security.specs.Wrapping.{wrap, wrap_nonce}

one_message : (key nonce x y : List ℕ) → encrypted key nonce x ≡ encrypted key nonce y → x ≡ y
one_message key nonce x y e = sym (encrypted-encrypted key nonce x) ∙ ap (encrypted key nonce) e ∙ encrypted-encrypted key nonce y

pub is_only : {E : Type 0} (link : List ℕ) (source : ℕ) (way : Way) (told : List ℕ × List ℕ) (r : Result Key E) →
    IfOk r (λ key. wrap link source way key.0 ≡ told) → IfOk r (λ key. (other : List ℕ) → wrap link source way other ≡ told → other ≡ key.0)
is_only link source way told (Ok key) e = λ other h. one_message link (wrap_nonce source way) other key.0 (ap (λ (p : List ℕ × List ℕ). p.0) (h ∙ sym e))
is_only link source way told (Err x) e = tt
