-- Words added to a text.
use Rattle.std.proofs.Common.{◌≡◌, ℕ, List, [], ◌∷◌, ◌++◌, sym, ◌∙◌, append_assoc}
use Rattle.std.proofs.lemmas.List.{append-nil}
use Rattle.gp_script.specs.Words.{spaced, added}

pub added_is : (text : List ℕ) (ws : List (List ℕ)) → added text ws ≡ text ++ spaced ws
added_is text [] = sym (append-nil text)
added_is text (w ∷ ws) = added_is (text ++ (32 ∷ w)) ws ∙ append_assoc text (32 ∷ w) (spaced ws)

pub line_added : (old w v : List ℕ) (ws : List (List ℕ)) → added ((old ++ w) ++ (32 ∷ v)) ws ≡ old ++ (w ++ (32 ∷ (v ++ spaced ws)))
line_added old w v ws = added_is ((old ++ w) ++ (32 ∷ v)) ws ∙ append_assoc (old ++ w) (32 ∷ v) (spaced ws) ∙ append_assoc old w (32 ∷ (v ++ spaced ws))
