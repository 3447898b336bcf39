-- What is opened of a frame is what it carries.
use Rattle.std.proofs.Common.{◌≡◌, ℕ, eqb, Bool, true, false, List, [], ◌++◌, Option, Some, None, Result, Ok, Err, if◌then◌else◌, refl, sym, ap, ◌∙◌}
use Rattle.std.specs.Prelude.{IsTrue, IfOk, OnErr}
use Rattle.std.specs.Bool.{Decides}
use Rattle.std.specs.Option.{option_map_or}
use Rattle.std.specs.Result.{OkIff, result_ok}
use Rattle.std.specs.Str.{bytes_eq}
use Rattle.std.proofs.lemmas.Slice.Eq.{bytes_eq-Decides}
use Rattle.gp_ccm.specs.Ccm.{ccm, encrypted, tag_of}
use Rattle.gp_ccm.proofs.CcmLemmas.{encrypted-encrypted}
use Rattle.gp_frames.specs.declared.frame.Gpdf.{Gpdf}
use Rattle.gp_frames.specs.Frame.{IsFrame, header, is_secured, level_of}
use Rattle.gp_security.specs.Protection.{Good, authenticated, in_clear, message, nonce_of, opened, protected}

-- ---- answers that are there exactly where a test says so

tested : {E : Type 0} (test : Bool) (P : Type 0) (v : List ℕ) (r : Result (List ℕ) E) → Decides test P → OkIff r P v → result_ok r ≡ (if test then Some v else None)
tested true P v (Ok x) d o = ap (λ (y : List ℕ). Some y) o.1
tested true P v (Err e) d o = absurd (o (d.0 refl))
tested false P v (Ok x) d o = absurd (let e = d.1 o.0 in cc)
tested false P v (Err e) d o = refl

taken : (test : Bool) (v c : List ℕ) → (if test then Some v else None) ≡ Some c → (test ≡ true) × (v ≡ c)
taken true v c e = (refl, cc)
taken false v c e = absurd cc

ok_of : {E : Type 0} (r : Result (List ℕ) E) (c : List ℕ) → result_ok r ≡ Some c → r ≡ Ok c
ok_of (Ok x) c e = let same : x ≡ c = cc in ap (λ (y : List ℕ). Ok y) same
ok_of (Err x) c e = absurd cc

-- ---- encrypted twice, a body is what it was

pub encrypted_empty : (key nonce : List ℕ) → encrypted key nonce [] ≡ []
unfolding encrypted
encrypted_empty key nonce = refl

body_by : (three : Bool) (key nonce body : List ℕ) →
    body ≡ (if three then encrypted key nonce (if three then (if three then encrypted key nonce body else body) else []) else (if three then encrypted key nonce body else body))
body_by true key nonce body = sym (encrypted-encrypted key nonce body)
body_by false key nonce body = refl

clear_by : (three : Bool) (key nonce body c : List ℕ) → body ≡ (if three then encrypted key nonce (if three then c else []) else c) → (if three then encrypted key nonce body else body) ≡ c
clear_by true key nonce body c h = ap (encrypted key nonce) h ∙ encrypted-encrypted key nonce c
clear_by false key nonce body c h = h

body_back : (key : List ℕ) (f : Gpdf) → f.body ≡ (protected key f (in_clear key f)).0
body_back key f = body_by (eqb (level_of f) 3) key (nonce_of f) f.body

clear_back : (key : List ℕ) (f : Gpdf) (c : List ℕ) → f.body ≡ (protected key f c).0 → in_clear key f ≡ c
clear_back key f c h = clear_by (eqb (level_of f) 3) key (nonce_of f) f.body c h

-- ---- the MIC that opening compares with

tag_by : (three : Bool) (key nonce head body : List ℕ) →
    tag_of key nonce (if three then head else head ++ body) (encrypted key nonce (if three then body else [])) 4
    ≡ (ccm key nonce (if three then head else head ++ (if three then encrypted key nonce body else body)) (if three then (if three then encrypted key nonce body else body) else []) 4).1
tag_by true key nonce head body = refl
tag_by false key nonce head body = ap (λ (m : List ℕ). tag_of key nonce (head ++ body) m 4) (encrypted_empty key nonce)

pub tag_is : (key : List ℕ) (f : Gpdf) → tag_of key (nonce_of f) (authenticated f f.body) (encrypted key (nonce_of f) (message f f.body)) 4 ≡ (protected key f (in_clear key f)).1
tag_is key f = tag_by (eqb (level_of f) 3) key (nonce_of f) (header f) f.body

clear_of : (three : Bool) (key nonce body : List ℕ) → (if three then encrypted key nonce (if three then body else []) else body) ≡ (if three then encrypted key nonce body else body)
clear_of true key nonce body = refl
clear_of false key nonce body = refl

pub clear_is : (key : List ℕ) (f : Gpdf) → (if eqb (level_of f) 3 then encrypted key (nonce_of f) (message f f.body) else f.body) ≡ in_clear key f
clear_is key f = clear_of (eqb (level_of f) 3) key (nonce_of f) f.body

-- ---- what is opened is carried, and what is carried is opened

abbrev opened_by : (key : List ℕ) (f : Gpdf) → Option (List ℕ) → List ℕ → Option (List ℕ)
opened_by key f mic c = if bytes_eq (option_map_or (λ (m : List ℕ). m) mic []) (protected key f c).1 then Some c else None

opened-is : (key : List ℕ) (f : Gpdf) → opened key f ≡ opened_by key f f.mic (in_clear key f)
unfolding opened
opened-is key f = refl

pub answered : {E : Type 0} (key : List ℕ) (f : Gpdf) (mic : List ℕ) (r : Result (List ℕ) E) → f.mic ≡ Some mic →
    OkIff r (mic ≡ (protected key f (in_clear key f)).1) (in_clear key f) → result_ok r ≡ opened key f
answered key f mic r has told =
    tested _ _ (in_clear key f) r (bytes_eq-Decides mic (protected key f (in_clear key f)).1) told
    ∙ ap (λ (m : Option (List ℕ)). opened_by key f m (in_clear key f)) (sym has) ∙ sym (opened-is key f)

good_opened : (key : List ℕ) (f : Gpdf) (c : List ℕ) → Good key f c → opened key f ≡ Some c
good_opened key f c good =
    let mic = (protected key f c).1 in
    opened-is key f ∙ ap (opened_by key f f.mic) (clear_back key f c good.body) ∙ ap (λ (m : Option (List ℕ)). opened_by key f m c) good.mic
    ∙ ap (λ (b : Bool). if b then Some c else None) ((bytes_eq-Decides mic mic).1 refl)

pub opened_good : (key : List ℕ) (f : Gpdf) (mic c : List ℕ) → IsFrame f → IsTrue (is_secured f) → f.mic ≡ Some mic → opened key f ≡ Some c → Good key f c
opened_good key f mic c spelled secured has e =
    let clear = in_clear key f in
    let found = taken (bytes_eq mic (protected key f clear).1) clear c (ap (λ (m : Option (List ℕ)). opened_by key f m clear) (sym has) ∙ sym (opened-is key f) ∙ e) in
    let right = (bytes_eq-Decides mic (protected key f clear).1).0 found.0 in
    record {
      spelled = spelled;
      secured = secured;
      body = body_back key f ∙ ap (λ (x : List ℕ). (protected key f x).0) found.1;
      mic = has ∙ ap (λ (m : List ℕ). Some m) (right ∙ ap (λ (x : List ℕ). (protected key f x).1) found.1);
    }

-- ---- the same of an answer

pub is_found : {E : Type 0} (key : List ℕ) (f : Gpdf) (mic : List ℕ) (r : Result (List ℕ) E) → IsFrame f → IsTrue (is_secured f) → f.mic ≡ Some mic →
    result_ok r ≡ opened key f → IfOk r (λ c. Good key f c)
is_found key f mic (Ok c) spelled secured has e = opened_good key f mic c spelled secured has (sym e)
is_found key f mic (Err x) spelled secured has e = tt

pub is_only : {E : Type 0} (key : List ℕ) (f : Gpdf) (r : Result (List ℕ) E) → result_ok r ≡ opened key f → (c : List ℕ) → Good key f c → r ≡ Ok c
is_only key f r e c good = ok_of r c (e ∙ good_opened key f c good)

pub is_refused : {E : Type 0} (key : List ℕ) (f : Gpdf) (r : Result (List ℕ) E) → result_ok r ≡ opened key f → OnErr r ((c : List ℕ) → Good key f c → ⊥)
is_refused key f (Ok x) e = tt
is_refused key f (Err x) e = λ c good. absurd (let told = e ∙ good_opened key f c good in cc)
