-- Octets that end lines and begin another, one piece after the other.
use Rattle.std.proofs.Common.{◌≡◌, ℕ, ◌<◌, ◌≤◌, inl, inr, List, [], ◌∷◌, ◌++◌, length, refl, sym, ap, ◌∙◌, append_assoc, arith}
use Rattle.std.specs.Str.Lines.{lines, strip_carriage_return}
use Rattle.std.proofs.lemmas.List.{append-nil, length-append}
use Rattle.gp_lines.specs.Lines.{HasNoEnd, IsBeyond, complete}
use Rattle.gp_lines.specs.Cutting.{AreWhole, Cuts, MakesLine, GoesBeyond}
use Rattle.gp_lines.proofs.LineLemmas.{lines-append-end, HasNoEnd-nil, HasNoEnd-append, IsTooWide, first_of-begun, first_of-wide}
use Rattle.gp_lines.proofs.CompleteLines.{complete-append, complete-line}

AreWhole-append : (a b : List ℕ) → AreWhole a → AreWhole b → AreWhole (a ++ b)
AreWhole-append a b h (inl none) = rw (none, append-nil a) h
AreWhole-append a b h (inr some) = inr (a ++ some.0, ap (λ (xs : List ℕ). a ++ xs) some.1 ∙ sym (append_assoc a some.0 (10 ∷ [])))

-- nothing yet
pub Cuts-nothing : (begun : List ℕ) → HasNoEnd begun → Cuts begun [] [] begun
Cuts-nothing begun none = record { whole = []; parts = append-nil begun; going = λ rest. refl; are_whole = inl refl; begun = none }

-- one piece behind the other
pub Cuts-then : (begun one : List ℕ) (ended : List (List ℕ)) (begun' two : List ℕ) (more : List (List ℕ)) (begun'' : List ℕ)
    → Cuts begun one ended begun' → Cuts begun' two more begun'' → Cuts begun (one ++ two) (ended ++ more) begun''
Cuts-then begun one ended begun' two more begun'' h k = record {
  whole = h.whole ++ k.whole;
  parts = sym (append_assoc begun one two) ∙ ap (λ (xs : List ℕ). xs ++ two) h.parts ∙ append_assoc h.whole begun' two ∙ ap (λ (xs : List ℕ). h.whole ++ xs) k.parts ∙ sym (append_assoc h.whole k.whole begun'');
  going = λ rest. ap lines (append_assoc h.whole k.whole rest) ∙ h.going (k.whole ++ rest) ∙ ap (λ (xs : List (List ℕ)). ended ++ xs) (k.going rest) ∙ sym (append_assoc ended more (lines rest));
  are_whole = AreWhole-append h.whole k.whole h.are_whole k.are_whole;
  begun = k.begun;
}

-- the lines of more octets behind those that were cut
pub Cuts-going : (begun one : List ℕ) (ended : List (List ℕ)) (begun' rest : List ℕ) → Cuts begun one ended begun'
    → lines (begun ++ (one ++ rest)) ≡ ended ++ lines (begun' ++ rest)
Cuts-going begun one ended begun' rest h =
    ap lines (sym (append_assoc begun one rest) ∙ ap (λ (xs : List ℕ). xs ++ rest) h.parts ∙ append_assoc h.whole begun' rest) ∙ h.going (begun' ++ rest)

-- and the lines that stand complete in them
pub Cuts-complete : (begun one : List ℕ) (ended : List (List ℕ)) (begun' rest : List ℕ) → Cuts begun one ended begun'
    → lines (complete (begun ++ (one ++ rest))) ≡ ended ++ lines (complete (begun' ++ rest))
Cuts-complete begun one ended begun' rest h =
    ap (λ (xs : List ℕ). lines (complete xs)) (sym (append_assoc begun one rest) ∙ ap (λ (xs : List ℕ). xs ++ rest) h.parts ∙ append_assoc h.whole begun' rest)
    ∙ ap lines (complete-append h.whole (begun' ++ rest) h.are_whole) ∙ h.going (complete (begun' ++ rest))

-- an LF ends the line
pub Cuts-line : (begun front line : List ℕ) → HasNoEnd begun → HasNoEnd front → line ≡ strip_carriage_return (begun ++ front) → Cuts begun (front ++ 10 ∷ []) (line ∷ []) []
Cuts-line begun front line none none' is = record {
  whole = (begun ++ front) ++ 10 ∷ [];
  parts = sym (append_assoc begun front (10 ∷ [])) ∙ sym (append-nil ((begun ++ front) ++ 10 ∷ []));
  going = λ rest. ap lines (append_assoc (begun ++ front) (10 ∷ []) rest) ∙ lines-append-end (begun ++ front) rest (HasNoEnd-append begun front none none') ∙ ap (λ (xs : List ℕ). xs ∷ lines rest) (sym is);
  are_whole = inr (begun ++ front, refl);
  begun = HasNoEnd-nil;
}

-- a line goes on
pub Cuts-on : (begun more : List ℕ) → HasNoEnd begun → HasNoEnd more → Cuts begun more [] (begun ++ more)
Cuts-on begun more none none' = record { whole = []; parts = refl; going = λ rest. refl; are_whole = inl refl; begun = HasNoEnd-append begun more none none' }

-- octets that make a line, and more that wasn't looked at
pub MakesLine-more : (begun two more line : List ℕ) → MakesLine begun two line → MakesLine begun (two ++ more) line
MakesLine-more begun two more line h = (h.0, h.1 ++ more, ap (λ (xs : List ℕ). xs ++ more) h.2 ∙ append_assoc h.0 (10 ∷ h.1) more, h.3, h.4)

-- the lines then, whatever comes after them, and those that stand complete
pub MakesLine-lines : (begun octets line rest : List ℕ) → MakesLine begun octets line → (others : List (List ℕ)) × (lines (begun ++ (octets ++ rest)) ≡ line ∷ others)
MakesLine-lines begun octets line rest h = (
  lines (h.1 ++ rest),
  ap (λ (xs : List ℕ). lines (begun ++ (xs ++ rest))) h.2 ∙ ap (λ (xs : List ℕ). lines (begun ++ xs)) (append_assoc h.0 (10 ∷ h.1) rest) ∙ ap lines (sym (append_assoc begun h.0 (10 ∷ (h.1 ++ rest))))
      ∙ lines-append-end (begun ++ h.0) (h.1 ++ rest) h.3 ∙ ap (λ (x : List ℕ). x ∷ lines (h.1 ++ rest)) (sym h.4),
)

pub MakesLine-complete : (begun octets line : List ℕ) → MakesLine begun octets line → (others : List (List ℕ)) × (lines (complete (begun ++ octets)) ≡ line ∷ others)
MakesLine-complete begun octets line h = (
  lines (complete h.1),
  ap (λ (xs : List ℕ). lines (complete (begun ++ xs))) h.2 ∙ ap (λ (xs : List ℕ). lines (complete xs)) (sym (append_assoc begun h.0 (10 ∷ h.1))) ∙ ap lines (complete-line (begun ++ h.0) h.1)
      ∙ lines-append-end (begun ++ h.0) (complete h.1) h.3 ∙ ap (λ (x : List ℕ). x ∷ lines (complete h.1)) (sym h.4),
)

pub GoesBeyond-more : (n : ℕ) (begun two more : List ℕ) → GoesBeyond n begun two → GoesBeyond n begun (two ++ more)
GoesBeyond-more n begun two more h = λ rest.
    let there = h (more ++ rest) in
    (there.0, there.1, ap (λ (xs : List ℕ). lines (begun ++ xs)) (append_assoc two more rest) ∙ there.2, there.3)

-- an LF makes the line
pub MakesLine-end : (begun front line : List ℕ) → HasNoEnd begun → HasNoEnd front → line ≡ strip_carriage_return (begun ++ front) → MakesLine begun (front ++ 10 ∷ []) line
MakesLine-end begun front line none none' is = (front, [], refl, HasNoEnd-append begun front none none', is)

pub GoesBeyond-end : (n : ℕ) (begun front line : List ℕ) → HasNoEnd begun → HasNoEnd front → line ≡ strip_carriage_return (begun ++ front) → IsBeyond n line → GoesBeyond n begun (front ++ 10 ∷ [])
GoesBeyond-end n begun front line none none' is beyond = λ rest.
    let made = MakesLine-lines begun (front ++ 10 ∷ []) line rest (MakesLine-end begun front line none none' is) in
    (line, made.0, made.1, beyond)

-- a line begins that is one too many
pub GoesBeyond-many : (n : ℕ) (begun more : List ℕ) → HasNoEnd begun → HasNoEnd more → 0 < length more → 1000000 ≤ n → GoesBeyond n begun more
GoesBeyond-many n begun more none none' some many = λ rest.
    let first = first_of-begun (begun ++ more) rest (HasNoEnd-append begun more none none') (omega (arith, length-append begun more)) in
    (first.0, first.1, ap lines (sym (append_assoc begun more rest)) ∙ first.2, inl many)

-- a line is too wide
pub GoesBeyond-wide : (n : ℕ) (begun more : List ℕ) → HasNoEnd begun → HasNoEnd more → IsTooWide (begun ++ more) → GoesBeyond n begun more
GoesBeyond-wide n begun more none none' wide = λ rest.
    let first = first_of-wide (begun ++ more) rest (HasNoEnd-append begun more none none') wide in
    (first.0, first.1, ap lines (sym (append_assoc begun more rest)) ∙ first.2, inr first.3)
