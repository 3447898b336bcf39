-- How far a work has come, one step after the other.
use Rattle.std.proofs.Common.{◌≡◌, ℕ, ◌+◌, ◌<◌, ◌≤◌, List, [], ◌∷◌, ◌++◌, length, take, Option, refl, sym, ap, subst, ◌∙◌, append_assoc, arith}
use Rattle.std.specs.Str.Lines.{lines, strip_carriage_return}
use Rattle.std.specs.Io.KnownBytes.{Appends}
use Rattle.std.proofs.lemmas.List.{append-nil, length-append}
use Rattle.std.proofs.lemmas.List.Elements.{All-append, All-nil, All-cons}
use Rattle.gp_lines.specs.declared.work.Halt.{Halt}
use Rattle.gp_lines.specs.declared.stop.Stop.{Stop}
use Rattle.gp_lines.specs.declared.stop.Stop.TheVariants.{TooLong, WriteFault, Halted}
use Rattle.gp_lines.specs.Lines.{AreNarrow, HasNoEnd, IsWithin}
use Rattle.gp_lines.specs.Cutting.{GoesBeyond, room}
use Rattle.gp_lines.specs.Work.{Grows}
use Rattle.gp_lines.specs.Progress.{Place, place, Advances, Cause, Stops, LineStops, TakesLast}
use Rattle.gp_lines.proofs.LineLemmas.{HasNoEnd-nil, lines-last}
use Rattle.gp_lines.proofs.Streams.{Appends-nothing, Appends-then}
use Rattle.gp_lines.proofs.Cutting.{Cuts-nothing, Cuts-then, Cuts-line, Cuts-on, MakesLine-end, MakesLine-more, GoesBeyond-end, GoesBeyond-more}
use Rattle.gp_lines.proofs.Chains.{Chain-nothing, Chain-line, Chain-then}

abbrev pub is_narrow : List ℕ → Type 0
is_narrow line = length line ≤ 1024

pub narrow_nil : AreNarrow []
narrow_nil = All-nil is_narrow

narrow_one : (line : List ℕ) → length line ≤ 1024 → AreNarrow (line ∷ [])
narrow_one line h = All-cons is_narrow line [] h (All-nil is_narrow)

module _ {S : Type 0} (goes : S → ℕ → List ℕ → List ℕ → S → Type 0) where
  pub Advances-start : (p : Place S) → HasNoEnd p.begun → Advances goes p [] p
  Advances-start p none = record {
    ended = [];
    text = [];
    told = [];
    cuts = Cuts-nothing p.begun none;
    counted = omega arith;
    few = λ h. h;
    narrow = narrow_nil;
    chain = Chain-nothing goes p.state (p.count + 1);
    appended = Appends-nothing p.written;
    texts = append-nil p.waiting;
  }

  pub Advances-then : (a : Place S) (one : List ℕ) (b : Place S) (two : List ℕ) (c : Place S) → Advances goes a one b → Advances goes b two c → Advances goes a (one ++ two) c
  Advances-then a one b two c h k = record {
    ended = h.ended ++ k.ended;
    text = h.text ++ k.text;
    told = h.told ++ k.told;
    cuts = Cuts-then a.begun one h.ended b.begun two k.ended c.begun h.cuts k.cuts;
    counted = omega (arith, h.counted, k.counted, length-append h.ended k.ended);
    few = λ small. k.few (h.few small);
    narrow = All-append is_narrow h.ended k.ended h.narrow k.narrow;
    chain = Chain-then goes a.state (a.count + 1) h.ended h.text b.state (b.count + 1) k.ended k.text c.state h.chain (omega (arith, h.counted)) k.chain;
    appended = Appends-then a.written b.written c.written h.told k.told h.appended k.appended;
    texts = sym (append_assoc a.waiting h.text k.text) ∙ ap (λ (xs : List ℕ). xs ++ k.text) h.texts ∙ append_assoc h.told b.waiting k.text
        ∙ ap (λ (xs : List ℕ). h.told ++ xs) k.texts ∙ sym (append_assoc h.told k.told c.waiting);
  }

  -- a line that the work took
  pub line_advances : (n n' : ℕ) (begun begun' front old new : List ℕ) (written : Option (List ℕ)) (s s' : S) → HasNoEnd begun → HasNoEnd front
      → IsWithin n (strip_carriage_return (begun ++ front)) → Grows old new (λ text. goes s (n + 1) (strip_carriage_return (begun ++ front)) text s') → n' ≡ n + 1 → begun' ≡ []
      → Advances goes (place n begun old written s) (front ++ 10 ∷ []) (place n' begun' new written s')
  line_advances n n' begun begun' front old new written s s' none none' within h one fresh = record {
    ended = strip_carriage_return (begun ++ front) ∷ [];
    text = h.0;
    told = [];
    cuts = rw fresh (Cuts-line begun front (strip_carriage_return (begun ++ front)) none none' refl);
    counted = omega (arith, one);
    few = λ small. omega (arith, within.0, one);
    narrow = narrow_one (strip_carriage_return (begun ++ front)) within.1;
    chain = Chain-line goes s (n + 1) (strip_carriage_return (begun ++ front)) h.0 s' h.2;
    appended = Appends-nothing written;
    texts = sym h.1;
  }

  -- the text was written
  pub flush_advances : (n : ℕ) (begun waiting waiting' : List ℕ) (written written' : Option (List ℕ)) (s : S) → HasNoEnd begun → Appends written written' waiting → waiting' ≡ []
      → Advances goes (place n begun waiting written s) [] (place n begun waiting' written' s)
  flush_advances n begun waiting waiting' written written' s none appended is = record {
    ended = [];
    text = [];
    told = waiting;
    cuts = Cuts-nothing begun none;
    counted = omega arith;
    few = λ small. small;
    narrow = narrow_nil;
    chain = Chain-nothing goes s (n + 1);
    appended = appended;
    texts = ap (λ (xs : List ℕ). waiting ++ xs) (sym is);
  }

  -- a line goes on
  pub begun_advances : (n n' : ℕ) (begun begun' more waiting waiting' : List ℕ) (written : Option (List ℕ)) (s : S) → HasNoEnd begun → HasNoEnd more → begun' ≡ begun ++ more → n' ≡ n → waiting' ≡ waiting
      → Advances goes (place n begun waiting written s) more (place n' begun' waiting' written s)
  begun_advances n n' begun begun' more waiting waiting' written s none none' is same kept = record {
    ended = [];
    text = [];
    told = [];
    cuts = rw is (Cuts-on begun more none none');
    counted = omega (arith, same);
    few = λ small. omega (arith, same, small);
    narrow = narrow_nil;
    chain = Chain-nothing goes s (n + 1);
    appended = Appends-nothing written;
    texts = append-nil waiting ∙ sym kept;
  }

  -- a line and then the text that waits
  pub line_flush_advances : (n n' n'' : ℕ) (begun begun' begun'' front old new waiting : List ℕ) (written written' : Option (List ℕ)) (s s' : S) → HasNoEnd begun → HasNoEnd front
      → IsWithin n (strip_carriage_return (begun ++ front)) → Grows old new (λ text. goes s (n + 1) (strip_carriage_return (begun ++ front)) text s') → n' ≡ n + 1 → begun' ≡ [] → Appends written written' new → waiting ≡ [] → n'' ≡ n' → begun'' ≡ begun'
      → Advances goes (place n begun old written s) (front ++ 10 ∷ []) (place n'' begun'' waiting written' s')
  line_flush_advances n n' n'' begun begun' begun'' front old new waiting written written' s s' none none' within h one fresh appended is same same' =
      rw (same, same') (subst (λ (xs : List ℕ). Advances goes (place n begun old written s) xs (place n' begun' waiting written' s')) (append-nil (front ++ 10 ∷ []))
      (Advances-then (place n begun old written s) (front ++ 10 ∷ []) (place n' begun' new written s') [] (place n' begun' waiting written' s')
      (line_advances n n' begun begun' front old new written s s' none none' within h one fresh)
      (flush_advances n' begun' new waiting written written' s' (rw fresh HasNoEnd-nil) appended is)))

  module _ (stops : S → ℕ → List ℕ → Halt → S → Type 0) where
    -- a line at which it stops
    pub line_cause : (stop : Stop) (n n' : ℕ) (begun begun' front old new : List ℕ) (written : Option (List ℕ)) (s s' : S) → HasNoEnd begun → HasNoEnd front
        → LineStops stops stop n (strip_carriage_return (begun ++ front)) old new s s'
        → Cause goes stops stop (place n begun old written s) (front ++ 10 ∷ []) (place n' begun' new written s')
    line_cause TooLong n n' begun begun' front old new written s s' none none' h =
        (GoesBeyond-end n begun front (strip_carriage_return (begun ++ front)) none none' refl h.0, h.1, refl, h.2)
    line_cause (Halted number halt) n n' begun begun' front old new written s s' none none' h =
        (refl, (strip_carriage_return (begun ++ front), h.0, MakesLine-end begun front (strip_carriage_return (begun ++ front)) none none' refl, h.1, h.2, h.3))
    line_cause WriteFault n n' begun begun' front old new written s s' none none' h = absurd h

    -- a line whose text was not written to its end
    pub lost_cause : (n n' : ℕ) (begun begun' front old new waiting : List ℕ) (written written' : Option (List ℕ)) (s s' : S) → HasNoEnd begun → HasNoEnd front
        → IsWithin n (strip_carriage_return (begun ++ front)) → Grows old new (λ text. goes s (n + 1) (strip_carriage_return (begun ++ front)) text s') → (count : ℕ) × Appends written written' (take count new)
        → Cause goes stops WriteFault (place n begun old written s) (front ++ 10 ∷ []) (place n' begun' waiting written' s')
    lost_cause n n' begun begun' front old new waiting written written' s s' none none' within h lost = record {
      last = strip_carriage_return (begun ++ front) ∷ [];
      text = h.0;
      at_most_one = omega arith;
      few = λ small. omega (arith, within.0);
      narrow = narrow_one (strip_carriage_return (begun ++ front)) within.1;
      makes = λ line is. MakesLine-end begun front line none none' (cc);
      chain = Chain-line goes s (n + 1) (strip_carriage_return (begun ++ front)) h.0 s' h.2;
      told = (lost.0, rw (← h.1) lost.1);
    }

    -- a front of a piece took it to a place where little waits, and this rest didn't
    pub record Front (held : ℕ) (old : Place S) (piece rest : List ℕ) (new : Place S) : Type 0 where
      pub done : List ℕ
      pub parts : piece ≡ done ++ rest
      pub advance : Advances goes old done new

    pub Front-start : (held : ℕ) (p : Place S) (piece : List ℕ) → HasNoEnd p.begun → Front held p piece piece p
    Front-start held p piece none = record { done = []; parts = refl; advance = Advances-start p none }

    pub Front-line : (held : ℕ) (old : Place S) (piece rest front back : List ℕ) (mid new : Place S) → Front held old piece rest mid → rest ≡ front ++ 10 ∷ back → Advances goes mid (front ++ 10 ∷ []) new
        → Front held old piece back new
    Front-line held old piece rest front back mid new h is k = record {
      done = h.done ++ (front ++ 10 ∷ []);
      parts = h.parts ∙ ap (λ (xs : List ℕ). h.done ++ xs) is ∙ ap (λ (xs : List ℕ). h.done ++ xs) (sym (append_assoc front (10 ∷ []) back)) ∙ sym (append_assoc h.done (front ++ 10 ∷ []) back);
      advance = Advances-then old h.done mid (front ++ 10 ∷ []) new h.advance k;
    }

    pub Front-rest : (held : ℕ) (old : Place S) (piece rest : List ℕ) (mid new : Place S) → Front held old piece rest mid → Advances goes mid rest new → Advances goes old piece new
    Front-rest held old piece rest mid new h k = rw h.parts (Advances-then old h.done mid rest new h.advance k)

  -- nothing more comes, or a last line
  pub last_none : (n : ℕ) (begun text : List ℕ) (s : S) → begun ≡ [] → Grows text text (TakesLast goes n (lines begun) s s)
  last_none n begun text s none = ([], sym (append-nil text), (rw none (λ small. omega (arith, small)), rw none narrow_nil, rw none (Chain-nothing goes s (n + 1))))

  pub last_one : (n : ℕ) (begun old new : List ℕ) (s s' : S) → HasNoEnd begun → 0 < length begun → IsWithin n begun → Grows old new (λ text. goes s (n + 1) begun text s') → Grows old new (TakesLast goes n (lines begun) s s')
  last_one n begun old new s s' none some within h = (h.0, h.1, rw (lines-last begun none some) (λ small. omega (arith, within.0), narrow_one begun within.1, Chain-line goes s (n + 1) begun h.0 s' h.2))

  module _ (stops : S → ℕ → List ℕ → Halt → S → Type 0) where
    -- why it stops is the same with more octets behind
    Cause-more : (stop : Stop) (old : Place S) (two more : List ℕ) (new : Place S) → Cause goes stops stop old two new → Cause goes stops stop old (two ++ more) new
    Cause-more TooLong old two more new h = (GoesBeyond-more old.count old.begun two more h.0, h.1, h.2, h.3)
    Cause-more (Halted number halt) old two more new h = (h.0, (h.1.0, h.1.1, MakesLine-more old.begun two more h.1.0 h.1.2, h.1.3, h.1.4, h.1.5))
    Cause-more WriteFault old two more new h = record {
      last = h.last;
      text = h.text;
      at_most_one = h.at_most_one;
      few = h.few;
      narrow = h.narrow;
      makes = λ line is. MakesLine-more old.begun two more line (h.makes line is);
      chain = h.chain;
      told = h.told;
    }

    -- a line at which it stops
    pub Front-stop : (held : ℕ) (stop : Stop) (old : Place S) (piece rest front back : List ℕ) (mid new : Place S) → Front stops held old piece rest mid → rest ≡ front ++ 10 ∷ back
        → length mid.waiting ≤ held → Cause goes stops stop mid (front ++ 10 ∷ []) new → Stops goes stops held stop old piece new
    Front-stop held stop old piece rest front back mid new h is little k = record {
      front = h.done;
      back = rest;
      parts = h.parts;
      mid = mid;
      advance = h.advance;
      little = little;
      cause = subst (λ (xs : List ℕ). Cause goes stops stop mid xs new) (append_assoc front (10 ∷ []) back ∙ sym is) (Cause-more stop mid (front ++ 10 ∷ []) back new k);
    }

    -- the rest begins a line beyond the limits
    pub Front-beyond : (held : ℕ) (stop : Stop) (old : Place S) (piece rest : List ℕ) (n n' : ℕ) (begun begun' waiting waiting' : List ℕ) (written : Option (List ℕ)) (s : S) → Front stops held old piece rest (place n begun waiting written s)
        → length waiting ≤ held → stop ≡ TooLong → GoesBeyond n begun rest → waiting' ≡ waiting → Stops goes stops held stop old piece (place n' begun' waiting' written s)
    Front-beyond held stop old piece rest n n' begun begun' waiting waiting' written s h little is beyond kept = record {
      front = h.done;
      back = rest;
      parts = h.parts;
      mid = place n begun waiting written s;
      advance = h.advance;
      little = little;
      cause = rw is (beyond, kept, refl, refl);
    }

-- a piece that isn't empty leaves less room
pub room_less : (n n' : ℕ) (begun begun' more : List ℕ) (before piece : ℕ) → length more ≤ piece → room n begun ≤ before → (length more < piece → room n begun < before)
    → begun' ≡ begun ++ more → n' ≡ n → (0 < length more → length begun' ≤ 1025) → 0 < piece → room n' begun' < before
room_less n n' begun begun' [] before piece shorter no_wider nearer is same fits some =
    let longer : length begun' ≡ length begun + 0 = ap length is ∙ length-append begun [] in
    let less : room n begun < before = nearer some in
    rw same (omega (arith, less))
room_less n n' begun begun' (octet ∷ more) before piece shorter no_wider nearer is same fits some =
    let longer : length begun' ≡ length begun + length (octet ∷ more) = ap length is ∙ length-append begun (octet ∷ more) in
    let room_left : length begun' ≤ 1025 = fits (omega arith) in
    rw same (omega (arith, room_left))
