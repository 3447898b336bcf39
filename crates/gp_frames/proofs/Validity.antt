-- Which values some octets spell, by the tests that the code makes.
use Rattle.std.proofs.Common.{◌≡◌, ℕ, ◌<◌, ◌≤◌, ◌⊎◌, inl, inr, Bool, true, false, not, ◌||◌, eqb, List, length, refl, sym, ap, subst, ◌∙◌, arith}
use Rattle.std.specs.Prelude.{IsTrue, is_some}
use Rattle.std.proofs.lemmas.Bool.{not-true, eqb-true, eqb-false, eq-eqb, ne_eqb, and_parts, and_from, or_cases, or_left, or_right}
use Rattle.gp_base.specs.Field.{IsOctets, agree}
use Rattle.gp_base.proofs.Flags.{agree_is, agree_same}
use Rattle.gp_frames.specs.declared.frame.Gpdf.{Gpdf}
use Rattle.gp_frames.specs.declared.frame.Mpdu.{Mpdu}
use Rattle.gp_frames.specs.Frame.{level_of, is_secured, spelling, IsFrame, Frame, IsValid}
use Rattle.gp_frames.proofs.Headers.{flat, spelling-flat}
use Rattle.gp_frames.specs.Widths.{HasWidths, head_octets, field_octets, in_parts, has_fields}

flat-in_parts : (v : Mpdu) → flat v ≡ in_parts v
unfolding head_octets field_octets
flat-in_parts v = refl

pub spelling-in_parts : (v : Mpdu) → spelling v ≡ in_parts v
spelling-in_parts v = spelling-flat v ∙ flat-in_parts v

levels : (n : ℕ) → ((eqb n 0 || eqb n 2) || eqb n 3) ≡ true → (n ≡ 0) ⊎ ((n ≡ 2) ⊎ (n ≡ 3))
levels n h = elim (or_cases (eqb n 0 || eqb n 2) (eqb n 3) h) [
  | inl low ↦ elim (or_cases (eqb n 0) (eqb n 2) low) [ inl zero ↦ inl (eqb-true n 0 zero) | inr two ↦ inr (inl (eqb-true n 2 two)) ]
  | inr three ↦ inr (inr (eqb-true n 3 three))
]

levels_back : (n : ℕ) → (n ≡ 0) ⊎ ((n ≡ 2) ⊎ (n ≡ 3)) → ((eqb n 0 || eqb n 2) || eqb n 3) ≡ true
levels_back n (inl e) = rw e refl
levels_back n (inr (inl e)) = rw e refl
levels_back n (inr (inr e)) = rw e refl

unsecured : (n : ℕ) (m : Bool) → (eqb n 0 || not m) ≡ true → IsTrue m → n ≡ 0
unsecured n true h t = elim (or_cases (eqb n 0) false h) [ inl e ↦ eqb-true n 0 e | inr e ↦ absurd cc ]
unsecured n false h t = absurd cc

unsecured_back : (n : ℕ) (m : Bool) → (IsTrue m → n ≡ 0) → (eqb n 0 || not m) ≡ true
unsecured_back n true h = or_left (eqb n 0) false (eq-eqb n 0 (h refl))
unsecured_back n false h = or_right (eqb n 0) true refl

some_length : (xs : List ℕ) → eqb (length xs) 0 ≡ false → 0 < length xs
some_length xs h = let ne = eqb-false (length xs) 0 h in omega (arith, ne)

pub is_frame : (v : Mpdu) → has_fields v.frame ≡ true → HasWidths v → IsFrame v.frame
unfolding has_fields
is_frame v h widths =
    let s5 = and_parts _ (not (eqb (length v.frame.body) 0)) h in
    let s4 = and_parts _ (agree (is_some v.frame.mic) (is_secured v.frame)) s5.0 in
    let s3 = and_parts _ (agree (is_some v.frame.counter) (is_secured v.frame)) s4.0 in
    let s2 = and_parts _ (agree (is_some v.frame.src) (not v.frame.maintenance || is_some v.frame.ext)) s3.0 in
    let s1 = and_parts _ (eqb (level_of v.frame) 0 || not v.frame.maintenance) s2.0 in
    record {
      level = levels (level_of v.frame) s1.0;
      unsecured = unsecured (level_of v.frame) v.frame.maintenance s1.1;
      src = agree_is _ _ s2.1;
      counter = agree_is _ _ s3.1;
      mic = agree_is _ _ s4.1;
      command = some_length v.frame.body (not-true _ s5.1);
      src_fits = widths.src;
      counter_fits = widths.counter;
      mic_fits = widths.mic;
    }

pub has_fields-is : (f : Gpdf) → IsFrame f → has_fields f ≡ true
unfolding has_fields
has_fields-is f h =
    and_from _ _ (and_from _ _ (and_from _ _ (and_from _ _ (and_from _ _ (levels_back (level_of f) h.level) (unsecured_back (level_of f) f.maintenance h.unsecured)) (agree_same _ _ h.src)) (agree_same _ _ h.counter)) (agree_same _ _ h.mic))
    (ap not (ne_eqb (length f.body) 0 (λ e. absurd (omega (arith, h.command)))))

-- what the tests show
pub is_valid : (v : Mpdu) → has_fields v.frame ≡ true → length (in_parts v) ≤ 125 → IsOctets (in_parts v) → HasWidths v → IsValid v
is_valid v fields room octets widths = (
  in_parts v,
  record {
    seq = widths.seq;
    pan = widths.pan;
    dest = widths.dest;
    frame = is_frame v fields widths;
    limit = room;
    are_octets = octets;
    spelled = sym (spelling-in_parts v);
  },
)

pub valid_back : (v : Mpdu) → IsValid v → (has_fields v.frame ≡ true) × (length (in_parts v) ≤ 125)
valid_back v h =
    let e : h.0 ≡ in_parts v = h.1.spelled ∙ spelling-in_parts v in
    (has_fields-is v.frame h.1.frame, subst (λ (xs : List ℕ). length xs ≤ 125) e h.1.limit)

-- the octets of a valid value
pub encoded : (v : Mpdu) (octets : List ℕ) → IsValid v → octets ≡ in_parts v → Frame v octets
encoded v octets h e = subst (λ (xs : List ℕ). Frame v xs) (h.1.spelled ∙ spelling-in_parts v ∙ sym e) h.1

-- the level of a valid value
pub level_small : (v : Mpdu) → IsValid v → level_of v.frame ≤ 3
level_small v h = elim h.1.frame.level [ inl e ↦ omega arith | inr more ↦ elim more [ inl e ↦ omega arith | inr e ↦ omega arith ] ]
