-- A walk over the entries of a report.
use Rattle.std.proofs.Common.{◌≡◌, ℕ, zero, suc, ◌+◌, ◌-◌, ◌≤◌, ◌<◌, Bool, false, ltb, List, [], ◌∷◌, ◌++◌, length, drop, Option, Some, None, Ok, Err, refl, sym, ap, subst, ◌∙◌, append_assoc, arith, inl, inr, length-drop}
use Rattle.std.specs.Prelude.{is_none, is_some, not, unwrap_or, IsTrue}
use Rattle.std.specs.List.{flat_map, AllByRecursion}
use Rattle.std.proofs.lemmas.Bool.{not-false, ne_eqb, eq-eqb, ltb-false, le-ltb, cases_lt}
use Rattle.std.proofs.lemmas.Bool.Decides.{nat_tests}
use Rattle.std.proofs.lemmas.List.{nil_from_length}
use Rattle.std.proofs.lemmas.List.Concat.{flat_map-cons}
use Rattle.gp_commands.specs.declared.command.CommandReason.{CommandReason}
use Rattle.gp_commands.specs.declared.command.CommandReason.TheVariants.{Short, ValueKind}
use Rattle.gp_base.specs.Field.{part, octet_at}
use Rattle.gp_base.specs.Table.{answer, or_else}
use Rattle.gp_commands.specs.Values.{value_size}
use Rattle.gp_commands.specs.Report.{Entry, entry, IsEntry, AreRecords, value_size_at, entry_reason, entries_reason, next_place}
use Rattle.gp_base.proofs.Tables.{first_none}
use Rattle.gp_commands.proofs.Answers.{answer_ok, answer_err, pred_of}
use Rattle.gp_base.proofs.Codec.{join, At, At-after, At-octet, At-first, split_octet, split_octets, length-octets_at}
use Rattle.gp_commands.proofs.Sizes.{value_size_positive}

-- What the entries from here on say is what those from the start say, where fuel is enough for them.
pub record GoesOn (b : List ℕ) (start place : ℕ) : Type 0 where
  pub fuel : ℕ
  pub enough : length b - place ≤ fuel
  pub within : place ≤ length b
  pub same : entries_reason fuel b place ≡ entries_reason (length b) b start

pub GoesOn-start : (b : List ℕ) (start : ℕ) → start ≤ length b → GoesOn b start start
GoesOn-start b start h = record { fuel = length b; enough = omega arith; within = h; same = refl }

-- an entry without a fault ends within the octets
pub entry_within : (b : List ℕ) (place : ℕ) → entry_reason b place ≡ None → next_place b place ≤ length b
entry_within b place h = grind (arith, nat_tests)

-- one entry more
pub one_more : (fuel : ℕ) (b : List ℕ) (place : ℕ) → place < length b → length b - place ≤ fuel
    → (less : ℕ) × (fuel ≡ suc less) × (entries_reason fuel b place ≡ or_else (entry_reason b place) (entries_reason less b (next_place b place)))
unfolding entries_reason
one_more zero b place lt enough = absurd (omega arith)
one_more (suc less) b place lt enough = (less, refl, rw (ne_eqb (length b) place (λ e. omega arith)) refl)

pub GoesOn-next : (b : List ℕ) (start place end : ℕ) → GoesOn b start place → place < length b → Ok end ≡ answer (entry_reason b place) (next_place b place) → GoesOn b start end
GoesOn-next b start place end g lt e =
    let found = answer_ok (entry_reason b place) (next_place b place) end e in
    let next = one_more g.fuel b place lt g.enough in
    let within = entry_within b place found.0 in
    rw found.1 (record {
      fuel = next.0;
      enough = omega (arith, next.1, g.enough);
      within = within;
      same = sym (next.2 ∙ ap (λ r. or_else r (entries_reason next.0 b (next_place b place))) found.0) ∙ g.same;
    })

pub GoesOn-err : (b : List ℕ) (start place : ℕ) (reason : CommandReason) → GoesOn b start place → place < length b → Err reason ≡ answer (entry_reason b place) (next_place b place) → Some reason ≡ entries_reason (length b) b start
GoesOn-err b start place reason g lt e =
    let found = answer_err (entry_reason b place) (next_place b place) reason e in
    let next = one_more g.fuel b place lt g.enough in
    sym (next.2 ∙ ap (λ r. or_else r (entries_reason next.0 b (next_place b place))) found) ∙ g.same

none_left : (fuel : ℕ) (b : List ℕ) → entries_reason fuel b (length b) ≡ None
unfolding entries_reason
none_left zero b = refl
none_left (suc less) b = rw (eq-eqb (length b) (length b) refl) refl

pub GoesOn-end : (b : List ℕ) (start place : ℕ) → GoesOn b start place → length b ≤ place → None ≡ entries_reason (length b) b start
GoesOn-end b start place g le =
    let here : place ≡ length b = omega (arith, g.within) in
    sym (ap (λ p. entries_reason g.fuel b p) here ∙ none_left g.fuel b) ∙ g.same

-- ---- entries at places are entries one after another

or_else_none : {X : Type 0} (first second : Option X) → or_else first second ≡ None → (first ≡ None) × (second ≡ None)
or_else_none None second e = (refl, e)
or_else_none (Some x) second e = absurd cc

is_some_of : (o : Option ℕ) → is_none o ≡ false → (n : ℕ) × (o ≡ Some n)
is_some_of None e = absurd cc
is_some_of (Some n) e = (n, refl)

-- the size of the value of an entry without a fault
entry_fits : (b : List ℕ) (place : ℕ) → entry_reason b place ≡ None → (size : ℕ) × (value_size_at b place ≡ Some size) × (place + 3 ≤ length b) × (next_place b place ≡ place + 3 + size)
entry_fits b place h =
    let one = first_none (ltb (length b) (place + 3)) (Short (length b)) _ h in
    let two = first_none (is_none (value_size_at b place)) (ValueKind (place + 2)) _ one.1 in
    let size = is_some_of (value_size_at b place) two.0 in
    (size.0, size.1, ltb-false _ _ one.0, ap (λ o. place + 3 + unwrap_or o 0) size.1)

entry_none : (b : List ℕ) (place size : ℕ) → value_size_at b place ≡ Some size → place + 3 + size ≤ length b → (entry_reason b place ≡ None) × (next_place b place ≡ place + 3 + size)
entry_none b place size e h =
    let next : next_place b place ≡ place + 3 + size = ap (λ o. place + 3 + unwrap_or o 0) e in
    let one : ltb (length b) (place + 3) ≡ false = le-ltb _ _ (omega arith) in
    let two : is_none (value_size_at b place) ≡ false = ap is_none e in
    let three : ltb (length b) (next_place b place) ≡ false = le-ltb _ _ (omega (arith, next)) in
    (rw (one, two, three) refl, next)

none_past : (b : List ℕ) (p : ℕ) → length b ≤ p → drop p b ≡ []
none_past b p h = nil_from_length (drop p b) (omega (arith, length-drop p b))

-- the entry at a place, with the octets that it takes
pub record EntryAt (b : List ℕ) (p : ℕ) : Type 0 where
  pub found : Entry
  pub is_entry : IsEntry found
  pub parts : drop p b ≡ entry found ++ drop (next_place b p) b

entry_at : (b : List ℕ) (p : ℕ) → entry_reason b p ≡ None → EntryAt b p
entry_at b p h =
    let fits = entry_fits b p h in
    let size = fits.0 in
    let within_next = entry_within b p h in
    let value_len = length-octets_at size b (p + 3) (omega (arith, fits.3, within_next)) in
    let positive = value_size_positive _ _ size fits.1 in
    let lead : octet_at b (p + 3) ≡ octet_at (part b (p + 3) size) 0 =
    At-first b (p + 3) (part b (p + 3) size) (drop (p + 3 + size) b) (record { rest = split_octets size b (p + 3); within = fits.2 }) (omega (arith, value_len)) in
    let third : (p + 2) + 1 ≡ p + 3 = omega arith in
    let value_part : drop (p + 3) b ≡ part b (p + 3) size ++ drop (next_place b p) b =
    split_octets size b (p + 3) ∙ ap (λ (k : ℕ). part b (p + 3) size ++ drop k b) (sym fits.3) in
    let kind_part : drop (p + 2) b ≡ octet_at b (p + 2) ∷ drop (p + 3) b =
    split_octet b (p + 2) (omega (arith, fits.2)) ∙ ap (λ (k : ℕ). octet_at b (p + 2) ∷ drop k b) third in
    let tail : drop (p + 2) b ≡ octet_at b (p + 2) ∷ (part b (p + 3) size ++ drop (next_place b p) b) =
    kind_part ∙ ap (λ (l : List ℕ). octet_at b (p + 2) ∷ l) value_part in
    record {
      found = record { attribute = part b p 2; kind = octet_at b (p + 2); value = part b (p + 3) size };
      is_entry = record {
        attribute = length-octets_at 2 b p (omega (arith, fits.2));
        value = ap (λ (k : ℕ). value_size (octet_at b (p + 2)) k) (sym lead) ∙ fits.1 ∙ ap (λ (k : ℕ). Some k) (sym value_len);
      };
      parts = join b p (p + 2) (part b p 2) _ (split_octets 2 b p) tail ∙ sym (append_assoc (part b p 2) (octet_at b (p + 2) ∷ part b (p + 3) size) (drop (next_place b p) b));
    }

records_cons : (b : List ℕ) (p : ℕ) → EntryAt b p → AreRecords (drop (next_place b p) b) → AreRecords (drop p b)
records_cons b p first rest = record {
  entries = first.found ∷ rest.entries;
  each = (first.is_entry, rest.each);
  parts = first.parts ∙ ap (λ (l : List ℕ). entry first.found ++ l) rest.parts ∙ sym (flat_map-cons entry first.found rest.entries);
}

pub records_from : (fuel : ℕ) (b : List ℕ) (p : ℕ) → length b - p ≤ fuel → p ≤ length b → entries_reason fuel b p ≡ None → AreRecords (drop p b)
records_from zero b p enough within h = record { entries = []; each = tt; parts = none_past b p (omega arith) }
records_from (suc less) b p enough within h =
    elim (cases_lt p (length b)) [
      | inr le ↦ record { entries = []; each = tt; parts = none_past b p le }
      | inl lt ↦
          let more = one_more (suc less) b p lt enough in
          let split = or_else_none _ _ (sym more.2 ∙ h) in
          let fits = entry_fits b p split.0 in
          let fewer : less ≡ more.0 = ap pred_of more.1 in
          let same : entries_reason less b (next_place b p) ≡ None = subst (λ (k : ℕ). entries_reason k b (next_place b p) ≡ None) (sym fewer) split.1 in
          records_cons b p (entry_at b p split.0)
          (records_from less b (next_place b p) (omega (arith, fits.3)) (entry_within b p split.0) same)
    ]

pub no_reason : (es : List Entry) (fuel : ℕ) (b : List ℕ) (p : ℕ) → AllByRecursion IsEntry es → At b p (flat_map entry es) → length b - p ≤ fuel → entries_reason fuel b p ≡ None
no_reason [] fuel b p each at enough =
    let here : p ≡ length b = omega (arith, at.within, length-drop p b, ap length at.rest) in
    ap (λ k. entries_reason fuel b k) here ∙ none_left fuel b
no_reason (e ∷ es) fuel b p each at enough =
    let one : At b p (e.attribute ++ (e.kind ∷ (e.value ++ flat_map entry es))) =
    record { rest = at.rest ∙ flat_map-cons entry e es ∙ append_assoc e.attribute (e.kind ∷ e.value) (flat_map entry es); within = at.within } in
    let two : At b (p + 2) (e.kind ∷ (e.value ++ flat_map entry es)) = subst (λ k. At b (p + k) (e.kind ∷ (e.value ++ flat_map entry es))) each.0.attribute (At-after b p e.attribute _ one) in
    let kind : octet_at b (p + 2) ≡ e.kind = At-octet b (p + 2) e.kind _ two in
    let place : (p + 2) + 1 ≡ p + 3 = omega arith in
    let three : At b (p + 3) (e.value ++ flat_map entry es) = subst (λ k. At b k (e.value ++ flat_map entry es)) place (At-after b (p + 2) (e.kind ∷ []) _ two) in
    let lead : octet_at b (p + 3) ≡ octet_at e.value 0 = At-first b (p + 3) e.value _ three (value_size_positive _ _ _ each.0.value) in
    let size : value_size_at b p ≡ Some (length e.value) = ap (λ k. value_size k (octet_at b (p + 3))) kind ∙ ap (λ k. value_size e.kind k) lead ∙ each.0.value in
    let four : At b (p + 3 + length e.value) (flat_map entry es) = At-after b (p + 3) e.value _ three in
    let fine = entry_none b p (length e.value) size four.within in
    let more = one_more fuel b p (omega (arith, four.within)) enough in
    let next : At b (next_place b p) (flat_map entry es) = subst (λ k. At b k (flat_map entry es)) (sym fine.1) four in
    more.2 ∙ ap (λ r. or_else r (entries_reason more.0 b (next_place b p))) fine.0
    ∙ no_reason es more.0 b (next_place b p) each.1 next (omega (arith, more.1, fine.1))

none_of : {X : Type 0} (o : Option X) → is_some o ≡ false → o ≡ None
none_of None e = refl
none_of (Some x) e = absurd cc

-- what the code tests, and what records are
pub records_iff : (b : List ℕ) (test : Bool) → is_some (entries_reason (length b) b 0) ≡ not test → (IsTrue test → AreRecords b) × (AreRecords b → IsTrue test)
records_iff b test e = (
  (λ h. records_from (length b) b 0 (omega arith) (omega arith) (none_of _ (e ∙ ap not h))),
  (λ records. not-false test (sym e ∙ ap is_some (no_reason records.entries (length b) b 0 records.each (record { rest = records.parts; within = omega arith }) (omega arith)))),
)
