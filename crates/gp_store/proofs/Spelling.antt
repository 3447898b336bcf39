-- What is read from the octets that spell a row.
use Rattle.std.proofs.Common.{◌≡◌, ℕ, ◌+◌, ◌<◌, ◌^◌, max, List, [], ◌∷◌, ◌++◌, replicate, length, take, drop, get_or, sym, ◌∙◌, ap, subst, arith, append_assoc, slice_index, length-append}
use Rattle.std.proofs.lemmas.List.{take_at, drop_at, drop-drop, get_or-drop}
use Rattle.std.proofs.lemmas.Nat.{from_le_bytes-to_le_bytes_2, from_le_bytes-to_le_bytes_4, from_le_bytes-to_le_bytes_8}
use Rattle.std.specs.Int.{w16, w32, w64, to_le_bytes, from_le_bytes}
use Rattle.gp_disk.specs.Disk.{part}
use Rattle.gp_rows.specs.declared.row.Row.{Row}
use Rattle.gp_base.specs.Identity.{kind_number, level_number, mode_number}
use Rattle.gp_store.specs.Slot.{generation, source, key, kind, level, mode, group, device, live, order, floor, rest, live_number, Spelled}

-- the octets before the key, and those after it
head : Row → ℕ → List ℕ
head row number = to_le_bytes w64 number ++ to_le_bytes w32 row.src.0

tail : Row → List ℕ
tail row = kind_number row.kind ∷ level_number row.level ∷ mode_number row.mode ∷ (to_le_bytes w16 row.group ++ row.device ∷ live_number row.live ∷ (to_le_bytes w64 row.order ++ to_le_bytes w32 row.floor ++ replicate 16 0))

max-zero : (n : ℕ) → max n 0 ≡ n
max-zero n = omega arith

module _ (row : Row) (number : ℕ) (key_size : length row.key.0 ≡ 16) where
  whole : List ℕ
  unfolding head tail
  whole = head row number ++ (row.key.0 ++ tail row)

  before : length (head row number ++ row.key.0) ≡ 28
  unfolding head
  before = omega (arith, key_size, length-append (to_le_bytes w64 number ++ to_le_bytes w32 row.src.0) row.key.0)

  -- what is behind the key
  behind : drop 28 whole ≡ tail row
  unfolding whole
  behind = ap (λ (l : List ℕ). drop 28 l) (sym (append_assoc (head row number) row.key.0 (tail row))) ∙ drop_at (head row number ++ row.key.0) (tail row) 28 before

  part-behind : (n k : ℕ) → part (28 + n) k whole ≡ part n k (tail row)
  part-behind n k = ap (λ (l : List ℕ). take k l) (sym (drop-drop n 28 whole)) ∙ ap (λ (l : List ℕ). part n k l) behind

  octet-behind : (n : ℕ) → slice_index whole (28 + n) ≡ slice_index (tail row) n
  octet-behind n = sym (get_or-drop 28 whole n 0) ∙ ap (λ (l : List ℕ). get_or l n 0) behind

  whole_spelled : number < 2 ^ 64 → row.src.0 < 2 ^ 32 → row.group < 2 ^ 16 → row.order < 2 ^ 64 → row.floor < 2 ^ 32 → Spelled whole row number
  unfolding generation source key kind level mode group device live order floor rest head tail whole
  whole_spelled n s g o f = record {
    shows = record {
      has_source = sym (from_le_bytes-to_le_bytes_4 row.src.0 s);
      has_key = sym (take_at row.key.0 (tail row) 16 key_size);
      has_kind = sym (octet-behind 0);
      has_level = sym (octet-behind 1);
      has_mode = sym (octet-behind 2);
      has_group = sym (ap (λ (l : List ℕ). from_le_bytes w16 l) (part-behind 3 2) ∙ from_le_bytes-to_le_bytes_2 row.group g);
      has_device = sym (octet-behind 5);
      has_order = sym (ap (λ (l : List ℕ). from_le_bytes w64 l) (part-behind 7 8) ∙ from_le_bytes-to_le_bytes_8 row.order o);
      has_live = sym (octet-behind 6);
      has_floor = sym (max-zero (floor whole) ∙ ap (λ (l : List ℕ). from_le_bytes w32 l) (part-behind 15 4) ∙ from_le_bytes-to_le_bytes_4 row.floor f);
    };
    numbered = from_le_bytes-to_le_bytes_8 number n;
    zeros = part-behind 19 16;
  }

-- the octets that are appended one after another
pub appended_spelled : (row : Row) (number : ℕ) (start name pairing octets : List ℕ) → start ≡ []
    → name ≡ start ++ to_le_bytes w64 number ++ to_le_bytes w32 row.src.0 ++ row.key.0
    → pairing ≡ name ++ kind_number row.kind ∷ level_number row.level ∷ mode_number row.mode ∷ [] ++ to_le_bytes w16 row.group ++ row.device ∷ live_number row.live ∷ []
    → octets ≡ pairing ++ to_le_bytes w64 row.order ++ to_le_bytes w32 row.floor ++ replicate 16 0
    → length row.key.0 ≡ 16 → number < 2 ^ 64 → row.src.0 < 2 ^ 32 → row.group < 2 ^ 16 → row.order < 2 ^ 64 → row.floor < 2 ^ 32 → Spelled octets row number
unfolding whole head tail
appended_spelled row number start name pairing octets a b c d key_size n s g o f =
    let one : name ≡ to_le_bytes w64 number ++ to_le_bytes w32 row.src.0 ++ row.key.0 = b ∙ ap (λ (l : List ℕ). l ++ to_le_bytes w64 number ++ to_le_bytes w32 row.src.0 ++ row.key.0) a in
    let two = c ∙ ap (λ (l : List ℕ). l ++ kind_number row.kind ∷ level_number row.level ∷ mode_number row.mode ∷ [] ++ to_le_bytes w16 row.group ++ row.device ∷ live_number row.live ∷ []) one in
    let three = d ∙ ap (λ (l : List ℕ). l ++ to_le_bytes w64 row.order ++ to_le_bytes w32 row.floor ++ replicate 16 0) two in
    let is : octets ≡ whole row number key_size = three ∙ simp append_assoc in
    subst (λ l. Spelled l row number) (sym is) (whole_spelled row number key_size n s g o f)
