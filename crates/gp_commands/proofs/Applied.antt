-- Application information at its places, and spelled out.
use Rattle.std.proofs.Common.{◌≡◌, ℕ, ◌+◌, ◌^◌, ◌<◌, ◌≤◌, Bool, true, false, List, [], ◌∷◌, ◌++◌, length, drop, Option, refl, sym, ap, subst, ◌∙◌, append_assoc, arith}
use Rattle.std.specs.Prelude.{unwrap_or, if◌then◌else◌}
use Rattle.std.specs.Int.{w16, to_le_bytes}
use Rattle.gp_commands.specs.declared.application.Application.{Application}
use Rattle.gp_base.specs.Field.{IsOctets, has_bit, optional, two_at, octet, counted, joined, octet_at, value_if}
use Rattle.gp_commands.specs.Application.{clusters_size, flags_at, manufacturer_place, model_place, commands_place, clusters_place, application_end, application_at}
use Rattle.gp_base.proofs.Codec.{At, IsField, optional_codec, octet_codec, number16_codec, counted_codec, led_codec, join}

-- its octets
unfoldable pub information_octets : Application → List ℕ
information_octets a =
    joined
    (optional octet a.information
    ∷ optional (to_le_bytes w16) a.manufacturer
    ∷ optional (to_le_bytes w16) a.model
    ∷ optional counted a.commands
    ∷ optional (λ clusters. clusters) a.clusters
    ∷ [])

-- its flags, 0 where it is absent
abbrev pub flags_of : Application → ℕ
flags_of a = unwrap_or a.information 0

-- each field is there where its flag says so, and has its width
pub record HasApplication (options : ℕ) (a : Application) : Type 0 where
  pub information : IsField (has_bit options 4) (λ _. Unit {0}) a.information
  pub manufacturer : IsField (has_bit (flags_of a) 1) (λ n. n < 2 ^ 16) a.manufacturer
  pub model : IsField (has_bit (flags_of a) 2) (λ n. n < 2 ^ 16) a.model
  pub commands : IsField (has_bit (flags_of a) 4) (λ _. Unit {0}) a.commands
  pub clusters : IsField (has_bit (flags_of a) 8) (λ clusters. length clusters ≡ 1 + clusters_size (octet_at clusters 0)) a.clusters

pub unwrap-value_if : {X : Type 0} (there : Bool) (x d : X) → unwrap_or (value_if there x) d ≡ (if there then x else d)
unwrap-value_if true x d = refl
unwrap-value_if false x d = refl

pub application_split : (options : ℕ) (b : List ℕ) (p : ℕ) → IsOctets b → application_end options b p ≤ length b
    → (drop p b ≡ information_octets (application_at options b p) ++ drop (application_end options b p) b) × HasApplication options (application_at options b p)
unfolding information_octets application_end application_at
application_split options b p bytes h =
    let flags = flags_at options b p in
    let information = (optional_codec _ _ _ _ octet_codec (has_bit options 4)).split b p bytes (omega arith) in
    let manufacturer = (optional_codec _ _ _ _ number16_codec (has_bit flags 1)).split b (manufacturer_place options p) bytes (omega arith) in
    let model = (optional_codec _ _ _ _ number16_codec (has_bit flags 2)).split b (model_place options b p) bytes (omega arith) in
    let commands = (optional_codec _ _ _ _ counted_codec (has_bit flags 4)).split b (commands_place options b p) bytes (omega arith) in
    let clusters = (optional_codec _ _ _ _ (led_codec clusters_size) (has_bit flags 8)).split b (clusters_place options b p) bytes h in
    let all = join b p _ _ _ information.0 (join b _ _ _ _ manufacturer.0 (join b _ _ _ _ model.0 (join b _ _ _ _ commands.0 clusters.0))) in
    let same : flags ≡ flags_of (application_at options b p) = sym (unwrap-value_if (has_bit options 4) (octet_at b p) 0) in (
      all ∙ simp append_assoc,
      record {
        information = information.1;
        manufacturer = subst (λ (k : ℕ). IsField (has_bit k 1) (λ n. n < 2 ^ 16) (value_if (has_bit flags 1) (two_at b (manufacturer_place options p)))) same manufacturer.1;
        model = subst (λ (k : ℕ). IsField (has_bit k 2) (λ n. n < 2 ^ 16) (application_at options b p).model) same model.1;
        commands = subst (λ (k : ℕ). IsField (has_bit k 4) (λ _. Unit {0}) (application_at options b p).commands) same commands.1;
        clusters = subst (λ (k : ℕ). IsField (has_bit k 8) (λ clusters. length clusters ≡ 1 + clusters_size (octet_at clusters 0)) (application_at options b p).clusters) same clusters.1;
      },
    )

pub application_again : (options : ℕ) (b : List ℕ) (p : ℕ) (a : Application) (r : List ℕ) → At b p (information_octets a ++ r) → HasApplication options a
    → (application_at options b p ≡ a) × At b (application_end options b p) r
unfolding information_octets application_end application_at
application_again options b p a r at has =
    let flags = flags_at options b p in
    let start : At b p (optional octet a.information ++ (optional (to_le_bytes w16) a.manufacturer ++ (optional (to_le_bytes w16) a.model
    ++ (optional counted a.commands ++ (optional (λ clusters. clusters) a.clusters ++ r))))) =
    record { rest = at.rest ∙ simp append_assoc; within = at.within } in
    let information = (optional_codec _ _ _ _ octet_codec (has_bit options 4)).again b p a.information _ start has.information in
    let same : flags ≡ flags_of a = sym (unwrap-value_if (has_bit options 4) (octet_at b p) 0) ∙ ap (λ (o : Option ℕ). unwrap_or o 0) information.0 in
    let back = sym same in
    let manufacturer = (optional_codec _ _ _ _ number16_codec (has_bit flags 1)).again b (manufacturer_place options p) a.manufacturer _ information.1
    (subst (λ (k : ℕ). IsField (has_bit k 1) (λ n. n < 2 ^ 16) a.manufacturer) back has.manufacturer) in
    let model = (optional_codec _ _ _ _ number16_codec (has_bit flags 2)).again b (model_place options b p) a.model _ manufacturer.1
    (subst (λ (k : ℕ). IsField (has_bit k 2) (λ n. n < 2 ^ 16) a.model) back has.model) in
    let commands = (optional_codec _ _ _ _ counted_codec (has_bit flags 4)).again b (commands_place options b p) a.commands _ model.1
    (subst (λ (k : ℕ). IsField (has_bit k 4) (λ _. Unit {0}) a.commands) back has.commands) in
    let clusters = (optional_codec _ _ _ _ (led_codec clusters_size) (has_bit flags 8)).again b (clusters_place options b p) a.clusters r commands.1
    (subst (λ (k : ℕ). IsField (has_bit k 8) (λ clusters. length clusters ≡ 1 + clusters_size (octet_at clusters 0)) a.clusters) back has.clusters) in
    (rw (information.0, manufacturer.0, model.0, commands.0, clusters.0) refl, clusters.1)
