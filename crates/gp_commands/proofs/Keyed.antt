-- Key, MIC and counter at places, and spelled out.
use Rattle.std.proofs.Common.{◌≡◌, ℕ, ◌+◌, ◌^◌, ◌<◌, ◌≤◌, List, ◌++◌, length, drop, refl, ap, subst, ◌∙◌, append_assoc, arith}
use Rattle.std.specs.Int.{w32, to_le_bytes}
use Rattle.gp_base.specs.Field.{IsOctets, four_at, optional, key_octets, size_if, value_if}
use Rattle.gp_commands.specs.Inside.{keying_octets}
use Rattle.gp_commands.specs.Keying.{Keying}
use Rattle.gp_commands.specs.Keying.{Wanted}
use Rattle.gp_commands.specs.Keying.{keying_size, keying_at}
use Rattle.gp_base.proofs.Codec.{At, IsField, IsCodec, optional_codec, key_codec, octets_codec, number32_codec, join}

-- each of the three is there where it is wanted, and has its width
pub record HasKeying (wanted : Wanted) (keying : Keying) : Type 0 where
  pub key : IsField wanted.key (λ key. length (key_octets key) ≡ 16) keying.key
  pub mic : IsField wanted.mic (λ mic. length mic ≡ 4) keying.mic
  pub counter : IsField wanted.counter (λ n. n < 2 ^ 32) keying.counter

keying_split : (wanted : Wanted) (b : List ℕ) (p : ℕ) → IsOctets b → p + keying_size wanted ≤ length b
    → (drop p b ≡ keying_octets (keying_at wanted b p) ++ drop (p + keying_size wanted) b) × HasKeying wanted (keying_at wanted b p)
unfolding keying_size keying_octets keying_at
keying_split wanted b p bytes h =
    let s1 = size_if wanted.key 16 in
    let s2 = size_if wanted.mic 4 in
    let s3 = size_if wanted.counter 4 in
    let key = (optional_codec _ _ _ _ key_codec wanted.key).split b p bytes (omega arith) in
    let mic = (optional_codec _ _ _ _ (octets_codec 4) wanted.mic).split b (p + s1) bytes (omega arith) in
    let counter = (optional_codec _ _ _ _ number32_codec wanted.counter).split b (p + s1 + s2) bytes (omega arith) in
    let place : p + s1 + s2 + s3 ≡ p + (s1 + s2 + s3) = omega arith in
    let last = counter.0 ∙ ap (λ (k : ℕ). optional (to_le_bytes w32) (value_if wanted.counter (four_at b (p + s1 + s2))) ++ drop k b) place in
    let all = join b p (p + s1) _ _ key.0 (join b (p + s1) (p + s1 + s2) _ _ mic.0 last) in
    (all ∙ simp append_assoc, record { key = key.1; mic = mic.1; counter = counter.1 })

keying_again : (wanted : Wanted) (b : List ℕ) (p : ℕ) (keying : Keying) (r : List ℕ) → At b p (keying_octets keying ++ r) → HasKeying wanted keying
    → (keying_at wanted b p ≡ keying) × At b (p + keying_size wanted) r
unfolding keying_size keying_octets keying_at
keying_again wanted b p keying r at has =
    let s1 = size_if wanted.key 16 in
    let s2 = size_if wanted.mic 4 in
    let s3 = size_if wanted.counter 4 in
    let start : At b p (optional key_octets keying.key ++ (optional (λ mic. mic) keying.mic ++ (optional (to_le_bytes w32) keying.counter ++ r))) =
    record { rest = at.rest ∙ simp append_assoc; within = at.within } in
    let key = (optional_codec _ _ _ _ key_codec wanted.key).again b p keying.key _ start has.key in
    let mic = (optional_codec _ _ _ _ (octets_codec 4) wanted.mic).again b (p + s1) keying.mic _ key.1 has.mic in
    let counter = (optional_codec _ _ _ _ number32_codec wanted.counter).again b (p + s1 + s2) keying.counter r mic.1 has.counter in
    let place : p + s1 + s2 + s3 ≡ p + (s1 + s2 + s3) = omega arith in
    let same : keying_at wanted b p ≡ keying = rw (key.0, mic.0, counter.0) refl in
    (same, subst (λ (k : ℕ). At b k r) place counter.1)

pub keying_codec : (wanted : Wanted) → IsCodec keying_octets (λ _ _. keying_size wanted) (keying_at wanted) (HasKeying wanted)
keying_codec wanted = record { split = keying_split wanted; again = keying_again wanted }
