use Rattle.std.proofs.Common.{◌≡◌, ◌-◌, ◌<◌, ◌≤◌, ◌≢◌, ◌∙◌, refl, length, ap, sym, arith, below_more, get_or-set_same, get_or-set_other, length-set}
use Rattle.gp_aes.specs.KeyExpansion.{next_round_key, round_key}
use Rattle.gp_aes.proofs.Rounds.{round_key-first, round_key-next}
use Rattle.gp_aes.proofs.schedule.Schedule.new.Goals as goal

pub loop-j-init : goal.loop-j-init
loop-j-init c = (
  refl,
  λ i h.
      let first : i ≡ 0 = omega arith in
      rw first (c.columns_of-keys.ensures ∙ sym (round_key-first c.args.key.now)),
)

pub loop-j-preserved : goal.loop-j-preserved
loop-j-preserved c =
    let j = c.loop-j.j in
    let keys = c.loop-j.keys in
    let key = c.args.key.now in
    let low : 1 ≤ j = c.loop-j.auto.j in
    let inside : j < length keys = omega (arith, c.loop-j.invariant.0) in
    let before : j - 1 < j = omega arith in (
      length-set _ _ _ ∙ c.loop-j.invariant.0,
      below_more _ j
          (λ i h. let ne : i ≢ j = omega arith in rw get_or-set_other (c.loop-j.invariant.1 i h))
          (rw get_or-set_same
          (c.next_key.ensures ∙ ap (next_round_key j) (c.loop-j.invariant.1 (j - 1) before) ∙ round_key-next key j low)),
    )

pub invariant_of-result : goal.invariant_of-result
invariant_of-result c = λ j h.
    let done : c.loop-j.j ≡ 11 = omega (arith, c.loop-j.auto.j-end (omega arith)) in
    let in_range : j < c.loop-j.j = omega arith in
    let first : 0 < c.loop-j.j = omega arith in
    c.loop-j.invariant.1 j in_range
    ∙ ap (λ k. round_key k j) (sym (c.loop-j.invariant.1 0 first ∙ round_key-first c.args.key.now))

pub returns : goal.returns
returns c =
    let low : 0 < c.loop-j.j = omega (arith, c.loop-j.auto.j) in
    c.loop-j.invariant.1 0 low ∙ round_key-first c.args.key.now
