use Rattle.std.proofs.Common.{◌≡◌, ◌+◌, ◌-◌, ◌<◌, ◌≤◌, ◌∙◌, [], ap, sym, arith, slice_index_or, lit<}
use Rattle.gp_aes.specs.Columns.{octets_of}
use Rattle.gp_aes.specs.KeyExpansion.{round_key}
use Rattle.gp_aes.specs.Cipher.{add_round_key, mix_columns, shift_rows, sub_bytes, after_rounds}
use Rattle.gp_aes.proofs.Rounds.{after_rounds-first, after_rounds-next, cipher-last}
use Rattle.gp_aes.proofs.schedule.Schedule.encrypt.Goals as goal

pub loop-j-init : goal.loop-j-init
loop-j-init g c =
    c.add_key-state.ensures
    ∙ ap (λ b. add_round_key b (octets_of (slice_index_or c.self.inside.keys 0 []))) c.columns_of.ensures
    ∙ ap (add_round_key c.args.block) c.self.view_is
    ∙ after_rounds-first c.args.self.now c.args.block

pub loop-j-preserved : goal.loop-j-preserved
loop-j-preserved g c =
    let key = c.args.self.now in
    let block = c.args.block in
    let j = c.loop-j.j in
    let low : 1 ≤ j = c.loop-j.auto.j in
    let back : j + 1 - 1 ≡ j = omega arith in
    let high : j < 11 = omega arith in
    c.whole_round-next.ensures
    ∙ ap (λ s. add_round_key (mix_columns (shift_rows (sub_bytes s))) (octets_of (slice_index_or c.self.inside.keys j []))) c.loop-j.invariant
    ∙ ap (add_round_key (mix_columns (shift_rows (sub_bytes (after_rounds key block (j - 1))))))
    (c.self.invariant j high ∙ ap (λ k. round_key k j) c.self.view_is)
    ∙ after_rounds-next key block j low
    ∙ ap (after_rounds key block) (sym back)

pub returns-clause-value : goal.returns-clause-value
returns-clause-value g c =
    let key = c.args.self.now in
    let block = c.args.block in
    let done : c.loop-j.j - 1 ≡ 9 = omega (arith, c.loop-j.auto.j-end (omega arith)) in
    c.block_of.ensures
    ∙ c.last_round.ensures
    ∙ ap (λ s. add_round_key (shift_rows (sub_bytes s)) (octets_of (slice_index_or c.self.inside.keys 10 [])))
    (c.loop-j.invariant ∙ ap (after_rounds key block) done)
    ∙ ap (add_round_key (shift_rows (sub_bytes (after_rounds key block 9))))
    (c.self.invariant 10 (lit< tt) ∙ ap (λ k. round_key k 10) c.self.view_is)
    ∙ cipher-last key block
