use Rattle.std.proofs.Common.{◌≡◌, ◌∙◌, length, take, sym, ap, arith}
use Rattle.gp_aes.specs.Cipher.{cipher}
use Rattle.gp_ccm.specs.Blocks.{blocks_of, padded, xor_octets}
use Rattle.gp_ccm.specs.Ccm.{chain}
use Rattle.gp_ccm.proofs.BlockLemmas.{block_count-drop, blocks_of-empty, some_left, none_left, front_of, rest_of}
use Rattle.gp_ccm.proofs.CcmLemmas.{chain-next}
use Rattle.gp_ccm.proofs.chain.absorb.Goals as goal

pub loop-rest-preserved : goal.loop-rest-preserved
loop-rest-preserved g c =
    let key = c.args.schedule.now in
    let xs = c.loop-rest.rest.now in
    let x = c.loop-rest.x in
    let some = some_left xs c.is_empty.result c.is_empty.ensures c.loop-rest-test.true in
    let front = front_of xs c.split_at.result.0.now c.min.result c.min.ensures c.split_at.ensures.front in
    let rest = rest_of xs c.split_at.result.1.now c.min.result c.min.ensures c.split_at.ensures.back in
    let next : c.encrypt-next.result ≡ cipher key (xor_octets x (padded (take 16 xs))) =
    c.encrypt-next.ensures.value ∙ ap (cipher key) (c.with_added.ensures ∙ ap (λ f. xor_octets x (padded f)) front) in
    record {
      value =
          ap (λ n. chain key n (blocks_of c.split_at.result.1.now)) next
          ∙ ap (λ r. chain key (cipher key (xor_octets x (padded (take 16 xs)))) (blocks_of r)) rest
          ∙ sym (chain-next key x xs some)
          ∙ c.loop-rest.invariant.value;
      cost = omega (arith, c.encrypt-next.ensures.cost, c.loop-rest.invariant.cost, block_count-drop xs some, ap length rest);
    }

pub returns-clause-value : goal.returns-clause-value
returns-clause-value g c =
    let key = c.args.schedule.now in
    let none = none_left c.loop-rest.rest.now c.is_empty.result c.is_empty.ensures c.loop-rest-test.false in
    sym (ap (chain key c.loop-rest.x) (ap blocks_of none ∙ blocks_of-empty)) ∙ c.loop-rest.invariant.value
