use Rattle.std.proofs.Common.{◌≡◌, ◌+◌, ◌∙◌, ◌++◌, length, take, drop, sym, ap, arith, append_assoc, length-append, length-take, length-drop}
use Rattle.gp_aes.specs.Cipher.{cipher}
use Rattle.gp_aes.proofs.Rounds.{length-cipher}
use Rattle.gp_ccm.specs.Blocks.{block_count, xor_octets}
use Rattle.gp_ccm.specs.Ccm.{key_stream, stream_block, counter_block, encrypted}
use Rattle.gp_ccm.proofs.XorLemmas.{length-xor_octets}
use Rattle.gp_ccm.proofs.BlockLemmas.{block_count-drop, some_left, front_of, rest_of}
use Rattle.gp_ccm.proofs.CcmLemmas.{stream-next}
use Rattle.gp_ccm.proofs.stream.encrypted.Goals as goal

pub loop-rest-init : goal.loop-rest-init
unfolding encrypted
loop-rest-init g c =
    let message = c.args.message.now in
    record {
      value = ap (λ o. o ++ xor_octets message (key_stream c.args.schedule.now c.args.nonce.now 1 (block_count (length message)))) c.new-out.ensures;
      cost = omega arith;
      size = omega (arith, ap length c.new-out.ensures);
      count = omega (arith, c.requires);
    }

pub loop-rest-preserved : goal.loop-rest-preserved
loop-rest-preserved g c =
    let key = c.args.schedule.now in
    let nonce = c.args.nonce.now in
    let i = c.loop-rest.i in
    let xs = c.loop-rest.rest.now in
    let out = c.loop-rest.out in
    let some = some_left xs c.is_empty.result c.is_empty.ensures c.loop-rest-test.true in
    let front = front_of xs c.split_at.result.0.now c.min.result c.min.ensures c.split_at.ensures.front in
    let rest = rest_of xs c.split_at.result.1.now c.min.result c.min.ensures c.split_at.ensures.back in
    let block : c.encrypt-block.result ≡ stream_block key nonce i = c.encrypt-block.ensures.value ∙ ap (cipher key) c.counter_block.ensures in
    let whole : length (stream_block key nonce i) ≡ 16 = length-cipher key (counter_block nonce i) in
    let added : c.append_sum.new.out ≡ out ++ xor_octets (take 16 xs) (stream_block key nonce i) =
    c.append_sum.ensures
    ∙ ap (λ f. out ++ xor_octets f c.encrypt-block.result) front
    ∙ ap (λ b. out ++ xor_octets (take 16 xs) b) block in
    let others = c.split_at.result.1.now in
    let tail = xor_octets (drop 16 xs) (key_stream key nonce (i + 1) (block_count (length (drop 16 xs)))) in
    record {
      value =
          ap (λ o. o ++ xor_octets others (key_stream key nonce (i + 1) (block_count (length others)))) added
          ∙ ap (λ r. out ++ xor_octets (take 16 xs) (stream_block key nonce i)
          ++ xor_octets r (key_stream key nonce (i + 1) (block_count (length r)))) rest
          ∙ append_assoc out (xor_octets (take 16 xs) (stream_block key nonce i)) tail
          ∙ ap (λ l. out ++ l) (sym (stream-next key nonce xs i some whole))
          ∙ c.loop-rest.invariant.value;
      cost = omega (arith, c.encrypt-block.ensures.cost, c.loop-rest.invariant.cost, block_count-drop xs some, ap length rest);
      size = omega (
        arith,
        ap length added,
        length-append out (xor_octets (take 16 xs) (stream_block key nonce i)),
        length-xor_octets (take 16 xs) (stream_block key nonce i),
        whole,
        length-take 16 xs,
        ap length rest,
        length-drop 16 xs,
        c.loop-rest.invariant.size,
      );
      count = omega (arith, some, c.loop-rest.invariant.count, ap length rest, length-drop 16 xs);
    }
