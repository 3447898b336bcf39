use Rattle.std.proofs.Common.{◌≡◌, ◌<◌, ◌^◌, arith, refl, subst}
use Rattle.std.specs.Prelude.{IfSome}
use Rattle.gp_frames.specs.declared.frame.Gpdf.{Gpdf}
use Rattle.gp_frames.specs.declared.frame.Mpdu.{Mpdu}
use Rattle.gp_frames.specs.Frame.{IsValid}
use Rattle.gp_security.specs.Protection.{Good}
use Rattle.gp_security.proofs.Calls.{calls-bound}
use Rattle.gp_security.proofs.Sealing.{is_good, with}
use Rattle.gp_security.proofs.Valid.{valid_of}
use Rattle.gp_security.proofs.frame.seal_frame.Goals as goal

pub returns-clause-valid : goal.returns-clause-valid
returns-clause-valid g c =
    let head = c.args.head.now in
    let mpdu : Mpdu = record { seq = head.seq; pan = head.pan; dest = head.dest; frame = with head.frame c.protect-sealed.result.cipher c.mic_of-mic.result } in
    let same : mpdu ≡ c.mpdu_of.result = cc in
    let framed : c.sealed_frame-frame.result ≡ with head.frame c.protect-sealed.result.cipher c.mic_of-mic.result = cc in
    subst IsValid same (valid_of mpdu c.mpdu_of.ensures.seq c.mpdu_of.ensures.pan c.mpdu_of.ensures.dest (record {
      data_frame = c.requires.head.data_frame;
      level = c.requires.head.level;
      src = c.requires.head.src;
      counter = c.requires.head.counter;
      mic = refl;
      some = omega (arith, c.protect-sealed.ensures.body, c.requires.some);
      room = omega (arith, c.protect-sealed.ensures.body, c.requires.room);
      src_fits = subst (λ (f : Gpdf). IfSome f.src (λ src. src.0 < 2 ^ 32)) framed c.mpdu_of.ensures.src;
      counter_fits = subst (λ (f : Gpdf). IfSome f.counter (λ n. n < 2 ^ 32)) framed c.mpdu_of.ensures.counter;
      mic_fits = cc;
      body_octets = c.as_slice-2.ensures.octets;
      mic_octets = c.mic_of-mic.ensures.octets;
    }))

pub returns-clause-good : goal.returns-clause-good
returns-clause-good g c =
    let frame : Gpdf = with c.args.head.now.frame c.protect-sealed.result.cipher c.mic_of-mic.result in
    let same : frame ≡ c.mpdu_of.result.frame = cc in
    subst (λ (f : Gpdf). Good c.args.key.now.0 f c.args.command.now) same
    (is_good c.args.key.now.0 c.args.head.now.frame c.args.command.now c.protect-sealed.result.cipher c.protect-sealed.result.tag c.mic_of-mic.result
    c.requires.head.level c.protect-sealed.ensures.value (cc) (rw same (returns-clause-valid g c).1.frame))

pub returns-clause-bound : goal.returns-clause-bound
returns-clause-bound g c = omega (arith, c.protect-sealed.ensures.cost, calls-bound c.args.head.now.frame c.args.command.now c.requires.room)
