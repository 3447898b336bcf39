-- How long the command of a frame may be.
use Rattle.std.proofs.Common.{ℕ, ◌≤◌, List, ◌++◌, length, ap, ◌∙◌, arith}
use Rattle.std.specs.Int.{w32, to_le_bytes}
use Rattle.std.proofs.lemmas.List.{length-append}
use Rattle.gp_base.specs.Field.{octet, optional}
use Rattle.gp_base.specs.declared.identity.Src.{Src}
use Rattle.gp_frames.specs.declared.frame.Ext.{Ext}
use Rattle.gp_frames.specs.declared.frame.Mpdu.{Mpdu}
use Rattle.gp_frames.specs.Frame.{extension, Frame}
use Rattle.gp_frames.proofs.Headers.{spelling-flat}

inner : (a b c body mic : List ℕ) → length body ≤ length (a ++ (b ++ (c ++ (body ++ mic))))
inner a b c body mic = omega (arith, length-append a (b ++ (c ++ (body ++ mic))), length-append b (c ++ (body ++ mic)), length-append c (body ++ mic), length-append body mic)

pub body_fits : (v : Mpdu) (b : List ℕ) → Frame v b → length v.frame.body ≤ 117
body_fits v b h =
    let spelled = ap length (h.spelled ∙ spelling-flat v) in
    let within = inner (optional (λ (ext : Ext). octet (extension ext)) v.frame.ext) (optional (λ (src : Src). to_le_bytes w32 src.0) v.frame.src) (optional (to_le_bytes w32) v.frame.counter) v.frame.body (optional (λ (mic : List ℕ). mic) v.frame.mic) in
    omega (arith, spelled, h.limit, within)
