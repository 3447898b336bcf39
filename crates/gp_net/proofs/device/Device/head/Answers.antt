use Rattle.std.proofs.Common.{◌≡◌, ◌%◌, refl, arith}
use Rattle.gp_net.proofs.device.Device.head.Goals as goal

pub returns : goal.returns
returns c =
    let low : c.args.sequence ≡ c.args.self.now.sequence % 256 = omega (arith, c.requires) in
    rw (c.number.ensures, c.individual.ensures, c.new.ensures, low) refl
