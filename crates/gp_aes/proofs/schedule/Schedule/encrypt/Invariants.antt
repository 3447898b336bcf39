use Rattle.std.proofs.Common.{◌≡◌, ◌-◌}
use Rattle.gp_aes.specs.Columns.{octets_of}
use Rattle.gp_aes.specs.Cipher.{after_rounds}
use Rattle.gp_aes.proofs.schedule.Schedule.encrypt.Given as goal

abbrev pub invariant-loop-j : goal.invariant-loop-j
invariant-loop-j g l = octets_of l.state ≡ after_rounds l.self l.fn.block (l.j - 1)
