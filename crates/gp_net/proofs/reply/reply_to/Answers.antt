use Rattle.std.proofs.Common.{◌≡◌, ℕ, ◌+◌, sym, subst}
use Rattle.gp_power.proofs.Few.{more_few}
use Rattle.gp_net.specs.Replies.{IsReply}
use Rattle.gp_net.proofs.Replying.{told-says, told-puts, told-given}
use Rattle.gp_net.proofs.reply.reply_to.Goals as goal

pub returns-in-Announce-clause-comes : goal.returns-in-Announce-clause-comes
returns-in-Announce-clause-comes c = rw (c.in-Announce.is, c.told.ensures, told-says c.announce.result, told-puts c.announce.result) c.announce.ensures.comes

pub returns-in-Announce-clause-reply : goal.returns-in-Announce-clause-reply
returns-in-Announce-clause-reply c = subst IsReply (sym c.told.ensures) (told-given c.announce.result c.announce.ensures.message)

pub returns-in-Rule-clause-few : goal.returns-in-Rule-clause-few
returns-in-Rule-clause-few c = λ most h. more_few most _ (c.add_rule-answer.ensures.few most h)

pub returns-in-Cut-clause-few : goal.returns-in-Cut-clause-few
returns-in-Cut-clause-few c = λ most h. more_few most _ (c.arm_cut.ensures.few most h)

pub returns-in-Fault-clause-few : goal.returns-in-Fault-clause-few
returns-in-Fault-clause-few c = λ most h. more_few most _ (c.arm_fault.ensures.few most h)

pub returns-in-Off-clause-few : goal.returns-in-Off-clause-few
returns-in-Off-clause-few c = λ most h. more_few most _ (c.switch_off-report.ensures.few most h)
