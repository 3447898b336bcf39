use Rattle.gp_power_tests.proofs.tests.arm.Goals as goal

pub returns-in-Cut : goal.returns-in-Cut
returns-in-Cut c = c.arm_cut.ensures.few 0 c.requires

pub returns-in-Fault : goal.returns-in-Fault
returns-in-Fault c = c.arm_fault.ensures.few 0 c.requires
