-- How a trigger keeps the failures to come. A reader needn't believe this file: the clauses on the calls of a disk in
-- memory pin what it gives.
use Rattle.gp_disk.specs.declared.arming.Arming.{Arming as KeptArming}
use Rattle.gp_disk.specs.declared.arming.Arming.TheVariants.{Unarmed as IsUnarmed, Waits as IsWaiting, Due as IsDue, Spent as IsSpent}
use Rattle.gp_disk.specs.declared.arming.Ending.{Ending as KeptEnding}
use Rattle.gp_disk.specs.declared.arming.Ending.TheVariants.{Stop as IsStop, Fault as IsFault}
use Rattle.gp_disk.specs.declared.trigger.Trigger.{Trigger}
use Rattle.gp_disk.specs.Fuse.{Ending, Stop, Fault, Arming, Unarmed, Waits, Due, Spent, Fuse, fuse_from}

abbrev pub ending_of : KeptEnding → Ending
ending_of IsStop = Stop
ending_of IsFault = Fault

abbrev pub arming_of : KeptArming → Arming
arming_of IsUnarmed = Unarmed
arming_of (IsWaiting begins calls ending) = Waits begins calls (ending_of ending)
arming_of (IsDue calls ending) = Due calls (ending_of ending)
arming_of IsSpent = Spent

abbrev pub fuse_of : Trigger → Fuse
fuse_of trigger = fuse_from trigger.stopped (arming_of trigger.arming)
