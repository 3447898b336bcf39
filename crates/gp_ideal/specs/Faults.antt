-- Why octets are no frame, as a report has it: the reason and its place.
use Rattle.gp_frames.specs.declared.frame.FrameReason.{FrameReason}
use Rattle.gp_frames.specs.declared.frame.FrameReason.TheVariants.{TooLong, Short, MacForm, FrameKind, Version, AppId, LevelOne, SecuredMaintenance, NoCommand}
use Rattle.gp_script.specs.declared.report.Dropped.{Dropped}
use Rattle.gp_script.specs.declared.report.Dropped.TheVariants.{Malformed}
use Rattle.gp_script.specs.declared.report.FrameFault.TheVariants as words

-- places count the octets of the MPDU from 0
abbrev pub malformed : FrameReason → Dropped
malformed TooLong = Malformed words.TooLong 125
malformed (Short place) = Malformed words.Short place
malformed MacForm = Malformed words.MacForm 0
malformed FrameKind = Malformed words.FrameKind 7
malformed Version = Malformed words.Version 7
malformed AppId = Malformed words.AppId 8
malformed LevelOne = Malformed words.LevelOne 8
malformed SecuredMaintenance = Malformed words.SecuredMaintenance 8
malformed (NoCommand place) = Malformed words.NoCommand place
