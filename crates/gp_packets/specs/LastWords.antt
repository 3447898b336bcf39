-- The last text of a run over a capture file, and its status. No clause of a public call cites this file: nothing in it has to be
-- believed.
use Rattle.std.specs.Prelude.{ℕ, List, Option}
use Rattle.gp_pcap.specs.declared.packet.Packet.{Packet}
use Rattle.gp_pcap.specs.Capture.{IsFile, IsBad}
use Rattle.gp_pcap.specs.Reading.{Progress, Stands}
use Rattle.gp_lines.specs.declared.status.Status.{Status}
use Rattle.gp_lines.specs.declared.status.Status.TheVariants as ending
use Rattle.gp_lines.specs.LastWords.{SaysOr, Silent}
use Rattle.gp_packets.specs.declared.stop.Stop.{Stop}
use Rattle.gp_packets.specs.declared.stop.Stop.TheVariants.{TooLong, Bad, WriteFault, NoMemory}

-- the text before a stop, and the status that it has
abbrev pub Says : Stop → Status → Option (List ℕ) → Option (List ℕ) → List ℕ → ℕ → ℕ → Type 0
Says TooLong result before after text f f' = SaysOr ending.TooLong result before after text f f'
Says (Bad place reason) result before after text f f' = SaysOr (ending.BadPcap place reason) result before after text f f'
Says WriteFault result before after text f f' = Silent ending.WriteFault result before after f f'
Says NoMemory result before after text f f' = Silent ending.NoMemory result before after f f'

-- the status at the end of what was fed
abbrev pub EndsSo : Status → List ℕ → List Packet → Type 0
EndsSo ending.Done fed given = IsFile fed given
EndsSo (ending.BadPcap place reason) fed given = IsBad fed given (place, reason)
EndsSo _ fed given = ⊥

abbrev pub Ends : Progress → Status → Type 0
Ends now status = (fed : List ℕ) (given : List Packet) → Stands fed given now → EndsSo status fed given
