-- What a sink answers, in the words of the ideal sink.
use Rattle.gp_commission.specs.declared.offer.OfferReason.{OfferReason}
use Rattle.gp_commission.specs.declared.offer.OfferReason.TheVariants.{NotListening, BadSource, LevelLow, NoKey, KeyTag, CounterEnd}
use Rattle.gp_script.specs.declared.report.Refusal.{Refusal}
use Rattle.gp_script.specs.declared.report.Refusal.TheVariants as refusals
use Rattle.gp_script.specs.declared.report.Cause.TheVariants as causes
use Rattle.gp_script.specs.declared.report.Dropped.{Dropped as Loss}
use Rattle.gp_script.specs.declared.report.Dropped.TheVariants as losses
use Rattle.gp_ideal.specs.Faults.{malformed}
use Rattle.gp_ideal.specs.Verdict as ideal
use Rattle.gp_ideal.specs.Verdict.{Ruling as IdealRuling}
use Rattle.gp_sink.specs.declared.verdict.Verdict.{Verdict}
use Rattle.gp_sink.specs.declared.verdict.Verdict.TheVariants.{Acted, Paired, Unpaired, Refused, Full, Dropped}
use Rattle.gp_sink.specs.declared.verdict.Cause.{Cause}
use Rattle.gp_sink.specs.declared.verdict.Cause.TheVariants.{Malformed, ToDevice, Unsecured, Unknown, KeyBit, LevelOther, BadTag, Stale}
use Rattle.gp_sink.specs.declared.ruling.Ruling.{Ruling}
use Rattle.gp_commission.specs.declared.offer.Offer.{Offer}
use Rattle.gp_ideal.specs.declared.config.Config.{Config}
use Rattle.gp_ideal.specs.declared.ledger.Values.{Values}
use Rattle.gp_ideal.specs.Paired as pairing

-- why a device isn't paired
abbrev pub refusal : OfferReason → Refusal
refusal NotListening = refusals.NotListening
refusal BadSource = refusals.BadSource
refusal LevelLow = refusals.LevelLow
refusal NoKey = refusals.NoKey
refusal KeyTag = refusals.KeyTag
refusal CounterEnd = refusals.CounterEnd

-- why a frame is dropped
abbrev pub loss : Cause → Loss
loss (Malformed reason) = malformed reason
loss ToDevice = losses.Plain causes.ToDevice
loss Unsecured = losses.Plain causes.Unsecured
loss Unknown = losses.Plain causes.Unknown
loss KeyBit = losses.Plain causes.KeyBit
loss LevelOther = losses.Plain causes.LevelOther
loss BadTag = losses.Plain causes.BadTag
loss (Stale floor) = losses.Stale floor

-- a verdict
abbrev pub verdict_of : Verdict → ideal.Verdict
verdict_of (Acted row source counter command acts) = ideal.Acted row source counter command acts
verdict_of (Paired row source floor message) = ideal.Paired row source floor message
verdict_of (Unpaired row source counter message) = ideal.Unpaired row source counter message
verdict_of (Refused reason) = ideal.Refused (refusal reason)
verdict_of Full = ideal.Full
verdict_of (Dropped cause) = ideal.Dropped (loss cause)

-- a verdict with the change that comes before it, where there is one
abbrev pub ruling_of : Ruling → IdealRuling
ruling_of ruling = record { verdict = verdict_of ruling.verdict; change = ruling.change }

-- the values of the row of an offer
abbrev pub offered : Config → Offer → Values
offered config offer = pairing.offered config offer.src offer.key offer.kind offer.level offer.device
