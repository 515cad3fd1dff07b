use Rattle.std.proofs.Common.{Err, refl, ap}
use Rattle.std.proofs.KnownBytes.{Keeps-refl}
use Rattle.datagram_services.proofs.MoreRuns.{given, no_memory, usage}
use Rattle.datagram_services.proofs.run.output.Goals as goal

pub returns-in-Ok : goal.returns-in-Ok
returns-in-Ok g c = given _ _ _ _ c.output_for.result c.in-Ok.ensures.ok c.output_for.ensures

pub returns-in-Err-Usage : goal.returns-in-Err-Usage
returns-in-Err-Usage g c =
    usage _ _ _ (c.in-Err-Usage.ensures.usage (ap (λ f. Err f) c.in-Err-Usage.field-0-is)) (record { bytes = Keeps-refl _; faults = refl }) (record { bytes = Keeps-refl _; faults = refl })

pub returns-in-Err-NoMemory : goal.returns-in-Err-NoMemory
returns-in-Err-NoMemory g c = no_memory _ _ _ (record { bytes = Keeps-refl _; faults = refl }) (record { bytes = Keeps-refl _; faults = refl })
