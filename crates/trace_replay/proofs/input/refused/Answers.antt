use Rattle.std.proofs.Common.{subst}
use Rattle.pcapng_reader.specs.Input.{InputFails}
use Rattle.trace_replay.proofs.Captures.{no_capture, no_pcapng}
use Rattle.trace_replay.proofs.input.refused.Goals as goal

pub returns-in_default : goal.returns-in_default
returns-in_default c r e = (cc, λ bytes fails file same is. no_capture bytes c.in-Capture.fault c.in_default.not-NoMemory (subst (InputFails bytes) c.in-Capture.is fails) file same is)

pub returns-in_default-fault : goal.returns-in_default-fault
returns-in_default-fault c r e = (cc, λ bytes fails file same is. no_pcapng bytes c.in-Pcapng.fault c.in_default-fault.not-NoMemory (subst (InputFails bytes) c.in-Pcapng.is fails) file same is)
