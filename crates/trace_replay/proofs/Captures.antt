-- Bytes that are refused are no capture.
use Rattle.std.proofs.Common.{◌≡◌, ◌≢◌, ℕ, List, Result, Err, inl, inr, subst, sym}
use Rattle.capture_reader.specs.Outcome.{CaptureFile}
use Rattle.capture_reader.specs.declared.fault.CaptureFault.{CaptureFault}
use Rattle.capture_reader.specs.declared.fault.CaptureFault.TheVariants as capture
use Rattle.pcapng_reader.specs.declared.fault.PcapngFault.{PcapngFault}
use Rattle.pcapng_reader.specs.declared.fault.PcapngFault.TheVariants as pcapng
use Rattle.pcapng_reader.specs.declared.input.InputFault.TheVariants as input
use Rattle.pcapng_reader.specs.Input.{InputFails, IsInput, IsRefusedCapture, IsRefusedPcapng}
use Rattle.pcapng_reader.proofs.Inputs.{refused_not, refused_not_ng}
use Rattle.trace_replay.specs.declared.reason.Reason.{Reason}
use Rattle.trace_replay.specs.declared.reason.Refusal.{Refusal}
use Rattle.trace_replay.specs.declared.reason.Refusal.TheVariants.{No}

-- bytes that are refused for another cause than want of memory are no capture
pub no_capture : (bytes : List ℕ) (why : CaptureFault) → why ≢ capture.NoMemory → InputFails bytes (input.Capture why) → (file : CaptureFile) → file.bytes ≡ bytes → IsInput file → ⊥
no_capture bytes why other (inl e) file same is = other e
no_capture bytes why other (inr r) file same is = refused_not file why is (subst (IsRefusedCapture why) (sym same) r)

pub no_pcapng : (bytes : List ℕ) (why : PcapngFault) → why ≢ pcapng.NoMemory → InputFails bytes (input.Pcapng why) → (file : CaptureFile) → file.bytes ≡ bytes → IsInput file → ⊥
no_pcapng bytes why other (inl e) file same is = other e
no_pcapng bytes why other (inr r) file same is = refused_not_ng file why is (subst (IsRefusedPcapng why) (sym same) r)

abbrev refused_by : {T : Type 0} → Reason → Result T Refusal
refused_by r = Err (No r)

-- one refusal has one reason
pub same_reason : {T : Type 0} (a b : Reason) → refused_by {T = T} a ≡ refused_by b → a ≡ b
same_reason a b e = cc
