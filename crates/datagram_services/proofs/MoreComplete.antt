-- Accepted words and an accepted capture end with the whole report, where nothing fails.
use Rattle.std.proofs.Common.{Option, Some, None, inl, inr}
use Rattle.sq_base.specs.Ends.{Rose, End}
use Rattle.sq_base.specs.declared.kinds.Status.{Status}
use Rattle.sq_base.specs.declared.kinds.Status.TheVariants as status
use Rattle.capture_reader.specs.declared.fault.CaptureFault.TheVariants as fault
use Rattle.capture_reader.proofs.Taken.{not_too_many}
use Rattle.pcapng_reader.specs.Input.{IsRefusedCapture, IsRefusedPcapng}
use Rattle.pcapng_reader.specs.declared.fault.PcapngFault.TheVariants as pcapng
use Rattle.pcapng_reader.proofs.Inputs.{input_small, refused_not, refused_not_ng}
use Rattle.ring_quotas.specs.declared.setup.Setup.{Setup}
use Rattle.shell.specs.Reading.{IsDone}
use Rattle.shell.proofs.ReadOnce.{not_refused}
use Rattle.datagram_services.specs.MoreRan.{HasMoreRan, MoreAccepts}

pub is_more_done : (words : Option Setup) (source out err : End) (s : Status) → HasMoreRan words source out err s → MoreAccepts words source.was
    → (Rose source.faults_were source.faults_are → ⊥) → (Rose out.faults_were out.faults_are → ⊥) → IsDone s
is_more_done None source out err s h can nr nw = absurd can
is_more_done (Some a) source out err status.Ok h can nr nw = tt
is_more_done (Some a) source out err status.NoMemory h can nr nw = tt
is_more_done (Some a) source out err status.Usage h can nr nw = absurd h.1
is_more_done (Some a) source out err status.NoConnection h can nr nw = absurd h.1
is_more_done (Some a) source out err status.ReadFault h can nr nw = absurd (nr h.0.0)
is_more_done (Some a) source out err status.WriteFault h can nr nw = nw h.1.2.1
is_more_done (Some a) source out err status.BadCapture (r, inl h) can nr nw = not_refused (IsRefusedCapture h.0) can.0 source can.1 (refused_not can.0 h.0 can.2) h.2
is_more_done (Some a) source out err status.BadCapture (r, inr h) can nr nw = not_refused (IsRefusedPcapng h.0) can.0 source can.1 (refused_not_ng can.0 h.0 can.2) h.2
is_more_done (Some a) source out err status.TooLarge (r, inl h) can nr nw = not_too_many can.0.bytes source.was source.is can.1 (input_small can.0 can.2) h.0
is_more_done (Some a) source out err status.TooLarge (r, inr (inl h)) can nr nw =
    not_refused (IsRefusedCapture fault.TooManyRecords) can.0 source can.1 (refused_not can.0 fault.TooManyRecords can.2) h.0
is_more_done (Some a) source out err status.TooLarge (r, inr (inr h)) can nr nw =
    not_refused (IsRefusedPcapng pcapng.TooManyRecords) can.0 source can.1 (refused_not_ng can.0 pcapng.TooManyRecords can.2) h.0
