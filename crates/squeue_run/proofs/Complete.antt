-- Accepted words and an accepted capture end with the whole output, where nothing fails.
use Rattle.std.proofs.Common.{◌≡◌, ℕ, ◌<◌, ◌≤◌, List, [], ◌∷◌, Option, Some, None, inl, inr, subst, arith}
use Rattle.sq_base.specs.Ends.{Rose, End}
use Rattle.sq_base.specs.declared.kinds.Status.{Status}
use Rattle.sq_base.specs.declared.kinds.Status.TheVariants as status
use Rattle.capture_reader.specs.Outcome.{CaptureFile}
use Rattle.capture_reader.specs.declared.fault.CaptureFault.TheVariants as fault
use Rattle.capture_reader.proofs.Taken.{not_too_many}
use Rattle.shell.proofs.ReadOnce.{not_refused, read_once}
use Rattle.pcapng_reader.specs.declared.fault.PcapngFault.TheVariants as pcapng
use Rattle.pcapng_reader.specs.Input.{IsRefusedCapture, IsRefusedPcapng}
use Rattle.pcapng_reader.proofs.Inputs.{input_small, refused_not, refused_not_ng}
use Rattle.shell.specs.Reading.{HasRead, IsDone}
use Rattle.ring_threads.specs.Served.{ServedOf}
use Rattle.squeue_run.specs.Asked.{Asked}
use Rattle.squeue_run.specs.CallWords.{AllThere, IsFirstMissing}
use Rattle.squeue_run.specs.Limits.{most_marks}
use Rattle.squeue_run.specs.Ran.{Accepts, AcceptsBy, HoldsCapture, HasRan, IsLongTrace, IsServable, RanBy, RanFor, RanGenerated, RanRead, conns_of, marks_in}
use Rattle.squeue_run.specs.declared.calls.CallWord.{CallWord}

not_missing : (n c : ℕ) (ws : List CallWord) → AllThere n ws → IsFirstMissing n c ws → ⊥
not_missing n c [] a m = m
not_missing n c (w ∷ ws) a (inl m) = omega (arith, a.0, m.0)
not_missing n c (w ∷ ws) a (inr m) = not_missing n c ws a.1 m.1

over : (n m : ℕ) → m ≤ most_marks → n ≡ m → most_marks < n → ⊥
over n m most same many = omega (arith, most, same, many)

-- a trace within the limit isn't long
not_long : (file : CaptureFile) (a : Asked) (n : ℕ) → IsServable file a → IsLongTrace file a n → ⊥
not_long file a n can long = over n (marks_in file a) (can.marks long.asked) long.count long.many

read_done : (a : Asked) (source out err : End) (back : Option ServedOf) (s : Status) → HoldsCapture a source.was → (Rose source.faults_were source.faults_are → ⊥) → (Rose out.faults_were out.faults_are → ⊥)
    → HasRead source s × RanRead a source out err back s → IsDone s
read_done a source out err back status.Ok can nr nw h = tt
read_done a source out err back status.NoMemory can nr nw h = tt
read_done a source out err back status.Usage can nr nw h = absurd h.1
read_done a source out err back status.ReadFault can nr nw h = absurd (nr h.0.0)
read_done a source out err back status.WriteFault can nr nw h = nw h.1.3.failed
read_done a source out err back status.BadCapture can nr nw (r, inl h) = not_refused (IsRefusedCapture h.0) can.file source can.bytes (refused_not can.file h.0 can.capture) h.2
read_done a source out err back status.BadCapture can nr nw (r, inr h) = not_refused (IsRefusedPcapng h.0) can.file source can.bytes (refused_not_ng can.file h.0 can.capture) h.2
read_done a source out err back status.TooLarge can nr nw (r, inl h) = not_too_many can.file.bytes source.was source.is can.bytes (input_small can.file can.capture) h.0
read_done a source out err back status.TooLarge can nr nw (r, inr (inl h)) = not_refused (IsRefusedCapture fault.TooManyRecords) can.file source can.bytes (refused_not can.file fault.TooManyRecords can.capture) h.0
read_done a source out err back status.TooLarge can nr nw (r, inr (inr (inr h))) =
    let Long : CaptureFile → Type 0 = λ f. IsLongTrace f a h.2.0 in
    not_long can.file a h.2.0 can.servable (subst Long (read_once can.file h.0 source can.bytes can.capture h.1) h.2.1)
read_done a source out err back status.TooLarge can nr nw (r, inr (inr (inl h))) = not_refused (IsRefusedPcapng pcapng.TooManyRecords) can.file source can.bytes (refused_not_ng can.file pcapng.TooManyRecords can.capture) h.0
read_done a source out err back status.NoConnection can nr nw h =
    let Named : CaptureFile → Type 0 = λ f. IsFirstMissing (conns_of f a) h.1.2.0 a.calls in
    not_missing (conns_of can.file a) h.1.2.0 a.calls can.servable.there (subst Named (read_once can.file h.1.0 source can.bytes can.capture h.1.1) h.1.2.1)

generated_done : (n : ℕ) (a : Asked) (out err : End) (back : Option ServedOf) (s : Status) → (Rose out.faults_were out.faults_are → ⊥) → RanGenerated n a out err back s → IsDone s
generated_done n a out err back status.Ok nw h = tt
generated_done n a out err back status.NoMemory nw h = tt
generated_done n a out err back status.WriteFault nw h = nw h.0.failed
generated_done n a out err back status.Usage nw h = h
generated_done n a out err back status.ReadFault nw h = h
generated_done n a out err back status.BadCapture nw h = h
generated_done n a out err back status.TooLarge nw h = h
generated_done n a out err back status.NoConnection nw h = h

done_by : (number : Option ℕ) (a : Asked) (source out err : End) (back : Option ServedOf) (s : Status) → AcceptsBy number a source.was → (Rose source.faults_were source.faults_are → ⊥) → (Rose out.faults_were out.faults_are → ⊥)
    → RanBy number a source out err back s → IsDone s
done_by (Some n) a source out err back s can nr nw h = generated_done n a out err back s nw h.1
done_by None a source out err back s can nr nw h = read_done a source out err back s can nr nw h

done_for : (words : Option Asked) (source out err : End) (back : Option ServedOf) (s : Status) → RanFor words source out err back s → Accepts words source.was
    → (Rose source.faults_were source.faults_are → ⊥) → (Rose out.faults_were out.faults_are → ⊥) → IsDone s
done_for None source out err back s h can nr nw = absurd can
done_for (Some a) source out err back s h can nr nw = done_by a.number a source out err back s can nr nw h

pub is_done : (words : Option Asked) (source out err : End) (back : Option ServedOf) (s : Status) → HasRan words source out err back s → Accepts words source.was
    → (Rose source.faults_were source.faults_are → ⊥) → (Rose out.faults_were out.faults_are → ⊥) → IsDone s
is_done words source out err back s h can nr nw = done_for words source out err back s h.ran can nr nw
