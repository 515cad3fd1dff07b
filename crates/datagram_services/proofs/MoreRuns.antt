-- How a run ends, from what its steps say.
use Rattle.std.proofs.Common.{◌≡◌, ℕ, List, [], MatchResult, Option, Some, None, Result, Ok, Err, inl, inr, subst, sym, refl, ◌∙◌, arith}
use Rattle.std.proofs.KnownBytes.{Consumes-kept, Consumes-nil}
use Rattle.sq_base.specs.Ends.{End, IsUntouched, MetNoFault, Rose}
use Rattle.sq_base.specs.declared.kinds.Status.{Status}
use Rattle.sq_base.specs.declared.kinds.Status.TheVariants as status
use Rattle.capture_reader.specs.Outcome.{BytesFail, CaptureFile, ReadsWhole}
use Rattle.capture_reader.specs.declared.fault.CaptureFault.{CaptureFault}
use Rattle.capture_reader.specs.declared.fault.CaptureFault.TheVariants as fault
use Rattle.pcapng_reader.specs.Input.{InputFails, IsInput, IsRefusedCapture}
use Rattle.pcapng_reader.specs.declared.input.InputFault.{InputFault}
use Rattle.pcapng_reader.specs.declared.fault.PcapngFault.TheVariants as pcapng
use Rattle.pcapng_reader.specs.declared.input.InputFault.TheVariants as input
use Rattle.ring_quotas.specs.declared.setup.Setup.{Setup}
use Rattle.shell.specs.Reading.{HasRead, Reads, TakesFew}
use Rattle.shell.specs.Refusals.{LineOrMemory}
use Rattle.datagram_services.specs.declared.refusal.Refusal.{Refusal}
use Rattle.datagram_services.specs.declared.refusal.Refusal.TheVariants as refusal
use Rattle.shell.specs.Lines.{bad_line, memory_line, pcapng_line}
use Rattle.shell.proofs.Faults.{no_memory_told}
use Rattle.shell.specs.Telling.{TellsLine}
use Rattle.datagram_services.specs.RefusalLines.{sqmore}
use Rattle.datagram_services.specs.MoreRan.{GetsReport, HasMoreRan, MoreRead, MoreRefused}
use Rattle.datagram_services.specs.MoreCauses.{CountsFaults, MoreFails, MoreGives, MoreTold, ReadFails, ReadGives, ReadingFails, RefusedWords, ReportFails}

line_or_memory : (P : Status → Type 0) (wanted : Status) (text : List ℕ) (err : End) (s : Status)
    → (TellsLine err text → P wanted) → (TellsLine err (memory_line sqmore) → P status.NoMemory) → LineOrMemory sqmore wanted text err s → P s
line_or_memory P wanted text err s line memory (inl t) = subst P (sym t.0) (line t.1)
line_or_memory P wanted text err s line memory (inr t) = subst P (sym t.0) (memory t.1)

not_read : (why : Refusal) (source out err : End) (s : Status) → ReadingFails source out why → MoreTold why err s → MoreRead source out err s
not_read refusal.NoMemory source out err s h t = subst (MoreRead source out err) (sym t.0) (h, t.1)
not_read refusal.Usage source out err s h t = absurd h
not_read (refusal.Input (input.Capture fault.Read)) source out err s h t = subst (MoreRead source out err) (sym t.0) (h.0, t.1)
not_read (refusal.Input (input.Capture fault.NoMemory)) source out err s h t = subst (MoreRead source out err) (sym t.0) (h.0, t.1)
not_read (refusal.Input (input.Capture (fault.TooLarge k))) source out err s (u, inl h) t = subst (MoreRead source out err) (sym t.0) (inl (h.1, (u, t.1)))
not_read (refusal.Input (input.Capture (fault.TooLarge k))) source out err s (u, inr h) t = absurd h.2.1.1
not_read (refusal.Input (input.Capture fault.TooManyRecords)) source out err s (u, inl h) t = absurd h
not_read (refusal.Input (input.Capture fault.TooManyRecords)) source out err s (u, inr h) t = subst (MoreRead source out err) (sym t.0) (inr (inl (h, (u, t.1))))
not_read (refusal.Input (input.Capture (fault.ShortHeader k))) source out err s (u, inl h) t = absurd h
not_read (refusal.Input (input.Capture (fault.ShortHeader k))) source out err s (u, inr h) t =
    line_or_memory (MoreRead source out err) status.BadCapture (bad_line sqmore (fault.ShortHeader k)) err s (λ g. inl (fault.ShortHeader k, tt, h, (u, g))) (λ g. (u, g)) t
not_read (refusal.Input (input.Capture (fault.Magic k))) source out err s (u, inl h) t = absurd h
not_read (refusal.Input (input.Capture (fault.Magic k))) source out err s (u, inr h) t =
    line_or_memory (MoreRead source out err) status.BadCapture (bad_line sqmore (fault.Magic k)) err s (λ g. inl (fault.Magic k, tt, h, (u, g))) (λ g. (u, g)) t
not_read (refusal.Input (input.Capture (fault.Version i j))) source out err s (u, inl h) t = absurd h
not_read (refusal.Input (input.Capture (fault.Version i j))) source out err s (u, inr h) t =
    line_or_memory (MoreRead source out err) status.BadCapture (bad_line sqmore (fault.Version i j)) err s (λ g. inl (fault.Version i j, tt, h, (u, g))) (λ g. (u, g)) t
not_read (refusal.Input (input.Capture (fault.Link k))) source out err s (u, inl h) t = absurd h
not_read (refusal.Input (input.Capture (fault.Link k))) source out err s (u, inr h) t =
    line_or_memory (MoreRead source out err) status.BadCapture (bad_line sqmore (fault.Link k)) err s (λ g. inl (fault.Link k, tt, h, (u, g))) (λ g. (u, g)) t
not_read (refusal.Input (input.Capture (fault.RecordLength i j))) source out err s (u, inl h) t = absurd h
not_read (refusal.Input (input.Capture (fault.RecordLength i j))) source out err s (u, inr h) t =
    line_or_memory (MoreRead source out err) status.BadCapture (bad_line sqmore (fault.RecordLength i j)) err s (λ g. inl (fault.RecordLength i j, tt, h, (u, g))) (λ g. (u, g)) t
not_read (refusal.Input (input.Pcapng pcapng.NoMemory)) source out err s h t = subst (MoreRead source out err) (sym t.0) (h.0, t.1)
not_read (refusal.Input (input.Pcapng pcapng.TooManyRecords)) source out err s (u, inl e) t = absurd (no_memory_told pcapng.TooManyRecords refl e)
not_read (refusal.Input (input.Pcapng pcapng.TooManyRecords)) source out err s (u, inr h) t = subst (MoreRead source out err) (sym t.0) (inr (inr (h, (u, t.1))))
not_read (refusal.Input (input.Pcapng (pcapng.ShortSection k))) source out err s (u, inl e) t = absurd (no_memory_told (pcapng.ShortSection k) refl e)
not_read (refusal.Input (input.Pcapng (pcapng.ShortSection k))) source out err s (u, inr h) t =
    line_or_memory (MoreRead source out err) status.BadCapture (pcapng_line sqmore (pcapng.ShortSection k)) err s (λ g. inr (pcapng.ShortSection k, tt, h, (u, g))) (λ g. (u, g)) t
not_read (refusal.Input (input.Pcapng (pcapng.Magic i k))) source out err s (u, inl e) t = absurd (no_memory_told (pcapng.Magic i k) refl e)
not_read (refusal.Input (input.Pcapng (pcapng.Magic i k))) source out err s (u, inr h) t =
    line_or_memory (MoreRead source out err) status.BadCapture (pcapng_line sqmore (pcapng.Magic i k)) err s (λ g. inr (pcapng.Magic i k, tt, h, (u, g))) (λ g. (u, g)) t
not_read (refusal.Input (input.Pcapng (pcapng.BlockLength i k))) source out err s (u, inl e) t = absurd (no_memory_told (pcapng.BlockLength i k) refl e)
not_read (refusal.Input (input.Pcapng (pcapng.BlockLength i k))) source out err s (u, inr h) t =
    line_or_memory (MoreRead source out err) status.BadCapture (pcapng_line sqmore (pcapng.BlockLength i k)) err s (λ g. inr (pcapng.BlockLength i k, tt, h, (u, g))) (λ g. (u, g)) t
not_read (refusal.Input (input.Pcapng (pcapng.EndLength i k))) source out err s (u, inl e) t = absurd (no_memory_told (pcapng.EndLength i k) refl e)
not_read (refusal.Input (input.Pcapng (pcapng.EndLength i k))) source out err s (u, inr h) t =
    line_or_memory (MoreRead source out err) status.BadCapture (pcapng_line sqmore (pcapng.EndLength i k)) err s (λ g. inr (pcapng.EndLength i k, tt, h, (u, g))) (λ g. (u, g)) t
not_read (refusal.Input (input.Pcapng (pcapng.Version i j k))) source out err s (u, inl e) t = absurd (no_memory_told (pcapng.Version i j k) refl e)
not_read (refusal.Input (input.Pcapng (pcapng.Version i j k))) source out err s (u, inr h) t =
    line_or_memory (MoreRead source out err) status.BadCapture (pcapng_line sqmore (pcapng.Version i j k)) err s (λ g. inr (pcapng.Version i j k, tt, h, (u, g))) (λ g. (u, g)) t
not_read (refusal.Input (input.Pcapng (pcapng.Link i k))) source out err s (u, inl e) t = absurd (no_memory_told (pcapng.Link i k) refl e)
not_read (refusal.Input (input.Pcapng (pcapng.Link i k))) source out err s (u, inr h) t =
    line_or_memory (MoreRead source out err) status.BadCapture (pcapng_line sqmore (pcapng.Link i k)) err s (λ g. inr (pcapng.Link i k, tt, h, (u, g))) (λ g. (u, g)) t
not_read (refusal.Input (input.Pcapng (pcapng.MixedLink i k))) source out err s (u, inl e) t = absurd (no_memory_told (pcapng.MixedLink i k) refl e)
not_read (refusal.Input (input.Pcapng (pcapng.MixedLink i k))) source out err s (u, inr h) t =
    line_or_memory (MoreRead source out err) status.BadCapture (pcapng_line sqmore (pcapng.MixedLink i k)) err s (λ g. inr (pcapng.MixedLink i k, tt, h, (u, g))) (λ g. (u, g)) t
not_read (refusal.Input (input.Pcapng (pcapng.NoInterface i k))) source out err s (u, inl e) t = absurd (no_memory_told (pcapng.NoInterface i k) refl e)
not_read (refusal.Input (input.Pcapng (pcapng.NoInterface i k))) source out err s (u, inr h) t =
    line_or_memory (MoreRead source out err) status.BadCapture (pcapng_line sqmore (pcapng.NoInterface i k)) err s (λ g. inr (pcapng.NoInterface i k, tt, h, (u, g))) (λ g. (u, g)) t
not_read (refusal.Input (input.Pcapng (pcapng.PacketLength i k))) source out err s (u, inl e) t = absurd (no_memory_told (pcapng.PacketLength i k) refl e)
not_read (refusal.Input (input.Pcapng (pcapng.PacketLength i k))) source out err s (u, inr h) t =
    line_or_memory (MoreRead source out err) status.BadCapture (pcapng_line sqmore (pcapng.PacketLength i k)) err s (λ g. inr (pcapng.PacketLength i k, tt, h, (u, g))) (λ g. (u, g)) t
not_read refusal.Write source out err s h t = subst (MoreRead source out err) (sym t.0) (h.0, h.1, h.2, t.1)

by_line : (source err : End) (wanted s : Status) (text : List ℕ) → HasRead source wanted → HasRead source status.NoMemory → LineOrMemory sqmore wanted text err s → HasRead source s
by_line source err wanted s text h m t = line_or_memory (HasRead source) wanted text err s (λ g. h) (λ g. m) t

has_read : (source err : End) (why : Refusal) (s : Status) → CountsFaults source why → TakesFew source → MoreTold why err s → HasRead source s
has_read source err refusal.NoMemory s c f t = subst (HasRead source) (sym t.0) (c, f)
has_read source err refusal.Usage s c f t = subst (HasRead source) (sym t.0) (c, f)
has_read source err (refusal.Input (input.Capture fault.Read)) s c f t = subst (HasRead source) (sym t.0) (c, f)
has_read source err (refusal.Input (input.Capture fault.NoMemory)) s c f t = subst (HasRead source) (sym t.0) (c, f)
has_read source err (refusal.Input (input.Capture (fault.TooLarge k))) s c f t = subst (HasRead source) (sym t.0) (c, f)
has_read source err (refusal.Input (input.Capture fault.TooManyRecords)) s c f t = subst (HasRead source) (sym t.0) (c, f)
has_read source err (refusal.Input (input.Capture (fault.ShortHeader k))) s c f t = by_line source err status.BadCapture s (bad_line sqmore (fault.ShortHeader k)) (c, f) (c, f) t
has_read source err (refusal.Input (input.Capture (fault.Magic k))) s c f t = by_line source err status.BadCapture s (bad_line sqmore (fault.Magic k)) (c, f) (c, f) t
has_read source err (refusal.Input (input.Capture (fault.Version i j))) s c f t = by_line source err status.BadCapture s (bad_line sqmore (fault.Version i j)) (c, f) (c, f) t
has_read source err (refusal.Input (input.Capture (fault.Link k))) s c f t = by_line source err status.BadCapture s (bad_line sqmore (fault.Link k)) (c, f) (c, f) t
has_read source err (refusal.Input (input.Capture (fault.RecordLength i j))) s c f t = by_line source err status.BadCapture s (bad_line sqmore (fault.RecordLength i j)) (c, f) (c, f) t
has_read source err (refusal.Input (input.Pcapng pcapng.NoMemory)) s c f t = subst (HasRead source) (sym t.0) (c, f)
has_read source err (refusal.Input (input.Pcapng pcapng.TooManyRecords)) s c f t = subst (HasRead source) (sym t.0) (c, f)
has_read source err (refusal.Input (input.Pcapng (pcapng.ShortSection k))) s c f t = by_line source err status.BadCapture s (pcapng_line sqmore (pcapng.ShortSection k)) (c, f) (c, f) t
has_read source err (refusal.Input (input.Pcapng (pcapng.Magic i k))) s c f t = by_line source err status.BadCapture s (pcapng_line sqmore (pcapng.Magic i k)) (c, f) (c, f) t
has_read source err (refusal.Input (input.Pcapng (pcapng.BlockLength i k))) s c f t = by_line source err status.BadCapture s (pcapng_line sqmore (pcapng.BlockLength i k)) (c, f) (c, f) t
has_read source err (refusal.Input (input.Pcapng (pcapng.EndLength i k))) s c f t = by_line source err status.BadCapture s (pcapng_line sqmore (pcapng.EndLength i k)) (c, f) (c, f) t
has_read source err (refusal.Input (input.Pcapng (pcapng.Version i j k))) s c f t = by_line source err status.BadCapture s (pcapng_line sqmore (pcapng.Version i j k)) (c, f) (c, f) t
has_read source err (refusal.Input (input.Pcapng (pcapng.Link i k))) s c f t = by_line source err status.BadCapture s (pcapng_line sqmore (pcapng.Link i k)) (c, f) (c, f) t
has_read source err (refusal.Input (input.Pcapng (pcapng.MixedLink i k))) s c f t = by_line source err status.BadCapture s (pcapng_line sqmore (pcapng.MixedLink i k)) (c, f) (c, f) t
has_read source err (refusal.Input (input.Pcapng (pcapng.NoInterface i k))) s c f t = by_line source err status.BadCapture s (pcapng_line sqmore (pcapng.NoInterface i k)) (c, f) (c, f) t
has_read source err (refusal.Input (input.Pcapng (pcapng.PacketLength i k))) s c f t = by_line source err status.BadCapture s (pcapng_line sqmore (pcapng.PacketLength i k)) (c, f) (c, f) t
has_read source err refusal.Write s c f t = subst (HasRead source) (sym t.0) (c, f)

refused_words : (why : Refusal) (out err : End) (s : Status) → IsUntouched out → RefusedWords why → MoreTold why err s → MoreRefused out err s
refused_words refusal.NoMemory out err s u h t = subst (MoreRefused out err) (sym t.0) (u, t.1)
refused_words refusal.Usage out err s u h t = subst (MoreRefused out err) (sym t.0) (u, t.1)
refused_words (refusal.Input f) out err s u h t = absurd h
refused_words refusal.Write out err s u h t = absurd h

pub refused : (words : Option Setup) (why : Refusal) (source out err : End) (s : Status) → MoreFails words source out why → MoreTold why err s → HasMoreRan words source out err s
refused None why source out err s h t = (h.0, refused_words why out err s h.1 h.2 t)
refused (Some a) why source out err s h t = (has_read source err why s h.0 h.1 t, not_read why source out err s h.2 t)

pub written : (words : Option Setup) (source out err : End) → IsUntouched err → MoreGives words source out → HasMoreRan words source out err status.Ok
written None source out err u h = absurd h
written (Some a) source out err u h = ((h.0, h.1), (h.2.0, h.2.1, h.2.2, u))

pub no_memory : (words : Option Setup) (source out : End) → IsUntouched source → IsUntouched out → MoreFails words source out refusal.NoMemory
no_memory None source out u o = (u, o, tt)
no_memory (Some a) source out u o = (u.faults, record { bytes = []; taken = Consumes-kept source.was source.was source.is [] (Consumes-nil source.was) u.bytes; count = omega arith }, o)

pub usage : (words : Option Setup) (source out : End) → words ≡ None → IsUntouched source → IsUntouched out → MoreFails words source out refusal.Usage
usage None source out e u o = (u, o, tt)
usage (Some a) source out e u o = absurd (let no : ⊥ = cc in no)

-- accepted words
pub given : (words : Option Setup) (a : Setup) (source out : End) (r : Result (Unit {0}) Refusal) → words ≡ Some a → MatchResult r (λ _. ReadGives source out) (ReadFails source out)
    → MatchResult r (λ _. MoreGives words source out) (MoreFails words source out)
given words a source out r e h = subst (λ q. MatchResult r (λ _. MoreGives q source out) (MoreFails q source out)) (sym e) h

-- what the report of a capture that was read says of the whole run
pub reported : (file : CaptureFile) (source out : End) (r : Result (Unit {0}) Refusal) → MetNoFault source → TakesFew source → Reads source file
    → MatchResult r (λ _. GetsReport file out) (ReportFails file out) → MatchResult r (λ _. ReadGives source out) (ReadFails source out)
reported file source out (Ok x) met few read h = (met, few, (file, read, h))
reported file source out (Err refusal.NoMemory) met few read h = (met, few, h)
reported file source out (Err refusal.Usage) met few read h = absurd h
reported file source out (Err (refusal.Input f)) met few read h = absurd h
reported file source out (Err refusal.Write) met few read h = (met, few, (file, read, h))

-- a read fault is counted, and no other
counted : (source : End) (f : CaptureFault) → (f ≡ fault.Read → Rose source.faults_were source.faults_are) → ((f ≡ fault.Read → ⊥) → MetNoFault source)
    → CountsFaults source (refusal.Input (input.Capture f))
counted source fault.Read rose met = rose refl
counted source fault.NoMemory rose met = met (λ e. let no : ⊥ = cc in no)
counted source (fault.TooLarge k) rose met = met (λ e. let no : ⊥ = cc in no)
counted source fault.TooManyRecords rose met = met (λ e. let no : ⊥ = cc in no)
counted source (fault.ShortHeader k) rose met = met (λ e. let no : ⊥ = cc in no)
counted source (fault.Magic k) rose met = met (λ e. let no : ⊥ = cc in no)
counted source (fault.Version i j) rose met = met (λ e. let no : ⊥ = cc in no)
counted source (fault.Link k) rose met = met (λ e. let no : ⊥ = cc in no)
counted source (fault.RecordLength i j) rose met = met (λ e. let no : ⊥ = cc in no)

-- the bytes were not all read
pub not_all : (source out : End) (f : CaptureFault) → (f ≡ fault.Read → Rose source.faults_were source.faults_are) → ((f ≡ fault.Read → ⊥) → MetNoFault source)
    → TakesFew source → IsUntouched out → BytesFail source.was source.is f → ReadFails source out (refusal.Input (input.Capture f))
not_all source out f rose met few u h = (counted source f rose met, few, (u, inl h))

-- they were, and are no capture
refused_as : (source out : End) (f : InputFault) (bytes : List ℕ) → IsUntouched out → ReadsWhole source.was source.is bytes → InputFails bytes f → ReadingFails source out (refusal.Input f)
refused_as source out (input.Capture f) bytes u whole (inl e) = (u, inl (subst (BytesFail source.was source.is) (sym e) tt))
refused_as source out (input.Capture f) bytes u whole (inr h) = (u, inr (bytes, whole, h))
refused_as source out (input.Pcapng f) bytes u whole (inl e) = (u, inl e)
refused_as source out (input.Pcapng f) bytes u whole (inr h) = (u, inr (bytes, whole, h))

never_read : (f : CaptureFault) (bytes : List ℕ) → f ≡ fault.Read → InputFails bytes (input.Capture f) → ⊥
never_read f bytes e (inl m) = let no : fault.Read ≡ fault.NoMemory = sym e ∙ m in cc
never_read f bytes e (inr h) = (subst (λ x. IsRefusedCapture x bytes) e h).1.1

pub no_capture : (source out : End) (f : InputFault) (bytes : List ℕ) → MetNoFault source → TakesFew source → IsUntouched out → ReadsWhole source.was source.is bytes → InputFails bytes f
    → ReadFails source out (refusal.Input f)
no_capture source out (input.Capture f) bytes met few u whole h =
    (counted source f (λ e. absurd (never_read f bytes e h)) (λ _. met), few, refused_as source out (input.Capture f) bytes u whole h)
no_capture source out (input.Pcapng f) bytes met few u whole h = (met, few, refused_as source out (input.Pcapng f) bytes u whole h)

-- what was read is this capture
pub read_of : (source : End) (file : CaptureFile) (bytes : List ℕ) → ReadsWhole source.was source.is bytes → file.bytes ≡ bytes → IsInput file → Reads source file
read_of source file bytes whole same input = record { read = subst (ReadsWhole source.was source.is) (sym same) whole; capture = input }
