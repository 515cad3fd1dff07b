-- How a run ends, from what its steps say.
use Rattle.std.proofs.Common.{◌≡◌, ℕ, List, [], Option, Some, None, inl, inr, subst, sym, refl, arith}
use Rattle.std.specs.Io.KnownBytes.{Appends}
use Rattle.std.proofs.KnownBytes.{Consumes-kept, Consumes-nil}
use Rattle.sq_base.specs.Ends.{Rose, AppendsProperly, End, IsUntouched, MetNoFault}
use Rattle.sq_base.specs.declared.kinds.Status.{Status}
use Rattle.sq_base.specs.declared.kinds.Status.TheVariants as status
use Rattle.capture_reader.specs.declared.fault.CaptureFault.{CaptureFault}
use Rattle.capture_reader.specs.declared.fault.CaptureFault.TheVariants as fault
use Rattle.pcapng_reader.specs.declared.fault.PcapngFault.TheVariants as pcapng
use Rattle.ring_threads.specs.Served.{ServedOf}
use Rattle.squeue_run.specs.Asked.{Asked}
use Rattle.squeue_run.specs.CallWords.{IsFirstMissing}
use Rattle.squeue_run.specs.declared.refusal.Refusal.{Refusal}
use Rattle.squeue_run.specs.declared.refusal.Refusal.TheVariants as refusal
use Rattle.shell.specs.Lines.{memory_line, write_line, bad_line, pcapng_line}
use Rattle.shell.specs.Reading.{HasRead, TakesFew}
use Rattle.shell.specs.Refusals.{LineOrMemory}
use Rattle.shell.specs.Telling.{TellsLine}
use Rattle.shell.proofs.Faults.{no_memory_told}
use Rattle.squeue_run.specs.Lines.{many_marks_line, missing_line}
use Rattle.squeue_run.specs.Words.{sqrun}
use Rattle.squeue_run.specs.Ran.{HandsBack, HasRan, RanBy, RanFor, RanGenerated, RanRead, RanRefused}
use Rattle.squeue_run.specs.Causes.{CountsFaults, Fails, FailsBy, GeneratedFails, Gives, GivesBy, ReadingFails, RefusedWords, Told}

line_or_memory : (P : Status → Type 0) (wanted : Status) (text : List ℕ) (err : End) (s : Status)
    → (TellsLine err text → P wanted) → (TellsLine err (memory_line sqrun) → P status.NoMemory) → LineOrMemory sqrun wanted text err s → P s
line_or_memory P wanted text err s line memory (inl t) = subst P (sym t.0) (line t.1)
line_or_memory P wanted text err s line memory (inr t) = subst P (sym t.0) (memory t.1)

refused_words : (why : Refusal) (out err : End) (s : Status) → IsUntouched out → RefusedWords why → Told why err s → RanRefused out err s
refused_words refusal.NoMemory out err s u h t = subst (RanRefused out err) (sym t.0) (u, t.1)
refused_words refusal.Usage out err s u h t = subst (RanRefused out err) (sym t.0) (u, t.1)
refused_words (refusal.Capture f) out err s u h t = absurd h
refused_words (refusal.Pcapng f) out err s u h t = absurd h
refused_words (refusal.NoConnection c n) out err s u h t = absurd h
refused_words (refusal.LongTrace n) out err s u h t = absurd h

not_generated : (n : ℕ) (a : Asked) (why : Refusal) (out err : End) (s : Status) → IsUntouched out → GeneratedFails why → Told why err s → RanGenerated n a out err None s
not_generated n a refusal.NoMemory out err s u h t = subst (RanGenerated n a out err None) (sym t.0) (u, t.1)
not_generated n a refusal.Usage out err s u h t = absurd h
not_generated n a (refusal.Capture f) out err s u h t =
    let Tells : CaptureFault → Type 0 = λ g. Told (refusal.Capture g) err s in
    let told = subst Tells h t in
    subst (RanGenerated n a out err None) (sym told.0) (u, told.1)
not_generated n a (refusal.Pcapng f) out err s u h t = absurd h
not_generated n a (refusal.NoConnection c k) out err s u h t = absurd h
not_generated n a (refusal.LongTrace k) out err s u h t = absurd h

not_read : (a : Asked) (why : Refusal) (source out err : End) (s : Status) → IsUntouched out → ReadingFails a source why → Told why err s → RanRead a source out err None s
not_read a refusal.NoMemory source out err s u h t = subst (RanRead a source out err None) (sym t.0) (u, t.1)
not_read a refusal.Usage source out err s u h t = absurd h
not_read a (refusal.Capture fault.Read) source out err s u h t = subst (RanRead a source out err None) (sym t.0) (u, t.1)
not_read a (refusal.Capture fault.NoMemory) source out err s u h t = subst (RanRead a source out err None) (sym t.0) (u, t.1)
not_read a (refusal.Capture (fault.TooLarge k)) source out err s u (inl h) t = subst (RanRead a source out err None) (sym t.0) (inl (h.1, (u, t.1)))
not_read a (refusal.Capture (fault.TooLarge k)) source out err s u (inr h) t = absurd h.2.1.1
not_read a (refusal.Capture fault.TooManyRecords) source out err s u (inl h) t = absurd h
not_read a (refusal.Capture fault.TooManyRecords) source out err s u (inr h) t = subst (RanRead a source out err None) (sym t.0) (inr (inl (h, (u, t.1))))
not_read a (refusal.Capture (fault.ShortHeader k)) source out err s u (inl h) t = absurd h
not_read a (refusal.Capture (fault.ShortHeader k)) source out err s u (inr h) t =
    line_or_memory (RanRead a source out err None) status.BadCapture (bad_line sqrun (fault.ShortHeader k)) err s (λ g. inl (fault.ShortHeader k, tt, h, (u, g))) (λ g. (u, g)) t
not_read a (refusal.Capture (fault.Magic k)) source out err s u (inl h) t = absurd h
not_read a (refusal.Capture (fault.Magic k)) source out err s u (inr h) t =
    line_or_memory (RanRead a source out err None) status.BadCapture (bad_line sqrun (fault.Magic k)) err s (λ g. inl (fault.Magic k, tt, h, (u, g))) (λ g. (u, g)) t
not_read a (refusal.Capture (fault.Version i j)) source out err s u (inl h) t = absurd h
not_read a (refusal.Capture (fault.Version i j)) source out err s u (inr h) t =
    line_or_memory (RanRead a source out err None) status.BadCapture (bad_line sqrun (fault.Version i j)) err s (λ g. inl (fault.Version i j, tt, h, (u, g))) (λ g. (u, g)) t
not_read a (refusal.Capture (fault.Link k)) source out err s u (inl h) t = absurd h
not_read a (refusal.Capture (fault.Link k)) source out err s u (inr h) t =
    line_or_memory (RanRead a source out err None) status.BadCapture (bad_line sqrun (fault.Link k)) err s (λ g. inl (fault.Link k, tt, h, (u, g))) (λ g. (u, g)) t
not_read a (refusal.Capture (fault.RecordLength i j)) source out err s u (inl h) t = absurd h
not_read a (refusal.Capture (fault.RecordLength i j)) source out err s u (inr h) t =
    line_or_memory (RanRead a source out err None) status.BadCapture (bad_line sqrun (fault.RecordLength i j)) err s (λ g. inl (fault.RecordLength i j, tt, h, (u, g))) (λ g. (u, g)) t
not_read a (refusal.Pcapng pcapng.NoMemory) source out err s u h t = subst (RanRead a source out err None) (sym t.0) (u, t.1)
not_read a (refusal.Pcapng pcapng.TooManyRecords) source out err s u (inl e) t = absurd (no_memory_told pcapng.TooManyRecords refl e)
not_read a (refusal.Pcapng pcapng.TooManyRecords) source out err s u (inr h) t = subst (RanRead a source out err None) (sym t.0) (inr (inr (inl (h, (u, t.1)))))
not_read a (refusal.Pcapng (pcapng.ShortSection k)) source out err s u (inl e) t = absurd (no_memory_told (pcapng.ShortSection k) refl e)
not_read a (refusal.Pcapng (pcapng.ShortSection k)) source out err s u (inr h) t =
    line_or_memory (RanRead a source out err None) status.BadCapture (pcapng_line sqrun (pcapng.ShortSection k)) err s (λ g. inr (pcapng.ShortSection k, tt, h, (u, g))) (λ g. (u, g)) t
not_read a (refusal.Pcapng (pcapng.Magic i k)) source out err s u (inl e) t = absurd (no_memory_told (pcapng.Magic i k) refl e)
not_read a (refusal.Pcapng (pcapng.Magic i k)) source out err s u (inr h) t =
    line_or_memory (RanRead a source out err None) status.BadCapture (pcapng_line sqrun (pcapng.Magic i k)) err s (λ g. inr (pcapng.Magic i k, tt, h, (u, g))) (λ g. (u, g)) t
not_read a (refusal.Pcapng (pcapng.BlockLength i k)) source out err s u (inl e) t = absurd (no_memory_told (pcapng.BlockLength i k) refl e)
not_read a (refusal.Pcapng (pcapng.BlockLength i k)) source out err s u (inr h) t =
    line_or_memory (RanRead a source out err None) status.BadCapture (pcapng_line sqrun (pcapng.BlockLength i k)) err s (λ g. inr (pcapng.BlockLength i k, tt, h, (u, g))) (λ g. (u, g)) t
not_read a (refusal.Pcapng (pcapng.EndLength i k)) source out err s u (inl e) t = absurd (no_memory_told (pcapng.EndLength i k) refl e)
not_read a (refusal.Pcapng (pcapng.EndLength i k)) source out err s u (inr h) t =
    line_or_memory (RanRead a source out err None) status.BadCapture (pcapng_line sqrun (pcapng.EndLength i k)) err s (λ g. inr (pcapng.EndLength i k, tt, h, (u, g))) (λ g. (u, g)) t
not_read a (refusal.Pcapng (pcapng.Version i j k)) source out err s u (inl e) t = absurd (no_memory_told (pcapng.Version i j k) refl e)
not_read a (refusal.Pcapng (pcapng.Version i j k)) source out err s u (inr h) t =
    line_or_memory (RanRead a source out err None) status.BadCapture (pcapng_line sqrun (pcapng.Version i j k)) err s (λ g. inr (pcapng.Version i j k, tt, h, (u, g))) (λ g. (u, g)) t
not_read a (refusal.Pcapng (pcapng.Link i k)) source out err s u (inl e) t = absurd (no_memory_told (pcapng.Link i k) refl e)
not_read a (refusal.Pcapng (pcapng.Link i k)) source out err s u (inr h) t =
    line_or_memory (RanRead a source out err None) status.BadCapture (pcapng_line sqrun (pcapng.Link i k)) err s (λ g. inr (pcapng.Link i k, tt, h, (u, g))) (λ g. (u, g)) t
not_read a (refusal.Pcapng (pcapng.MixedLink i k)) source out err s u (inl e) t = absurd (no_memory_told (pcapng.MixedLink i k) refl e)
not_read a (refusal.Pcapng (pcapng.MixedLink i k)) source out err s u (inr h) t =
    line_or_memory (RanRead a source out err None) status.BadCapture (pcapng_line sqrun (pcapng.MixedLink i k)) err s (λ g. inr (pcapng.MixedLink i k, tt, h, (u, g))) (λ g. (u, g)) t
not_read a (refusal.Pcapng (pcapng.NoInterface i k)) source out err s u (inl e) t = absurd (no_memory_told (pcapng.NoInterface i k) refl e)
not_read a (refusal.Pcapng (pcapng.NoInterface i k)) source out err s u (inr h) t =
    line_or_memory (RanRead a source out err None) status.BadCapture (pcapng_line sqrun (pcapng.NoInterface i k)) err s (λ g. inr (pcapng.NoInterface i k, tt, h, (u, g))) (λ g. (u, g)) t
not_read a (refusal.Pcapng (pcapng.PacketLength i k)) source out err s u (inl e) t = absurd (no_memory_told (pcapng.PacketLength i k) refl e)
not_read a (refusal.Pcapng (pcapng.PacketLength i k)) source out err s u (inr h) t =
    line_or_memory (RanRead a source out err None) status.BadCapture (pcapng_line sqrun (pcapng.PacketLength i k)) err s (λ g. inr (pcapng.PacketLength i k, tt, h, (u, g))) (λ g. (u, g)) t
not_read a (refusal.NoConnection c conns) source out err s u h t =
    let IsFirst : ℕ → Type 0 = λ n. IsFirstMissing n c a.calls in
    let Gets : ℕ → Type 0 = λ n. TellsLine err (missing_line c n) in
    line_or_memory (RanRead a source out err None) status.NoConnection (missing_line c conns) err s
    (λ g. (h.0, h.1, (c, subst IsFirst h.2.0 h.2.1, (u, subst Gets h.2.0 g)))) (λ g. (u, g)) t
not_read a (refusal.LongTrace n) source out err s u h t =
    line_or_memory (RanRead a source out err None) status.TooLarge (many_marks_line n) err s
    (λ g. inr (inr (inr (h.0, h.1, (n, h.2, (u, g)))))) (λ g. (u, g)) t

by_line : (source err : End) (wanted s : Status) (text : List ℕ) → HasRead source wanted → HasRead source status.NoMemory → LineOrMemory sqrun wanted text err s → HasRead source s
by_line source err wanted s text h m t = line_or_memory (HasRead source) wanted text err s (λ g. h) (λ g. m) t

has_read : (source err : End) (why : Refusal) (s : Status) → CountsFaults source why → TakesFew source → Told why err s → HasRead source s
has_read source err refusal.NoMemory s c f t = subst (HasRead source) (sym t.0) (c, f)
has_read source err refusal.Usage s c f t = subst (HasRead source) (sym t.0) (c, f)
has_read source err (refusal.Capture fault.Read) s c f t = subst (HasRead source) (sym t.0) (c, f)
has_read source err (refusal.Capture fault.NoMemory) s c f t = subst (HasRead source) (sym t.0) (c, f)
has_read source err (refusal.Capture (fault.TooLarge k)) s c f t = subst (HasRead source) (sym t.0) (c, f)
has_read source err (refusal.Capture fault.TooManyRecords) s c f t = subst (HasRead source) (sym t.0) (c, f)
has_read source err (refusal.Capture (fault.ShortHeader k)) s c f t = by_line source err status.BadCapture s (bad_line sqrun (fault.ShortHeader k)) (c, f) (c, f) t
has_read source err (refusal.Capture (fault.Magic k)) s c f t = by_line source err status.BadCapture s (bad_line sqrun (fault.Magic k)) (c, f) (c, f) t
has_read source err (refusal.Capture (fault.Version i j)) s c f t = by_line source err status.BadCapture s (bad_line sqrun (fault.Version i j)) (c, f) (c, f) t
has_read source err (refusal.Capture (fault.Link k)) s c f t = by_line source err status.BadCapture s (bad_line sqrun (fault.Link k)) (c, f) (c, f) t
has_read source err (refusal.Capture (fault.RecordLength i j)) s c f t = by_line source err status.BadCapture s (bad_line sqrun (fault.RecordLength i j)) (c, f) (c, f) t
has_read source err (refusal.Pcapng pcapng.NoMemory) s c f t = subst (HasRead source) (sym t.0) (c, f)
has_read source err (refusal.Pcapng pcapng.TooManyRecords) s c f t = subst (HasRead source) (sym t.0) (c, f)
has_read source err (refusal.Pcapng (pcapng.ShortSection k)) s c f t = by_line source err status.BadCapture s (pcapng_line sqrun (pcapng.ShortSection k)) (c, f) (c, f) t
has_read source err (refusal.Pcapng (pcapng.Magic i k)) s c f t = by_line source err status.BadCapture s (pcapng_line sqrun (pcapng.Magic i k)) (c, f) (c, f) t
has_read source err (refusal.Pcapng (pcapng.BlockLength i k)) s c f t = by_line source err status.BadCapture s (pcapng_line sqrun (pcapng.BlockLength i k)) (c, f) (c, f) t
has_read source err (refusal.Pcapng (pcapng.EndLength i k)) s c f t = by_line source err status.BadCapture s (pcapng_line sqrun (pcapng.EndLength i k)) (c, f) (c, f) t
has_read source err (refusal.Pcapng (pcapng.Version i j k)) s c f t = by_line source err status.BadCapture s (pcapng_line sqrun (pcapng.Version i j k)) (c, f) (c, f) t
has_read source err (refusal.Pcapng (pcapng.Link i k)) s c f t = by_line source err status.BadCapture s (pcapng_line sqrun (pcapng.Link i k)) (c, f) (c, f) t
has_read source err (refusal.Pcapng (pcapng.MixedLink i k)) s c f t = by_line source err status.BadCapture s (pcapng_line sqrun (pcapng.MixedLink i k)) (c, f) (c, f) t
has_read source err (refusal.Pcapng (pcapng.NoInterface i k)) s c f t = by_line source err status.BadCapture s (pcapng_line sqrun (pcapng.NoInterface i k)) (c, f) (c, f) t
has_read source err (refusal.Pcapng (pcapng.PacketLength i k)) s c f t = by_line source err status.BadCapture s (pcapng_line sqrun (pcapng.PacketLength i k)) (c, f) (c, f) t
has_read source err (refusal.LongTrace n) s c f t = by_line source err status.TooLarge s (many_marks_line n) (c, f) (c, f) t
has_read source err (refusal.NoConnection k conns) s c f t = by_line source err status.NoConnection s (missing_line k conns) (c, f) (c, f) t

not_written : (number : Option ℕ) (a : Asked) (why : Refusal) (source out err : End) (s : Status) → IsUntouched out → FailsBy number a source why → Told why err s → RanBy number a source out err None s
not_written (Some n) a why source out err s u h t = (h.0, not_generated n a why out err s u h.1 t)
not_written None a why source out err s u h t = (has_read source err why s h.0 h.1 t, not_read a why source out err s u h.2 t)

no_output : (words : Option Asked) (why : Refusal) (source out err : End) (s : Status) → IsUntouched out → Fails words source why → Told why err s → RanFor words source out err None s
no_output None why source out err s u h t = (h.0, refused_words why out err s u h.1 t)
no_output (Some a) why source out err s u h t = not_written a.number a why source out err s u h t

-- nothing is handed back with nothing
nothing_back : (s : Status) → HandsBack None s
nothing_back status.Ok = tt
nothing_back status.Usage = refl
nothing_back status.ReadFault = refl
nothing_back status.WriteFault = refl
nothing_back status.BadCapture = refl
nothing_back status.TooLarge = refl
nothing_back status.NoMemory = refl
nothing_back status.NoConnection = refl

pub refused : (words : Option Asked) (why : Refusal) (source out err : End) (s : Status) → IsUntouched out → Fails words source why → Told why err s → HasRan words source out err None s
refused words why source out err s u h t = record { ran = no_output words why source out err s u h t; handed = nothing_back s }

done_by : (number : Option ℕ) (a : Asked) (source out err : End) (v : ServedOf) (text : List ℕ) → GivesBy number a source v text → Appends out.was out.is text → MetNoFault out → IsUntouched err
    → RanBy number a source out err (Some v) status.Ok
done_by (Some n) a source out err v text h w k u = (h.0, (record { served = v; handed = refl; text = text; output = h.1; written = w; unfailing = k }, u))
done_by None a source out err v text h w k u =
    ((h.0, h.1), (h.2.0, h.2.1, h.2.2.0, record { served = v; handed = refl; text = text; output = h.2.2.1; written = w; unfailing = k }, u))

done_for : (words : Option Asked) (source out err : End) (v : ServedOf) (text bytes : List ℕ) → Gives words source v text → bytes ≡ text → Appends out.was out.is bytes → MetNoFault out → IsUntouched err
    → RanFor words source out err (Some v) status.Ok
done_for None source out err v text bytes h e w k u = absurd h
done_for (Some a) source out err v text bytes h e w k u = done_by a.number a source out err v text h (subst (Appends out.was out.is) e w) k u

pub done : (words : Option Asked) (source out err : End) (v : ServedOf) (text bytes : List ℕ) → Gives words source v text → bytes ≡ text → Appends out.was out.is bytes → MetNoFault out → IsUntouched err
    → HasRan words source out err (Some v) status.Ok
done words source out err v text bytes h e w k u = record { ran = done_for words source out err v text bytes h e w k u; handed = tt }

cut_by : (number : Option ℕ) (a : Asked) (source out err : End) (v : ServedOf) (text : List ℕ) → GivesBy number a source v text → AppendsProperly out.was out.is text → Rose out.faults_were out.faults_are → TellsLine err (write_line sqrun)
    → RanBy number a source out err None status.WriteFault
cut_by (Some n) a source out err v text h w r g = (h.0, (record { served = v; text = text; output = h.1; written = w; failed = r }, g))
cut_by None a source out err v text h w r g = ((h.0, h.1), (h.2.0, h.2.1, h.2.2.0, record { served = v; text = text; output = h.2.2.1; written = w; failed = r }, g))

cut_for : (words : Option Asked) (source out err : End) (v : ServedOf) (text bytes : List ℕ) → Gives words source v text → bytes ≡ text → AppendsProperly out.was out.is bytes → Rose out.faults_were out.faults_are
    → TellsLine err (write_line sqrun) → RanFor words source out err None status.WriteFault
cut_for None source out err v text bytes h e w r g = absurd h
cut_for (Some a) source out err v text bytes h e w r g = cut_by a.number a source out err v text h (subst (AppendsProperly out.was out.is) e w) r g

pub cut : (words : Option Asked) (source out err : End) (v : ServedOf) (text bytes : List ℕ) → Gives words source v text → bytes ≡ text → AppendsProperly out.was out.is bytes → Rose out.faults_were out.faults_are
    → TellsLine err (write_line sqrun) → HasRan words source out err None status.WriteFault
cut words source out err v text bytes h e w r g = record { ran = cut_for words source out err v text bytes h e w r g; handed = refl }

no_memory_by : (number : Option ℕ) (a : Asked) (source : End) → IsUntouched source → FailsBy number a source refusal.NoMemory
no_memory_by (Some n) a source u = (u, tt)
no_memory_by None a source u = (u.faults, record { bytes = []; taken = Consumes-kept source.was source.was source.is [] (Consumes-nil source.was) u.bytes; count = omega arith }, tt)

pub no_memory : (words : Option Asked) (source : End) → IsUntouched source → Fails words source refusal.NoMemory
no_memory None source u = (u, tt)
no_memory (Some a) source u = no_memory_by a.number a source u
