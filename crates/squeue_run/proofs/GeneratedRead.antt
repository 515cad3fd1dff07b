-- The generated capture isn't refused: its bytes are one thing alone.
use Rattle.std.proofs.Common.{◌≡◌, ℕ, List, length, Result, Ok, Err, refl, arith}
use Rattle.capture_reader.proofs.OneOutcome.{meets_once}
use Rattle.capture_reader.specs.declared.fault.CaptureFault.{CaptureFault}
use Rattle.capture_reader.specs.declared.fault.CaptureFault.TheVariants as fault
use Rattle.capture_reader.specs.CaptureFile.{Contents, Captured, Meets}
use Rattle.squeue_run.specs.GeneratedCapture.{IsAccepted, IsUnrefused}

no_two : (bytes : List ℕ) (contents : Contents) (f : CaptureFault) → Captured bytes contents → Meets bytes (Err f) → ⊥
no_two bytes contents f h g = let same : ◌≡◌ {A = Result Contents CaptureFault} (Ok contents) (Err f) = meets_once bytes (Ok contents) (Err f) h g in cc

pub unrefused : (bytes : List ℕ) → length bytes ≡ 10256024 → IsAccepted bytes → IsUnrefused bytes
unrefused bytes size (contents, h) fault.NoMemory fails = refl
unrefused bytes size (contents, h) fault.Read fails = absurd fails
unrefused bytes size (contents, h) (fault.TooLarge n) fails = absurd (let no : ⊥ = omega (arith, size, fails.0, fails.1) in no)
unrefused bytes size (contents, h) (fault.ShortHeader n) fails = absurd (no_two bytes contents (fault.ShortHeader n) h fails.1)
unrefused bytes size (contents, h) (fault.Magic magic) fails = absurd (no_two bytes contents (fault.Magic magic) h fails.1)
unrefused bytes size (contents, h) (fault.Version major minor) fails = absurd (no_two bytes contents (fault.Version major minor) h fails.1)
unrefused bytes size (contents, h) (fault.Link n) fails = absurd (no_two bytes contents (fault.Link n) h fails.1)
unrefused bytes size (contents, h) (fault.RecordLength index len) fails = absurd (no_two bytes contents (fault.RecordLength index len) h fails.1)
unrefused bytes size (contents, h) fault.TooManyRecords fails = absurd (no_two bytes contents fault.TooManyRecords h fails.1)
