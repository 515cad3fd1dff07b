-- What is read of a source whose capture is known.
use Rattle.std.proofs.Common.{◌≡◌, ℕ, List, Some, subst}
use Rattle.sq_base.specs.Ends.{End}
use Rattle.capture_reader.specs.Outcome.{CaptureFile}
use Rattle.capture_reader.proofs.Taken.{whole_is}
use Rattle.pcapng_reader.specs.Input.{IsInput}
use Rattle.pcapng_reader.proofs.Inputs.{same_input}
use Rattle.shell.specs.Reading.{Reads, ReadsSuch}

-- the capture that was read is the one that was there
pub read_once : (file found : CaptureFile) (source : End) → source.was ≡ Some file.bytes → IsInput file → Reads source found → found ≡ file
read_once file found source there capture r =
    let bytes : found.bytes ≡ file.bytes = whole_is file.bytes found.bytes source.was source.is there r.read in
    same_input file found bytes capture r.capture

pub not_refused : (Such : List ℕ → Type 0) (file : CaptureFile) (source : End) → source.was ≡ Some file.bytes → (Such file.bytes → ⊥) → ReadsSuch Such source.was source.is → ⊥
not_refused Such file source there not r = not (subst Such (whole_is file.bytes r.0 source.was source.is there r.1) r.2)
