-- What is read of a source whose bytes are known.
use Rattle.std.proofs.Common.{◌≡◌, ℕ, ◌+◌, ◌≤◌, List, Option, Some, length, sym, subst, arith}
use Rattle.std.specs.Io.KnownBytes.{Consumes}
use Rattle.capture_reader.specs.Outcome.{ReadsWhole, Takes}
use Rattle.capture_reader.proofs.Taken.{taken_some, whole_is}
use Rattle.trace_replay.specs.Replays.{Replays}

-- within the size they aren't too large
pub never_large : (most : ℕ) (was is : Option (List ℕ)) (input : List ℕ) → was ≡ Some input → length input ≤ most → Takes (λ n. n ≡ most + 1) was is → ⊥
never_large most was is input there small t =
    let few : length t.bytes ≤ length input = taken_some input t.bytes is (subst (λ w. Consumes w is t.bytes) there t.taken) in
    let many : length t.bytes ≡ most + 1 = t.count in
    omega (arith, few, many, small)

-- and they are what is read
pub reads_such : (was is : Option (List ℕ)) (input bytes : List ℕ) → was ≡ Some input → ReadsWhole was is bytes → Replays input → Replays bytes
reads_such was is input bytes there r replays = subst Replays (sym (whole_is input bytes was is there r)) replays
