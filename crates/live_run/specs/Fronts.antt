-- How much of a text was written.
use Rattle.std.specs.Prelude.{◌≡◌, ℕ, List, ◌++◌, Option}
use Rattle.std.specs.Io.KnownBytes.{Appends}
use Rattle.std.specs.List.{flat_map}
use Rattle.live_server.specs.Frames.{frame_of}
use Rattle.live_server.specs.declared.acting.Datagram.{Datagram}

abbrev pub IsFront : List ℕ → List ℕ → Type 0
IsFront front whole = (behind : List ℕ) × (whole ≡ front ++ behind)

-- a front of it was, and nothing else
abbrev pub AppendsFront : Option (List ℕ) → Option (List ℕ) → List ℕ → Type 0
AppendsFront was is whole = (front : List ℕ) × IsFront front whole × Appends was is front

-- whole frames were, and nothing else
abbrev pub AppendsFrames : Option (List ℕ) → Option (List ℕ) → Type 0
AppendsFrames was is = (sent : List Datagram) × Appends was is (flat_map frame_of sent)
