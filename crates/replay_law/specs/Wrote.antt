-- A run whose output replays with its input.
use Rattle.std.specs.Prelude.{ℕ, List, ◌++◌}
use Rattle.std.specs.Io.KnownBytes.{Appends}
use Rattle.sq_base.specs.Ends.{End}
use Rattle.capture_reader.specs.Outcome.{ReadsWhole}
use Rattle.trace_replay.specs.Replays.{Replays}

-- what was read to its end replays behind what was written
pub record WroteWhatReplays (source out : End) : Type 0 where
  pub read : List ℕ
  pub written : List ℕ
  pub whole : ReadsWhole source.was source.is read
  pub appended : Appends out.was out.is written
  pub replays : Replays (written ++ read)
