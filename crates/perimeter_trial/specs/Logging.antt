-- What the resident of logs stands for.
use Rattle.std.specs.Prelude.{◌≡◌, ℕ, false, Bool, Option, Some, None, List, length, replicate, slice_get, slice_index_or}
use Rattle.perimeter_core.specs.declared.entries.Act.{Act}
use Rattle.perimeter_trial.specs.declared.logs.Log.{Log}
use Rattle.perimeter_trial.specs.declared.logs.Logs.{Logs}
use Rattle.perimeter_core.specs.History.{Limits}
use Rattle.perimeter_core.specs.Deeds.{feed_numbers}
use Rattle.perimeter_core.specs.Blocks.{Blocks}
use Rattle.perimeter_core.specs.Backlog.{up}

-- the acts that a log holds, and whether memory was missing for one
abbrev pub noted : Log → List Act
noted log = log.acts.items

abbrev pub is_short : Log → Bool
is_short log = log.short

-- the log has had the feeds from 0 on, and holds the acts unless it is short
pub record IsLogOf (log : Log) (had : List Act) : Type 0 where
  pub feeds : feed_numbers had ≡ up 0 log.fed
  pub acts : is_short log ≡ false → noted log ≡ had

-- what stands at the place of connection c is its log, and there is one exactly where the connection is here
abbrev pub LogAt : ℕ → Option (Option Log) → Option (List Act) → Type 0
LogAt c (Some (Some log)) (Some had) = (log.c ≡ c) × IsLogOf log had
LogAt c (Some (Some log)) None = ⊥
LogAt c (Some None) (Some had) = ⊥
LogAt c (Some None) None = Unit {0}
LogAt c None (Some had) = ⊥
LogAt c None None = Unit {0}

abbrev pub LogsStand : List (Option Log) → Blocks → Type 0
LogsStand logs blocks = (c : ℕ) → LogAt c (slice_get logs c) (blocks c)

abbrev pub Stands : Logs → Blocks → Type 0
Stands r blocks = LogsStand r.logs.items blocks

-- how many connections there are
abbrev pub size_of : Logs → ℕ
size_of r = r.count

-- the log of a connection, if it is here
abbrev pub log_of : Logs → ℕ → Option Log
log_of r c = slice_index_or r.logs.items c None

abbrev pub limits_of : Logs → Limits
limits_of r =
    record {
      feeds = replicate (length r.logs.items) r.feeds;
      leaves = replicate (length r.logs.items) r.leaves;
      calls = r.calls.items;
    }
