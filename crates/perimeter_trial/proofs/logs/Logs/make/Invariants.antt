use Rattle.std.proofs.Common.{◌≡◌, length, take}
use Rattle.perimeter_core.specs.Blocks.{none_done}
use Rattle.perimeter_trial.specs.Logging.{LogsStand}
use Rattle.perimeter_trial.proofs.logs.Logs.make.Given as goal

abbrev pub invariant-loop-c : goal.invariant-loop-c
invariant-loop-c l = record { count : length l.logs.items ≡ l.c; stands : LogsStand l.logs.items (none_done (take l.c l.starts)) }
