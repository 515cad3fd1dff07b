-- The note of the move.
use Rattle.perimeter_core.specs.Deeds.{acts}
use Rattle.squeue_state.specs.Naming.{setting_of}
use Rattle.turn_gate.specs.Passes.{seen}
use Rattle.conn_migrate.proofs.moving.migrate.Given as goal

abbrev pub ghosts-put_into : goal.ghosts-put_into
ghosts-put_into g a = record { note = acts (setting_of g.R.Resident.limits a.taken.from.now.given) (seen a.taken.left.now) a.taken.c }
