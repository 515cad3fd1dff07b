use Rattle.perimeter_core.specs.History.{run}
use Rattle.perimeter_core.proofs.OrderAndWake.{sound, wake_of_sound}
use Rattle.perimeter_core.proofs.laws.wake_stands_for_an_idle_backlog.Goals as goal

pub returns : goal.returns
returns c = λ S H l. wake_of_sound (run S H) (sound S H l)
