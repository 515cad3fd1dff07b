use Rattle.squeue_state.specs.Behind.{ever}
use Rattle.squeue_state.proofs.squeue.chosen.Given as goal

abbrev pub ghost-chosen_as : goal.ghost-chosen_as
ghost-chosen_as a = record { number = a._number; rings = a._rings; quotas = ever a._lives.now; starts = a._here.now; traced = a._trace; room = a._room }
