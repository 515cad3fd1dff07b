use Rattle.key_counters.proofs.CounterSteps.{reading_added}
use Rattle.key_counters.proofs.counters.AmountsParts.call.Goals as goal

pub returns-clause-stands : goal.returns-clause-stands
returns-clause-stands c had old = rw c.note.ensures (reading_added c.args._j c.args._k c.args.counter.now had old)
