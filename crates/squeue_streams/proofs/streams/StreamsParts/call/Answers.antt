use Rattle.squeue_streams.proofs.Items.{called}
use Rattle.squeue_streams.proofs.streams.StreamsParts.call.Goals as goal

pub returns-clause-stands : goal.returns-clause-stands
returns-clause-stands g c = λ had was. called c.args._j c.args._k c.args._stream.now had was
