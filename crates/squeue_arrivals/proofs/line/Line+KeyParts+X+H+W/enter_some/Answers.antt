use Rattle.squeue_arrivals.proofs.PlacesKept.{keeps_same}
use Rattle.squeue_arrivals.proofs.line.Line+KeyParts+X+H+W.enter_some.Goals as goal

pub returns-clause-keeps : goal.returns-clause-keeps
returns-clause-keeps g c = keeps_same c.args.stays.now c.enter_all-pass.new.stays c.enter_all-pass.ensures.places
