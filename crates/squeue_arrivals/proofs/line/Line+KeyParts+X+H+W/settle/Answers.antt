use Rattle.std.proofs.Common.{◌∙◌}
use Rattle.turn_gate.specs.Passes.{seen}
use Rattle.squeue_arrivals.proofs.PlacesKept.{keeps_on, keeps_same}
use Rattle.squeue_arrivals.proofs.StaysKept.{begins_on}
use Rattle.squeue_arrivals.proofs.line.Line+KeyParts+X+H+W.settle.Goals as goal

pub returns-clause-keeps : goal.returns-clause-keeps
returns-clause-keeps g c =
    keeps_on c.args.stays.now c.enter-pass.new.stays c.settle.new.stays (keeps_same c.args.stays.now c.enter-pass.new.stays c.enter-pass.ensures.places)
    c.settle.ensures.same.each

pub returns-clause-settled : goal.returns-clause-settled
returns-clause-settled g c = record { knows = c.settle.ensures.knows; entered = c.settle.ensures.same.chain ∙ c.enter-pass.ensures.entered; settled = c.settle.ensures.touched }

pub returns-clause-grows : goal.returns-clause-grows
returns-clause-grows g c = begins_on (seen c.args.pass) (seen c.enter-pass.result) (seen c.settle.result) c.enter-pass.ensures.grows c.settle.ensures.grows
