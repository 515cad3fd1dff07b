use Rattle.std.proofs.Common.{◌∙◌, refl}
use Rattle.turn_gate.specs.Passes.{seen}
use Rattle.squeue_arrivals.proofs.StaysKept.{begins_itself, begins_on}
use Rattle.squeue_arrivals.proofs.line.Line+KeyParts+X+H+W.enter.Goals as goal

pub turns-init : goal.turns-init
turns-init g c = record { knows = c.requires; number = refl; grows = begins_itself (seen c.args.pass); places = refl; touched = refl; life = refl }

pub turns-preserved : goal.turns-preserved
turns-preserved g c =
    let i = c.turns.invariant in
    let e = c.enter_all-next.ensures in
    record {
      knows = e.knows;
      number = e.number ∙ i.number;
      grows = begins_on (seen c.args.pass) (seen c.turns.pass) (seen c.enter_all-next.result.0) i.grows e.grows;
      places = e.places ∙ i.places;
      touched = e.touched ∙ i.touched;
      life = e.life ∙ i.life;
    }

pub returns-then-entered-clause-grows : goal.returns-then-entered-clause-grows
returns-then-entered-clause-grows g c = begins_on (seen c.args.pass) (seen c.turns.pass) (seen c.enter_all-next.result.0) c.turns.invariant.grows c.enter_all-next.ensures.grows
