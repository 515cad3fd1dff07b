use Rattle.squeue_rings.specs.Tasks.{lists_of}
use Rattle.squeue_rings.proofs.Closes.{ring_may_close}
use Rattle.squeue_rings.proofs.doing.bring.Goals as goal

pub close_all-requires : goal.close_all-requires
close_all-requires g c =
    let t = c.args.task.now.number in
    let list = lists_of c.args.intakes.now t in
    let ready = c.requires.ready in
    ring_may_close g.R.Resident.limits c.args.pace.homes.squeues c.args.pace.homes.spread t ready.intake.list.items list list c.args.access.now.squeues.now c.bring_intake.new.places.items ready.may c.bring_intake.ensures.at

pub returns : goal.returns
returns g c = (c.bring_intake.new.places.items, record { at = c.bring_intake.ensures.at; paced = c.bring_intake.ensures.paced }, c.close_all.ensures)
