use Rattle.std.proofs.Common.{◌∙◌, sym}
use Rattle.squeue_bench.proofs.Bringing.{chain_may, has_room, rest_may}
use Rattle.squeue_bench.proofs.threads.bring.Goals as goal

pub enter_by-pass-requires-clause-may : goal.enter_by-pass-requires-clause-may
enter_by-pass-requires-clause-may g c =
    chain_may g.R.Resident.limits c.args.way.bound c.args.squeue.now c.args.k c.args.chain c.args.rest.now c.in-Some.pass c.args.place.now c.requires.pass (sym c.take-taken.ensures.value ∙ c.in-Some.is)

pub enter_by-pass-requires-clause-room : goal.enter_by-pass-requires-clause-room
enter_by-pass-requires-clause-room g c =
    has_room g.R.Resident.limits c.args.way.bound c.args.squeue.now c.args.k c.args.chain c.args.rest.now c.in-Some.pass c.args.place.now c.requires.pass (sym c.take-taken.ensures.value ∙ c.in-Some.is)

pub returns : goal.returns
returns g c =
    rest_may g.R.Resident.limits c.args.way.bound c.args.squeue.now c.args.k c.args.chain c.args.rest.now c.in-Some.pass c.args.place.now c.replace-old.new.self c.enter_by-pass.result c.requires.pass (sym c.take-taken.ensures.value ∙ c.in-Some.is)
    c.replace-old.ensures.after c.enter_by-pass.ensures.number c.enter_by-pass.ensures.more
