use Rattle.std.proofs.Common.{◌<◌, length, Some, ap, ◌∙◌, arith}
use Rattle.perimeter_core.proofs.ActLists.{got}
use Rattle.perimeter_trial.proofs.LogSteps.{call_stands, no_place}
use Rattle.perimeter_trial.proofs.logs.LogsResident.call.Goals as goal

pub returns-in-Some-clause-stands : goal.returns-in-Some-clause-stands
returns-in-Some-clause-stands c blocks old =
    let logs = c.args.self.now.logs.items in
    let lt : c.args.c < length logs = omega (arith, c.requires.range, c.args.self.now.places) in
    let at = got logs c.args.c c.index_mut.result.now _ lt c.index_mut.ensures.value ∙ ap Some c.in-Some.is in
    call_stands logs blocks c.args.c c.args.j c.args.k c.in-Some.log c.note.new.self lt at c.note.ensures.number c.note.ensures.fed c.note.ensures.noted old

pub returns-in_default-clause-stands : goal.returns-in_default-clause-stands
returns-in_default-clause-stands c =
    let logs = c.args.self.now.logs.items in
    let lt : c.args.c < length logs = omega (arith, c.requires.range, c.args.self.now.places) in
    λ blocks old. absurd (no_place logs c.args.c _ c.index_mut.result.now lt c.requires.here c.index_mut.ensures.value c.in_default.not-Some)
