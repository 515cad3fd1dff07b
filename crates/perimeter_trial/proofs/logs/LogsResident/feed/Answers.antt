use Rattle.std.proofs.Common.{◌+◌, ◌<◌, length, Some, ap, refl, ◌∙◌, arith}
use Rattle.perimeter_trial.specs.Logging.{LogsStand}
use Rattle.perimeter_core.proofs.ActLists.{got, here_of_feeds}
use Rattle.perimeter_trial.proofs.LogSteps.{feed_stands, no_place}
use Rattle.perimeter_trial.proofs.logs.LogsResident.feed.Goals as goal

pub returns-in-Some-clause-stands : goal.returns-in-Some-clause-stands
returns-in-Some-clause-stands c blocks old =
    let logs = c.args.self.now.logs.items in
    let lt : c.args.c < length logs = omega (arith, c.requires.range, c.args.self.now.places) in
    let at = got logs c.args.c c.index_mut.result.now _ lt c.index_mut.ensures.value ∙ ap Some c.in-Some.is in
    feed_stands logs blocks c.args.c c.args.n c.in-Some.log (record c.note.new.self { fed = c.args.n + 1 }) lt at c.requires.next c.note.ensures.number refl c.note.ensures.noted old

pub returns-in_default-clause-stands : goal.returns-in_default-clause-stands
returns-in_default-clause-stands c =
    let logs = c.args.self.now.logs.items in
    let lt : c.args.c < length logs = omega (arith, c.requires.range, c.args.self.now.places) in
    λ blocks old. absurd (no_place logs c.args.c _ c.index_mut.result.now lt (here_of_feeds (LogsStand logs) c.args.c c.args.n c.requires.next) c.index_mut.ensures.value c.in_default.not-Some)
