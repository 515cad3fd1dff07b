use Rattle.std.proofs.Common.{rules, ap, ◌∙◌}
use Rattle.text_digits.specs.Told.{Told}
use Rattle.squeue_report.proofs.WholeTexts.{left_as, place_kept, written_of}
use Rattle.squeue_report.proofs.writing.write_report.Goals as goal

pub returns : goal.returns
returns g c =
    let name = c.finish-sink.ensures.place ∙ (place_kept _ _ _ c.in-Ok.ensures ∙ ap (λ (t : Told). t.place) c.over-text.ensures) in
    left_as g.K.Sink.contents g.K.Sink.write_faults _ _ _ _ _ (search rules)
    (written_of _ _ _ _ _ _ _ _ c.finish-sink.result.1 c.over-text.ensures c.in-Ok.ensures c.finish-sink.ensures.ok c.finish-sink.ensures.failed)
