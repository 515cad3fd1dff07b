use Rattle.std.proofs.Common.{rules, ap, ◌∙◌}
use Rattle.text_digits.specs.Told.{Told}
use Rattle.datagram_services.specs.MoreText.{plan_text}
use Rattle.datagram_services.proofs.Written.{left_as, place_kept, written_of}
use Rattle.datagram_services.proofs.writing.write_more.Goals as goal

pub returns : goal.returns
returns g c =
    let text = plan_text c.args.plan.now in
    let name = c.finish-sink.ensures.place ∙ (place_kept _ _ text c.in-Ok.ensures ∙ ap (λ (t : Told). t.place) c.over-text.ensures) in
    left_as g.K.Sink.contents g.K.Sink.write_faults _ _ _ c.finish-sink.result.1 text (search rules)
    (written_of text _ _ _ _ _ _ _ c.finish-sink.result.1 c.over-text.ensures c.in-Ok.ensures c.finish-sink.ensures.ok c.finish-sink.ensures.failed)
