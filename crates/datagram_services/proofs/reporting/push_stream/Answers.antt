use Rattle.indexmap.proofs.MapLemmas.{OnOk-map}
use Rattle.datagram_services.proofs.StreamTexts.{has_place, stream_told}
use Rattle.datagram_services.proofs.reporting.push_stream.Goals as goal

pub answers-requires : goal.answers-requires
answers-requires g c = has_place c.args.plan.now c.args.served.now.streams c.args.c c.requires.served c.requires.place

pub generator-requires : goal.generator-requires
generator-requires g c = has_place c.args.plan.now c.args.served.now.streams c.args.c c.requires.served c.requires.place

pub returns-clause-text : goal.returns-clause-text
returns-clause-text g c =
    OnOk-map c.push_generated.result _ _ (stream_told c.args.plan.now c.args.served.now.streams c.args.c c.stream.result.now c.requires.served c.stream.ensures
    _ _ _ _ _ _ _ _ _ c.tuple-tuple.ensures c.items.ensures.value c.answers.ensures c.generator.ensures
    c.in_ok-push_head.ensures c.in_ok-push_items.ensures c.in_ok-push_answers.ensures) c.push_generated.ensures.text
