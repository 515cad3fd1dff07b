use Rattle.std.proofs.Common.{◌≡◌, [], ◌++◌, ◌≤◌, length, ap, ◌∙◌, subst, sym, arith}
use Rattle.segment_codec.specs.Options.{option_bytes}
use Rattle.segment_codec.specs.declared.packet.Reply.{Reply}
use Rattle.squeue_run.proofs.Records.{segment_len}
use Rattle.squeue_run.proofs.GeneratorSteps.{text_at_len}
use Rattle.squeue_run.proofs.GeneratorReady.{segment_is, record_is, client_next}
use Rattle.squeue_run.proofs.generator.push_segment.Goals as goal

pub push_record-requires : goal.push_record-requires
push_record-requires c =
    let short : length c.plain-segment.result.text ≤ 96 = subst (λ (r : Reply). length r.text ≤ 96) (sym c.plain-segment.ensures) c.requires.text in
    let none : option_bytes c.plain-segment.result.options ≡ [] = ap (λ (r : Reply). option_bytes r.options) c.plain-segment.ensures in
    let within : length c.as_slice-3.result.now ≤ 136 = subst (λ l. length l ≤ 136) (sym (c.as_slice-3.ensures ∙ c.in_ok-encode.ensures)) (segment_len _ _ none short) in
    omega (arith, within)

pub returns-clause-file : goal.returns-clause-file
returns-clause-file c n e t =
    let numbers = c.numbers-flags.ensures in
    c.in_ok-push_record.ensures
    ∙ ap (λ l. c.args.file.now.items ++ l)
    (record_is n c.args.round c.args.c c.as_slice-3.result.now _ _ (c.as_slice-3.ensures ∙ c.in_ok-encode.ensures) c.tuple.ensures
    (c.plain-segment.ensures ∙ segment_is n c.args.round c.args.c _ _ _ _ _ c.from.ensures (numbers.flags n c.args.c) (numbers.seq n c.args.c e) (numbers.ack n c.args.c e) t))

pub returns-clause-client : goal.returns-clause-client
returns-clause-client c n e t = client_next n c.args.round c.args.c _ c.args.client.now e (ap length (c.as_slice.ensures ∙ t) ∙ text_at_len n c.args.round c.args.c)
