use Rattle.std.proofs.Common.{◌≡◌, ◌/◌, ◌%◌, ◌++◌, length, ap, ◌∙◌}
use Rattle.byteorder.specs.Endian.{little_bytes}
use Rattle.squeue_run.specs.GeneratedCapture.{record_of}
use Rattle.squeue_run.proofs.GeneratorSteps.{five_parts}
use Rattle.squeue_run.proofs.generator.push_record.Goals as goal

pub returns : goal.returns
unfolding record_of
returns c =
    let seconds : c.to_le_bytes.result ≡ little_bytes 4 (c.args.at / 1000000) = c.to_le_bytes.ensures in
    let micros : c.to_le_bytes-2.result ≡ little_bytes 4 (c.args.at % 1000000) = c.to_le_bytes-2.ensures in
    let captured : c.to_le_bytes-3.result ≡ little_bytes 4 (length c.args.body.now) = c.to_le_bytes-3.ensures in
    let original : c.to_le_bytes-4.result ≡ little_bytes 4 (length c.args.body.now) = c.to_le_bytes-4.ensures in
    five_parts c.args.file.now.items _ _ _ _ _ _ _ _ _ c.args.body.now
    (c.in_ok-extend_from_slice.ensures.items ∙ ap (λ l. c.args.file.now.items ++ l) seconds)
    (c.in_ok-extend_from_slice-2.ensures.items ∙ ap (λ l. c.extend_from_slice.new.self.items ++ l) micros)
    (c.in_ok-extend_from_slice-3.ensures.items ∙ ap (λ l. c.extend_from_slice-2.new.self.items ++ l) captured)
    (c.in_ok-extend_from_slice-4.ensures.items ∙ ap (λ l. c.extend_from_slice-3.new.self.items ++ l) original)
    c.in_ok-extend_from_slice-5.ensures.items
