use Rattle.std.proofs.Common.{◌++◌, ap, ◌∙◌}
use Rattle.squeue_run.specs.GeneratedCapture.{file_header}
use Rattle.squeue_run.proofs.GeneratorSteps.{six_parts}
use Rattle.squeue_run.proofs.generator.push_header.Goals as goal

pub returns : goal.returns
unfolding file_header
returns c =
    six_parts c.args.file.now.items _ _ _ _ _ _ _ _ _ _ _ _
    (c.in_ok-extend_from_slice.ensures.items ∙ ap (λ l. c.args.file.now.items ++ l) c.to_le_bytes.ensures)
    (c.in_ok-extend_from_slice-2.ensures.items ∙ ap (λ l. c.extend_from_slice.new.self.items ++ l) c.to_le_bytes-2.ensures)
    (c.in_ok-extend_from_slice-3.ensures.items ∙ ap (λ l. c.extend_from_slice-2.new.self.items ++ l) c.to_le_bytes-3.ensures)
    c.in_ok-extend_from_slice-4.ensures.items
    (c.in_ok-extend_from_slice-5.ensures.items ∙ ap (λ l. c.extend_from_slice-4.new.self.items ++ l) c.to_le_bytes-4.ensures)
    (c.in_ok-extend_from_slice-6.ensures.items ∙ ap (λ l. c.extend_from_slice-5.new.self.items ++ l) c.to_le_bytes-5.ensures)
