-- What a squeue has in the report.
use Rattle.std.proofs.Common.{◌≡◌, ℕ, List, ◌++◌, length, ap, ◌∙◌}
use Rattle.std.specs.List.{flat_map}
use Rattle.text_digits.specs.Told.{Told, more}
use Rattle.text_digits.proofs.Joins.{more_more}
use Rattle.perimeter_core.specs.declared.marks.Mark.{Mark}
use Rattle.report_lines.specs.TraceText.{mark_line, squeue_line, squeue_text}

pub squeue_told : (q n : ℕ) (marks : List Mark) (old head new : Told) → n ≡ length marks → head ≡ more old (squeue_line q n) → new ≡ more head (flat_map mark_line marks)
    → new ≡ more old (squeue_text (q, marks))
squeue_told q n marks old head new count h e =
    e ∙ ap (λ t. more t (flat_map mark_line marks)) h ∙ more_more old (squeue_line q n) (flat_map mark_line marks)
    ∙ ap (λ k. more old (squeue_line q k ++ flat_map mark_line marks)) count
