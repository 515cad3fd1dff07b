use Rattle.std.proofs.Common.{◌∙◌, ℕ, List, ap, sym, subst, ◌==◌}
use Rattle.std.specs.List.{after_first, before_first, count_by}
use Rattle.std.specs.Str.{bytes_eq}
use Rattle.case_rows.specs.Rows.{Line, Writes}
use Rattle.case_rows.proofs.Outputs.{count_map, times_ok}
use Rattle.case_rows.proofs.wanted.expect_times.Goals as goal

pub returns : goal.returns
returns c =
    times_ok c.expect_number.result (before_first (λ b. b == 32) c.args.line.now) c.in-Ok.times c.times_among.result _
    (subst (λ (t : List ℕ). Writes t c.in-Ok.times) c.halves.ensures.0 c.in-Ok.ensures.value.0) c.expect_number.ensures
    (c.times_among.ensures ∙ (ap (λ (w : List ℕ). count_by (λ (l : Line). bytes_eq l.now w) c.args.all.now) c.halves.ensures.1 ∙ sym (count_map (after_first (λ b. b == 32) c.args.line.now) c.args.all.now)))
