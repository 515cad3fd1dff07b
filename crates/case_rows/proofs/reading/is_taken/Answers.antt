use Rattle.std.proofs.Common.{◌∙◌, ℕ, List, ap, sym}
use Rattle.std.specs.Str.{bytes_eq}
use Rattle.std.proofs.lemmas.List.Folds.{list_any_at}
use Rattle.case_rows.specs.declared.rows.Row.{Row}
use Rattle.case_rows.proofs.FileLemmas.{any_map}
use Rattle.case_rows.proofs.reading.is_taken.Goals as goal

pub returns-then-eq : goal.returns-then-eq
returns-then-eq c =
    let name = c.args.name.now in
    sym (any_map (λ (n : List ℕ). bytes_eq n name) (λ (row : Row). row.name.now) c.args.rows.now
    ∙ list_any_at (λ (row : Row). bytes_eq row.name.now name) c.args.rows.now c.loop-row.row-index c.row-item.result c.loop-row-test.true (ap (λ (row : Row). bytes_eq row.name.now name) (sym c.row-item.is) ∙ (sym c.eq.ensures ∙ c.if-eq.true)))
