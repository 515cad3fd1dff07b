use Rattle.std.proofs.Common.{◌≤◌, ◌∙◌, ◌||◌, not, ℕ, Bool, ap, sym, subst, drop, rules}
use Rattle.std.specs.Prelude.{codes}
use Rattle.std.specs.List.{count_by}
use Rattle.std.specs.Str.{bytes_eq}
use Rattle.case_rows.specs.Rows.{Line}
use Rattle.case_rows.specs.Wanted.{tells_marks}
use Rattle.case_rows.proofs.WordLemmas.{marks_map, told_map}
use Rattle.case_rows.proofs.wanted.expect_marks_among.Goals as goal

abbrev is_mark : Line → Bool
is_mark l = not (tells_marks l.now || bytes_eq l.now (codes "done"))

pub returns-clause-told : goal.returns-clause-told
returns-clause-told c =
    let found = c.marks_in-found.ensures ∙ (ap (count_by is_mark) (c.split_at.ensures.back ∙ ap (λ (n : ℕ). drop n c.args.all.now) c.first_told.ensures.value) ∙ marks_map c.args.all.now) in
    sym (told_map c.args.all.now) ∙ (sym c.in-Some.ensures ∙ (sym c.in_ok-expect_number.ensures ∙ found))

pub returns-clause-limits : goal.returns-clause-limits
returns-clause-limits c =
    let found = c.marks_in-found.ensures ∙ (ap (count_by is_mark) (c.split_at.ensures.back ∙ ap (λ (n : ℕ). drop n c.args.all.now) c.first_told.ensures.value) ∙ marks_map c.args.all.now) in
    let least : c.args.least ≤ c.marks_in-found.result = search rules in
    let most : c.marks_in-found.result ≤ c.args.most = search rules in
    subst (λ (n : ℕ). (c.args.least ≤ n) × (n ≤ c.args.most)) found (least, most)
