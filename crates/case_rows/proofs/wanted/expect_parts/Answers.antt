use Rattle.std.proofs.Common.{◌≡◌, ◌-◌, ◌≤◌, drop, length, take}
use Rattle.std.specs.Prelude.{codes}
use Rattle.std.specs.List.{AllByRecursion}
use Rattle.case_rows.specs.Rows.{lines_named}
use Rattle.case_rows.specs.Wanted.{StandsAsOften, spelled}
use Rattle.case_rows.proofs.Outputs.{of_field, of_none}
use Rattle.case_rows.proofs.wanted.expect_parts.Goals.{else-has, else-has-2, else-has-3, then-has+in_ok-expect_begins, then-has-2+in_ok-expect_ends, then-has-3+in_ok-expect_among}
use Rattle.case_rows.proofs.wanted.expect_parts.Goals as goal

pub returns-clause-says : goal.returns-clause-says
returns-clause-says c =
    let fields = c.args.row.now.fields.items in
    let out = c.args.out.now in
    record {
      begins = elim c.if-has.branch [
        | then-has+in_ok-expect_begins w ↦
            of_field (lines_named fields (codes "begins")) c.has.result w.lines.result.now (λ ls. take (length (spelled ls)) out ≡ spelled ls) c.has.ensures w.if-has.true w.lines.ensures w.in_ok-expect_begins.ensures
        | else-has w ↦ of_none (lines_named fields (codes "begins")) c.has.result (λ ls. take (length (spelled ls)) out ≡ spelled ls) c.has.ensures w.if-has.false
      ];
      ends = elim c.if-has-2.branch [
        | then-has-2+in_ok-expect_ends w ↦
            of_field (lines_named fields (codes "ends")) c.has-2.result w.lines-then-has-2.result.now (λ ls. drop (length out - length (spelled ls)) out ≡ spelled ls) c.has-2.ensures w.if-has-2.true w.lines-then-has-2.ensures w.in_ok-expect_ends.ensures
        | else-has-2 w ↦ of_none (lines_named fields (codes "ends")) c.has-2.result (λ ls. drop (length out - length (spelled ls)) out ≡ spelled ls) c.has-2.ensures w.if-has-2.false
      ];
      among = elim c.if-has-3.branch [
        | then-has-3+in_ok-expect_among w ↦
            of_field (lines_named fields (codes "among")) c.has-3.result w.lines-then-has-3.result.now (λ ls. (1 ≤ length ls) × AllByRecursion (λ l. StandsAsOften l.now out) ls) c.has-3.ensures w.if-has-3.true w.lines-then-has-3.ensures w.in_ok-expect_among.ensures
        | else-has-3 w ↦ of_none (lines_named fields (codes "among")) c.has-3.result (λ ls. (1 ≤ length ls) × AllByRecursion (λ l. StandsAsOften l.now out) ls) c.has-3.ensures w.if-has-3.false
      ];
    }
