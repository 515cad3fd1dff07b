use Rattle.std.proofs.Common.{◌≡◌, ◌∙◌, ℕ, [], List, Result, Ok, Err, ap, subst, sym}
use Rattle.std.specs.Prelude.{OnOk, codes, unwrap_or}
use Rattle.case_rows.specs.Rows.{IsNumber, lines_named}
use Rattle.case_rows.specs.Runs.{Wants}
use Rattle.case_rows.specs.Wanted.{WantsOut, spelled}
use Rattle.case_rows.specs.declared.fault.RowFault.{RowFault}
use Rattle.case_rows.specs.declared.program.Came.{Came}
use Rattle.case_rows.specs.declared.rows.Field.{Field}
use Rattle.case_rows.proofs.wanted.expect.Goals as goal

wants : (r : Result (Unit {0}) RowFault) (fields : List Field) (came : Came) (len : ℕ) (out : List ℕ) → came.err.written ≡ spelled (unwrap_or (lines_named fields (codes "err")) [])
    → IsNumber (lines_named fields (codes "status")) 0 came.status → out ≡ came.out.written → OnOk r (WantsOut fields out len) → OnOk r (Wants fields came len)
wants (Ok x) fields came len out told status is h = record { told = told; status = status; out = subst (λ (o : List ℕ). WantsOut fields o len) is h }
wants (Err e) fields came len out told status is h = tt

pub returns : goal.returns
returns c =
    let fields = c.args.row.now.fields.items in
    let told = sym c.bytes.ensures ∙ (c.in_ok-expect_lines.ensures ∙ ap spelled c.lines.ensures) in
    let status = subst (IsNumber (lines_named fields (codes "status")) 0) (c.in_ok-expect_number.ensures ∙ c.from.ensures) c.in_ok-status.ensures in
    wants c.expect_out.result fields c.args.came.now c.args.len c.bytes-2.result.now told status c.bytes-2.ensures c.expect_out.ensures
