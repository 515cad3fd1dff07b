use Rattle.std.proofs.Common.{rules, ◌≡◌, ◌≤◌, ℕ, length, refl, subst, Ok, Err, List}
use Rattle.std.proofs.lemmas.Result.{err_from_is_err_and}
use Rattle.capture_reader.specs.CaptureFile.{Ends}
use Rattle.capture_reader.specs.SoFar.{Fails, StopsAt}
use Rattle.capture_reader.specs.Header.{header_answer}
use Rattle.capture_reader.proofs.Outcomes.{header_long, header_fails, records_fail, records_captured}
use Rattle.capture_reader.proofs.capture.parse_capture.Goals as goal

pub returns-in_err-form-clause-err : goal.returns-in_err-form-clause-err
returns-in_err-form-clause-err c =
    let p = err_from_is_err_and c.from_residual.result c.from_residual.ensures.1 in
    let says : header_answer c.args.bytes ≡ Err c.in_err-form.field-0.0 = search rules in
    rw (p.1, p.2) (header_fails c.args.bytes c.in_err-form.field-0.0 (search rules) says)

pub records_of-requires-clause-header : goal.records_of-requires-clause-header
records_of-requires-clause-header c =
    let says : header_answer c.args.bytes ≡ Ok (c.in_ok-form.form, c.in_ok-form.link) = search rules in
    let long : 24 ≤ length c.args.bytes = header_long c.args.bytes (c.in_ok-form.form, c.in_ok-form.link) says in
    search rules

pub returns-in_err-records-clause-err : goal.returns-in_err-records-clause-err
returns-in_err-records-clause-err c =
    let p = err_from_is_err_and c.from_residual-in_err-records.result c.from_residual-in_err-records.ensures.1 in
    let f = c.in_err-records.field-0.0 in
    let says : header_answer c.args.bytes ≡ Ok (c.in_ok-form.form, c.in_ok-form.link) = search rules in
    rw (p.1, p.2) (records_fail c.args.bytes c.in_ok-form.form c.in_ok-form.link f (search rules) says (subst (λ (bs : List ℕ). Fails c.in_ok-form.form bs f) c.as_slice-2.ensures c.in_err-records.ensures))

pub returns-clause-ok : goal.returns-clause-ok
returns-clause-ok c =
    let says : header_answer c.args.bytes ≡ Ok (c.in_ok-form.form, c.in_ok-form.link) = search rules in (
      record {
        small = search rules;
        captured = records_captured c.args.bytes c.in_ok-form.form c.in_ok-form.link c.in_ok-records.records.items c.in_ok-records.cut says
            (subst (λ (bs : List ℕ). StopsAt c.in_ok-form.form bs c.in_ok-records.records.items (Ends c.in_ok-records.cut c.in_ok-form.form (length c.in_ok-records.records.items))) c.as_slice-2.ensures c.in_ok-records.ensures);
      },
      refl,
    )
