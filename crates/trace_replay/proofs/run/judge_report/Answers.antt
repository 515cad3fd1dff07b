use Rattle.std.proofs.Common.{◌≡◌, ◌∙◌, ℕ, List, Bor, codes, length, map, take, drop, sym, ap, subst}
use Rattle.std.specs.List.{flat_map}
use Rattle.std.specs.Prelude.{All}
use Rattle.std.proofs.lemmas.List.{take-append-drop}
use Rattle.report_lines.specs.TraceText.{mark_line}
use Rattle.capture_reader.specs.Outcome.{CaptureFile}
use Rattle.conn_classifier.specs.Plan.{PlanOf, plan_by, plan_of}
use Rattle.conn_classifier.specs.declared.rules.Rules.{Rules}
use Rattle.trace_lines.specs.Printed.{ArePrintedRules, IsPrintedCall}
use Rattle.trace_replay.specs.declared.reason.Reason.TheVariants as reason
use Rattle.trace_replay.specs.Lines.{HasFirstLine}
use Rattle.trace_replay.proofs.Captures.{same_reason}
use Rattle.trace_replay.proofs.Judging.{StartsAt, all_read, bad_calls, bad_marks, bad_setup, calls_named, form_fails, no_for, no_setup, on_ok, told_of, yes_for}
use Rattle.trace_replay.proofs.run.judge_report.Goals as goal

starts_at : (report : List ℕ) (from : ℕ) → HasFirstLine (codes "setup ") report (take from report) → StartsAt report (take from report) (drop from report)
starts_at report from first = record { first = first; joined = sym (take-append-drop from report) }

-- the plan by rules that the setup's line tells
planned : (file : CaptureFile) (p : PlanOf) (rules : Rules) → p ≡ plan_by file rules → ArePrintedRules rules → p ≡ plan_of file rules.verify
planned file p rules by usually = by ∙ ap (plan_by file) usually

pub returns-in_default-clause-no : goal.returns-in_default-clause-no
returns-in_default-clause-no g c r is =
    form_fails r c.args.text.now c.args.capture.now c.requires.capture c.requires.report (no_setup c.args.text.now c.args.capture.now c.in_default.ensures) (same_reason reason.Form r is)

pub returns-in_default-setup_line-clause-no : goal.returns-in_default-setup_line-clause-no
returns-in_default-setup_line-clause-no g c r is =
    let report = c.args.text.now in
    let from = c.in-Some.from in
    form_fails r report c.args.capture.now c.requires.capture c.requires.report
    (bad_setup report (take from report) (drop from report) c.args.capture.now (starts_at report from c.in-Some.ensures.1)
    (λ s v rest printed e. c.in_default-setup_line.ensures s v rest printed (c.split_at.ensures.back ∙ e)))
    (same_reason reason.Form r is)

pub returns-in_default-2-clause-no : goal.returns-in_default-2-clause-no
returns-in_default-2-clause-no g c r is =
    let report = c.args.text.now in
    let from = c.in-Some.from in
    let read = c.in-Some-setup_line in
    form_fails r report c.args.capture.now c.requires.capture c.requires.report
    (bad_calls report (take from report) (drop from report) read.behind_setup.now c.args.capture.now read.setup read.rules.verify c.conns.result (starts_at report from c.in-Some.ensures.1) read.ensures.0
    (sym c.split_at.ensures.back ∙ read.ensures.1) (c.conns.ensures.value ∙ ap (λ p. length p.tuples) (planned c.args.capture.now c.in_ok-plan.plan read.rules c.in_ok-plan.ensures read.ensures.2)) (rw c.in_default-2.is at c.in_ok-calls.ensures))
    (same_reason reason.Form r is)

pub returns-in_default-3-clause-no : goal.returns-in_default-3-clause-no
returns-in_default-3-clause-no g c r is =
    let report = c.args.text.now in
    let from = c.in-Some.from in
    let read = c.in-Some-setup_line in
    let called = rw c.in-Some-2.is at c.in_ok-calls.ensures in
    form_fails r report c.args.capture.now c.requires.capture c.requires.report
    (bad_marks report (take from report) (drop from report) read.behind_setup.now c.in-Some-2.behind_calls.now c.args.capture.now read.setup read.rules.verify c.in-Some-2.calls (starts_at report from c.in-Some.ensures.1)
    read.ensures.0 (sym c.split_at.ensures.back ∙ read.ensures.1) called.1 called.2 (rw c.in_default-3.is at c.in_ok-histories.ensures))
    (same_reason reason.Form r is)

pub invariant_of-run : goal.invariant_of-run
invariant_of-run g c =
    let called = rw c.in-Some-2.is at c.in_ok-calls.ensures in
    record {
      range = c.in-Some-setup_line.ensures.0.range;
      named = calls_named (length c.in_ok-plan.plan.tuples) 0 c.in-Some-2.calls (subst (λ n. All (λ thread. All (IsPrintedCall n) thread) c.in-Some-2.calls) c.conns.ensures.value called.0.each);
    }

pub returns-clause-yes : goal.returns-clause-yes
returns-clause-yes g c =
    let report = c.args.text.now in
    let from = c.in-Some.from in
    let read = c.in-Some-setup_line in
    let called = rw c.in-Some-2.is at c.in_ok-calls.ensures in
    let marked = rw c.in-Some-3.is at c.in_ok-histories.ensures in
    let count = c.conns.ensures.value ∙ ap (λ p. length p.tuples) (planned c.args.capture.now c.in_ok-plan.plan read.rules c.in_ok-plan.ensures read.ensures.2) in
    let all = all_read report (take from report) (drop from report) read.behind_setup.now c.in-Some-2.behind_calls.now c.args.capture.now read.setup read.rules.verify c.conns.result c.in-Some-2.calls marked.0
    c.requires.capture c.requires.report (starts_at report from c.in-Some.ensures.1) read.ensures.0 (sym c.split_at.ensures.back ∙ read.ensures.1) count called.0 called.2 marked.1 marked.2 in
    let same = subst (λ xs. map {A = Bor (List ℕ)} {B = List ℕ} (λ l. l.now) xs ≡ map (flat_map mark_line) marked.0) (sym c.as_slice.ensures.value) marked.3 in
    on_ok c.judge_run.result
    (λ h. yes_for report (take from report) c.split_at.result.0.now c.args.capture.now c.in_ok-plan.plan (told_of read.setup read.rules.verify c.in-Some-2.calls marked.0) all (planned c.args.capture.now c.in_ok-plan.plan read.rules c.in_ok-plan.ensures read.ensures.2) c.split_at.ensures.front (h marked.0 marked.1 same))
    c.judge_run.ensures.yes

pub returns-clause-no : goal.returns-clause-no
returns-clause-no g c r is =
    let report = c.args.text.now in
    let from = c.in-Some.from in
    let read = c.in-Some-setup_line in
    let called = rw c.in-Some-2.is at c.in_ok-calls.ensures in
    let marked = rw c.in-Some-3.is at c.in_ok-histories.ensures in
    let count = c.conns.ensures.value ∙ ap (λ p. length p.tuples) (planned c.args.capture.now c.in_ok-plan.plan read.rules c.in_ok-plan.ensures read.ensures.2) in
    let all = all_read report (take from report) (drop from report) read.behind_setup.now c.in-Some-2.behind_calls.now c.args.capture.now read.setup read.rules.verify c.conns.result c.in-Some-2.calls marked.0
    c.requires.capture c.requires.report (starts_at report from c.in-Some.ensures.1) read.ensures.0 (sym c.split_at.ensures.back ∙ read.ensures.1) count called.0 called.2 marked.1 marked.2 in
    let same = subst (λ xs. map {A = Bor (List ℕ)} {B = List ℕ} (λ l. l.now) xs ≡ map (flat_map mark_line) marked.0) (sym c.as_slice.ensures.value) marked.3 in
    no_for r report (take from report) c.split_at.result.0.now c.args.capture.now c.in_ok-plan.plan (told_of read.setup read.rules.verify c.in-Some-2.calls marked.0) all (planned c.args.capture.now c.in_ok-plan.plan read.rules c.in_ok-plan.ensures read.ensures.2) c.split_at.ensures.front
    (c.judge_run.ensures.no r is marked.0 marked.1 same)
