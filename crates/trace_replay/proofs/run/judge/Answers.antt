use Rattle.std.proofs.Common.{◌≡◌, rules}
use Rattle.capture_reader.specs.Outcome.{CaptureFile}
use Rattle.pcapng_reader.specs.Input.{IsInput}
use Rattle.trace_replay.specs.declared.reason.Reason.TheVariants as reason
use Rattle.trace_replay.specs.Reasons.{Holds}
use Rattle.trace_replay.proofs.Judging.{and_not, no_capture_behind, whole_input}
use Rattle.trace_replay.proofs.run.judge.Goals as goal

pub returns-in_err-cut-clause-no : goal.returns-in_err-cut-clause-no
returns-in_err-cut-clause-no g c r is =
    let why : Holds r c.args.bytes.items = search rules in
    and_not r c.args.bytes.items why

pub returns-in_err-capture-clause-no : goal.returns-in_err-capture-clause-no
returns-in_err-capture-clause-no g c r is =
    let why : (r ≡ reason.Capture) × ((file : CaptureFile) → file.bytes ≡ c.in_ok-cut.field-0.items → IsInput file → ⊥) = search rules in
    no_capture_behind r c.args.bytes.items c.cut.new.bytes.items c.in_ok-cut.field-0.items c.in_ok-cut.ensures.ok.0 why

pub returns-clause-no : goal.returns-clause-no
returns-clause-no g c r is =
    whole_input r c.args.bytes.items c.cut.new.bytes.items c.in_ok-cut.field-0.items c.as_slice.result.now c.in_ok-capture.capture.bytes c.in_ok-cut.ensures.ok.0 c.as_slice.ensures.value c.in_ok-capture.ensures.ok.1
    (c.judge_report.ensures.no r is)
