use Rattle.std.proofs.Common.{◌≡◌, ◌<◌, length, arith, sym}
use Rattle.conn_blocks.specs.CallLists.{calls_of}
use Rattle.report_lines.specs.TraceText.{thread_text}
use Rattle.report_lines.proofs.Lines.{line_more}
use Rattle.squeue_report.proofs.Marked.{numbered_all, numbered_or}
use Rattle.text_digits.proofs.Joins.{more_none}
use Rattle.squeue_report.proofs.tracing.push_calls.Goals as goal

pub loop-j-init : goal.loop-j-init
loop-j-init g c = record { text = sym (more_none _); threads = λ some. absurd (let no : ⊥ = omega (arith, some) in no) }

pub loop-j-preserved : goal.loop-j-preserved
loop-j-preserved g c =
    let calls = c.args.calls.now in
    let j = c.loop-j.j in
    let four : length calls ≡ 4 = c.push_thread.ensures.threads in
    record {
      text = line_more thread_text _ _ _ _ j (j, calls_of calls j) c.loop-j.invariant.text
          (numbered_or calls j _ (omega (arith, four, c.loop-j-test.true))) c.in_ok-push_thread.ensures.text;
      threads = λ some. four;
    }

pub returns : goal.returns
returns g c =
    let calls = c.args.calls.now in
    let some : 0 < c.loop-j.j = omega (arith, c.loop-j-test.false) in
    let four = c.loop-j.invariant.threads some in
    numbered_all thread_text calls _ _ c.loop-j.j (omega (arith, four, c.loop-j-test.false)) c.loop-j.invariant.text
