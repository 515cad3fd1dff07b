use Rattle.std.proofs.Common.{◌≡◌, ◌+◌, ◌-◌, ◌≤◌, length, take, drop, refl, ap, subst, arith, length-drop}
use Rattle.capture_reader.specs.Limits.{most_bytes}
use Rattle.trace_replay.specs.declared.reason.Reason.TheVariants as reason
use Rattle.trace_replay.specs.Lines.{HasFirstLine, HasNoLine}
use Rattle.report_lines.specs.ReportText.{done_line}
use Rattle.trace_replay.specs.Reasons.{Holds, IsCut}
use Rattle.pcapng_reader.proofs.Inputs.{input_small}
use Rattle.trace_replay.proofs.Captures.{same_reason}
use Rattle.trace_replay.proofs.Searching.{cut_at}
use Rattle.trace_replay.proofs.input.cut.Goals as goal

pub returns-in_default-clause-no : goal.returns-in_default-clause-no
returns-in_default-clause-no c r e =
    let none : HasNoLine done_line c.args.bytes.now.items = subst (HasNoLine done_line) c.as_slice.ensures.value c.in_default.ensures in
    let is : reason.NoReport ≡ r = same_reason reason.NoReport r e in
    subst (λ s. Holds s c.args.bytes.now.items) is none

pub returns-then-len-end-gt-MOST_BYTES-clause-no : goal.returns-then-len-end-gt-MOST_BYTES-clause-no
returns-then-len-end-gt-MOST_BYTES-clause-no c r e =
    let input = c.args.bytes.now.items in
    let end = c.in-Some.last + 5 in
    let first : HasFirstLine done_line input (take c.in-Some.last input) = subst (λ t. HasFirstLine done_line t (take c.in-Some.last t)) c.as_slice.ensures.value c.in-Some.ensures.1 in
    let within : end ≤ length input = subst (λ t. end ≤ length t) c.as_slice.ensures.value c.in-Some.ensures.0 in
    let cut : IsCut input (take end input) (drop end input) = cut_at input (take end input) (drop end input) c.in-Some.last end refl within first refl refl in
    let is : reason.Capture ≡ r = same_reason reason.Capture r e in
    let size : length (drop end input) ≡ length input - end = length-drop end input in
    subst (λ s. Holds s input) is
    (take end input, drop end input, cut, λ file same is. let same_size : length file.bytes ≡ length (drop end input) = ap length same in let small : length file.bytes ≤ most_bytes = input_small file is in omega (arith, c.len.ensures, c.if-len-end-gt-MOST_BYTES.true, c.args.bytes.now.ok.0, same_size, small, size))

pub returns-clause-ok : goal.returns-clause-ok
returns-clause-ok c =
    let input = c.args.bytes.now.items in
    let end = c.in-Some.last + 5 in
    let first : HasFirstLine done_line input (take c.in-Some.last input) = subst (λ t. HasFirstLine done_line t (take c.in-Some.last t)) c.as_slice.ensures.value c.in-Some.ensures.1 in
    let within : end ≤ length input = subst (λ t. end ≤ length t) c.as_slice.ensures.value c.in-Some.ensures.0 in (
      cut_at input c.split_off.new.self.items c.in_ok-split_off.field-0.items c.in-Some.last end refl within first c.in_ok-split_off.ensures.items c.in_ok-split_off.ensures.tail,
      omega (arith, c.len.ensures, c.if-len-end-gt-MOST_BYTES.false, c.args.bytes.now.ok.0, length-drop end input, ap length c.in_ok-split_off.ensures.tail),
    )
