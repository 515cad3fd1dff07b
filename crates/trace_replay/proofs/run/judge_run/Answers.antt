use Rattle.std.proofs.Common.{◌≡◌, ◌∙◌, Box, rules, length, map, sym, ap, subst}
use Rattle.std.specs.declared.alloc.Global.{Global}
use Rattle.std.proofs.lemmas.List.{length-map}
use Rattle.conn_blocks.specs.ServeOrder.{BlockOf}
use Rattle.report_lines.specs.ReportText.{body_text}
use Rattle.squeue_replay.specs.Histories.{endings_of}
use Rattle.squeue_replay.specs.Standing.{GuestsStand, guest_of}
use Rattle.trace_replay.specs.declared.reason.Reason.TheVariants as reason
use Rattle.trace_replay.specs.Judged.{FailsFor}
use Rattle.trace_replay.proofs.Captures.{same_reason}
use Rattle.trace_replay.proofs.Judging.{guests_count, marks_fail_for, orders_in, report_is, reported_as}
use Rattle.trace_replay.proofs.run.judge_run.Goals as goal

pub returns-in_err-guests-clause-no : goal.returns-in_err-guests-clause-no
returns-in_err-guests-clause-no c = search (rules, marks_fail_for)

pub serve_orders-requires-clause-squeues : goal.serve_orders-requires-clause-squeues
serve_orders-requires-clause-squeues c =
    let right = c.in_ok-guests.ensures.right c.requires.0 c.requires.1 c.requires.2 in
    ap length c.as_slice.ensures.value
    ∙ guests_count (λ gs. map guest_of gs.items) c.args.run.plan.now c.args.run.calls.now c.args.run.setup c.requires.0 c.in_ok-guests.guests.items right.1 c.requires.1.count

pub report_of-requires : goal.report_of-requires
report_of-requires c =
    let boxes = c.in_ok-served.served.items in
    ap length c.as_slice-2.ensures.value ∙ (sym (length-map boxes (λ (b : Box BlockOf Global). b.value)) ∙ c.in_ok-served.ensures.served.count)

pub first_wrong-requires : goal.first_wrong-requires
first_wrong-requires c =
    let p = c.args.run.plan.now in
    let calls = c.args.run.calls.now in
    let orders = orders_in c.in_ok-served.served.items in (
      body_text p calls orders,
      c.as_slice-3.ensures
          ∙ (reported_as p calls c.as_slice-2.result.now c.in_ok-served.served.items _ c.as_slice-2.ensures.value c.in_ok-served.ensures.served (c.in_ok-right.ensures calls) ∙ report_is p calls orders),
    )

pub returns-in-Some-clause-no : goal.returns-in-Some-clause-no
returns-in-Some-clause-no c r is marks printed e =
    let p = c.args.run.plan.now in
    let calls = c.args.run.calls.now in
    let orders = orders_in c.in_ok-served.served.items in
    let right = c.in_ok-guests.ensures.right marks printed e in
    let stand : GuestsStand (endings_of p calls c.args.run.setup marks) (map (λ gs. map guest_of gs.items) c.as_slice.result.now) =
    subst (λ x. GuestsStand (endings_of p calls c.args.run.setup marks) (map (λ gs. map guest_of gs.items) x)) (sym c.as_slice.ensures.value) right.1 in
    let text : reason.Text c.in-Some.line ≡ r = same_reason (reason.Text c.in-Some.line) r is in
    subst (FailsFor p calls c.args.run.setup marks c.args.head.now) text
    record {
      right = right.0;
      orders = orders;
      ordered = c.in_ok-served.ensures.ordered marks right.0 stand;
      differ = c.in-Some.ensures (body_text p calls orders)
          (c.as_slice-3.ensures
          ∙ (reported_as p calls c.as_slice-2.result.now c.in_ok-served.served.items _ c.as_slice-2.ensures.value c.in_ok-served.ensures.served (c.in_ok-right.ensures calls) ∙ report_is p calls orders));
    }

pub returns-clause-yes : goal.returns-clause-yes
returns-clause-yes c marks printed e =
    let p = c.args.run.plan.now in
    let calls = c.args.run.calls.now in
    let orders = orders_in c.in_ok-served.served.items in
    let right = c.in_ok-guests.ensures.right marks printed e in
    let stand : GuestsStand (endings_of p calls c.args.run.setup marks) (map (λ gs. map guest_of gs.items) c.as_slice.result.now) =
    subst (λ x. GuestsStand (endings_of p calls c.args.run.setup marks) (map (λ gs. map guest_of gs.items) x)) (sym c.as_slice.ensures.value) right.1 in
    record {
      right = right.0;
      orders = orders;
      ordered = c.in_ok-served.ensures.ordered marks right.0 stand;
      same = c.in-None.ensures (body_text p calls orders)
          (c.as_slice-3.ensures
          ∙ (reported_as p calls c.as_slice-2.result.now c.in_ok-served.served.items _ c.as_slice-2.ensures.value c.in_ok-served.ensures.served (c.in_ok-right.ensures calls) ∙ report_is p calls orders));
    }
