use Rattle.std.proofs.Common.{◌≡◌, ℕ, ◌+◌, ◌≤◌, ◌∙◌, Some, ap, arith, length, map, sym, subst}
use Rattle.std.specs.Option.{option_or}
use Rattle.std.proofs.lemmas.List.{map-append}
use Rattle.squeue_replay.specs.Standing.{guest_of}
use Rattle.trace_replay.specs.declared.reason.Reason.{Reason}
use Rattle.trace_replay.proofs.AllGone.{fails, next_gone, next_stops, right}
use Rattle.trace_replay.proofs.replaying.replay_all.Goals as goal

pub returns-in_err-replay-clause-no : goal.returns-in_err-replay-clause-no
returns-in_err-replay-clause-no c =
    λ r e marks are is.
    let given = rw e at c.from_residual-in_err-replay.ensures in
    next_stops c.args.run.plan.now c.args.run.calls.now c.args.run.setup marks (λ h. h.now) c.args.histories.now _ are is c.loop-lines.squeue c.loop-lines.lines-index c.loop-lines.invariant.number c.loop-lines-test.true _ c.loop-lines.open c.loop-lines.unfit (c.loop-lines.invariant.gone marks are is) _ r
    (c.in_err-replay.ensures.no r (cc given.1))

pub loop-lines-preserved : goal.loop-lines-preserved
loop-lines-preserved c =
    record {
      number = ap (λ (n : ℕ). n + 1) c.loop-lines.invariant.number;
      so_many = c.push_reserved.ensures.len ∙ ap (λ (n : ℕ). n + 1) c.loop-lines.invariant.so_many;
      room = subst (λ (n : ℕ). length c.args.histories.now ≤ n) (sym c.push_reserved.ensures.capacity) c.loop-lines.invariant.room;
      many = c.loop-lines.invariant.many;
      gone = λ marks are is.
          next_gone c.args.run.plan.now c.args.run.calls.now c.args.run.setup marks (λ h. h.now) c.args.histories.now _ are is c.loop-lines.squeue c.loop-lines.lines-index c.loop-lines.invariant.number c.loop-lines-test.true _ c.loop-lines.open c.loop-lines.unfit (c.loop-lines.invariant.gone marks are is) _
          (map guest_of c.in_ok-replay.replay.guests.items) c.in_ok-replay.replay.ended c.in_ok-replay.replay.unfit c.in_ok-replay.ensures.gone _ c.or-open.result c.or-unfit.result
          (simp (c.push_reserved.ensures.items, map-append)) (c.or-open.ensures ∙ ap (option_or c.loop-lines.open) c.then_some.ensures) (c.or-unfit.ensures ∙ ap (option_or c.loop-lines.unfit) c.unfit_at.ensures);
    }

pub returns-in-Some-clause-no : goal.returns-in-Some-clause-no
returns-in-Some-clause-no c =
    λ r e marks are is.
    let same : c.in-Some.reason ≡ r = cc e in
    let i = c.loop-lines.invariant.number in
    let most = c.loop-lines-test.false in
    let least = c.loop-lines.auto.lines-index-end in
    let many = c.loop-lines.invariant.many in
    let count = are.count in
    fails c.args.run.plan.now c.args.run.calls.now c.args.run.setup marks c.loop-lines.squeue _ c.loop-lines.open c.loop-lines.unfit (c.loop-lines.invariant.gone marks are is) (omega (arith, i, most, least, many, count)) r (sym c.or.ensures ∙ (c.in-Some.is ∙ ap (λ (x : Reason). Some x) same))

pub returns-clause-right : goal.returns-clause-right
returns-clause-right c =
    λ marks are is.
    let i = c.loop-lines.invariant.number in
    let most = c.loop-lines-test.false in
    let least = c.loop-lines.auto.lines-index-end in
    let many = c.loop-lines.invariant.many in
    let count = are.count in
    right c.args.run.plan.now c.args.run.calls.now c.args.run.setup marks c.loop-lines.squeue _ c.loop-lines.open c.loop-lines.unfit (c.loop-lines.invariant.gone marks are is) (omega (arith, i, most, least, many, count)) (sym c.or.ensures ∙ c.in-None.is)
