use Rattle.std.proofs.Common.{◌≡◌, ℕ, inl, inr, List, None, Some, map, sym, ◌∙◌, arith}
use borrow.Author.Count.{below_more}
use Rattle.perimeter_core.specs.declared.entries.Act.{Act}
use Rattle.squeue_replay.specs.Standing.{GuestOf, guest_of}
use Rattle.trace_replay.specs.Joining.{did_in, left_in}
use Rattle.trace_replay.proofs.LastStay.{ended_at, left_more, none_read, some_read}
use Rattle.trace_replay.proofs.orders.count_stays.Goals.{else-stay-gt0-via-then-stay-gt0+else-not-has_left, else-stay-gt0-via-else-stay-gt0}
use Rattle.trace_replay.proofs.orders.count_stays.Goals as goal

pub returns-then-is_none-clause-stays : goal.returns-then-is_none-clause-stays
returns-then-is_none-clause-stays c =
    let squeues = c.args.run.setup.squeues in
    let kept : List (List GuestOf) = map (λ gs. map guest_of gs.items) c.args.guests.now in
    let n = c.loop-stay.stay in
    let none : did_in squeues kept c.args.c n ≡ None = none_read (λ acts. acts.now) c.stay_at.result (did_in squeues kept c.args.c n) c.if-is_none.ensures c.stay_at.ensures in
    ended_at squeues kept c.args.c c.requires.range.0 n c.is_last.result c.then_some.result none c.loop-stay.invariant.each c.loop-stay.invariant.left
    c.is_last.ensures.yes c.is_last.ensures.no c.then_some.ensures

pub loop-stay-preserved : goal.loop-stay-preserved
loop-stay-preserved c =
    let squeues = c.args.run.setup.squeues in
    let kept : List (List GuestOf) = map (λ gs. map guest_of gs.items) c.args.guests.now in
    let n = c.loop-stay.stay in
    let here = some_read (λ acts. acts.now) c.stay_at.result (did_in squeues kept c.args.c n) c.if-is_none.ensures c.stay_at.ensures in
    record {
      each = below_more (λ (s : ℕ). (acts : List Act) × (did_in squeues kept c.args.c s ≡ Some acts)) n c.loop-stay.invariant.each here;
      left = left_more (left_in squeues kept c.args.c) n c.loop-stay.invariant.left (elim c.else-stay-gt0.branch [
        | else-stay-gt0-via-then-stay-gt0+else-not-has_left w ↦ inr (sym w.has_left.ensures ∙ w.if-not-has_left.false)
        | else-stay-gt0-via-else-stay-gt0 w ↦ inl (omega (arith, w.if-stay-gt0.false))
      ]);
    }
