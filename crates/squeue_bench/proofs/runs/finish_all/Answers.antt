use Rattle.std.proofs.Common.{◌≡◌, ◌+◌, Some, List, [], ◌∷◌, length, ap, sym, subst, ◌∙◌, arith, length-append}
use Rattle.std.proofs.lemmas.List.Elements.{All-pop}
use Rattle.gate_trial.specs.Counted.{AreFrom}
use Rattle.gate_trial.proofs.Counting.{from_more, all_from}
use Rattle.turn_gate.specs.History.{Each}
use Rattle.squeue_state.specs.Naming.{setting_of}
use Rattle.histories.specs.Elements.{number_of}
use Rattle.squeue_state.specs.Clauses.{HasSeenEnd}
use Rattle.squeue_bench.specs.Places.{HasPass, HasSeenOver, HasWorked, HaveClosed}
use Rattle.squeue_bench.proofs.Places.{at_split}
use Rattle.squeue_bench.proofs.Ending.{seen_end}
use Rattle.squeue_bench.proofs.runs.finish_all.Goals as goal

pub finish-resident-requires-clause-all : goal.finish-resident-requires-clause-all
finish-resident-requires-clause-all g c =
    let lim = g.R.Resident.limits in
    let s = c.in-Some.squeue in
    let w = c.in-Some-pop.field-0 in
    let room = c.gather.new.room.items in
    let pass = c.in-Some-pass.pass in
    let i = c.loop-squeue.invariant in
    let worked = (at_split (HasWorked lim) c.loop-squeue.squeues.items c.pop.new.self.items s c.loop-squeue.workers.items c.pop-in-Some.new.self.items w c.in-Some.ensures.items c.in-Some-pop.ensures.items i.workers).1 in
    let passes = (All-pop (λ z. length z.given.quotas ≡ length c.args.rings.now) c.loop-squeue.squeues.items c.pop.new.self.items (Some s) c.in-Some.ensures.items i.squeues).1 in
    let is = subst (HasPass (length s.given.quotas) s) c.in-Some-pass.is worked.0.0 in
    let long : length c.push_reserved.new.self.items ≡ length room + 1 = ap (λ (ps : List _). length ps) c.push_reserved.ensures.items ∙ length-append room (pass ∷ []) in
    all_from number_of s.gate (length s.given.quotas + 1) c.push_reserved.new.self.items
    (subst (AreFrom number_of s.gate 0) (sym c.push_reserved.ensures.items) (from_more number_of s.gate 0 room pass c.gather.ensures.passes.1 is.0 (omega (arith, is.1, passes, i.same, c.gather.ensures.passes.0))))
    (omega (arith, long, passes, i.same, c.gather.ensures.passes.0))

pub finish-resident-requires-clause-over : goal.finish-resident-requires-clause-over
finish-resident-requires-clause-over g c =
    let lim = g.R.Resident.limits in
    let s = c.in-Some.squeue in
    let w = c.in-Some-pop.field-0 in
    let i = c.loop-squeue.invariant in
    let worked = (at_split (HasWorked lim) c.loop-squeue.squeues.items c.pop.new.self.items s c.loop-squeue.workers.items c.pop-in-Some.new.self.items w c.in-Some.ensures.items c.in-Some-pop.ensures.items i.workers).1 in
    let passes = (All-pop (λ z. length z.given.quotas ≡ length c.args.rings.now) c.loop-squeue.squeues.items c.pop.new.self.items (Some s) c.in-Some.ensures.items i.squeues).1 in
    subst (Each (HasSeenEnd (setting_of lim s.given))) (sym c.push_reserved.ensures.items)
    (seen_end lim s 0 c.gather.new.room.items c.in-Some-pass.pass c.gather.ensures.passes.1 (omega (arith, passes, i.same, c.gather.ensures.passes.0)) (subst (HasSeenOver lim s) c.in-Some-pass.is worked.1))

pub loop-squeue-preserved : goal.loop-squeue-preserved
loop-squeue-preserved g c =
    let lim = g.R.Resident.limits in
    let s = c.in-Some.squeue in
    let w = c.in-Some-pop.field-0 in
    let left = c.pop.new.self.items in
    let i = c.loop-squeue.invariant in
    let push = c.push_reserved-in-Some.ensures in
    let long : length c.loop-squeue.squeues.items ≡ length left + 1 = ap (λ (ss : List _). length ss) c.in-Some.ensures.items ∙ length-append left (s ∷ []) in
    record {
      room = omega (arith, i.room, long, push.len, push.capacity);
      squeues = (All-pop (λ z. length z.given.quotas ≡ length c.args.rings.now) c.loop-squeue.squeues.items left (Some s) c.in-Some.ensures.items i.squeues).0;
      same = c.gather.ensures.rings.0 ∙ i.same;
      rings = subst (λ ss. HaveClosed ss c.gather.new.rings) c.deref.ensures.value c.gather.ensures.rings.1;
      workers = (at_split (HasWorked lim) c.loop-squeue.squeues.items left s c.loop-squeue.workers.items c.pop-in-Some.new.self.items w c.in-Some.ensures.items c.in-Some-pop.ensures.items i.workers).0;
      count = omega (arith, i.count, long, push.len);
    }
