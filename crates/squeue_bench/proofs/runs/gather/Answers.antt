use Rattle.std.proofs.Common.{List, [], ◌∷◌, length, ap, sym, subst, ◌∙◌, arith, length-append, length-set}
use Rattle.gate_trial.specs.Counted.{AreFrom}
use Rattle.gate_trial.proofs.Counting.{from_more}
use Rattle.histories.specs.Elements.{number_of}
use Rattle.squeue_bench.proofs.Places.{next}
use Rattle.squeue_bench.proofs.runs.gather.Goals as goal

pub loop-k-preserved : goal.loop-k-preserved
loop-k-preserved g c =
    let i = c.loop-k.invariant in
    let id = c.args.squeue.now.gate in
    let rings = c.loop-k.rings in
    let k = c.loop-k.k in
    let ring = c.take_back-pass.new.ring in
    let pass = c.take_back-pass.result in
    let room = c.loop-k.room.items in
    record {
      rings = length-set rings k ring ∙ i.rings;
      so_far = ap (λ (ps : List _). length ps) c.push_reserved.ensures.items ∙ (length-append room (pass ∷ []) ∙ omega (arith, i.so_far));
      passes = subst (AreFrom number_of id 0) (sym c.push_reserved.ensures.items) (from_more number_of id 0 room pass i.passes c.take_back-pass.ensures.pass.0 (omega (arith, c.take_back-pass.ensures.pass.1, i.so_far)));
      left = next _ _ rings k ring i.left (omega (arith, c.loop-k-test.true, i.rings)) c.take_back-pass.ensures.ring;
      capacity = c.push_reserved.ensures.capacity ∙ i.capacity;
    }
