use Rattle.std.proofs.Common.{◌≡◌, ◌+◌, ◌<◌, List, [], ◌∷◌, ◌++◌, length, ap, subst, ◌∙◌, arith, set, length-append, length-set}
use Rattle.turn_gate.specs.Passes.{AreFresh}
use Rattle.histories.specs.Elements.{number_of}
use Rattle.squeue_bench.specs.Runs.{IsReady}
use Rattle.squeue_bench.proofs.Places.{Halfway, back}
use Rattle.squeue_bench.proofs.Starting.{last_new}
use Rattle.squeue_bench.proofs.runs.deal.Goals as goal

pub give-requires-clause-pass : goal.give-requires-clause-pass
give-requires-clause-pass g c =
    let left = c.pop.new.self.items in
    let f = last_new c.args.squeue.now.gate 0 left c.in-Some.pass (subst (AreFresh number_of c.args.squeue.now.gate 0) c.in-Some.ensures.items c.loop-pass.invariant.fresh) in
    let long : length c.loop-pass.passes.items ≡ length left + 1 = ap (λ (ps : List _). length ps) c.in-Some.ensures.items ∙ length-append left (c.in-Some.pass ∷ []) in
    (record { is_pass = f.1; its_number = omega (arith, f.2, c.len-k.ensures); nothing_seen = f.3 }, omega (arith, long, c.loop-pass.invariant.some, c.loop-pass.invariant.rings, c.requires.squeue.1, c.len-k.ensures))

pub loop-pass-preserved : goal.loop-pass-preserved
loop-pass-preserved g c =
    let i = c.loop-pass.invariant in
    let left = c.pop.new.self.items in
    let rings = c.loop-pass.rings in
    let k = c.len-k.result in
    let ring = c.give.new.ring in
    let f = last_new c.args.squeue.now.gate 0 left c.in-Some.pass (subst (AreFresh number_of c.args.squeue.now.gate 0) c.in-Some.ensures.items i.fresh) in
    let long : length c.loop-pass.passes.items ≡ k + 1 = ap (λ (ps : List _). length ps) c.in-Some.ensures.items ∙ (length-append left (c.in-Some.pass ∷ []) ∙ omega (arith, c.len-k.ensures)) in
    let P = IsReady g.R.Resident.limits c.args.bound c.args.items c.args.wanted (c.args.squeues.now ++ c.args.squeue.now ∷ []) in
    let Q = IsReady g.R.Resident.limits c.args.bound c.args.items c.args.wanted c.args.squeues.now in
    let within : k < length rings = omega (arith, long, i.some) in
    record {
      rings = length-set rings k ring ∙ i.rings;
      fresh = f.0;
      some = omega (arith, within, c.len-k.ensures, length-set rings k ring);
      dealt = subst (λ n. Halfway P Q n (set rings k ring)) (c.len-k.ensures ∙ c.pop.new.self.ok.0) (back P Q rings k ring (subst (λ n. Halfway P Q n rings) long i.dealt) within c.give.ensures);
      room = c.in-Some.ensures.capacity ∙ i.room;
    }
