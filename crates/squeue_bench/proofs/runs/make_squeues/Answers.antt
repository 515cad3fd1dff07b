use Rattle.std.proofs.Common.{◌≡◌, ◌+◌, ◌≤◌, Some, List, [], ◌∷◌, ◌++◌, length, ap, sym, subst, ◌∙◌, arith, length-append}
use Rattle.std.specs.Prelude.{vec_capacity}
use Rattle.std.proofs.lemmas.List.Elements.{All-push}
use Rattle.turn_gate.specs.Passes.{AreFresh, number}
use Rattle.histories.specs.Elements.{number_of}
use Rattle.key_counters.specs.AsResident.{limits_of}
use Rattle.squeue_bench.specs.declared.threads.Worker.{Worker}
use Rattle.squeue_bench.specs.Places.{AtEach, IsWorker}
use Rattle.squeue_bench.specs.Runs.{AreReady, HavePasses}
use Rattle.squeue_bench.proofs.Places.{at_more}
use Rattle.squeue_bench.proofs.Starting.{last_new}
use Rattle.squeue_bench.proofs.runs.make_squeues.Goals as goal

pub deal-requires-clause-passes : goal.deal-requires-clause-passes
deal-requires-clause-passes c =
    let left = c.pop.new.self.items in
    let f = last_new c.in-Ok.squeue.gate 0 left c.in-Some.last (subst (AreFresh number_of c.in-Ok.squeue.gate 0) c.in-Some.ensures.items c.in-Ok.ensures.passes.1) in
    let long : length c.in-Ok.passes.items ≡ length left + 1 = ap (λ (ps : List _). length ps) c.in-Some.ensures.items ∙ length-append left (c.in-Some.last ∷ []) in
    (omega (arith, long, c.in-Ok.ensures.passes.0, c.requires.amounts.0, c.loop-q.invariant.rings), f.0)

pub loop-q-preserved : goal.loop-q-preserved
loop-q-preserved c =
    let i = c.loop-q.invariant in
    let s = c.in-Ok.squeue in
    let left = c.pop.new.self.items in
    let f = last_new s.gate 0 left c.in-Some.last (subst (AreFresh number_of s.gate 0) c.in-Some.ensures.items c.in-Ok.ensures.passes.1) in
    let long : length c.in-Ok.passes.items ≡ length left + 1 = ap (λ (ps : List _). length ps) c.in-Some.ensures.items ∙ length-append left (c.in-Some.last ∷ []) in
    let room = c.deal.new.passes in
    let w : Worker = record { pass = Some c.in-Some.last; room = room } in
    let its_number : number c.in-Some.last ≡ length s.given.quotas = omega (arith, f.2, long, c.in-Ok.ensures.passes.0, c.in-Ok.ensures.squeue.1) in
    let fits : length s.given.quotas + 1 ≤ vec_capacity room = omega (arith, c.deal.ensures.passes.1, c.in-Some.ensures.capacity, c.in-Ok.passes.ok.0, c.in-Ok.passes.ok.1, c.in-Ok.ensures.passes.0, c.in-Ok.ensures.squeue.1) in
    let more = at_more IsWorker c.loop-q.squeues.items s c.loop-q.workers.items w i.workers ((f.1, its_number), c.deal.ensures.passes.0, fits) in
    let push = c.push_reserved-in-loop-q.ensures in
    record {
      rings = c.deal.ensures.rings.0 ∙ i.rings;
      ready = subst (λ ss. AreReady limits_of c.args.bound c.args.items c.args.wanted ss c.deal.new.rings) (sym push.items) (subst (λ ss. AreReady limits_of c.args.bound c.args.items c.args.wanted (ss ++ s ∷ []) c.deal.new.rings) c.deref.ensures.value c.deal.ensures.rings.1);
      squeues = ap (λ (ss : List _). length ss) push.items ∙ (length-append c.loop-q.squeues.items (s ∷ []) ∙ omega (arith, i.squeues));
      passes = subst (HavePasses (length c.args.rings.now)) (sym push.items) (All-push (λ z. length z.given.quotas ≡ length c.args.rings.now) c.loop-q.squeues.items s i.passes (omega (arith, c.in-Ok.ensures.squeue.1, c.requires.amounts.0)));
      workers = subst (λ ss. AtEach IsWorker ss c.push_reserved.new.self.items) (sym push.items) (subst (AtEach IsWorker _) (sym c.push_reserved.ensures.items) more);
      room = omega (arith, i.room, push.capacity);
      room_too = omega (arith, i.room_too, c.push_reserved.ensures.capacity);
    }
