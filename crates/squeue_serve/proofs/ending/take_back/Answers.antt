use Rattle.std.proofs.Common.{◌≡◌, ◌+◌, ◌≤◌, ◌++◌, ◌∷◌, [], ℕ, Some, length, length-append, ap, sym, ◌∙◌, subst, arith}
use Rattle.squeue_serve.specs.Lending.{holder, lent_to}
use Rattle.squeue_serve.proofs.Lent.{not_taken, one_taken, all_taken}
use Rattle.squeue_serve.proofs.ending.take_back.Goals as goal

pub take_from-requires-clause-last : goal.take_from-requires-clause-last
take_from-requires-clause-last g c =
    let le : c.loop-p.p ≤ c.args.count = omega (arith, c.loop-p-test.true) in
    let r = c.requires.last c.loop-p.p le in
    let at : lent_to c.loop-p.jobs.items c.holder.result ≡ lent_to c.args.jobs.now.items (holder c.args.front c.args.count c.args.q c.loop-p.p) =
    ap (lent_to c.loop-p.jobs.items) c.holder.ensures ∙ sym (not_taken c.args.front c.args.count c.args.q c.loop-p.p c.loop-p.passes.items (lent_to c.loop-p.jobs.items) (lent_to c.args.jobs.now.items) le c.loop-p.invariant.handed) in
    (r.0, r.1, at ∙ r.2)

pub loop-p-preserved : goal.loop-p-preserved
loop-p-preserved g c =
    let le : c.loop-p.p ≤ c.args.count = omega (arith, c.loop-p-test.true) in
    let now = lent_to c.loop-p.jobs.items in
    let next = lent_to c.take_from.new.jobs.items in
    let h = one_taken c.args.front c.args.count c.args.q c.loop-p.p c.loop-p.passes.items c.take_from.result now (lent_to c.args.jobs.now.items) next le (sym c.loop-p.invariant.count) c.loop-p.invariant.handed
    (subst (λ (i : ℕ). now i ≡ next i ++ Some c.take_from.result ∷ []) c.holder.ensures c.take_from.ensures.lent)
    (λ i apart. c.take_from.ensures.others i (λ e. apart (e ∙ c.holder.ensures))) in
    record {
      count = ap length c.push_reserved.ensures.items ∙ (length-append c.loop-p.passes.items (c.take_from.result ∷ []) ∙ ap (λ (n : ℕ). n + 1) c.loop-p.invariant.count);
      room = omega (arith, c.loop-p.invariant.room, c.push_reserved.ensures.capacity);
      handed = rw c.push_reserved.ensures.items h;
      tasks = c.take_from.ensures.tasks ∙ c.loop-p.invariant.tasks;
    }

pub returns-clause-handed : goal.returns-clause-handed
returns-clause-handed g c =
    all_taken c.args.front c.args.count c.args.q c.loop-p.passes.items (lent_to c.loop-p.jobs.items) (lent_to c.args.jobs.now.items) c.loop-p.p (omega (arith, c.loop-p-test.false, c.loop-p.auto)) (omega (arith, c.loop-p-test.false, c.loop-p.auto, c.loop-p.invariant.count)) c.loop-p.invariant.handed
