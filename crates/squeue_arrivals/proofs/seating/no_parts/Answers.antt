use Rattle.std.proofs.Common.{◌≡◌, ◌<◌, ℕ, Bool, false, List, All, length, replicate, ap, sym, ◌∙◌, subst, arith}
use Rattle.std.proofs.lemmas.Result.{IfOk-weaker}
use Rattle.perimeter_core.specs.Blocks.{none_done}
use Rattle.placed_parts.specs.Standing.{all_new}
use Rattle.placed_parts.specs.Placing.{Stands}
use Rattle.squeue_streams.specs.Taking.{most_feeds, most_leaves, steps_of, streams_of}
use Rattle.squeue_arrivals.proofs.Seated.{long, none_first, same_blocks}
use Rattle.squeue_arrivals.proofs.seating.no_parts.Goals as goal

pub make_where-requires-clause-rows : goal.make_where-requires-clause-rows
make_where-requires-clause-rows g c =
    let last : c.loop-c._c ≡ c.args.count = omega (arith, c.loop-c-test.false, c.loop-c.auto) in
    let none : c.deref.result.now ≡ replicate c.args.count false = c.deref.ensures.value ∙ (c.loop-c.invariant.none ∙ ap (λ (n : ℕ). replicate n false) last) in
    long (streams_of c.of-shared.result) most_feeds ∙ (c.of-shared.ensures.count ∙ (sym (long c.args.count false) ∙ ap length (sym none)))

pub make_where-requires-clause-within : goal.make_where-requires-clause-within
make_where-requires-clause-within g c =
    let last : c.loop-c._c ≡ c.args.count = omega (arith, c.loop-c-test.false, c.loop-c.auto) in
    let none : c.deref.result.now ≡ replicate c.args.count false = c.deref.ensures.value ∙ (c.loop-c.invariant.none ∙ ap (λ (n : ℕ). replicate n false) last) in
    let starts : length c.deref.result.now ≡ c.args.count = ap length none ∙ long c.args.count false in
    let count = c.of-shared.ensures.count in
    record {
      feeds = omega (arith, long (streams_of c.of-shared.result) most_feeds, count, starts);
      leaves = omega (arith, long (streams_of c.of-shared.result) most_leaves, count, starts);
      calls = subst (λ (calls : List (ℕ × ℕ × ℕ)). All (λ (call : ℕ × ℕ × ℕ). call.0 < length c.deref.result.now) calls) (sym (c.of-shared.ensures.calls ∙ c.new.ensures.items)) (λ k d lt. absurd (omega (arith, lt)));
    }

pub returns-clause-stands : goal.returns-clause-stands
returns-clause-stands g c =
    let last : c.loop-c._c ≡ c.args.count = omega (arith, c.loop-c-test.false, c.loop-c.auto) in
    let none : c.deref.result.now ≡ replicate c.args.count false = c.deref.ensures.value ∙ (c.loop-c.invariant.none ∙ ap (λ (n : ℕ). replicate n false) last) in
    IfOk-weaker c.make_where.result _ _
    (λ r h. same_blocks r (none_done (replicate c.args.count false)) (all_new 0) (none_first c.args.count) (subst (λ (bs : List Bool). Stands r (none_done bs)) none h))
    c.make_where.ensures.stands

pub returns-clause-count : goal.returns-clause-count
returns-clause-count g c =
    let last : c.loop-c._c ≡ c.args.count = omega (arith, c.loop-c-test.false, c.loop-c.auto) in
    let none : c.deref.result.now ≡ replicate c.args.count false = c.deref.ensures.value ∙ (c.loop-c.invariant.none ∙ ap (λ (n : ℕ). replicate n false) last) in
    IfOk-weaker c.make_where.result _ _ (λ r h. h ∙ (ap length none ∙ long c.args.count false)) c.make_where.ensures.count

pub returns-clause-feeds : goal.returns-clause-feeds
returns-clause-feeds g c =
    IfOk-weaker c.make_where.result _ _
    (λ r h. ap (λ s. replicate (streams_of s) most_feeds) h ∙ ap (λ (n : ℕ). replicate n most_feeds) c.of-shared.ensures.count)
    c.make_where.ensures.shared

pub returns-clause-leaves : goal.returns-clause-leaves
returns-clause-leaves g c =
    IfOk-weaker c.make_where.result _ _
    (λ r h. ap (λ s. replicate (streams_of s) most_leaves) h ∙ ap (λ (n : ℕ). replicate n most_leaves) c.of-shared.ensures.count)
    c.make_where.ensures.shared

pub returns-clause-origin : goal.returns-clause-origin
returns-clause-origin g c = IfOk-weaker c.make_where.result _ _ (λ r h. ap steps_of h ∙ c.of-shared.ensures.steps) c.make_where.ensures.shared
