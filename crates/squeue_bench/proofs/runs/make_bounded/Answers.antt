use Rattle.std.proofs.Common.{◌≡◌, ap, ◌∙◌, arith, length, map, replicate}
use Rattle.std.proofs.lemmas.List.{length-map}
use Rattle.std.proofs.lemmas.List.Elements.{All-map}
use Rattle.std.proofs.lemmas.Result.{IfOk-weaker}
use Rattle.perimeter_core.specs.History.{feed_quotas}
use Rattle.placed_parts.specs.Standing.{all_new}
use Rattle.squeue_state.specs.Behind.{ever}
use Rattle.histories.specs.Quotas.{ask_quotas}
use Rattle.squeue_bench.proofs.Starting.{asks_sum, ever_are, feeds_sum, new_suits, none_had}
use Rattle.squeue_bench.proofs.runs.make_bounded.Goals.{After-deref}
use Rattle.squeue_bench.proofs.runs.make_bounded.Goals as goal

-- the lives that are handed over
given : (c : After-deref) → ever c.deref.result.now ≡ replicate (length c.args.amounts.now) (c.args.items, 0)
given c = ap ever (c.deref.ensures.value ∙ c.in_ok-lives.ensures) ∙ ever_are (length c.args.amounts.now) c.args.items

pub make_bounded-requires-clause-feeds : goal.make_bounded-requires-clause-feeds
make_bounded-requires-clause-feeds c =
    let e = ap feed_quotas (given (goal.at.make_bounded-requires-clause-feeds c).After-deref) ∙ feeds_sum (length c.args.amounts.now) c.args.items in
    omega (arith, e, c.requires.few.2)

pub make_bounded-requires-clause-asks : goal.make_bounded-requires-clause-asks
make_bounded-requires-clause-asks c =
    let e = ap ask_quotas (given (goal.at.make_bounded-requires-clause-asks c).After-deref) ∙ asks_sum (length c.args.amounts.now) c.args.items in
    omega (arith, e)

pub make_bounded-requires-clause-fresh : goal.make_bounded-requires-clause-fresh
make_bounded-requires-clause-fresh c = (all_new (length c.args.amounts.now), c.in_ok-counters.ensures.stands, none_had (length c.args.amounts.now))

pub returns-clause-squeue : goal.returns-clause-squeue
returns-clause-squeue c =
    let n = length c.args.amounts.now in
    let is = given (goal.at.returns-clause-squeue c).After-deref in
    IfOk-weaker c.make_bounded.result _ _
    (λ r m. new_suits c.args.bound _ _ _ c.args.items n (ever c.deref.result.now) (map (λ row. row.items) c.args.amounts.now) c.in_ok-counters.counters r.0 m (omega arith) is (length-map c.args.amounts.now (λ row. row.items)) (All-map (λ row. length row ≡ c.args.items) (λ row. row.items) c.args.amounts.now c.requires.amounts) c.in_ok-counters.ensures.stands
    (ap (map length) c.in_ok-counters.ensures.amounts) (λ z. absurd (omega (arith, z, c.requires.bound.0))))
    c.make_bounded.ensures.given
